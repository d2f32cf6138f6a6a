use Rattle.std.proofs.Common.{codes, ◌≡◌, ◌∙◌, List, [], ◌∷◌, Option, Some, None, Result, Ok, Err, IfOk, sym, ap, subst, map, string_bytes, true≢false}
use Rattle.std.proofs.lemmas.Str.{IsUtf8-string_bytes}
use Rattle.std.specs.Prelude.{String}
use Rattle.std.specs.Str.{bytes_eq}
use Rattle.clap.specs.declared.error.ErrorKind.TheVariants.{OutOfMemory}
use Rattle.dsm_command.specs.declared.command.Command as code
use Rattle.dsm_command.specs.declared.command.WordsErr.{WordsErr}
use Rattle.clap.specs.Walk.{Row}
use Rattle.dsm_command.specs.Commands.{Text, Command, command_of, command_with}
use Rattle.dsm_command.specs.InCode.{command_in, Answers}
use Rattle.dsm_command.specs.Parser.{Parts, Says}
use Rattle.dsm_command.proofs.Bridge.{AllText}
use Rattle.dsm_command.proofs.Top.{Reads, entered_is, reads, refused}
use Rattle.dsm_command.proofs.reader.read_command.Goals as goal

all_text : {Z : Type 0} (xs : List (String Z)) → AllText (map (λ s. string_bytes s) xs)
all_text [] = tt
all_text (x ∷ xs) = (IsUtf8-string_bytes x, all_text xs)

some_is : {X : Type 0} (x y : X) → Some x ≡ Some y → x ≡ y
some_is x y e = cc

-- the two clauses of an answer
found_by : (asked : Option Command) (r : Result code.Command WordsErr) → Answers asked r → IfOk r (λ command. asked ≡ Some (command_in command))
found_by asked (Ok command) answers = answers
found_by asked (Err error) answers = tt

none_by : (asked : Option Command) (r : Result code.Command WordsErr) → Answers asked r → r ≡ Err WordsErr.Refused → asked ≡ None
none_by asked (Ok command) answers e = cc
none_by asked (Err WordsErr.Refused) answers e = answers
none_by asked (Err WordsErr.Memory) answers e = cc

-- what the words ask for is what their command with its parts asks for
answered : (words : List Text) (r : Reads words) (command : Text) (rows : List Row) (result : Result code.Command WordsErr) → command ≡ r.name → rows ≡ r.rows →
    ((p : Parts) → Says (bytes_eq (codes "run") command) rows p → Answers (command_with command p.trace p.state p.names p.numbers) result) → Answers (command_of words) result
answered words r command rows result name same answers =
    let P : Text → List Row → Type 0 = λ command rows. (p : Parts) → Says (bytes_eq (codes "run") command) rows p → Answers (command_with command p.trace p.state p.names p.numbers) result in
    let by_name : P r.name rows = subst (λ command. P command rows) name answers in
    let by_both : P r.name r.rows = subst (λ rows. P r.name rows) same by_name in
    subst (λ asked. Answers asked result) (sym r.asks) (by_both r.parts r.says)

pub returns-in-Err-clause-refused : goal.returns-in-Err-clause-refused
returns-in-Err-clause-refused c same =
    refused _ _ _ c.in-Err.error c.in_ok-parser.ensures (ap (map (λ s. string_bytes s)) c.as_slice.ensures.value) (all_text c.args.words.now.items)
    c.in-Err.ensures.kinds (λ oom.
    let is : c.kind.result ≡ OutOfMemory = c.kind.ensures ∙ oom in
    let bad = rw is at c.eq.ensures in true≢false (sym bad ∙ c.if-eq.false))

pub returns-in-Some-clause-command : goal.returns-in-Some-clause-command
returns-in-Some-clause-command c =
    let words = ap (map (λ s. string_bytes s)) c.as_slice.ensures.value in
    let r = reads _ _ _ c.in_ok-parser.ensures words (all_text c.args.words.now.items) c.in-Ok.ensures.kinds in
    let found = entered_is _ _ _ c.in-Ok.matches r c.in_ok-parser.ensures words c.in-Ok.ensures.matches in
    let name = some_is _ _ (c.in-Some.ensures.name ∙ found.0) in
    let rows = some_is _ _ (c.in-Some.ensures.rows ∙ found.1) in
    found_by _ c.command_found.result (answered _ r _ _ c.command_found.result name rows c.command_found.ensures)

pub returns-in-Some-clause-refused : goal.returns-in-Some-clause-refused
returns-in-Some-clause-refused c =
    let words = ap (map (λ s. string_bytes s)) c.as_slice.ensures.value in
    let r = reads _ _ _ c.in_ok-parser.ensures words (all_text c.args.words.now.items) c.in-Ok.ensures.kinds in
    let found = entered_is _ _ _ c.in-Ok.matches r c.in_ok-parser.ensures words c.in-Ok.ensures.matches in
    let name = some_is _ _ (c.in-Some.ensures.name ∙ found.0) in
    let rows = some_is _ _ (c.in-Some.ensures.rows ∙ found.1) in
    none_by _ c.command_found.result (answered _ r _ _ c.command_found.result name rows c.command_found.ensures)
