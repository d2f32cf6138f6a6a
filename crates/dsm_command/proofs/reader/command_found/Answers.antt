use Rattle.std.proofs.Common.{◌≡◌, ◌∙◌, Bool, true, false, List, [], ◌∷◌, Option, Some, None, Result, refl, map, option_map, codes, subst}
use Rattle.std.specs.Borrow.{Bor}
use Rattle.std.specs.Str.{bytes_eq}
use Rattle.clap.specs.Words.{found_of}
use Rattle.clap.proofs.WalkLemmas.{one_text-rows, raw_values-rows}
use Rattle.dsm_command.specs.declared.command.Command as code
use Rattle.dsm_command.specs.declared.command.WordsErr.{WordsErr}
use Rattle.dsm_command.specs.Commands.{Text, Command, command_with}
use Rattle.dsm_command.specs.InCode.{texts_in, Answers}
use Rattle.dsm_command.specs.Parser.{Parts, values_of, flag_text}
use Rattle.dsm_command.proofs.Reading.{asked_by}
use Rattle.dsm_command.proofs.reader.command_found.Goals as goal

texts_are : (found : Option (Bor (List (Bor Text)))) (texts : List Text) → option_map (λ texts. map (λ text. text.now) texts.now) found ≡ values_of texts → texts_in found ≡ texts
texts_are None [] e = refl
texts_are None (text ∷ texts) e = cc
texts_are (Some found) [] e = cc
texts_are (Some found) (text ∷ texts) e = cc

flag_is : (b : Bool) (text : Option Text) (flag : Bool) → text ≡ Some (flag_text b)
    → (text ≡ Some (codes "true") → flag ≡ true) → (text ≡ Some (codes "false") → flag ≡ false) → flag ≡ b
flag_is true text flag e on off = on e
flag_is false text flag e on off = off e

-- only a run reads its flags
flags_of_run : (command : Text) (trace state : Bool) (p : Parts) → (bytes_eq (codes "run") command ≡ true → trace ≡ p.trace) → (bytes_eq (codes "run") command ≡ true → state ≡ p.state)
    → command_with command trace state p.names p.numbers ≡ asked_by command p
flags_of_run command trace state p traced stated = go (bytes_eq (codes "run") command) refl
  where
    go : (b : Bool) → bytes_eq (codes "run") command ≡ b → command_with command trace state p.names p.numbers ≡ asked_by command p
    go true e = rw (traced e, stated e) refl
    go false e = rw e refl

answers_along : (a b : Option Command) (r : Result code.Command WordsErr) → a ≡ b → Answers a r → Answers b r
answers_along a b r e answers = let P : Option Command → Type 0 = λ asked. Answers asked r in subst P e answers

pub returns : goal.returns
returns c p s =
    let found = c.args.found.now in
    let names : texts_in c.get_strs-names.result ≡ p.names = texts_are c.get_strs-names.result p.names (c.get_strs-names.ensures ∙ raw_values-rows (found_of found) (codes "names") ∙ s.names) in
    let numbers : texts_in c.get_strs-numbers.result ≡ p.numbers = texts_are c.get_strs-numbers.result p.numbers (c.get_strs-numbers.ensures ∙ raw_values-rows (found_of found) (codes "procs") ∙ s.numbers) in
    let traced : bytes_eq (codes "run") c.args.command.now ≡ true → c.get_flag-trace.result ≡ p.trace =
    λ e. flag_is p.trace _ _ (one_text-rows (found_of found) (codes "trace") ∙ s.trace e) c.get_flag-trace.ensures.value c.get_flag-trace.ensures.other in
    let stated : bytes_eq (codes "run") c.args.command.now ≡ true → c.get_flag-state.result ≡ p.state =
    λ e. flag_is p.state _ _ (one_text-rows (found_of found) (codes "state") ∙ s.state e) c.get_flag-state.ensures.value c.get_flag-state.ensures.other in
    answers_along _ _ c.command_with.result (rw (names, numbers) (flags_of_run c.args.command.now _ _ p traced stated)) c.command_with.ensures
