-- The whole command line: what the parser says of the words, and what they ask for.
use Rattle.std.proofs.Common.{◌≡◌, ◌∙◌, ◌⊎◌, Bool, cond, true, false, refl, sym, ap, ap₂, subst, List, [], ◌∷◌, option_map, Option, Some, None, is_some, codes, inl, inr}
use Rattle.std.specs.List.{fold}
use Rattle.std.specs.Prelude.{option_and_then}
use Rattle.std.specs.Str.{IsUtf8, bytes_eq}
use Rattle.std.proofs.lemmas.Slice.Eq.{bytes_eq-Decides}
use Rattle.clap.specs.Lexer.{short_of}
use Rattle.clap.specs.Walk.{Names, Row, Text, Walk, idle, settled, finished, has_row, nothing_held, walk, walk_from, walked, one_of, row_text, with_default, with_values}
use Rattle.clap.specs.Simple.{App, Shape, built, entered, names_of, subcommand_of}
use Rattle.clap.specs.Kinds.{Kinds, or_else}
use Rattle.clap.specs.Faults.{defaults_fault, entered_fault, fault_of, flags_fault, level_fault, settle_fault, check_fault, turn_fault, walk_fault}
use Rattle.clap.specs.declared.builder.value_parser.Reading.TheVariants as reading
use Rattle.clap.specs.declared.parser.matches.ValueSource.TheVariants.{DefaultValue}
use Rattle.clap.specs.declared.error.ErrorKind.{ErrorKind}
use Rattle.clap.specs.Kinds.{HasKind}
use Rattle.clap.specs.Words.{HasMatchesOf, is_simple, is_simple_and_free, kind_of, subcommand_name_of, subcommand_rows_of}
use Rattle.clap.specs.declared.ArgMatches.{ArgMatches}
use Rattle.clap.specs.declared.Error.{Error}
use Rattle.clap.specs.declared.error.ErrorKind.TheVariants.{OutOfMemory}
use Rattle.clap.proofs.WalkLemmas.{walk_stopped}
use Rattle.dsm_command.specs.Commands.{command_of}
use Rattle.dsm_command.specs.Parser.{Parts}
use Rattle.dsm_command.proofs.Reading.{asked_by, no_parts, read, command_of-read}
use Rattle.dsm_command.specs.Parser.{Says, program, values_of}
use Rattle.dsm_command.proofs.Rows.{given_row, has_row-look, look, look_fresh, look_other}
use Rattle.dsm_command.proofs.Steps.{Class, Knows, c, double, empty, ends, names_built, hyphen, leaf, other, own_procs, own_trace, same_nil, single, has_char}
use Rattle.dsm_command.proofs.Bridge.{AllText, Ends, classify, level}

-- ---- the rows at the end

-- a flag's default
abbrev defaulted : Text → List Row → List Row
defaulted id rows = cond (has_row id rows) rows (with_values id reading.AsWritten DefaultValue (codes "false" ∷ []) rows)

default_other : (a id : Text) (rows : List Row) → bytes_eq a id ≡ false → look id (defaulted a rows) ≡ look id rows
default_other a id rows miss = go (has_row a rows)
  where
    go : (b : Bool) → look id (cond b rows (with_values a reading.AsWritten DefaultValue (codes "false" ∷ []) rows)) ≡ look id rows
    go true = refl
    go false = look_other DefaultValue a id (codes "false" ∷ []) rows miss

default_flag : (id : Text) (rows : List Row) (b : Bool) → look id rows ≡ given_row id (cond b (codes "true" ∷ []) [])
    → one_of id (defaulted id rows) ≡ Some (cond b (codes "true") (codes "false"))
default_flag id rows true e =
    let has : has_row id rows ≡ true = has_row-look id rows ∙ ap is_some e in
    rw (has, e) refl
default_flag id rows false e =
    let has : has_row id rows ≡ false = has_row-look id rows ∙ ap is_some e in
    rw (has, look_fresh DefaultValue id (codes "false" ∷ []) rows e) refl

-- what the rules of a command add at the end
abbrev ended : Bool → List Row → List Row
ended true rows = defaulted (codes "state") (defaulted (codes "trace") rows)
ended false rows = rows

keeps : (r k : Bool) (rows : List Row) → fold with_default rows (names_built ∷ own_trace r (own_procs k)) ≡ ended r rows
keeps r k rows =
    let file : with_default rows names_built ≡ rows = same_nil false false (codes "") (has_row (codes "names") rows) rows in
    ap (λ (rs : List Row). fold with_default rs (own_trace r (own_procs k))) file ∙ go r
  where
    last : (b : Bool) (rs : List Row) → fold with_default rs (own_procs b) ≡ rs
    last true rs = same_nil false false (codes "") (has_row (codes "procs") rs) rs
    last false rs = refl

    go : (a : Bool) → fold with_default rows (own_trace a (own_procs k)) ≡ ended a rows
    go true = last k (defaulted (codes "state") (defaulted (codes "trace") rows))
    go false = last k rows

values_given : (id : Text) (vs : List Text) → option_map (λ (x : Row). x.values) (given_row id vs) ≡ values_of vs
values_given id [] = refl
values_given id (x ∷ xs) = refl

-- what the defaults leave
keeps_other : (r : Bool) (id : Text) (rows : List Row) → bytes_eq (codes "trace") id ≡ false → bytes_eq (codes "state") id ≡ false → look id (ended r rows) ≡ look id rows
keeps_other true id rows t f = default_other (codes "state") id (defaulted (codes "trace") rows) f ∙ default_other (codes "trace") id rows t
keeps_other false id rows t f = refl

trace_ended : (r : Bool) (rows : List Row) (p : Parts) → Knows rows p → r ≡ true → one_of (codes "trace") (ended r rows) ≡ Some (cond p.trace (codes "true") (codes "false"))
trace_ended true rows p k e = ap (option_and_then row_text) (default_other (codes "state") (codes "trace") (defaulted (codes "trace") rows) refl) ∙ default_flag (codes "trace") rows p.trace k.trace
trace_ended false rows p k e = cc

state_ended : (r : Bool) (rows : List Row) (p : Parts) → Knows rows p → r ≡ true → one_of (codes "state") (ended r rows) ≡ Some (cond p.state (codes "true") (codes "false"))
state_ended true rows p k e = default_flag (codes "state") (defaulted (codes "trace") rows) p.state (default_other (codes "trace") (codes "state") rows refl ∙ k.state)
state_ended false rows p k e = cc

pub says : (r own : Bool) (rows : List Row) (p : Parts) → Knows rows p → Says r (fold with_default rows (names_built ∷ own_trace r (own_procs own))) p
says r own rows p k = rw (keeps r own rows) (record {
  names = ap (option_map (λ (x : Row). x.values)) (keeps_other r (codes "names") rows refl refl ∙ k.names) ∙ values_given (codes "names") p.names;
  numbers = ap (option_map (λ (x : Row). x.values)) (keeps_other r (codes "procs") rows refl refl ∙ k.numbers) ∙ values_given (codes "procs") p.numbers;
  trace = trace_ended r rows p k;
  state = state_ended r rows p k;
})

-- ---- the top level

abbrev T : Shape
T = (built program).top

abbrev N : Names
N = names_of (built program)

abbrev top_fault : Kinds → Walk → Kinds
top_fault kinds w = or_else kinds (or_else (entered_fault (built program) w.stopped) (or_else (settle_fault T.rules false w.held)
    (or_else (defaults_fault (finished [] w.held) T.rules) (check_fault T (finished T.rules w.held) (is_some (entered (built program) w.stopped))))))

fault_is : (words : List Text) → fault_of program words ≡ top_fault (walk_fault T N (walk_from nothing_held) words) (walk [] N nothing_held words)
fault_is words = refl

stopped_turn : (w : Walk) (word : Text) → is_some w.stopped ≡ true → (turn_fault T N w word ≡ []) × (is_some (walked [] N w word).stopped ≡ true)
unfolding walked
stopped_turn w word e = go w.stopped refl e
  where
    go : (o : Option (Text × List Text)) → w.stopped ≡ o → is_some w.stopped ≡ true → (turn_fault T N w word ≡ []) × (is_some (walked [] N w word).stopped ≡ true)
    go None is some = let bad : false ≡ true = rw is at some in cc
    go (Some q) is some = rw is (refl, refl)

no_fault_after : (words : List Text) (w : Walk) → is_some w.stopped ≡ true → walk_fault T N w words ≡ []
unfolding walk_fault
no_fault_after [] w e = refl
no_fault_after (x ∷ xs) w e =
    let t = stopped_turn w x e in
    ap₂ or_else t.0 (no_fault_after xs (walked [] N w x) t.1)

-- a walk that met the subcommand
abbrev met : Text → List Text → Walk
met name rest = record { held = nothing_held; waiting = idle; position = 1; is_trailing = false; stopped = Some (name, rest) }

or_nil : (kinds : Kinds) → or_else kinds [] ≡ kinds
or_nil [] = refl
or_nil (k ∷ ks) = refl

abbrev level_of : Bool → Bool → Text → List Text → Kinds
level_of r k name rest = level_fault (leaf r k name) [] nothing_held rest false []

abbrev held_of : Bool → Bool → Text → List Text → List Row
held_of r k name rest = (settled (c r k name) (walk (c r k name) [] nothing_held rest).held).rows

-- the command is entered
record Enters (r k : Bool) (name : Text) (rest : List Text) : Type 0 where
  fault : fault_of program (name ∷ rest) ≡ level_of r k name rest
  found : subcommand_of program (name ∷ rest) ≡ Some (name, fold with_default (held_of r k name rest) (c r k name))

enters_by : (r k : Bool) (name : Text) (rest : List Text) → walked [] N (walk_from nothing_held) name ≡ met name [] → turn_fault T N (walk_from nothing_held) name ≡ []
    → entered_fault (built program) (Some (name, rest)) ≡ level_of r k name rest
    → entered (built program) (Some (name, rest)) ≡ Some (name, fold with_default (held_of r k name rest) (c r k name)) → Enters r k name rest
unfolding walk_fault defaults_fault
enters_by r k name rest first turn fault found =
    let walk_is : walk [] N nothing_held (name ∷ rest) ≡ met name rest = ap (λ w. fold (walked [] N) w rest) first ∙ sym (walk_stopped [] N (met name []) name [] rest) in
    let kinds : walk_fault T N (walk_from nothing_held) (name ∷ rest) ≡ [] = ap₂ or_else turn (ap (λ w. walk_fault T N w rest) first ∙ no_fault_after rest (met name []) refl) in
    record {
      fault = ap₂ top_fault kinds walk_is
          ∙ (ap₂ (λ (a : Kinds) (b : Option (Text × List Row)). or_else a (or_else (settle_fault T.rules false nothing_held)
          (or_else (defaults_fault [] T.rules) (check_fault T (finished T.rules nothing_held) (is_some b))))) fault found
          ∙ or_nil (level_of r k name rest));
      found = ap (λ (w : Walk). entered (built program) w.stopped) walk_is ∙ found;
    }

enters_run : (rest : List Text) → Enters true false (codes "run") rest
unfolding walked
enters_run rest = enters_by true false (codes "run") rest refl refl refl refl

enters_check : (rest : List Text) → Enters false true (codes "check") rest
unfolding walked
enters_check rest = enters_by false true (codes "check") rest refl refl refl refl

enters_plain : (rest : List Text) → Enters false false (codes "plain") rest
unfolding walked
enters_plain rest = enters_by false false (codes "plain") rest refl refl refl refl

enters_load : (rest : List Text) → Enters false false (codes "load") rest
unfolding walked
enters_load rest = enters_by false false (codes "load") rest refl refl refl refl

-- the first word is no command
top_stops : (word : Text) (rest : List Text) → (turn_fault T N (walk_from nothing_held) word ≡ [] → ⊥) → fault_of program (word ∷ rest) ≡ [] → ⊥
unfolding walk_fault
top_stops word rest t = go (turn_fault T N (walk_from nothing_held) word) t
  where
    go : (ks : Kinds) → (ks ≡ [] → ⊥) → top_fault (or_else ks (walk_fault T N (walked [] N (walk_from nothing_held) word) rest)) (walk [] N nothing_held (word ∷ rest)) ≡ [] → ⊥
    go [] h e = h refl
    go (k ∷ ks) h e = cc

cons_nil : (k : ErrorKind) (ks : Kinds) → k ∷ ks ≡ [] → ⊥
cons_nil k ks e = cc

unknown : (word : Text) (rest : List Text) → Class word → IsUtf8 word → bytes_eq (codes "run") word ≡ false → bytes_eq (codes "check") word ≡ false → bytes_eq (codes "plain") word ≡ false → bytes_eq (codes "load") word ≡ false → fault_of program (word ∷ rest) ≡ [] → ⊥
unfolding flags_fault walk_fault walked defaults_fault
unknown _ rest empty u r k n l e = cons_nil _ _ e
unknown _ rest hyphen u r k n l e = cons_nil _ _ e
unknown _ [] ends u r k n l e = cons_nil _ _ e
unknown _ (x ∷ xs) ends u r k n l e = cons_nil _ _ e
unknown _ rest (other x xs differs) u r k n l e = top_stops (x ∷ xs) rest (λ t. let bad = rw (r, k, n, l, differs, differs) at t in cons_nil _ _ bad) e
unknown _ rest (single x xs differs) u r k n l e = top_stops (45 ∷ x ∷ xs) rest (λ t.
    let y = has_char false false (codes "run") x xs u in
    let flags : short_of (45 ∷ x ∷ xs) ≡ Some (x ∷ xs) = rw differs refl in
    let bad = rw (differs, flags, y.1) at t in cons_nil _ _ bad) e
unknown _ rest (double x xs) u r k n l e = top_stops (45 ∷ 45 ∷ x ∷ xs) rest (λ t. cons_nil _ _ t) e

-- ---- the verdict

-- the words ask for nothing, and the parser refuses them
pub record Outside (words : List Text) : Type 0 where
  pub fault : fault_of program words ≡ [] → ⊥
  pub asks : command_of words ≡ None

-- the words are read, and say these parts of this command
pub record Reads (words : List Text) : Type 0 where
  pub name : Text
  pub parts : Parts
  pub rows : List Row
  pub fault : fault_of program words ≡ []
  pub asks : command_of words ≡ asked_by name parts
  pub found : subcommand_of program words ≡ Some (name, rows)
  pub says : Says (bytes_eq (codes "run") name) rows parts

entered_verdict : (r k : Bool) (name : Text) (rest : List Text) → bytes_eq (codes "run") name ≡ r → bytes_eq (codes "check") name ≡ k → Enters r k name rest → AllText rest
    → Outside (name ∷ rest) ⊎ Reads (name ∷ rest)
entered_verdict r k name rest is_run is_check e u = go (read r k no_parts false rest) refl (level r k name rest u)
  where
    reads_as : command_of (name ∷ rest) ≡ option_and_then (asked_by name) (read r k no_parts false rest)
    reads_as = sym (command_of-read name rest) ∙ ap₂ (λ a b. option_and_then (asked_by name) (read a b no_parts false rest)) is_run is_check

    go : (o : Option Parts) → read r k no_parts false rest ≡ o → Ends r k name (read r k no_parts false rest) (level_of r k name rest) (walk (c r k name) [] nothing_held rest).held
        → Outside (name ∷ rest) ⊎ Reads (name ∷ rest)
    go None o l = inl (record { fault = λ f. (rw o at l) (sym e.fault ∙ f); asks = reads_as ∙ ap (option_and_then (asked_by name)) o })
    go (Some p) o l =
        let both = rw o at l in
        inr (record {
          name = name;
          parts = p;
          rows = fold with_default (held_of r k name rest) (c r k name);
          fault = e.fault ∙ both.0;
          asks = reads_as ∙ ap (option_and_then (asked_by name)) o;
          found = e.found;
          says = rw is_run (says r k (held_of r k name rest) p both.1);
        })

pub verdict : (words : List Text) → AllText words → Outside words ⊎ Reads words
unfolding walk_fault defaults_fault
verdict [] u = inl (record { fault = λ e. cons_nil _ _ e; asks = refl })
verdict (word ∷ rest) u =
    go (bytes_eq (codes "run") word) refl (bytes_eq (codes "check") word) refl (bytes_eq (codes "plain") word) refl (bytes_eq (codes "load") word) refl
  where
    none : (o : Option Parts) → bytes_eq (codes "run") word ≡ false → bytes_eq (codes "check") word ≡ false → bytes_eq (codes "plain") word ≡ false
        → bytes_eq (codes "load") word ≡ false → option_and_then (asked_by word) o ≡ None
    none None r k n l = refl
    none (Some p) r k n l = rw (r, k, n, l) refl

    at_word : (name : Text) → bytes_eq name word ≡ true → Outside (name ∷ rest) ⊎ Reads (name ∷ rest) → Outside (word ∷ rest) ⊎ Reads (word ∷ rest)
    at_word name t v = subst (λ w. Outside (w ∷ rest) ⊎ Reads (w ∷ rest)) ((bytes_eq-Decides name word).0 t) v

    go : (r : Bool) → bytes_eq (codes "run") word ≡ r → (k : Bool) → bytes_eq (codes "check") word ≡ k → (n : Bool) → bytes_eq (codes "plain") word ≡ n
        → (l : Bool) → bytes_eq (codes "load") word ≡ l → Outside (word ∷ rest) ⊎ Reads (word ∷ rest)
    go true r b k d n f l = at_word (codes "run") r (entered_verdict true false (codes "run") rest refl refl (enters_run rest) u.1)
    go false r true k d n f l = at_word (codes "check") k (entered_verdict false true (codes "check") rest refl refl (enters_check rest) u.1)
    go false r false k true n f l = at_word (codes "plain") n (entered_verdict false false (codes "plain") rest refl refl (enters_plain rest) u.1)
    go false r false k false n true l = at_word (codes "load") l (entered_verdict false false (codes "load") rest refl refl (enters_load rest) u.1)
    go false r false k false n false l = inl (record { fault = unknown word rest (classify word) u.0 r k n l; asks = sym (command_of-read word rest) ∙ none (read (bytes_eq (codes "run") word) (bytes_eq (codes "check") word) no_parts false rest) r k n l })

-- ---- what a parse gives

-- a parse that fails, and not for want of memory
pub refused : (a : App) (xs words : List Text) (e : Error) → a ≡ program → xs ≡ words → AllText words → (is_simple_and_free a ≡ true → HasKind (fault_of a xs) e)
    → (kind_of e ≡ OutOfMemory → ⊥) → command_of words ≡ None
refused a xs words e is same u kinds known =
    let here : HasKind (fault_of program words) e = subst (λ (ks : Kinds). HasKind ks e) (ap₂ fault_of is same) (kinds (ap is_simple_and_free is)) in
    elim (verdict words u) [
      | inl o ↦ o.asks
      | inr r ↦ elim (subst (λ (ks : Kinds). HasKind ks e) r.fault here) [ inl oom ↦ absurd (known oom) | inr none ↦ absurd none ]
    ]

-- a parse that succeeds
pub reads : (a : App) (xs words : List Text) → a ≡ program → xs ≡ words → AllText words → (is_simple_and_free a ≡ true → fault_of a xs ≡ []) → Reads words
reads a xs words is same u kinds =
    let none : fault_of program words ≡ [] = sym (ap₂ fault_of is same) ∙ kinds (ap is_simple_and_free is) in
    elim (verdict words u) [ inl o ↦ absurd (o.fault none) | inr r ↦ r ]

first_of_both : {X : Type 0} (f : X → Text × List Row) (o : Option X) → option_map (λ (p : Text × List Row). p.0) (option_map f o) ≡ option_map (λ x. (f x).0) o
first_of_both f None = refl
first_of_both f (Some x) = refl

-- the subcommand that was entered, by its name and its rows
pub entered_is : (a : App) (xs words : List Text) (m : ArgMatches) (r : Reads words) → a ≡ program → xs ≡ words → HasMatchesOf a xs m
    → (subcommand_name_of m ≡ Some r.name) × (option_map (λ (p : Text × List Row). p.1) (subcommand_rows_of m) ≡ Some r.rows)
entered_is a xs words m r is same matches =
    let rows : subcommand_rows_of m ≡ Some (r.name, r.rows) = (matches (ap is_simple is)).1 ∙ ap₂ subcommand_of is same ∙ r.found in
    (sym (first_of_both _ _) ∙ ap (option_map (λ (p : Text × List Row). p.0)) rows, ap (option_map (λ (p : Text × List Row). p.1)) rows)
