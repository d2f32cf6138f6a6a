-- The words read one after another, with what they come to so far; and the arguments that they give.
use Rattle.std.proofs.Common.{◌≡◌, ◌∙◌, ◌&&◌, ◌||◌, ◌+◌, Bool, cond, true, false, refl, sym, ap, ap₂, ℕ, List, [], ◌∷◌, ◌++◌, map, filter, drop, Option, Some, None, option_map, codes, append-nil, append_assoc, arith, suc}
use Rattle.std.specs.Prelude.{option_and_then, if◌then◌else◌}
use Rattle.std.specs.List.{before_first, after_first, list_any, filter_map, position_or_len}
use Rattle.std.specs.Str.{bytes_eq}
use Rattle.dsm_command.specs.Commands.{Text, Command, Options, Word, trace, state, procs, procs_is, stray, positional, word_of, is_end, Argument, with_trace, with_state, for_procs, named, arguments_of, is_trace, is_state, procs_in, name_in, is_at_most_one, is_single, command_with, command_by, arguments_in, command_of}
use Rattle.dsm_command.specs.Parser.{Parts}

abbrev pub no_parts : Parts
no_parts = record { names = []; numbers = []; trace = false; state = false }

abbrev pub with_names : Parts → List Text → Parts
with_names p more = record p { names = p.names ++ more }

abbrev pub with_number : Parts → Text → Parts
with_number p value = record p { numbers = p.numbers ++ value ∷ [] }

abbrev pub traced : Parts → Parts
traced p = record p { trace = true }

abbrev pub stated : Parts → Parts
stated p = record p { state = true }

abbrev pub own : Bool → Bool → Options
own flags option = record { flags = flags; procs = option }

-- one word, of which `next` reads the rest; `asked` says that it is the value of `--procs`
abbrev pub read_word : Parts → Bool → Word → (Parts → Bool → Option Parts) → Option Parts
read_word p true (positional word) next = next (with_number p word) false
read_word p true _ next = None
read_word p false trace next = if p.trace then None else next (traced p) false
read_word p false state next = if p.state then None else next (stated p) false
read_word p false procs next = next p true
read_word p false (procs_is value) next = next (with_number p value) false
read_word p false stray next = None
read_word p false (positional word) next = next (with_names p (word ∷ [])) false

-- the word `--`, with the words behind it
abbrev pub ended : Parts → Bool → List Text → Option Parts
ended p asked rest = if asked then None else Some (with_names p rest)

-- all words
abbrev pub read : Bool → Bool → Parts → Bool → List Text → Option Parts
read flags option p asked [] = if asked then None else Some p
read flags option p asked (word ∷ rest) =
    if is_end word then ended p asked rest else read_word p asked (word_of (own flags option) word) (λ q a. read flags option q a rest)

-- the arguments taken one after another
abbrev taken : Parts → List Argument → List Text → Option Parts
taken p [] behind = Some (with_names p behind)
taken p (with_trace ∷ more) behind = if p.trace then None else taken (traced p) more behind
taken p (with_state ∷ more) behind = if p.state then None else taken (stated p) more behind
taken p (for_procs value ∷ more) behind = taken (with_number p value) more behind
taken p (named word ∷ more) behind = taken (with_names p (word ∷ [])) more behind

-- the arguments of the words behind `--procs`
abbrev valued : List Word → Option (List Argument)
valued (positional value ∷ words) = option_map (λ more. for_procs value ∷ more) (arguments_of words)
valued _ = None

procs_valued : (words : List Word) → valued words ≡ arguments_of (procs ∷ words)
procs_valued [] = refl
procs_valued (trace ∷ words) = refl
procs_valued (state ∷ words) = refl
procs_valued (procs ∷ words) = refl
procs_valued (procs_is value ∷ words) = refl
procs_valued (stray ∷ words) = refl
procs_valued (positional value ∷ words) = refl

abbrev takes : Parts → List Text → Option (List Argument) → Option Parts
takes p behind arguments = option_and_then (λ some. taken p some behind) arguments

abbrev no_command : Option Parts
no_command = None

same_none : (b : Bool) → cond b no_command no_command ≡ no_command
same_none true = refl
same_none false = refl

module _ (behind : List Text) (words : List Word) (next : Parts → Bool → Option Parts)
    (rests : (q : Parts) → next q false ≡ takes q behind (arguments_of words)) (asks : (q : Parts) → next q true ≡ takes q behind (valued words)) where
  take_trace : (p : Parts) (b : Bool) (some : Option (List Argument)) →
      cond b None (takes (traced p) behind some) ≡ option_and_then (λ some. cond b None (taken (traced p) some behind)) some
  take_trace p b None = same_none b
  take_trace p b (Some some) = refl

  take_state : (p : Parts) (b : Bool) (some : Option (List Argument)) →
      cond b None (takes (stated p) behind some) ≡ option_and_then (λ some. cond b None (taken (stated p) some behind)) some
  take_state p b None = same_none b
  take_state p b (Some some) = refl

  through : (front : Argument) (p q : Parts) (some : Option (List Argument)) → ((more : List Argument) → taken q more behind ≡ taken p (front ∷ more) behind) →
      takes q behind some ≡ takes p behind (option_map (λ more. front ∷ more) some)
  through front p q None same = refl
  through front p q (Some more) same = same more

  mapped : (front : Argument) (p : Parts) (some : Option (List Argument)) → option_and_then (λ more. taken p (front ∷ more) behind) some ≡ takes p behind (option_map (λ more. front ∷ more) some)
  mapped front p None = refl
  mapped front p (Some more) = refl

  rest_word : (p : Parts) (word : Word) → read_word p false word next ≡ takes p behind (arguments_of (word ∷ words))
  rest_word p trace = ap (λ o. cond p.trace None o) (rests (traced p)) ∙ take_trace p p.trace (arguments_of words) ∙ mapped with_trace p (arguments_of words)
  rest_word p state = ap (λ o. cond p.state None o) (rests (stated p)) ∙ take_state p p.state (arguments_of words) ∙ mapped with_state p (arguments_of words)
  rest_word p procs = asks p ∙ ap (takes p behind) (procs_valued words)
  rest_word p (procs_is value) = rests (with_number p value) ∙ through (for_procs value) p (with_number p value) (arguments_of words) (λ more. refl)
  rest_word p stray = refl
  rest_word p (positional word) = rests (with_names p (word ∷ [])) ∙ through (named word) p (with_names p (word ∷ [])) (arguments_of words) (λ more. refl)

  asked_word : (p : Parts) (word : Word) → read_word p true word next ≡ takes p behind (valued (word ∷ words))
  asked_word p (positional value) = rests (with_number p value) ∙ through (for_procs value) p (with_number p value) (arguments_of words) (λ more. refl)
  asked_word p trace = refl
  asked_word p state = refl
  asked_word p procs = refl
  asked_word p (procs_is value) = refl
  asked_word p stray = refl

-- the words before the first `--`, and those behind it
record Split (word : Text) (rest : List Text) (b : Bool) : Type 0 where
  before : before_first is_end (word ∷ rest) ≡ cond b [] (word ∷ before_first is_end rest)
  behind : after_first is_end (word ∷ rest) ≡ cond b rest (after_first is_end rest)

one_more : (n : ℕ) → 1 + n ≡ suc n
one_more n = omega arith

two_more : (n : ℕ) → 1 + n + 1 ≡ suc (n + 1)
two_more n = omega arith

split : (word : Text) (rest : List Text) (b : Bool) → is_end word ≡ b → Split word rest b
split word rest true e = record { before = rw e refl; behind = rw e refl }
split word rest false e = record { before = rw (e, one_more (position_or_len is_end rest)) refl; behind = rw e (ap (λ n. drop n (word ∷ rest)) (two_more (position_or_len is_end rest))) }

-- words that are read one after another come to what their arguments come to
pub record Reads (flags option : Bool) (words : List Text) : Type 0 where
  pub rests : (p : Parts) → read flags option p false words ≡ takes p (after_first is_end words) (arguments_of (map (word_of (own flags option)) (before_first is_end words)))
  pub asks : (p : Parts) → read flags option p true words ≡ takes p (after_first is_end words) (valued (map (word_of (own flags option)) (before_first is_end words)))

reads_more : (flags option : Bool) (word : Text) (rest : List Text) (b : Bool) → is_end word ≡ b → Split word rest b → Reads flags option rest → Reads flags option (word ∷ rest)
reads_more flags option word rest true e parts less = record {
  rests = λ p.
      let left : read flags option p false (word ∷ rest) ≡ ended p false rest = rw e refl in
      left ∙ sym (ap₂ (λ behind words. takes p behind (arguments_of (map (word_of (own flags option)) words))) parts.behind parts.before);
  asks = λ p.
      let left : read flags option p true (word ∷ rest) ≡ ended p true rest = rw e refl in
      left ∙ sym (ap₂ (λ behind words. takes p behind (valued (map (word_of (own flags option)) words))) parts.behind parts.before);
}
reads_more flags option word rest false e parts less =
    let behind = after_first is_end rest in
    let words = map (word_of (own flags option)) (before_first is_end rest) in
    let next : Parts → Bool → Option Parts = λ q a. read flags option q a rest in
    record {
      rests = λ p.
          let left : read flags option p false (word ∷ rest) ≡ read_word p false (word_of (own flags option) word) next = rw e refl in
          left ∙ rest_word behind words next less.rests less.asks p (word_of (own flags option) word)
          ∙ sym (ap₂ (λ behind words. takes p behind (arguments_of (map (word_of (own flags option)) words))) parts.behind parts.before);
      asks = λ p.
          let left : read flags option p true (word ∷ rest) ≡ read_word p true (word_of (own flags option) word) next = rw e refl in
          left ∙ asked_word behind words next less.rests less.asks p (word_of (own flags option) word)
          ∙ sym (ap₂ (λ behind words. takes p behind (valued (map (word_of (own flags option)) words))) parts.behind parts.before);
    }

pub reads : (flags option : Bool) (words : List Text) → Reads flags option words
reads flags option [] = record { rests = λ p. ap (λ names. Some record p { names = names }) (sym (append-nil p.names)); asks = λ p. refl }
reads flags option (word ∷ rest) = reads_more flags option word rest (is_end word) refl (split word rest (is_end word) refl) (reads flags option rest)

-- Arguments at once.

abbrev given : Bool → Argument → List Argument → List Argument
given true one others = one ∷ others
given false one others = others

abbrev all_taken : List Text → List Text → Bool → Bool → List Argument → List Text → Option Parts
all_taken names numbers t s arguments behind =
    cond (is_at_most_one (given t with_trace (filter is_trace arguments)) && is_at_most_one (given s with_state (filter is_state arguments)))
    (Some record {
      names = names ++ (filter_map name_in arguments ++ behind);
      numbers = numbers ++ filter_map procs_in arguments;
      trace = t || list_any is_trace arguments;
      state = s || list_any is_state arguments;
    })
    None

and_false : (b : Bool) → (b && false) ≡ false
and_false true = refl
and_false false = refl

taken_at_once : (names numbers : List Text) (t s : Bool) (arguments : List Argument) (behind : List Text) →
    taken record { names = names; numbers = numbers; trace = t; state = s } arguments behind ≡ all_taken names numbers t s arguments behind
taken_at_once names numbers true true [] behind = ap (λ numbers. Some record { names = names ++ behind; numbers = numbers; trace = true; state = true }) (sym (append-nil numbers))
taken_at_once names numbers true false [] behind = ap (λ numbers. Some record { names = names ++ behind; numbers = numbers; trace = true; state = false }) (sym (append-nil numbers))
taken_at_once names numbers false true [] behind = ap (λ numbers. Some record { names = names ++ behind; numbers = numbers; trace = false; state = true }) (sym (append-nil numbers))
taken_at_once names numbers false false [] behind = ap (λ numbers. Some record { names = names ++ behind; numbers = numbers; trace = false; state = false }) (sym (append-nil numbers))
taken_at_once names numbers true s (with_trace ∷ more) behind = refl
taken_at_once names numbers false s (with_trace ∷ more) behind = taken_at_once names numbers true s more behind
taken_at_once names numbers t true (with_state ∷ more) behind = rw (and_false (is_at_most_one (given t with_trace (filter is_trace more)))) refl
taken_at_once names numbers t false (with_state ∷ more) behind = taken_at_once names numbers t true more behind
taken_at_once names numbers t s (for_procs value ∷ more) behind =
    taken_at_once names (numbers ++ value ∷ []) t s more behind
    ∙ ap (λ numbers. cond (is_at_most_one (given t with_trace (filter is_trace more)) && is_at_most_one (given s with_state (filter is_state more)))
    (Some record { names = names ++ (filter_map name_in more ++ behind); numbers = numbers; trace = t || list_any is_trace more; state = s || list_any is_state more }) None)
    (append_assoc numbers (value ∷ []) (filter_map procs_in more))
taken_at_once names numbers t s (named word ∷ more) behind =
    taken_at_once (names ++ word ∷ []) numbers t s more behind
    ∙ ap (λ names. cond (is_at_most_one (given t with_trace (filter is_trace more)) && is_at_most_one (given s with_state (filter is_state more)))
    (Some record { names = names; numbers = numbers ++ filter_map procs_in more; trace = t || list_any is_trace more; state = s || list_any is_state more }) None)
    (append_assoc names (word ∷ []) (filter_map name_in more ++ behind))

-- what the parts of a command ask for
abbrev pub asked_by : Text → Parts → Option Command
asked_by command p = command_with command p.trace p.state p.names p.numbers

through_cond : (command : Text) (b : Bool) (p : Parts) → option_and_then (asked_by command) (cond b (Some p) None) ≡ cond b (asked_by command p) None
through_cond command true p = refl
through_cond command false p = refl

by_arguments : (command : Text) (behind : List Text) (arguments : Option (List Argument)) →
    option_and_then (asked_by command) (takes no_parts behind arguments) ≡ option_and_then (command_by command behind) arguments
by_arguments command behind None = refl
by_arguments command behind (Some arguments) =
    ap (option_and_then (asked_by command)) (taken_at_once [] [] false false arguments behind)
    ∙ through_cond command (is_single is_trace arguments && is_single is_state arguments) _

-- the words of a command, read one after another, ask for what its arguments ask for
pub command_of-read : (command : Text) (words : List Text) →
    option_and_then (asked_by command) (read (bytes_eq (codes "run") command) (bytes_eq (codes "check") command) no_parts false words) ≡ command_of (command ∷ words)
command_of-read command words =
    ap (option_and_then (asked_by command)) ((reads (bytes_eq (codes "run") command) (bytes_eq (codes "check") command) words).rests no_parts)
    ∙ by_arguments command (after_first is_end words) (arguments_in command words)
