-- The walk of clap and the table agree on every list of words.
use Rattle.clap.specs.Simple.{Shape}
use Rattle.std.proofs.Common.{◌&&◌, ◌⊎◌, inl, inr, ◌≡◌, ◌∙◌, ◌==◌, ◌||◌, ℕ, Bool, cond, true, false, refl, sym, ap, subst, List, [], ◌∷◌, Option, Some, None, append_assoc, codes, append-nil, eqb-true}
use Rattle.std.specs.List.{fold, before_first}
use Rattle.std.specs.Str.{IsUtf8, bytes_eq}
use Rattle.clap.specs.Walk.{Held, Row, Rule, Text, Waiting, Walk, finished, arg_by_long, has_row, idle, nothing_held, option, positional, pushed, settled, walked, with_default}
use Rattle.clap.specs.Kinds.{Kinds, or_else}
use Rattle.clap.specs.Faults.{check_fault, default_fault, defaults_fault, settle_fault, turn_fault, walk_fault}
use Rattle.dsm_command.specs.Commands.{Word, trace, procs, procs_is, state, stray, long_word, value_in}
use Rattle.dsm_command.specs.Parser.{Parts}
use Rattle.dsm_command.proofs.Reading.{no_parts, own, read, read_word, with_names, with_number, stated, traced}
use Rattle.dsm_command.proofs.Steps.{Asks, Class, Holds, Knows, Stops, Turns, answered, asking, at, asks_procs, double, empty, ends, filed, holds_answered, holds_name, holds_number, holds_state, holds_trace, hyphen, long_turn, long_walk, other, procs_built, resting, single, state_built, trace_built}
use Rattle.dsm_command.proofs.Steps as step
use Rattle.std.proofs.lemmas.Slice.Eq.{bytes_eq-Decides}
use Rattle.clap.specs.Faults.{level_fault}
use Rattle.clap.specs.Walk.{walk}

-- every word is text
abbrev pub AllText : List Text → Type 0
AllText [] = Unit {0}
AllText (w ∷ ws) = IsUtf8 w × AllText ws

pub classify : (w : Text) → Class w
classify [] = empty
classify (x ∷ xs) = first (x == 45) refl
  where
    second : (xs : Text) → Class (45 ∷ xs)
    second [] = hyphen
    second (y ∷ ys) = third (y == 45) refl
      where
        fourth : (ys : Text) → Class (45 ∷ 45 ∷ ys)
        fourth [] = ends
        fourth (z ∷ zs) = double z zs

        third : (b : Bool) → (y == 45) ≡ b → Class (45 ∷ y ∷ ys)
        third true e = let is : y ≡ 45 = (eqb-true y 45 e) in subst (λ (v : ℕ). Class (45 ∷ v ∷ ys)) (sym is) (fourth ys)
        third false e = single y ys e

    first : (b : Bool) → (x == 45) ≡ b → Class (x ∷ xs)
    first true e = let is : x ≡ 45 = (eqb-true x 45 e) in subst (λ (v : ℕ). Class (v ∷ xs)) (sym is) (second xs)
    first false e = other x xs e

left_true : (a b : Bool) → (a && b) ≡ true → a ≡ true
left_true true b e = refl
left_true false b e = e

right_true : (a b : Bool) → (a && b) ≡ true → b ≡ true
right_true true b e = e
right_true false b e = cc

module _ (r k : Bool) (name : Text) where
  abbrev c : List Rule
  c = step.c r k name

  abbrev L : Shape
  L = step.leaf r k name

  abbrev pub end_of : Walk → List Text → Held
  end_of w words = (fold (walked c []) w words).held

  abbrev pub fault_at : Held → Kinds
  fault_at h = or_else (settle_fault c false h) (or_else (defaults_fault (settled c h).rows c) (check_fault L (finished c h) false))

  abbrev pub fault_from : Walk → List Text → Kinds
  fault_from w words = or_else (walk_fault L [] w words) (fault_at (end_of w words))

  abbrev pub Ends : Option Parts → Kinds → Held → Type 0
  Ends None kinds h = kinds ≡ [] → ⊥
  Ends (Some p) kinds h = (kinds ≡ []) × Knows (settled c h).rows p

  abbrev pub Agrees : Option Parts → Walk → List Text → Type 0
  Agrees o w words = Ends o (fault_from w words) (end_of w words)

  goes : (o : Option Parts) (w next : Walk) (word : Text) (rest : List Text) → Turns r k name w word next → Agrees o next rest → Agrees o w (word ∷ rest)
  unfolding walk_fault
  goes o w next word rest t a =
      subst (λ (ks : Kinds). Ends o (or_else (or_else ks (walk_fault L [] (walked c [] w word) rest)) (fault_at (end_of (walked c [] w word) rest))) (end_of (walked c [] w word) rest)) (sym t.0)
      (subst (λ (v : Walk). Agrees o v rest) (sym t.1) a)

  stops : (w : Walk) (word : Text) (rest : List Text) → Stops r k name w word → Agrees None w (word ∷ rest)
  unfolding walk_fault
  stops w word rest t = go (turn_fault L [] w word) t
    where
      go : (ks : Kinds) → (ks ≡ [] → ⊥) → or_else (or_else ks (walk_fault L [] (walked c [] w word) rest)) (fault_at (end_of w (word ∷ rest))) ≡ [] → ⊥
      go [] h e = h refl
      go (k ∷ ks) h e = cc

  one_default : (rows : List Row) (a : Rule) (rest : List Rule) → default_fault rows a ≡ [] → defaults_fault rows (a ∷ rest) ≡ defaults_fault (with_default rows a) rest
  unfolding defaults_fault
  one_default rows a rest e = ap (λ (ks : Kinds). or_else ks (defaults_fault (with_default rows a) rest)) e

  no_default_fault : (b : Bool) (ks : Kinds) → ks ≡ [] → cond b [] ks ≡ []
  no_default_fault true ks e = refl
  no_default_fault false ks e = e

  both_nil : (a b : Kinds) → a ≡ [] → b ≡ [] → or_else a b ≡ []
  both_nil a b e f = ap (λ ks. or_else ks b) e ∙ f

  no_defaults : (rows : List Row) → defaults_fault rows c ≡ []
  unfolding defaults_fault
  no_defaults rows = both_nil _ _ (no_default_fault (has_row (codes "names") rows || true) _ refl) (go r k (with_default rows step.names_built))
    where
      flags : (b : Bool) (rs : List Row) → defaults_fault rs (step.own_procs b) ≡ []
      flags true rs = both_nil _ _ (no_default_fault (has_row (codes "procs") rs || true) _ refl) refl
      flags false rs = refl

      go : (a b : Bool) (rs : List Row) → defaults_fault rs (step.own_trace a (step.own_procs b)) ≡ []
      go true b rs = both_nil _ _ (no_default_fault (has_row (codes "trace") rs || false) _ refl)
          (both_nil _ _ (no_default_fault (has_row (codes "state") (with_default rs trace_built) || false) _ refl) (flags b (with_default (with_default rs trace_built) state_built)))
      go false b rs = flags b rs

  no_check : (rows : List Row) → check_fault L rows false ≡ []
  no_check rows = go r k
    where
      go : (a b : Bool) → check_fault (record L { rules = step.names_built ∷ step.own_trace a (step.own_procs b) }) rows false ≡ []
      go true true = refl
      go true false = refl
      go false true = refl
      go false false = refl

  finishes : (w : Walk) (p : Parts) → Holds r k name w.held p → Agrees (Some p) w []
  unfolding walk_fault
  finishes w p s = (both_nil _ _ s.settles (both_nil _ _ (no_defaults _) (no_check _)), s.knows)

  asked_end : (w : Walk) (p : Parts) → Asks r k name w.held p → Agrees None w []
  unfolding walk_fault
  asked_end w p s = step.first_stops r k name _ _ (step.asked_faults r k name w.held p s)

  -- after `--`
  trailing : (words : List Text) (w : Waiting) (h : Held) (p : Parts) → Holds r k name h p → Agrees (Some (with_names p words)) (at true w h) words
  trailing [] w h p s =
      let same : ◌≡◌ {A = Parts} p (with_names p []) = ap (λ names. record p { names = names }) (sym (append-nil p.names)) in
      subst (λ (q : Parts). Agrees (Some q) (at true w h) []) same (finishes (at true w h) p s)
  trailing (x ∷ xs) w h p s =
      let same : ◌≡◌ {A = Parts} (with_names (with_names p (x ∷ [])) xs) (with_names p (x ∷ xs)) = ap (λ names. record p { names = names }) (append_assoc p.names (x ∷ []) xs) in
      subst (λ (q : Parts). Agrees (Some q) (at true w h) (x ∷ xs)) same
      (goes (Some (with_names (with_names p (x ∷ [])) xs)) _ _ x xs (step.trailing_turn r k name w h x s.settles) (trailing xs positional (pushed (codes "names") x (settled c h)) (with_names p (x ∷ [])) (holds_name r k name h p x s)))

  trailing_asked : (words : List Text) (w : Waiting) (h : Held) (p : Parts) → Asks r k name h p → Agrees None (at true w h) words
  trailing_asked [] w h p s = asked_end (at true w h) p s
  trailing_asked (x ∷ xs) w h p s = stops _ x xs (step.trailing_stop r k name w h x p s)

  -- both say the same from here on
  pub record Bridge (words : List Text) : Type 0 where
    rests : (b : Bool) (h : Held) (p : Parts) → Holds r k name h p → Agrees (read r k p false words) (at false (resting r k name b) h) words
    asks : (h : Held) (p : Parts) → Asks r k name h p → Agrees (read r k p true words) (at false (option (codes "procs")) h) words

  -- a word `--N` or `--N=V`, as the table has it
  long_rests : (w : Waiting) (n : Text) (v : Option Text) (word : Text) (rest : List Text) (h : Held) (p : Parts) → Bridge rest → Holds r k name h p
      → ((next : Walk) → (long_turn r k name (arg_by_long c n) v w word h ≡ []) × (long_walk r k name (arg_by_long c n) v w word h ≡ next) → Turns r k name (at false w h) word next)
      → ((long_turn r k name (arg_by_long c n) v w word h ≡ [] → ⊥) → Stops r k name (at false w h) word)
      → Agrees (read_word p false (long_word (own r k) n v) (λ q a. read r k q a rest)) (at false w h) (word ∷ rest)
  long_rests w n v word rest h p b s turns halts =
      go (r && bytes_eq (codes "trace") n) refl (r && bytes_eq (codes "state") n) refl (k && bytes_eq (codes "procs") n) refl p.trace refl p.state refl
      (arg_by_long c n) (step.by_long r k name n) v turns halts
    where
      not_procs : (id : Text) → (r && bytes_eq id n) ≡ true → bytes_eq (codes "procs") id ≡ false → (k && bytes_eq (codes "procs") n) ≡ false
      not_procs id t differs =
          let same : id ≡ n = (bytes_eq-Decides id n).0 (right_true r _ t) in
          let miss : bytes_eq (codes "procs") n ≡ false = rw (← same) differs in
          ap (λ b. k && b) miss ∙ step.and_false r k name k

      go : (t : Bool) → (r && bytes_eq (codes "trace") n) ≡ t → (d : Bool) → (r && bytes_eq (codes "state") n) ≡ d → (q : Bool) → (k && bytes_eq (codes "procs") n) ≡ q
          → (had : Bool) → p.trace ≡ had → (has : Bool) → p.state ≡ has
          → (found : Option Rule) → found ≡ cond (r && bytes_eq (codes "trace") n) (Some trace_built) (cond (r && bytes_eq (codes "state") n) (Some state_built) (cond (k && bytes_eq (codes "procs") n) (Some procs_built) None)) → (v : Option Text)
          → ((next : Walk) → (long_turn r k name found v w word h ≡ []) × (long_walk r k name found v w word h ≡ next) → Turns r k name (at false w h) word next)
          → ((long_turn r k name found v w word h ≡ [] → ⊥) → Stops r k name (at false w h) word)
          → Agrees (read_word p false (long_word (own r k) n v) (λ q a. read r k q a rest)) (at false w h) (word ∷ rest)
      go true t d g q f true was j has found is None turns halts =
          let e : found ≡ Some trace_built = rw t at is in
          rw (t, was) (stops _ word rest (halts (λ z. step.trace_again r k name w word h p was s (rw e at z))))
      go true t d g q f false was j has found is None turns halts =
          let e : found ≡ Some trace_built = rw t at is in
          rw (t, was) (goes _ _ _ word rest (turns _ (rw e (step.trace_turn r k name w word h p was s))) (b.rests false _ (traced p) (holds_trace r k name h p was s)))
      go true t d g q f i was j has found is (Some x) turns halts =
          let e : found ≡ Some trace_built = rw t at is in
          rw (not_procs (codes "trace") t refl) (stops _ word rest (halts (λ z. step.trace_value r k name w x word h (rw e at z))))
      go false t true g q f i was true has found is None turns halts =
          let e : found ≡ Some state_built = rw (t, g) at is in
          rw (t, g, has) (stops _ word rest (halts (λ z. step.state_again r k name w word h p has s (rw e at z))))
      go false t true g q f i was false has found is None turns halts =
          let e : found ≡ Some state_built = rw (t, g) at is in
          rw (t, g, has) (goes _ _ _ word rest (turns _ (rw e (step.state_turn r k name w word h p has s))) (b.rests false _ (stated p) (holds_state r k name h p has s)))
      go false t true g q f i was j has found is (Some x) turns halts =
          let e : found ≡ Some state_built = rw (t, g) at is in
          rw (not_procs (codes "state") g refl) (stops _ word rest (halts (λ z. step.state_value r k name w x word h (rw e at z))))
      go false t false g true f i was j has found is None turns halts =
          let e : found ≡ Some procs_built = rw (t, g, f) at is in
          rw (t, g, f) (goes _ _ _ word rest (turns _ (rw e (step.procs_turn r k name w word h p s))) (b.asks (asking r k name h) p (asks_procs r k name h p (left_true k _ f) s)))
      go false t false g true f i was j has found is (Some x) turns halts =
          let e : found ≡ Some procs_built = rw (t, g, f) at is in
          rw f (goes _ _ _ word rest (turns _ (rw e (step.procs_is_turn r k name w x word h p s))) (b.rests false _ (with_number p x) (holds_number r k name h p x s)))
      go false t false g false f i was j has found is None turns halts =
          let e : found ≡ None = rw (t, g, f) at is in
          rw (t, g, f) (stops _ word rest (halts (λ z. step.unknown_stop r k name w None word h (rw e at z))))
      go false t false g false f i was j has found is (Some x) turns halts =
          let e : found ≡ None = rw (t, g, f) at is in
          rw f (stops _ word rest (halts (λ z. step.unknown_stop r k name w (Some x) word h (rw e at z))))

  asked_named : (n : Text) (v : Option Text) (p : Parts) (next : Parts → Bool → Option Parts) → read_word p true (long_word (own r k) n v) next ≡ None
  asked_named n v p next = go (r && bytes_eq (codes "trace") n) (r && bytes_eq (codes "state") n) (k && bytes_eq (codes "procs") n) v
    where
      go : (t d q : Bool) (v : Option Text)
          → read_word p true (elim v as (λ _. Word) [ None ↦ cond t trace (cond d state (cond q procs stray)) | Some x ↦ cond q (procs_is x) stray ]) next ≡ None
      go true d q None = refl
      go false true q None = refl
      go false false true None = refl
      go false false false None = refl
      go t d true (Some x) = refl
      go t d false (Some x) = refl

  found_by : (n : Text) → (arg_by_long c n ≡ Some trace_built) ⊎ ((arg_by_long c n ≡ Some state_built) ⊎ ((arg_by_long c n ≡ Some procs_built) ⊎ (arg_by_long c n ≡ None)))
  found_by n = go (r && bytes_eq (codes "trace") n) (r && bytes_eq (codes "state") n) (k && bytes_eq (codes "procs") n) (step.by_long r k name n)
    where
      go : (t d q : Bool) → arg_by_long c n ≡ cond t (Some trace_built) (cond d (Some state_built) (cond q (Some procs_built) None))
          → (arg_by_long c n ≡ Some trace_built) ⊎ ((arg_by_long c n ≡ Some state_built) ⊎ ((arg_by_long c n ≡ Some procs_built) ⊎ (arg_by_long c n ≡ None)))
      go true d q e = inl e
      go false true q e = inr (inl e)
      go false false true e = inr (inr (inl e))
      go false false false e = inr (inr (inr e))

  rest_step : (word : Text) (rest : List Text) → Class word → Bridge rest → IsUtf8 word → (b : Bool) (h : Held) (p : Parts) → Holds r k name h p
      → Agrees (read r k p false (word ∷ rest)) (at false (resting r k name b) h) (word ∷ rest)
  unfolding walked
  rest_step _ rest empty i u b h p s = goes (read r k (with_names p ([] ∷ [])) false rest) _ _ [] rest (step.empty_turn r k name b h s.settles) (i.rests true _ _ (holds_name r k name h p [] s))
  rest_step _ rest hyphen i u b h p s = goes (read r k (with_names p ((45 ∷ []) ∷ [])) false rest) _ _ (45 ∷ []) rest (step.hyphen_turn r k name b h s.settles) (i.rests true _ _ (holds_name r k name h p (45 ∷ []) s))
  rest_step _ rest ends i u b h p s = goes (Some (with_names p rest)) _ _ (45 ∷ 45 ∷ []) rest (step.ends_turn r k name b h) (trailing rest (resting r k name b) h p s)
  rest_step _ rest (other x xs differs) i u b h p s = rw differs (goes (read r k (with_names p ((x ∷ xs) ∷ [])) false rest) _ _ (x ∷ xs) rest (step.other_turn r k name b h x xs differs s.settles) (i.rests true _ _ (holds_name r k name h p (x ∷ xs) s)))
  rest_step _ rest (single x xs differs) i u b h p s = rw differs (stops _ (45 ∷ x ∷ xs) rest (step.single_stop r k name (resting r k name b) h x xs differs s.skip u))
  rest_step _ rest (double x xs) i u true h p s = long_rests positional (before_first (λ b. b == 61) (x ∷ xs)) (value_in (x ∷ xs)) (45 ∷ 45 ∷ x ∷ xs) rest h p i s (λ next t. t) (λ t. t)
  rest_step _ rest (double x xs) i u false h p s = long_rests idle (before_first (λ b. b == 61) (x ∷ xs)) (value_in (x ∷ xs)) (45 ∷ 45 ∷ x ∷ xs) rest h p i s (λ next t. t) (λ t. t)

  ask_step : (word : Text) (rest : List Text) → Class word → Bridge rest → IsUtf8 word → (h : Held) (p : Parts) → Asks r k name h p
      → Agrees (read r k p true (word ∷ rest)) (at false (option (codes "procs")) h) (word ∷ rest)
  ask_step _ rest empty i u h p s = goes (read r k (with_number p []) false rest) _ _ [] rest (step.asked_empty r k name h p s) (i.rests false _ _ (holds_answered r k name h p [] s))
  ask_step _ rest hyphen i u h p s = goes (read r k (with_number p (45 ∷ [])) false rest) _ _ (45 ∷ []) rest (step.asked_hyphen r k name h p s) (i.rests false _ _ (holds_answered r k name h p (45 ∷ []) s))
  ask_step _ rest ends i u h p s = goes None _ _ (45 ∷ 45 ∷ []) rest (step.asked_ends r k name h) (trailing_asked rest (option (codes "procs")) h p s)
  ask_step _ rest (other x xs differs) i u h p s = rw differs (goes (read r k (with_number p (x ∷ xs)) false rest) _ _ (x ∷ xs) rest (step.asked_other r k name h p x xs differs s) (i.rests false _ _ (holds_answered r k name h p (x ∷ xs) s)))
  ask_step _ rest (single x xs differs) i u h p s = rw differs (stops _ (45 ∷ x ∷ xs) rest (step.single_stop r k name (option (codes "procs")) h x xs differs s.skip u))
  ask_step _ rest (double x xs) i u h p s =
      let n = before_first (λ b. b == 61) (x ∷ xs) in
      let v = value_in (x ∷ xs) in
      subst (λ (o : Option Parts). Agrees o (at false (option (codes "procs")) h) ((45 ∷ 45 ∷ x ∷ xs) ∷ rest)) (sym (asked_named n v p (λ q a. read r k q a rest)))
      (stops _ (45 ∷ 45 ∷ x ∷ xs) rest (step.asked_long r k name (arg_by_long c n) v (45 ∷ 45 ∷ x ∷ xs) h p (found_by n) s))

  pub bridge : (words : List Text) → AllText words → Bridge words
  bridge [] u = record {
    rests = λ b h p s. finishes (at false (resting r k name b) h) p s;
    asks = λ h p s. asked_end (at false (option (codes "procs")) h) p s;
  }
  bridge (x ∷ xs) u =
      let i = bridge xs u.1 in
      record { rests = rest_step x xs (classify x) i u.0; asks = ask_step x xs (classify x) i u.0 }

  -- a level of the parse, and the table
  pub level : (words : List Text) → AllText words
      → Ends (read r k no_parts false words) (level_fault L [] nothing_held words false []) (walk c [] nothing_held words).held
  level words u = (bridge words u).rests false nothing_held no_parts (record { skip = refl; settles = refl; knows = record { names = refl; numbers = refl; trace = refl; state = refl } })
