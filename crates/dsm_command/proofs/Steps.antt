-- clap's walk over one word, and the table's.
use Rattle.std.proofs.Common.{◌≡◌, ◌∙◌, ◌==◌, ◌&&◌, ℕ, Bool, cond, true, false, refl, sym, ap, List, [], ◌∷◌, Option, Some, None, is_some, codes, ◌⊎◌, inl, inr}
use Rattle.std.specs.Str.{bytes_eq}
use Rattle.clap.specs.Lexer.{short_of}
use Rattle.clap.specs.Walk.{Held, Row, after_step, arg_by_id, arg_by_long, arg_by_short, has_row, is_pending, after_flag, long_met, positional_held, Rule, Text, Waiting, Walk, idle, positional, option, pushed, reacted, settled, used, walked, without}
use Rattle.clap.specs.Simple.{Shape, built_leaf, filled, inherited, new_shape, with_index}
use Rattle.clap.specs.Kinds.{Kinds, or_else}
use Rattle.clap.specs.Faults.{settle_fault, flags_fault, long_fault, step_fault, positional_fault, turn_fault}
use Rattle.std.specs.Str.{IsUtf8, chars}
use Rattle.std.proofs.lemmas.Str.{encodes-chars}
use Rattle.std.specs.Prelude.{slice_get}
use Rattle.std.specs.Char.{encode_utf8}
use Rattle.clap.specs.declared.parser.matches.ValueSource.TheVariants.{CommandLine}
use Rattle.dsm_command.specs.Parser.{names_rule, trace_rule, state_rule, procs_rule, program_shape}
use Rattle.dsm_command.specs.Parser.{Parts}
use Rattle.dsm_command.proofs.Reading.{with_names, with_number, stated, traced}
use Rattle.dsm_command.proofs.Rows.{given_row, look, look_more, look_other, has_row-look}

-- ---- the command as clap has it

abbrev pub top : Shape
top = record program_shape { is_leaf = false; is_built = true }

abbrev pub names_built : Rule
names_built = with_index 1 (filled names_rule)

abbrev pub trace_built : Rule
trace_built = with_index 2 (filled trace_rule)

abbrev pub state_built : Rule
state_built = with_index 2 (filled state_rule)

abbrev pub procs_built : Rule
procs_built = with_index 2 (filled procs_rule)

abbrev pub own_procs : Bool → List Rule
own_procs true = procs_built ∷ []
own_procs false = []

abbrev pub own_trace : Bool → List Rule → List Rule
own_trace true rules = trace_built ∷ state_built ∷ rules
own_trace false rules = rules

abbrev pub at : Bool → Waiting → Held → Walk
at trailing waiting h = record { held = h; waiting = waiting; position = 1; is_trailing = trailing; stopped = None }

-- ---- what is known of a state

pub record Knows (rows : List Row) (p : Parts) : Type 0 where
  pub names : look (codes "names") rows ≡ given_row (codes "names") p.names
  pub numbers : look (codes "procs") rows ≡ given_row (codes "procs") p.numbers
  pub trace : look (codes "trace") rows ≡ given_row (codes "trace") (cond p.trace (codes "true" ∷ []) [])
  pub state : look (codes "state") rows ≡ given_row (codes "state") (cond p.state (codes "true" ∷ []) [])

-- ---- the words

pub data Class : Text → Type 0 where
  empty : Class []
  hyphen : Class (45 ∷ [])
  ends : Class (45 ∷ 45 ∷ [])
  other : (x : ℕ) (xs : Text) → (x == 45) ≡ false → Class (x ∷ xs)
  single : (x : ℕ) (xs : Text) → (x == 45) ≡ false → Class (45 ∷ x ∷ xs)
  double : (x : ℕ) (xs : Text) → Class (45 ∷ 45 ∷ x ∷ xs)

-- ---- rows

without_none : (id : Text) (rows : List Row) → look id rows ≡ None → without id rows ≡ rows
without_none id [] e = refl
without_none id (r ∷ rs) e = go (bytes_eq r.id id) e (without_none id rs)
  where
    go : (b : Bool) → cond b (Some r) (look id rs) ≡ None → (look id rs ≡ None → without id rs ≡ rs) → cond b rs (r ∷ without id rs) ≡ r ∷ rs
    go true e less = cc
    go false e less = ap (λ xs. r ∷ xs) (less e)

knows_name : (rows : List Row) (p : Parts) (word : Text) → Knows rows p → Knows (used names_built (word ∷ []) rows) (with_names p (word ∷ []))
knows_name rows p word k = record {
  names = look_more (codes "names") p.names word rows k.names;
  numbers = look_other CommandLine (codes "names") (codes "procs") (word ∷ []) rows refl ∙ k.numbers;
  trace = look_other CommandLine (codes "names") (codes "trace") (word ∷ []) rows refl ∙ k.trace;
  state = look_other CommandLine (codes "names") (codes "state") (word ∷ []) rows refl ∙ k.state;
}

knows_number : (rows : List Row) (p : Parts) (word : Text) → Knows rows p → Knows (used procs_built (word ∷ []) rows) (with_number p word)
knows_number rows p word k = record {
  names = look_other CommandLine (codes "procs") (codes "names") (word ∷ []) rows refl ∙ k.names;
  numbers = look_more (codes "procs") p.numbers word rows k.numbers;
  trace = look_other CommandLine (codes "procs") (codes "trace") (word ∷ []) rows refl ∙ k.trace;
  state = look_other CommandLine (codes "procs") (codes "state") (word ∷ []) rows refl ∙ k.state;
}

knows_trace : (rows : List Row) (p : Parts) → p.trace ≡ false → Knows rows p → Knows (used trace_built [] rows) (traced p)
knows_trace rows p first k =
    let none : look (codes "trace") rows ≡ None = k.trace ∙ ap (λ b. given_row (codes "trace") (cond b (codes "true" ∷ []) [])) first in
    rw (without_none (codes "trace") rows none) (record {
      names = look_other CommandLine (codes "trace") (codes "names") (codes "true" ∷ []) rows refl ∙ k.names;
      numbers = look_other CommandLine (codes "trace") (codes "procs") (codes "true" ∷ []) rows refl ∙ k.numbers;
      trace = look_more (codes "trace") [] (codes "true") rows none;
      state = look_other CommandLine (codes "trace") (codes "state") (codes "true" ∷ []) rows refl ∙ k.state;
    })

knows_state : (rows : List Row) (p : Parts) → p.state ≡ false → Knows rows p → Knows (used state_built [] rows) (stated p)
knows_state rows p first k =
    let none : look (codes "state") rows ≡ None = k.state ∙ ap (λ b. given_row (codes "state") (cond b (codes "true" ∷ []) [])) first in
    rw (without_none (codes "state") rows none) (record {
      names = look_other CommandLine (codes "state") (codes "names") (codes "true" ∷ []) rows refl ∙ k.names;
      numbers = look_other CommandLine (codes "state") (codes "procs") (codes "true" ∷ []) rows refl ∙ k.numbers;
      state = look_more (codes "state") [] (codes "true") rows none;
      trace = look_other CommandLine (codes "state") (codes "trace") (codes "true" ∷ []) rows refl ∙ k.trace;
    })

module _ (r k : Bool) (name : Text) where
  -- the rules of the command
  abbrev pub c : List Rule
  c = names_built ∷ own_trace r (own_procs k)

  abbrev pub leaf : Shape
  leaf = record (built_leaf (inherited top (new_shape name))) { rules = c }

  pub by_long : (n : Text) → arg_by_long c n ≡ cond (r && bytes_eq (codes "trace") n) (Some trace_built) (cond (r && bytes_eq (codes "state") n) (Some state_built) (cond (k && bytes_eq (codes "procs") n) (Some procs_built) None))
  by_long n = go r k (bytes_eq (codes "trace") n) refl (bytes_eq (codes "state") n) refl (bytes_eq (codes "procs") n) refl
    where
      go : (x y t : Bool) → bytes_eq (codes "trace") n ≡ t → (d : Bool) → bytes_eq (codes "state") n ≡ d → (q : Bool) → bytes_eq (codes "procs") n ≡ q
          → arg_by_long (names_built ∷ own_trace x (own_procs y)) n ≡ cond (x && t) (Some trace_built) (cond (x && d) (Some state_built) (cond (y && q) (Some procs_built) None))
      go true y true e d g q f = rw e refl
      go true y false e true g q f = rw (e, g) refl
      go true true false e false g true f = rw (e, g, f) refl
      go true true false e false g false f = rw (e, g, f) refl
      go true false false e false g q f = rw (e, g) refl
      go false true t e d g true f = rw f refl
      go false true t e d g false f = rw f refl
      go false false t e d g q f = refl

  no_short : (x : ℕ) → arg_by_short c x ≡ None
  no_short x = go r k
    where
      go : (a b : Bool) → arg_by_short (names_built ∷ own_trace a (own_procs b)) x ≡ None
      go true true = refl
      go true false = refl
      go false true = refl
      go false false = refl

  procs_by_id : k ≡ true → arg_by_id c (codes "procs") ≡ Some procs_built
  procs_by_id e = rw e (go r)
    where
      go : (a : Bool) → arg_by_id (names_built ∷ own_trace a (own_procs true)) (codes "procs") ≡ Some procs_built
      go true = refl
      go false = refl

  pub record Holds (h : Held) (p : Parts) : Type 0 where
    pub skip : h.skip ≡ 0
    pub settles : settle_fault c false h ≡ []
    pub knows : Knows (settled c h).rows p

  pub record Asks (h : Held) (p : Parts) : Type 0 where
    pub skip : h.skip ≡ 0
    pub own : k ≡ true
    pub pending : h.pending ≡ Some (codes "procs", [])
    pub knows : Knows h.rows p

  -- ---- states

  pub holds_name : (h : Held) (p : Parts) (word : Text) → Holds h p → Holds (pushed (codes "names") word (settled c h)) (with_names p (word ∷ []))
  holds_name h p word s = record { skip = s.skip; settles = refl; knows = knows_name (settled c h).rows p word s.knows }

  pub holds_number : (h : Held) (p : Parts) (word : Text) → Holds h p → Holds (reacted c procs_built (word ∷ []) h) (with_number p word)
  holds_number h p word s = record { skip = s.skip; settles = refl; knows = knows_number (settled c h).rows p word s.knows }

  pub holds_trace : (h : Held) (p : Parts) → p.trace ≡ false → Holds h p → Holds (reacted c trace_built [] h) (traced p)
  holds_trace h p first s = record { skip = s.skip; settles = refl; knows = knows_trace (settled c h).rows p first s.knows }

  pub holds_state : (h : Held) (p : Parts) → p.state ≡ false → Holds h p → Holds (reacted c state_built [] h) (stated p)
  holds_state h p first s = record { skip = s.skip; settles = refl; knows = knows_state (settled c h).rows p first s.knows }

  abbrev pub asking : Held → Held
  asking h = record (settled c h) { pending = Some (codes "procs", []) }

  pub asks_procs : (h : Held) (p : Parts) → k ≡ true → Holds h p → Asks (asking h) p
  asks_procs h p own s = record { own = own; skip = s.skip; pending = refl; knows = s.knows }

  abbrev pub answered : Held → Text → Held
  answered h word = record h { pending = Some (codes "procs", word ∷ []) }

  pub holds_answered : (h : Held) (p : Parts) (word : Text) → Asks h p → Holds (answered h word) (with_number p word)
  holds_answered h p word s = record { skip = s.skip; settles = rw (procs_by_id s.own) refl; knows = rw (procs_by_id s.own) (knows_number h.rows p word s.knows) }

  -- ---- turns

  pub same_nil : {X : Type 0} (b : Bool) (x : X) → cond b x x ≡ x
  same_nil true x = refl
  same_nil false x = refl

  pub and_false : (b : Bool) → (b && false) ≡ false
  and_false true = refl
  and_false false = refl

  abbrev pub resting : Bool → Waiting
  resting true = positional
  resting false = idle

  settling : (h : Held) → positional_fault c false names_built h ≡ settle_fault c false h
  settling h = ap (λ b. cond b [] (settle_fault c false h)) (and_false (is_pending names_built h.pending))

  holding : (h : Held) (word : Text) → positional_held c names_built word h ≡ pushed (codes "names") word (settled c h)
  holding h word = ap (λ b. pushed (codes "names") word (cond b h (settled c h))) (and_false (is_pending names_built h.pending))

  abbrev pub filed : Bool → Held → Text → Walk
  filed t h word = at t positional (pushed (codes "names") word (settled c h))

  abbrev pub Turns : Walk → Text → Walk → Type 0
  Turns w word next = (turn_fault leaf [] w word ≡ []) × (walked c [] w word ≡ next)

  abbrev pub Stops : Walk → Text → Type 0
  Stops w word = turn_fault leaf [] w word ≡ [] → ⊥

  pub ends_turn : (b : Bool) (h : Held) → Turns (at false (resting b) h) (45 ∷ 45 ∷ []) (at true (resting b) h)
  unfolding walked
  ends_turn true h = (refl, refl)
  ends_turn false h = (refl, refl)

  pub trailing_turn : (w : Waiting) (h : Held) (word : Text) → settle_fault c false h ≡ [] → Turns (at true w h) word (filed true h word)
  unfolding walked
  trailing_turn w h word e = (settling h ∙ e, ap (at true positional) (holding h word))

  pub trailing_stop : (w : Waiting) (h : Held) (word : Text) (p : Parts) → Asks h p → Stops (at true w h) word
  trailing_stop w h word p s e =
      let asked : settle_fault c false h ≡ [] = sym (settling h) ∙ e in
      let bad = rw (s.pending, procs_by_id s.own) at asked in
      cc

  pub empty_turn : (b : Bool) (h : Held) → settle_fault c false h ≡ [] → Turns (at false (resting b) h) [] (filed false h [])
  unfolding walked
  empty_turn true h e = (settling h ∙ e, ap (at false positional) (holding h []))
  empty_turn false h e = (settling h ∙ e, ap (at false positional) (holding h []))

  pub hyphen_turn : (b : Bool) (h : Held) → settle_fault c false h ≡ [] → Turns (at false (resting b) h) (45 ∷ []) (filed false h (45 ∷ []))
  unfolding walked
  hyphen_turn true h e = (settling h ∙ e, ap (at false positional) (holding h (45 ∷ [])))
  hyphen_turn false h e = (settling h ∙ e, ap (at false positional) (holding h (45 ∷ [])))

  pub other_turn : (b : Bool) (h : Held) (x : ℕ) (xs : Text) → (x == 45) ≡ false → settle_fault c false h ≡ [] → Turns (at false (resting b) h) (x ∷ xs) (filed false h (x ∷ xs))
  unfolding walked
  other_turn true h x xs differs e = rw (differs, differs) (settling h ∙ e, ap (at false positional) (holding h (x ∷ xs)))
  other_turn false h x xs differs e = rw (differs, differs) (settling h ∙ e, ap (at false positional) (holding h (x ∷ xs)))

  -- what follows a hyphen has a character
  pub has_char : (x : ℕ) (xs : Text) → IsUtf8 (45 ∷ x ∷ xs) → (y : ℕ) × (slice_get (chars (x ∷ xs)) 0 ≡ Some y)
  unfolding chars encode_utf8
  has_char x xs u = go (chars (x ∷ xs)) refl
    where
      go : (ys : List ℕ) → chars (x ∷ xs) ≡ ys → (y : ℕ) × (slice_get (chars (x ∷ xs)) 0 ≡ Some y)
      go [] e = let text = encodes-chars (45 ∷ x ∷ xs) u in let short = rw e at text in cc
      go (y ∷ ys) e = (y, rw e refl)

  pub single_stop : (w : Waiting) (h : Held) (x : ℕ) (xs : Text) → (x == 45) ≡ false → h.skip ≡ 0 → IsUtf8 (45 ∷ x ∷ xs) → Stops (at false w h) (45 ∷ x ∷ xs)
  unfolding flags_fault
  single_stop idle h x xs differs skip u e =
      let y = has_char x xs u in
      let flags : short_of (45 ∷ x ∷ xs) ≡ Some (x ∷ xs) = rw differs refl in
      let bad = rw (differs, flags, skip, y.1, no_short y.0) at e in cc
  single_stop positional h x xs differs skip u e =
      let y = has_char x xs u in
      let flags : short_of (45 ∷ x ∷ xs) ≡ Some (x ∷ xs) = rw differs refl in
      let bad = rw (differs, flags, skip, y.1, no_short y.0) at e in cc
  single_stop (option id) h x xs differs skip u e =
      let y = has_char x xs u in
      let flags : short_of (45 ∷ x ∷ xs) ≡ Some (x ∷ xs) = rw differs refl in
      let bad = rw (differs, flags, skip, y.1, no_short y.0) at e in cc

  pub first_stops : (a b : Kinds) → (a ≡ [] → ⊥) → or_else a b ≡ [] → ⊥
  first_stops [] b h e = h refl
  first_stops (k ∷ ks) b h e = cc

  -- a word `--N` or `--N=V`
  abbrev pub long_turn : Option Rule → Option Text → Waiting → Text → Held → Kinds
  long_turn n v w word h = or_else (long_fault c false n v h) (step_fault leaf 1 (after_flag c w word (long_met c n v h).0 (long_met c n v h).1).0 (after_flag c w word (long_met c n v h).0 (long_met c n v h).1).1)

  abbrev pub long_walk : Option Rule → Option Text → Waiting → Text → Held → Walk
  long_walk n v w word h = after_step c word (at false w h) (after_flag c w word (long_met c n v h).0 (long_met c n v h).1).0 (after_flag c w word (long_met c n v h).0 (long_met c n v h).1).1

  pub has_trace : (h : Held) (p : Parts) → Holds h p → has_row (codes "trace") (settled c h).rows ≡ p.trace
  has_trace h p s = has_row-look (codes "trace") (settled c h).rows ∙ ap is_some s.knows.trace ∙ go p.trace
    where
      go : (b : Bool) → is_some (given_row (codes "trace") (cond b (codes "true" ∷ []) [])) ≡ b
      go true = refl
      go false = refl

  pub trace_turn : (w : Waiting) (word : Text) (h : Held) (p : Parts) → p.trace ≡ false → Holds h p
      → (long_turn (Some trace_built) None w word h ≡ []) × (long_walk (Some trace_built) None w word h ≡ at false idle (reacted c trace_built [] h))
  trace_turn w word h p first s =
      let row : has_row (codes "trace") (settled c h).rows ≡ false = has_trace h p s ∙ first in
      rw (s.settles, row) (refl, refl)

  pub trace_again : (w : Waiting) (word : Text) (h : Held) (p : Parts) → p.trace ≡ true → Holds h p → long_turn (Some trace_built) None w word h ≡ [] → ⊥
  trace_again w word h p again s e =
      let row : has_row (codes "trace") (settled c h).rows ≡ true = has_trace h p s ∙ again in
      let bad = rw (s.settles, row) at e in cc

  pub trace_value : (w : Waiting) (v word : Text) (h : Held) → long_turn (Some trace_built) (Some v) w word h ≡ [] → ⊥
  trace_value w v word h e = cc

  pub has_state : (h : Held) (p : Parts) → Holds h p → has_row (codes "state") (settled c h).rows ≡ p.state
  has_state h p s = has_row-look (codes "state") (settled c h).rows ∙ ap is_some s.knows.state ∙ go p.state
    where
      go : (b : Bool) → is_some (given_row (codes "state") (cond b (codes "true" ∷ []) [])) ≡ b
      go true = refl
      go false = refl

  pub state_turn : (w : Waiting) (word : Text) (h : Held) (p : Parts) → p.state ≡ false → Holds h p
      → (long_turn (Some state_built) None w word h ≡ []) × (long_walk (Some state_built) None w word h ≡ at false idle (reacted c state_built [] h))
  state_turn w word h p first s =
      let row : has_row (codes "state") (settled c h).rows ≡ false = has_state h p s ∙ first in
      rw (s.settles, row) (refl, refl)

  pub state_again : (w : Waiting) (word : Text) (h : Held) (p : Parts) → p.state ≡ true → Holds h p → long_turn (Some state_built) None w word h ≡ [] → ⊥
  state_again w word h p again s e =
      let row : has_row (codes "state") (settled c h).rows ≡ true = has_state h p s ∙ again in
      let bad = rw (s.settles, row) at e in cc

  pub state_value : (w : Waiting) (v word : Text) (h : Held) → long_turn (Some state_built) (Some v) w word h ≡ [] → ⊥
  state_value w v word h e = cc

  pub procs_turn : (w : Waiting) (word : Text) (h : Held) (p : Parts) → Holds h p
      → (long_turn (Some procs_built) None w word h ≡ []) × (long_walk (Some procs_built) None w word h ≡ at false (option (codes "procs")) (asking h))
  procs_turn w word h p s = rw s.settles (refl, refl)

  pub procs_is_turn : (w : Waiting) (v word : Text) (h : Held) (p : Parts) → Holds h p
      → (long_turn (Some procs_built) (Some v) w word h ≡ []) × (long_walk (Some procs_built) (Some v) w word h ≡ at false idle (reacted c procs_built (v ∷ []) h))
  procs_is_turn w v word h p s = rw s.settles (refl, refl)

  pub unknown_stop : (w : Waiting) (v : Option Text) (word : Text) (h : Held) → long_turn None v w word h ≡ [] → ⊥
  unknown_stop w v word h e = cc

  -- while `--procs` waits for its value
  pub asked_empty : (h : Held) (p : Parts) → Asks h p → Turns (at false (option (codes "procs")) h) [] (at false idle (answered h []))
  unfolding walked
  asked_empty h p s = (refl, rw (s.pending, procs_by_id s.own) refl)

  pub asked_hyphen : (h : Held) (p : Parts) → Asks h p → Turns (at false (option (codes "procs")) h) (45 ∷ []) (at false idle (answered h (45 ∷ [])))
  unfolding walked
  asked_hyphen h p s = (refl, rw (s.pending, procs_by_id s.own) refl)

  pub asked_other : (h : Held) (p : Parts) (x : ℕ) (xs : Text) → (x == 45) ≡ false → Asks h p → Turns (at false (option (codes "procs")) h) (x ∷ xs) (at false idle (answered h (x ∷ xs)))
  unfolding walked
  asked_other h p x xs differs s = rw (differs, differs, s.pending, procs_by_id s.own) (refl, refl)

  pub asked_ends : (h : Held) → Turns (at false (option (codes "procs")) h) (45 ∷ 45 ∷ []) (at true (option (codes "procs")) h)
  unfolding walked
  asked_ends h = (refl, refl)

  pub asked_faults : (h : Held) (p : Parts) → Asks h p → settle_fault c false h ≡ [] → ⊥
  asked_faults h p s e = let bad = rw (s.pending, procs_by_id s.own) at e in cc

  pub asked_long : (n : Option Rule) (v : Option Text) (word : Text) (h : Held) (p : Parts) → ((n ≡ Some trace_built) ⊎ ((n ≡ Some state_built) ⊎ ((n ≡ Some procs_built) ⊎ (n ≡ None)))) → Asks h p
      → long_turn n v (option (codes "procs")) word h ≡ [] → ⊥
  asked_long n None word h p (inl t) s e = let bad = rw (t, s.pending, procs_by_id s.own) at e in cc
  asked_long n (Some x) word h p (inl t) s e = let bad = rw t at e in cc
  asked_long n None word h p (inr (inl t)) s e = let bad = rw (t, s.pending, procs_by_id s.own) at e in cc
  asked_long n (Some x) word h p (inr (inl t)) s e = let bad = rw t at e in cc
  asked_long n None word h p (inr (inr (inl t))) s e = let bad = rw (t, s.pending, procs_by_id s.own) at e in cc
  asked_long n (Some x) word h p (inr (inr (inl t))) s e = let bad = rw (t, s.pending, procs_by_id s.own) at e in cc
  asked_long n v word h p (inr (inr (inr t))) s e = let bad = rw t at e in cc
