-- Lines of barriers: whose they are, and what those of others leave of a memory.
use Rattle.std.specs.Prelude.{◌≡◌, ℕ, ℤ, zero, suc, ◌+◌, ◌-◌, ◌<◌, Bool, true, false, ◌&&◌, ◌||◌, ◌==◌, not, if◌then◌else◌, nat_lt, nat_le, List, [], ◌∷◌, ◌++◌, map, filter, Option, Some, None, is_some}
use Rattle.std.specs.List.{list_any, flat_map, range_with_len, AllByRecursion}
use Rattle.std.proofs.Common.{arith, refl, sym, ap, ap₂, ◌∙◌, subst, inl, inr}
use Rattle.std.proofs.lemmas.Bool.Decides.{leb_tells, nat_tests}
use Rattle.std.proofs.lemmas.Grind.{common_steps}
use Rattle.std.proofs.lemmas.List.{map-append}
use Rattle.std.proofs.lemmas.List.Folds.{list_any-append}
use Rattle.dsm_base.specs.declared.names.Bar.{Bar}
use Rattle.dsm_base.specs.declared.label.Label.{Label}
use Rattle.dsm_base.specs.declared.setup.Object.{Object}
use Rattle.dsm_base.specs.declared.setup.Piece.{Piece}
use Rattle.dsm_base.specs.declared.setup.Setup.{Setup}
use Rattle.dsm_base.specs.Access.{piece_of}
use Rattle.dsm_base.specs.Threads.{Semantics}
use Rattle.dsm_base.specs.Plain.{Turn, IsPlainRun, IsPlainTurn, after_run, labels_of}
use Rattle.dsm_lines.specs.declared.list.Line.{Line}
use Rattle.dsm_lines.specs.Copies.{line_with, lines_where, overlaid}
use Rattle.dsm_lines.specs.Places.{cells_in, same_object, lines_of}
use Rattle.dsm_barrier.specs.Joined.{with_line, with_lines, in_order}
use Rattle.dsm_barrier.specs.BarrierStates.{others_than}
use Rattle.dsm_laws_runs.specs.Pieces.{is_bar}
use Rattle.dsm_laws_runs.specs.OwnPart.{crossed_of}
use Rattle.dsm_laws_runs.specs.Barriers.{is_owned, owner_of, memory_in}
use Rattle.dsm_laws_runs.specs.Newer.{stores_own, is_stored_in, is_arrived, with_newer}
use Rattle.dsm_laws_runs.specs.Copies.{OwnTurn, newest_copy, memories_of, Renews, HasCopies}
use Rattle.dsm_laws_runs.proofs.OwnPart.{no_labels}
use Rattle.dsm_laws_runs.proofs.Turns.{crosses_of}
use Rattle.dsm_laws_runs.proofs.ArrivalLines.{arrivals_cross}
use Rattle.dsm_laws_history.specs.NewerLines.{line_at, lines_of_arrival, lines_of_crossing}
use Rattle.dsm_laws_history.proofs.Lines.{is_in, in_filtered, in_line, line_of_object, of_object, lines_all_of, same_piece, both_true, is_number, map_same, apart, overlaid_is, in_lines}

-- Pieces of barriers.

pub same_bar : (object : Object) (bar : Bar) → same_object object (Object.Bar bar) ≡ is_bar bar.0 object
same_bar (Object.Lock lock) bar = refl
same_bar (Object.Bar other) bar = refl

pub object_bound : (object : Object) (piece : Option Piece) → of_object object piece ≡ true → is_some piece ≡ true
object_bound object None e = cc
object_bound object (Some piece) e = refl

owned_bound : (bar owner : ℕ) (piece : Option Piece) → is_owned bar owner piece ≡ true → is_some piece ≡ true
owned_bound bar owner None e = cc
owned_bound bar owner (Some piece) e = refl

pub owned_owner : (bar owner : ℕ) (piece : Option Piece) → is_owned bar owner piece ≡ true → owner_of piece ≡ owner
owned_owner bar owner None e = cc
owned_owner bar owner (Some piece) e = is_number piece.owner owner (both_true (is_bar bar piece.object) (piece.owner == owner) e).1

-- Stores in an epoch.

either_true : (b c : Bool) → (b || c) ≡ true → ((c ≡ false) → b ≡ true)
either_true b c e none = grind arith

module _ (setup : Setup) where
  -- a line to which a processor stored is in a piece of its own
  by_label : (bar owner cell : ℕ) (label : Label) → is_some (piece_of setup.bindings cell) ≡ true → stores_own (line_at setup.bindings) setup bar owner (line_at setup.bindings cell) label ≡ true →
      is_owned bar owner (piece_of setup.bindings cell) ≡ true
  by_label bar owner cell (Label.Store stored value) bound e =
      let both = both_true (is_owned bar owner (piece_of setup.bindings stored.0)) (line_at setup.bindings stored.0 == line_at setup.bindings cell) e in
      subst (λ piece. is_owned bar owner piece ≡ true)
      (same_piece setup.bindings stored.0 cell (owned_bound bar owner (piece_of setup.bindings stored.0) both.0) bound (is_number (line_at setup.bindings stored.0) (line_at setup.bindings cell) both.1)) both.0
  by_label bar owner cell _ bound e = cc

  pub stored_owned : (bar owner epoch cell : ℕ) (labels : List Label) → is_some (piece_of setup.bindings cell) ≡ true →
      is_stored_in (line_at setup.bindings) setup bar owner epoch labels (line_at setup.bindings cell) ≡ true → is_owned bar owner (piece_of setup.bindings cell) ≡ true
  stored_owned bar owner epoch cell [] bound e = cc
  stored_owned bar owner epoch cell (label ∷ before) bound e = go (stored_owned bar owner epoch cell before bound) (is_stored_in (line_at setup.bindings) setup bar owner epoch before (line_at setup.bindings cell)) refl
    where
      go : (is_stored_in (line_at setup.bindings) setup bar owner epoch before (line_at setup.bindings cell) ≡ true → is_owned bar owner (piece_of setup.bindings cell) ≡ true) →
          (b : Bool) → is_stored_in (line_at setup.bindings) setup bar owner epoch before (line_at setup.bindings cell) ≡ b → is_owned bar owner (piece_of setup.bindings cell) ≡ true
      go more true was = more was
      go more false not_was = by_label bar owner cell label bound
          (both_true (stores_own (line_at setup.bindings) setup bar owner (line_at setup.bindings cell) label) (crossed_of before bar == epoch)
          (either_true (stores_own (line_at setup.bindings) setup bar owner (line_at setup.bindings cell) label && (crossed_of before bar == epoch)) _ e not_was)).0

  -- Chosen lines of a barrier.

  chosen_where : (one other : ℕ → Line) (test also : ℕ → Bool) (lines : List ℕ) → AllByRecursion (λ line. (test line ≡ also line) × (also line ≡ true → one line ≡ other line)) lines →
      map one (filter test lines) ≡ map other (filter also lines)
  chosen_where one other test also [] all = refl
  chosen_where one other test also (line ∷ lines) all = go (also line) refl (chosen_where one other test also lines all.1)
    where
      go : (b : Bool) → also line ≡ b → map one (filter test lines) ≡ map other (filter also lines) → map one (filter test (line ∷ lines)) ≡ map other (filter also (line ∷ lines))
      go true e more = rw (all.0.0, e) (ap₂ (λ x xs. x ∷ xs) (all.0.1 e) more)
      go false e more = rw (all.0.0, e) more

  -- they are the same where the tests are the same at its lines, and the values at the cells of those that are chosen
  module _ (bar : Bar) (test also : ℕ → Bool) (one other : ℕ → ℤ)
      (tests : (cell : ℕ) → of_object (Object.Bar bar) (piece_of setup.bindings cell) ≡ true → test (line_at setup.bindings cell) ≡ also (line_at setup.bindings cell))
      (same : (cell : ℕ) → of_object (Object.Bar bar) (piece_of setup.bindings cell) ≡ true → also (line_at setup.bindings cell) ≡ true → one cell ≡ other cell) where
    line_same : (cell : ℕ) → of_object (Object.Bar bar) (piece_of setup.bindings cell) ≡ true → also (line_at setup.bindings cell) ≡ true →
        line_with setup.bindings one (line_at setup.bindings cell) ≡ line_with setup.bindings other (line_at setup.bindings cell)
    line_same cell is chosen = ap (λ values. record { number = line_at setup.bindings cell; values = values }) (map_same one other (cells_in setup.bindings (line_at setup.bindings cell)) at)
      where
        at : (d : ℕ) → is_in d (cells_in setup.bindings (line_at setup.bindings cell)) ≡ true → one d ≡ other d
        at d here =
            let both = both_true (is_some (piece_of setup.bindings d)) (line_at setup.bindings d == line_at setup.bindings cell) (sym (in_line setup.bindings (apart setup) d (line_at setup.bindings cell)) ∙ here) in
            let line : line_at setup.bindings d ≡ line_at setup.bindings cell = is_number (line_at setup.bindings d) (line_at setup.bindings cell) both.1 in
            let piece : piece_of setup.bindings d ≡ piece_of setup.bindings cell = same_piece setup.bindings d cell both.0 (object_bound (Object.Bar bar) (piece_of setup.bindings cell) is) line in
            same d (ap (of_object (Object.Bar bar)) piece ∙ is) (ap also line ∙ chosen)

    pub bar_lines_same : lines_where setup.bindings test one (Object.Bar bar) ≡ lines_where setup.bindings also other (Object.Bar bar)
    bar_lines_same = chosen_where (line_with setup.bindings one) (line_with setup.bindings other) test also (lines_of setup.bindings (Object.Bar bar))
        (lines_all_of (λ line. (test line ≡ also line) × (also line ≡ true → line_with setup.bindings one line ≡ line_with setup.bindings other line)) (Object.Bar bar) setup.bindings (apart setup)
        (λ cell is. (tests cell is, line_same cell is)))

-- Lines in order.

abbrev numbers : List Line → List ℕ
numbers lines = map (λ line. line.number) lines

with_line_number : (n : ℕ) (lines : List Line) (line : Line) → is_in n (numbers (with_line lines line)) ≡ ((line.number == n) || is_in n (numbers lines))
with_line_number n [] line = refl
with_line_number n (first ∷ others) line = go (nat_lt first.number line.number) refl (first.number == line.number) refl (with_line_number n others line)
  where
    turned : (a b c : Bool) → (a || (b || c)) ≡ (b || (a || c))
    turned a b c = grind arith

    twice : (a b : ℕ) (c : Bool) → a ≡ b → ((a == n) || c) ≡ ((b == n) || ((a == n) || c))
    twice a b c e = grind arith

    go : (b : Bool) → nat_lt first.number line.number ≡ b → (c : Bool) → (first.number == line.number) ≡ c → is_in n (numbers (with_line others line)) ≡ ((line.number == n) || is_in n (numbers others)) →
        is_in n (numbers (with_line (first ∷ others) line)) ≡ ((line.number == n) || is_in n (numbers (first ∷ others)))
    go true t c e more = rw (t, more) (turned (first.number == n) (line.number == n) (is_in n (numbers others)))
    go false t true e more = rw (t, e) (twice first.number line.number (is_in n (numbers others)) (is_number first.number line.number e))
    go false t false e more = rw (t, e) refl

with_lines_number : (n : ℕ) (lines more : List Line) → is_in n (numbers (with_lines lines more)) ≡ (is_in n (numbers more) || is_in n (numbers lines))
with_lines_number n lines [] = refl
with_lines_number n lines (line ∷ more) =
    with_lines_number n (with_line lines line) more ∙ ap (λ b. is_in n (numbers more) || b) (with_line_number n lines line)
    ∙ turned (is_in n (numbers more)) (line.number == n) (is_in n (numbers lines))
  where
    turned : (a b c : Bool) → (a || (b || c)) ≡ ((b || a) || c)
    turned a b c = grind arith

in_order_number : (n : ℕ) (lines : List Line) → is_in n (numbers (in_order lines)) ≡ is_in n (numbers lines)
in_order_number n lines = with_lines_number n [] lines ∙ no_more (is_in n (numbers lines))
  where
    no_more : (b : Bool) → (b || false) ≡ b
    no_more b = grind arith

module _ (pieces : List Piece) (values : ℕ → ℤ) where
  -- each line has these values
  abbrev pub AreOf : List Line → Type 0
  AreOf lines = AllByRecursion (λ (line : Line). line ≡ line_with pieces values line.number) lines

  with_line_of : (lines : List Line) (line : Line) → AreOf lines → line ≡ line_with pieces values line.number → AreOf (with_line lines line)
  with_line_of [] line all is = (is, tt)
  with_line_of (first ∷ others) line all is = go (nat_lt first.number line.number) refl (first.number == line.number) refl (with_line_of others line all.1 is)
    where
      go : (b : Bool) → nat_lt first.number line.number ≡ b → (c : Bool) → (first.number == line.number) ≡ c → AreOf (with_line others line) → AreOf (with_line (first ∷ others) line)
      go true t c e more = rw t (all.0, more)
      go false t true e more = rw (t, e) all
      go false t false e more = rw (t, e) (is, all)

  with_lines_of : (lines more : List Line) → AreOf lines → AreOf more → AreOf (with_lines lines more)
  with_lines_of lines [] all too = all
  with_lines_of lines (line ∷ more) all too = with_lines_of (with_line lines line) more (with_line_of lines line all too.0) too.1

  in_order_of : (lines : List Line) → AreOf lines → AreOf (in_order lines)
  in_order_of lines all = with_lines_of [] lines tt all

  mapped : (lines : List Line) → AreOf lines → lines ≡ map (line_with pieces values) (numbers lines)
  mapped [] all = refl
  mapped (line ∷ lines) all = ap₂ (λ x xs. x ∷ xs) all.0 (mapped lines all.1)

  chosen_of : (lines : List ℕ) → AreOf (map (line_with pieces values) lines)
  chosen_of [] = tt
  chosen_of (line ∷ lines) = (refl, chosen_of lines)

  chosen_numbers : (lines : List ℕ) → numbers (map (line_with pieces values) lines) ≡ lines
  chosen_numbers [] = refl
  chosen_numbers (line ∷ lines) = ap (λ xs. line ∷ xs) (chosen_numbers lines)

  append_of : (xs ys : List Line) → AreOf xs → AreOf ys → AreOf (xs ++ ys)
  append_of [] ys h g = g
  append_of (x ∷ xs) ys h g = (h.0, append_of xs ys h.1 g)

  flat_of : (f : ℕ → List Line) → ((q : ℕ) → AreOf (f q)) → (qs : List ℕ) → AreOf (flat_map f qs)
  flat_of f each [] = tt
  flat_of f each (q ∷ qs) = append_of (f q) (flat_map f qs) (each q) (flat_of f each qs)

flat_numbers : (n : ℕ) (f : ℕ → List Line) (qs : List ℕ) → is_in n (numbers (flat_map f qs)) ≡ list_any (λ q. is_in n (numbers (f q))) qs
flat_numbers n f [] = refl
flat_numbers n f (q ∷ qs) =
    ap (is_in n) (map-append (λ (line : Line). line.number) (f q) (flat_map f qs))
    ∙ list_any-append (λ m. m == n) (numbers (f q)) (numbers (flat_map f qs))
    ∙ ap (λ b. is_in n (numbers (f q)) || b) (flat_numbers n f qs)

any_same : (f g : ℕ → Bool) → ((q : ℕ) → f q ≡ g q) → (qs : List ℕ) → list_any f qs ≡ list_any g qs
any_same f g same [] = refl
any_same f g same (q ∷ qs) = ap₂ (λ b c. b || c) (same q) (any_same f g same qs)

-- a test that one number alone may pass, among a range without p
any_in : (g : ℕ → Bool) (o p : ℕ) → ((q : ℕ) → g q ≡ true → q ≡ o) → (a n : ℕ) → list_any g (filter (λ q. not (q == p)) (range_with_len a n)) ≡ ((not (o == p) && g o) && (nat_le a o && nat_lt o (a + n)))
any_in g o p only a zero = grind (arith, nat_tests, common_steps)
any_in g o p only a (suc n) = grind (arith, nat_tests, common_steps, any_in g o p only (a + 1) n, only a)

any_other : (g : ℕ → Bool) (procs o p : ℕ) → ((q : ℕ) → g q ≡ true → q ≡ o) → (g o ≡ true → o < procs) → list_any g (others_than procs p) ≡ (not (o == p) && g o)
any_other g procs o p only within = any_in g o p only 0 procs ∙ grind (arith, nat_tests, common_steps, within)

-- Lines of others, laid over a memory.

module _ {S : Type 0} (setup : Setup) (first : ℕ → S) (threads : Semantics S) (run : List Turn) (is_run : IsPlainRun setup first threads run) (p : ℕ) (bar : Bar) (epoch : ℕ) where
  abbrev values : ℕ → ℤ
  values = memory_in setup (λ q. labels_of q run) bar.0 (epoch - 1 + 1)

  abbrev stored : ℕ → ℕ → Bool
  stored q line = is_stored_in (line_at setup.bindings) setup bar.0 q (epoch - 1) (labels_of q run) line

  abbrev lines : List Line
  lines = lines_of_crossing setup run bar.0 epoch p

  lines_are_of : AreOf setup.bindings values lines
  lines_are_of = in_order_of setup.bindings values (flat_map (lines_of_arrival setup run bar.0 (epoch - 1)) (others_than setup.procs p))
      (flat_of setup.bindings values (lines_of_arrival setup run bar.0 (epoch - 1)) (λ q. chosen_of setup.bindings values (filter (stored q) (lines_of setup.bindings (Object.Bar bar)))) (others_than setup.procs p))

  in_arrival : (n q : ℕ) → is_in n (numbers (lines_of_arrival setup run bar.0 (epoch - 1) q)) ≡ (is_in n (lines_of setup.bindings (Object.Bar bar)) && stored q n)
  in_arrival n q = ap (is_in n) (chosen_numbers setup.bindings values (filter (stored q) (lines_of setup.bindings (Object.Bar bar)))) ∙ in_filtered (stored q) n (lines_of setup.bindings (Object.Bar bar))

  in_crossing : (n : ℕ) → is_in n (numbers lines) ≡ list_any (λ q. is_in n (lines_of setup.bindings (Object.Bar bar)) && stored q n) (others_than setup.procs p)
  in_crossing n =
      in_order_number n (flat_map (lines_of_arrival setup run bar.0 (epoch - 1)) (others_than setup.procs p))
      ∙ flat_numbers n (lines_of_arrival setup run bar.0 (epoch - 1)) (others_than setup.procs p)
      ∙ any_same _ _ (in_arrival n) (others_than setup.procs p)

  -- who stored is a processor of the setup
  stored_within : (q line : ℕ) → stored q line ≡ true → q < setup.procs
  stored_within q line e = elim (leb_tells setup.procs q) [
    | inl (_, past) ↦ absurd (let none : labels_of q run ≡ [] = no_labels first threads setup run is_run q past in let k : false ≡ true = rw none at e in cc)
    | inr (_, within) ↦ omega arith
  ]

  module _ (cell : ℕ) where
    abbrev n : ℕ
    n = line_at setup.bindings cell

    abbrev g : ℕ → Bool
    g q = is_in n (lines_of setup.bindings (Object.Bar bar)) && stored q n

    brought : (is_some (piece_of setup.bindings cell) && is_in (line_at setup.bindings cell) (numbers lines)) ≡ is_arrived (line_at setup.bindings) setup run p bar.0 (epoch - 1) cell
    brought = ap (λ b. is_some (piece_of setup.bindings cell) && b) (in_crossing n) ∙ go (piece_of setup.bindings cell) refl
      where
        turned : (a b c : Bool) → (b && (a && c)) ≡ ((a && b) && c)
        turned a b c = grind arith

        go : (o : Option Piece) → piece_of setup.bindings cell ≡ o → (is_some (piece_of setup.bindings cell) && list_any g (others_than setup.procs p)) ≡ is_arrived (line_at setup.bindings) setup run p bar.0 (epoch - 1) cell
        go None e = rw e refl
        go (Some piece) e =
            rw e (any_other g setup.procs piece.owner p only within
            ∙ ap (λ b. not (piece.owner == p) && (b && stored piece.owner n)) (line_of_object setup.bindings (Object.Bar bar) cell piece e ∙ same_bar piece.object bar)
            ∙ turned (is_bar bar.0 piece.object) (not (piece.owner == p)) (stored piece.owner n))
          where
            only : (q : ℕ) → g q ≡ true → q ≡ piece.owner
            only q passes = sym (ap owner_of (sym e) ∙ owned_owner bar.0 q (piece_of setup.bindings cell)
                (stored_owned setup bar.0 q (epoch - 1) cell (labels_of q run) (ap is_some e) (both_true (is_in n (lines_of setup.bindings (Object.Bar bar))) (stored q n) passes).1))

            within : g piece.owner ≡ true → piece.owner < setup.procs
            within passes = stored_within piece.owner n (both_true (is_in n (lines_of setup.bindings (Object.Bar bar))) (stored piece.owner n) passes).1

  -- the lines that a crossing brings give the cells of others on them their values in the new epoch
  pub crossing_laid : (copy : ℕ → ℤ) (cell : ℕ) → overlaid setup.bindings copy lines cell ≡ with_newer (is_arrived (line_at setup.bindings) setup run p bar.0 (epoch - 1)) values copy cell
  crossing_laid copy cell =
      ap (λ ls. overlaid setup.bindings copy ls cell) (mapped setup.bindings values lines lines_are_of)
      ∙ overlaid_is setup values (numbers lines) copy cell
      ∙ ap (λ b. if b then values cell else copy cell) (in_lines setup cell (numbers lines) ∙ brought cell)

-- a crossing whose copy is what these lines leave makes of it what it should
module _ {S : Type 0} (setup : Setup) (first : ℕ → S) (threads : Semantics S) (run : List Turn) (p : ℕ) (turns : List OwnTurn) (has : HasCopies setup first threads run p turns) (bar : Bar) where
  renews_into : (ended next : ℕ) → next ≡ ended + 1 → IsPlainTurn setup threads (after_run first threads run) (record { proc = p; label = Label.Cross bar next }) → (now : ℕ → ℤ) →
      ((cell : ℕ) → now cell ≡ with_newer (is_arrived (line_at setup.bindings) setup run p bar.0 ended) (memory_in setup (λ q. labels_of q run) bar.0 (ended + 1)) (newest_copy turns) cell) →
      Renews setup (memories_of setup first threads run) p (Label.Cross bar next) (newest_copy turns) now
  renews_into ended next e turn now is =
      subst
      (λ into. IsPlainTurn setup threads (after_run first threads run) (record { proc = p; label = Label.Cross bar into }) →
      Renews setup (memories_of setup first threads run) p (Label.Cross bar into) (newest_copy turns) now)
      (sym e) (λ turn. arrivals_cross (line_at setup.bindings) setup first threads run p turns has bar ended turn now is) turn

  pub crossing_renews : (epoch : ℕ) → IsPlainTurn setup threads (after_run first threads run) (record { proc = p; label = Label.Cross bar epoch }) →
      Renews setup (memories_of setup first threads run) p (Label.Cross bar epoch) (newest_copy turns) (overlaid setup.bindings (newest_copy turns) (lines_of_crossing setup run bar.0 epoch p))
  crossing_renews epoch turn =
      renews_into (epoch - 1) epoch (back epoch ((after_run first threads run).crossed p bar.0) (crosses_of setup (after_run first threads run) p _ _ bar epoch turn.is_label).is_epoch) turn
      (overlaid setup.bindings (newest_copy turns) (lines_of_crossing setup run bar.0 epoch p)) (crossing_laid setup first threads run has.is_run p bar epoch (newest_copy turns))
    where
      back : (epoch crossed : ℕ) → epoch ≡ crossed + 1 → epoch ≡ (epoch - 1) + 1
      back epoch crossed e = omega arith
