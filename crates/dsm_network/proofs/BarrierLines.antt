-- What waits at a barrier are lists of lines, and so is what its openings bring.
use Rattle.std.proofs.Common.{◌≡◌, ◌+◌, ℕ, zero, suc, Bool, true, ◌&&◌, List, [], ◌∷◌, ◌++◌, get_or, map, refl, sym, ◌∙◌, subst, inl, inr, arith}
use Rattle.std.specs.Prelude.{nat_le}
use Rattle.std.specs.List.{All, list_all, flat_map, range_with_len}
use Rattle.std.proofs.lemmas.Bool.Decides.{eqb_tells}
use Rattle.std.proofs.lemmas.List.Elements.{All-nil, All-cons, All-head, All-tail, All-append, All-map, All-weaker}
use Rattle.std.proofs.lemmas.List.Folds.{list_all-append}
use Rattle.dsm_base.specs.declared.names.Bar.{Bar}
use Rattle.dsm_base.specs.Family.{family_of, update}
use Rattle.dsm_base.proofs.Families.{update_same}
use Rattle.dsm_lines.specs.declared.list.Line.{Line}
use Rattle.dsm_lines.specs.declared.of_objects.Opening.{Opening}
use Rattle.dsm_lines.specs.LineLists.{is_line, are_lines_from, are_lines}
use Rattle.dsm_barrier.specs.declared.barrier.Barrier.{Barrier}
use Rattle.dsm_barrier.specs.declared.manager.Manager.{Manager}
use Rattle.dsm_barrier.specs.BarrierStates.{BarrierState, start_barrier, arrived_in, with_arrival, have_all_come, others_than, brought_to, lines_of_others, opening_for, openings_of, openings_due}
use Rattle.dsm_barrier.specs.Barriers.{HasLines, barrier_of, IsBarrierOf}
use Rattle.dsm_barrier.specs.Managers.{barriers_of}
use Rattle.dsm_barrier.proofs.Arriving.{oldest_has_lines}
use Rattle.dsm_barrier.proofs.Ordered.{order_rises}
use Rattle.dsm_processor.proofs.Names.{either}

-- what waits at a barrier are lists of lines
abbrev pub AllHaveLines : BarrierState → Type 0
AllHaveLines state = (p : ℕ) → All HasLines (state.waiting p)

-- Managers.

-- what holds of each item and of each default holds of each member
members_are : {A : Type 0} (P : A → Type 0) (default : ℕ → A) (items : List A) → ((k : ℕ) → P (default k)) → All P items → (k : ℕ) → P (family_of default items k)
members_are P default [] past all k = past k
members_are P default (item ∷ items) past all zero = All-head P item items all
members_are P default (item ∷ items) past all (suc k) =
    members_are P (λ j. default (suc j)) items (λ j. past (suc j)) (All-tail P item items all) k

of_barrier : (procs : ℕ) (barrier : Barrier) → IsBarrierOf procs barrier → AllHaveLines (barrier_of barrier)
of_barrier procs barrier is = members_are (All HasLines) (λ q. []) barrier.waiting.items (λ q. All-nil HasLines) is.lines

pub of_manager : (manager : Manager) (bar : ℕ) → AllHaveLines (barriers_of manager bar)
of_manager manager =
    members_are AllHaveLines (λ bar. start_barrier) (map barrier_of manager.barriers.items) (λ bar p. All-nil HasLines)
    (All-map AllHaveLines barrier_of manager.barriers.items
    (All-weaker (IsBarrierOf manager.procs) (λ barrier. AllHaveLines (barrier_of barrier)) (of_barrier manager.procs) manager.barriers.items manager.kept.each))

-- one more arrival that brings a list of lines
pub of_arrival : (barriers : ℕ → BarrierState) (bar from turn : ℕ) (lines : List Line) → AllHaveLines (barriers bar) → are_lines lines ≡ true
    → AllHaveLines (update barriers bar (with_arrival (barriers bar) from (arrived_in turn lines)) bar)
of_arrival barriers bar from turn lines waits are =
    subst AllHaveLines (sym (update_same barriers bar (with_arrival (barriers bar) from (arrived_in turn lines))))
    (λ p.
    elim (eqb_tells p from) as (λ _. All HasLines (update (barriers bar).waiting from ((barriers bar).waiting from ++ arrived_in turn lines ∷ []) p)) [
      | inl (same, _) ↦ rw same (All-append HasLines ((barriers bar).waiting from) (arrived_in turn lines ∷ []) (waits from) (All-cons HasLines (arrived_in turn lines) [] are (All-nil HasLines)))
      | inr (differs, _) ↦ rw differs (waits p)
    ])

-- Openings.

halves : (a b : Bool) → (a && b) ≡ true → (a ≡ true) × (b ≡ true)
halves a b both = (grind arith, grind arith)

joined : (a b : Bool) → a ≡ true → b ≡ true → (a && b) ≡ true
joined a b one other = grind arith

-- each of a list of lines is a line
each_line : (least : ℕ) (lines : List Line) → are_lines_from least lines ≡ true → list_all is_line lines ≡ true
each_line least [] are = refl
each_line least (line ∷ lines) are =
    let both = halves (is_line line) (nat_le least line.number && are_lines_from (line.number + 1) lines) are in
    let rest = halves (nat_le least line.number) (are_lines_from (line.number + 1) lines) both.1 in
    joined (is_line line) (list_all is_line lines) both.0 (each_line (line.number + 1) lines rest.1)

all_brought : (brought : ℕ → List Line) (processors : List ℕ) → ((p : ℕ) → are_lines (brought p) ≡ true) → list_all is_line (flat_map brought processors) ≡ true
all_brought brought [] are = refl
all_brought brought (p ∷ processors) are =
    list_all-append is_line (brought p) (flat_map brought processors)
    ∙ joined (list_all is_line (brought p)) (list_all is_line (flat_map brought processors)) (each_line 0 (brought p) (are p)) (all_brought brought processors are)

-- what the openings of a barrier bring
pub opened_lines : (procs : ℕ) (bar : Bar) (state : BarrierState) → AllHaveLines state → All (λ one. are_lines one.lines ≡ true) (openings_due procs bar state)
opened_lines procs bar state waits =
    either (All (λ one. are_lines one.lines ≡ true)) (have_all_come procs state) (openings_of procs bar state) []
    (All-map (λ (one : Opening). are_lines one.lines ≡ true) (opening_for procs bar state) (range_with_len 0 procs)
    (λ k d within. others_lines (get_or (range_with_len 0 procs) k d)))
    (All-nil (λ (one : Opening). are_lines one.lines ≡ true))
  where
    others_lines : (p : ℕ) → are_lines (lines_of_others (brought_to state) procs p) ≡ true
    others_lines p =
        order_rises (flat_map (brought_to state) (others_than procs p))
        (all_brought (brought_to state) (others_than procs p) (λ q. oldest_has_lines (state.waiting q) (waits q)))
