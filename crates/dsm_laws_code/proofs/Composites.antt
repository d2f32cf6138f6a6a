-- Expressions, which are taken to pieces, and jumps within them.
use Rattle.std.proofs.Common.{◌≡◌, ℕ, ◌+◌, ◌-◌, ℤ, pos, Bool, true, false, cond, List, [], ◌∷◌, ◌++◌, length, drop, Option, Some, None, refl, sym, ap, ◌∙◌, append_assoc}
use Rattle.std.specs.Prelude.{if◌then◌else◌}
use Rattle.std.proofs.Math.Seq.{drop-append_seam, drop-append-add}
use Rattle.dsm_base.specs.declared.setup.Piece.{Piece}
use Rattle.dsm_base.specs.Steps.{Move, goes, asks}
use Rattle.dsm_syntax.specs.declared.tree.BinaryOp.{BinaryOp}
use Rattle.dsm_check.specs.Resolved as r
use Rattle.dsm_values.specs.Values.{holds}
use Rattle.dsm_semantics.specs.Assignments.{operator_of}
use Rattle.dsm_semantics.specs.States as t
use Rattle.dsm_semantics.specs.States.{Item, Place, evaluate, evaluate_all, test_index, load, store, unary, step_by, binary, and_then, or_else, to_truth, choose, enter, discard}
use Rattle.dsm_semantics.specs.Semantics as sem
use Rattle.dsm_semantics.specs.Semantics.{place_of}
use Rattle.dsm_code.specs.declared.instruction.Use.{Use}
use Rattle.dsm_code.specs.declared.instruction.Instr.{Instr}
use Rattle.dsm_code.specs.declared.parts.Row.{Row}
use Rattle.dsm_code.specs.Instructions as ins
use Rattle.dsm_code.specs.Programs.{Program}
use Rattle.dsm_code.specs.Machine.{State, Frame, act, ready}
use Rattle.dsm_laws_code.specs.Instructions.{row, array_of, loading, storing, depth_at}
use Rattle.dsm_laws_code.specs.Expressions.{second_depth, and_code, or_code, second_code, chosen_code, assigned_depth, assigning_code, count_of, reaching_code, expression_code, arguments_code}
use Rattle.dsm_laws_code.proofs.Places.{IsThere, Leap, there_next, there_on, runs, no_leap, leap_jump, leap_over}
use Rattle.dsm_laws_code.proofs.Standing.{Labels, Stands, AllWaitAs}
use Rattle.dsm_laws_code.proofs.Answering.{tree, Answers, Comes, answers_from, leap_stands, here, follow, stays}
use Rattle.dsm_laws_code.proofs.Operands.{same_top, same_below}
use Rattle.dsm_laws_code.proofs.Singles.{push_on}

module _ (code : Program) (pieces : List Piece) (f : ℕ) (labels : List Labels) where
  -- what is put in front of what stands already

  pub reach_at : (location : r.Location) (depth : ℕ) (k : List Item) (behind : List Row) → Stands code pieces f k labels behind
      → Stands code pieces f (sem.reaching location k) labels (reaching_code pieces depth location ++ behind)
  reach_at (r.variable number) depth k behind st = st
  reach_at (r.cell sharing number line) depth k behind st = st
  reach_at (r.element sharing array index line) depth k behind st =
      let test = row (depth + 1) (Instr.TestIndex (array_of array) line) in
      let value = expression_code pieces depth index in
      let rows = (value ++ (test ∷ [])) ++ behind in
      (rows, no_leap code f rows, (test ∷ behind, (depth, append_assoc value (test ∷ []) behind), (test ∷ behind, no_leap code f (test ∷ behind), (behind, (depth + 1, refl), st))))

  second_at : (op : BinaryOp) (line depth : ℕ) (b : r.Expression) (k : List Item) (behind : List Row) → Stands code pieces f k labels behind
      → Stands code pieces f (sem.second op line b k) labels (second_code op line depth (expression_code pieces (second_depth op depth) b) ++ behind)
  second_at BinaryOp.And line depth b k behind st =
      let rows = and_code depth (expression_code pieces depth b) ++ behind in
      (rows, no_leap code f rows, (behind, (depth, refl), st))
  second_at BinaryOp.Or line depth b k behind st =
      let rows = or_code depth (expression_code pieces depth b) ++ behind in
      (rows, no_leap code f rows, (behind, (depth, refl), st))
  second_at op line depth b k behind st =
      let both = row (depth + 2) (Instr.Binary op line) in
      let value = expression_code pieces (depth + 1) b in
      let rows = (value ++ (both ∷ [])) ++ behind in
      (rows, no_leap code f rows, (both ∷ behind, (depth + 1, append_assoc value (both ∷ []) behind), (both ∷ behind, no_leap code f (both ∷ behind), (behind, (depth + 2, refl), st))))

  assigning_at : (op : Option BinaryOp) (line depth : ℕ) (place : Place) (e : r.Expression) (k : List Item) (behind : List Row) → Stands code pieces f k labels behind
      → Stands code pieces f (sem.assigning op line place e k) labels
      (assigning_code op line depth (loading place Use.Change) (storing pieces place) (expression_code pieces (assigned_depth op depth) e) ++ behind)
  assigning_at None line depth place e k behind st =
      let last = row (depth + 1) (storing pieces place) in
      let value = expression_code pieces depth e in
      let rows = (value ++ (last ∷ [])) ++ behind in
      (rows, no_leap code f rows, (last ∷ behind, (depth, append_assoc value (last ∷ []) behind), (last ∷ behind, no_leap code f (last ∷ behind), (behind, (depth + 1, refl), st))))
  assigning_at (Some op) line depth place e k behind st =
      let first = row depth (loading place Use.Change) in
      let both = row (depth + 2) (Instr.Binary op line) in
      let last = row (depth + 1) (storing pieces place) in
      let value = expression_code pieces (depth + 1) e in
      let second = (value ++ (both ∷ last ∷ [])) ++ behind in
      let rows = first ∷ second in (
        rows,
        no_leap code f rows,
        (
          second,
          (depth, refl),
          (
            second,
            no_leap code f second,
            (
              both ∷ last ∷ behind,
              (depth + 1, append_assoc value (both ∷ last ∷ []) behind),
              (
                both ∷ last ∷ behind,
                no_leap code f (both ∷ last ∷ behind),
                (
                  last ∷ behind,
                  (depth + 2, refl),
                  (last ∷ behind, no_leap code f (last ∷ behind), (behind, (depth + 1, refl), st)),
                ),
              ),
            ),
          ),
        ),
      )

-- what is left behind a part and some more
pub part_left : (part more : List Row) (behind : List Row) (n : ℕ) → drop (length part + n) ((part ++ more) ++ behind) ≡ drop n (more ++ behind)
part_left part more behind n = ap (drop (length part + n)) (append_assoc part more behind) ∙ drop-append-add part (more ++ behind) n

module _ (code : Program) (pieces : List Piece) (f : ℕ) (frames : List t.Frame) (callers : List Frame) (wait : AllWaitAs code pieces frames callers)
    (place : ℕ) (o sl ow : List ℤ) (rows : List Row) (there : IsThere code f place rows) where
  abbrev c : State
  c = here code pieces f frames callers wait place o sl ow

  abbrev at : ℕ → List ℤ → State
  at p o₁ = here code pieces f frames callers wait p o₁ sl ow

  pub takes : (words : List ℕ) (k : List Item) (labels : List Labels) (parts : List Row) → rows ≡ parts → Stands code pieces f k labels parts
      → Answers code pieces words ow (goes (tree k o sl frames ow)) c
  takes words k labels parts e st = stays code pieces f frames callers wait words ow k labels place parts o sl ow (there ∙ e) st

  -- a skip leads behind itself, or so many instructions further
  skip_runs : (depth count : ℕ) (xs : List Row) (test : Bool) → rows ≡ row depth (Instr.SkipIfZero count) ∷ xs → holds (t.top o) ≡ test
      → ready c ≡ ready (at (if test then place + 1 else place + 1 + count) (t.below o))
  skip_runs depth count xs test e is =
      let to : Bool → List ℤ → State = λ b l. at (if b then place + 1 else place + 1 + count) l in
      let same : holds (ins.top o) ≡ test = ap holds (same_top o) ∙ is in
      runs code f place (row depth (Instr.SkipIfZero count)) xs (record { operands = o; slots = sl; outer = callers; own = ow }) (to test (t.below o)) (there ∙ e)
      (λ i. goes (to (same i) (same_below o i)))

  pub skips : (words : List ℕ) (depth count : ℕ) (xs ys : List Row) (todo : Bool → List Item) (labels others : List Labels) → rows ≡ row depth (Instr.SkipIfZero count) ∷ xs
      → drop count xs ≡ ys → Stands code pieces f (todo true) labels xs → Stands code pieces f (todo false) others ys
      → Answers code pieces words ow (goes (tree (todo (holds (t.top o))) (t.below o) sl frames ow)) c
  skips words depth count xs ys todo labels others e past one other = of (holds (t.top o)) refl
    where
      of : (test : Bool) → holds (t.top o) ≡ test → Comes code pieces (tree (todo test) (t.below o) sl frames ow) c
      of true is = record {
        to = at (place + 1) (t.below o);
        same = skip_runs depth count xs true e is;
        follows = follow code pieces f frames callers wait (todo true) labels (place + 1) xs (t.below o) sl ow _ refl (there_next code f place (row depth (Instr.SkipIfZero count)) xs (there ∙ e)) one;
      }
      of false is = record {
        to = at (place + 1 + count) (t.below o);
        same = skip_runs depth count xs false e is;
        follows = follow code pieces f frames callers wait (todo false) others (place + 1 + count) ys (t.below o) sl ow _ refl
            (there_on code f (place + 1) count xs (there_next code f place (row depth (Instr.SkipIfZero count)) xs (there ∙ e)) ∙ past) other;
      }

  module _ (k : List Item) (labels : List Labels) (behind : List Row) (st : Stands code pieces f k labels behind) where
    abbrev rest : t.State
    rest = tree k o sl frames ow

    pub evaluate_on : (e : r.Expression) (depth : ℕ) → rows ≡ expression_code pieces depth e ++ behind → Answers code pieces [] ow (sem.evaluation rest e) c
    evaluate_on (r.number n) depth e = push_on code pieces f frames callers wait place o sl ow k labels rows behind there st n (depth, e)
    evaluate_on (r.load location) depth e =
        let first = reaching_code pieces depth location in
        let last = row (depth_at depth location) (loading (place_of location) Use.Value) in
        takes [] _ labels (first ++ (last ∷ behind)) (e ∙ append_assoc first (last ∷ []) behind)
        (reach_at code pieces f labels location depth _ (last ∷ behind) (last ∷ behind, no_leap code f (last ∷ behind), (behind, (depth_at depth location, refl), st)))
    evaluate_on (r.call function arguments line) depth e =
        let first = arguments_code pieces depth arguments in
        let last = row (depth + count_of arguments) (Instr.Enter function line) in
        takes [] _ labels (first ++ (last ∷ behind)) (e ∙ append_assoc first (last ∷ []) behind) (
          first ++ (last ∷ behind),
          no_leap code f (first ++ (last ∷ behind)),
          (
            last ∷ behind,
            (depth, refl),
            (last ∷ behind, no_leap code f (last ∷ behind), (behind, (depth + count_of arguments, refl), st)),
          ),
        )
    evaluate_on (r.unary op line a) depth e =
        let first = expression_code pieces depth a in
        let last = row (depth + 1) (Instr.Unary op line) in
        takes [] _ labels (first ++ (last ∷ behind)) (e ∙ append_assoc first (last ∷ []) behind)
        (first ++ (last ∷ behind), no_leap code f (first ++ (last ∷ behind)), (last ∷ behind, (depth, refl), (last ∷ behind, no_leap code f (last ∷ behind), (behind, (depth + 1, refl), st))))
    evaluate_on (r.prefix op line location) depth e =
        let place₁ = place_of location in
        let at₁ = depth_at depth location in
        let first = reaching_code pieces depth location in
        let x = row at₁ (loading place₁ Use.Change) in
        let y = row (at₁ + 1) (Instr.StepBy op line) in
        let z = row (at₁ + 1) (storing pieces place₁) in
        takes [] _ labels (first ++ (x ∷ y ∷ z ∷ behind)) (e ∙ append_assoc first (x ∷ y ∷ z ∷ []) behind)
        (reach_at code pieces f labels location depth _ (x ∷ y ∷ z ∷ behind) (
          x ∷ y ∷ z ∷ behind,
          no_leap code f (x ∷ y ∷ z ∷ behind),
          (
            y ∷ z ∷ behind,
            (at₁, refl),
            (
              y ∷ z ∷ behind,
              no_leap code f (y ∷ z ∷ behind),
              (
                z ∷ behind,
                (at₁ + 1, refl),
                (z ∷ behind, no_leap code f (z ∷ behind), (behind, (at₁ + 1, refl), st)),
              ),
            ),
          ),
        ))
    evaluate_on (r.postfix location op line) depth e =
        let place₁ = place_of location in
        let at₁ = depth_at depth location in
        let first = reaching_code pieces depth location in
        let x = row at₁ (loading place₁ Use.StepBehind) in
        let y = row (at₁ + 2) (Instr.StepBy op line) in
        let z = row (at₁ + 2) (storing pieces place₁) in
        let w = row (depth + 2) Instr.Discard in
        takes [] _ labels (first ++ (x ∷ y ∷ z ∷ w ∷ behind)) (e ∙ append_assoc first (x ∷ y ∷ z ∷ w ∷ []) behind)
        (reach_at code pieces f labels location depth _ (x ∷ y ∷ z ∷ w ∷ behind) (
          x ∷ y ∷ z ∷ w ∷ behind,
          no_leap code f (x ∷ y ∷ z ∷ w ∷ behind),
          (
            y ∷ z ∷ w ∷ behind,
            (at₁, refl),
            (
              y ∷ z ∷ w ∷ behind,
              no_leap code f (y ∷ z ∷ w ∷ behind),
              (
                z ∷ w ∷ behind,
                (at₁ + 2, refl),
                (
                  z ∷ w ∷ behind,
                  no_leap code f (z ∷ w ∷ behind),
                  (
                    w ∷ behind,
                    (at₁ + 2, refl),
                    (w ∷ behind, no_leap code f (w ∷ behind), (behind, (depth + 2, refl), st)),
                  ),
                ),
              ),
            ),
          ),
        ))
    evaluate_on (r.binary a op line b) depth e =
        let first = expression_code pieces depth a in
        let second = second_code op line depth (expression_code pieces (second_depth op depth) b) in
        takes [] _ labels (first ++ (second ++ behind)) (e ∙ append_assoc first second behind)
        (first ++ (second ++ behind), no_leap code f (first ++ (second ++ behind)), (second ++ behind, (depth, refl), second_at code pieces f labels op line depth b k behind st))
    evaluate_on (r.choice test a b) depth e =
        let first = expression_code pieces depth test in
        let second = chosen_code (depth + 1) (depth + 1) (expression_code pieces depth a) (expression_code pieces depth b) in
        takes [] _ labels (first ++ (second ++ behind)) (e ∙ append_assoc first second behind) (
          first ++ (second ++ behind),
          no_leap code f (first ++ (second ++ behind)),
          (
            second ++ behind,
            (depth, refl),
            (second ++ behind, no_leap code f (second ++ behind), (behind, (depth, refl), st)),
          ),
        )
    evaluate_on (r.assign location op line a) depth e =
        let at₁ = depth_at depth location in
        let first = reaching_code pieces depth location in
        let second = assigning_code (operator_of op) line at₁ (loading (place_of location) Use.Change) (storing pieces (place_of location)) (expression_code pieces (assigned_depth (operator_of op) at₁) a) in
        takes [] _ labels (first ++ (second ++ behind)) (e ∙ append_assoc first second behind)
        (reach_at code pieces f labels location depth _ (second ++ behind) (assigning_at code pieces f labels (operator_of op) line at₁ (place_of location) a k behind st))

    pub evaluate_all_on : (arguments : r.Expressions) (depth : ℕ) → rows ≡ arguments_code pieces depth arguments ++ behind → Answers code pieces [] ow (sem.evaluation_of_all rest arguments) c
    evaluate_all_on r.nil depth e = takes [] k labels behind e st
    evaluate_all_on (r.cons a others) depth e =
        let first = expression_code pieces depth a in
        let second = arguments_code pieces (depth + 1) others in
        takes [] _ labels (first ++ (second ++ behind)) (e ∙ append_assoc first second behind) (
          first ++ (second ++ behind),
          no_leap code f (first ++ (second ++ behind)),
          (
            second ++ behind,
            (depth, refl),
            (second ++ behind, no_leap code f (second ++ behind), (behind, (depth + 1, refl), st)),
          ),
        )

    pub and_then_on : (functions : List r.Function) (b : r.Expression) (depth : ℕ) → rows ≡ and_code depth (expression_code pieces depth b) ++ behind
        → Answers code pieces [] ow (sem.act functions rest (and_then b)) c
    and_then_on functions b depth e = of (holds (t.top o)) refl
      where
        of : (test : Bool) → holds (t.top o) ≡ test
            → Answers code pieces [] ow (if test then goes (tree (evaluate b ∷ to_truth ∷ k) (t.below o) sl frames ow) else goes (tree k (pos 0 ∷ t.below o) sl frames ow)) c
        of true is =
            let value = expression_code pieces depth b in
            let x = row (depth + 1) Instr.ToTruth in
            let y = row (depth + 1) (Instr.GoOn 1) in
            let z = row depth (Instr.Push (pos 0)) in
            let xs = (value ++ (x ∷ y ∷ z ∷ [])) ++ behind in
            let skip = row (depth + 1) (Instr.SkipIfZero (length value + 2)) in
            record {
              to = at (place + 1) (t.below o);
              same = skip_runs (depth + 1) (length value + 2) xs true e is;
              follows = follow code pieces f frames callers wait (evaluate b ∷ to_truth ∷ k) labels (place + 1) xs (t.below o) sl ow _ refl (there_next code f place skip xs (there ∙ e)) (
                xs,
                no_leap code f xs,
                (
                  x ∷ y ∷ z ∷ behind,
                  (depth, append_assoc value (x ∷ y ∷ z ∷ []) behind),
                  (
                    x ∷ y ∷ z ∷ behind,
                    no_leap code f (x ∷ y ∷ z ∷ behind),
                    (
                      y ∷ z ∷ behind,
                      (depth + 1, refl),
                      leap_stands code pieces f k labels (y ∷ z ∷ behind) behind (leap_jump code f (depth + 1) 1 (z ∷ behind)) st,
                    ),
                  ),
                ),
              );
            }
        of false is =
            let value = expression_code pieces depth b in
            let x = row (depth + 1) Instr.ToTruth in
            let y = row (depth + 1) (Instr.GoOn 1) in
            let z = row depth (Instr.Push (pos 0)) in
            let xs = (value ++ (x ∷ y ∷ z ∷ [])) ++ behind in
            let skip = row (depth + 1) (Instr.SkipIfZero (length value + 2)) in
            let past = there_on code f (place + 1) (length value + 2) xs (there_next code f place skip xs (there ∙ e)) ∙ part_left value (x ∷ y ∷ z ∷ []) behind 2 in
            answers_from code pieces [] ow (goes (tree k (pos 0 ∷ t.below o) sl frames ow)) c (at (place + 1 + (length value + 2)) (t.below o)) (skip_runs (depth + 1) (length value + 2) xs false e is)
            (push_on code pieces f frames callers wait (place + 1 + (length value + 2)) (t.below o) sl ow k labels (z ∷ behind) behind past st (pos 0) (depth, refl))

    pub or_else_on : (functions : List r.Function) (b : r.Expression) (depth : ℕ) → rows ≡ or_code depth (expression_code pieces depth b) ++ behind
        → Answers code pieces [] ow (sem.act functions rest (or_else b)) c
    or_else_on functions b depth e = of (holds (t.top o)) refl
      where
        of : (test : Bool) → holds (t.top o) ≡ test
            → Answers code pieces [] ow (if test then goes (tree k (pos 1 ∷ t.below o) sl frames ow) else goes (tree (evaluate b ∷ to_truth ∷ k) (t.below o) sl frames ow)) c
        of true is =
            let value = expression_code pieces depth b in
            let x = row depth (Instr.Push (pos 1)) in
            let y = row (depth + 1) (Instr.GoOn (length value + 1)) in
            let z = row (depth + 1) Instr.ToTruth in
            let tail = (value ++ (z ∷ [])) ++ behind in
            let xs = x ∷ y ∷ tail in
            let skip = row (depth + 1) (Instr.SkipIfZero 2) in
            let leap : Leap code f (y ∷ tail) behind = λ p there₁.
            let first = leap_jump code f (depth + 1) (length value + 1) tail p there₁ in
            record { to = first.to; there = first.there ∙ part_left value (z ∷ []) behind 1; same = first.same } in
            answers_from code pieces [] ow (goes (tree k (pos 1 ∷ t.below o) sl frames ow)) c (at (place + 1) (t.below o)) (skip_runs (depth + 1) 2 xs true e is)
            (push_on code pieces f frames callers wait (place + 1) (t.below o) sl ow k labels xs (y ∷ tail) (there_next code f place skip xs (there ∙ e))
            (leap_stands code pieces f k labels (y ∷ tail) behind leap st) (pos 1) (depth, refl))
        of false is =
            let value = expression_code pieces depth b in
            let x = row depth (Instr.Push (pos 1)) in
            let y = row (depth + 1) (Instr.GoOn (length value + 1)) in
            let z = row (depth + 1) Instr.ToTruth in
            let tail = (value ++ (z ∷ [])) ++ behind in
            let xs = x ∷ y ∷ tail in
            let skip = row (depth + 1) (Instr.SkipIfZero 2) in
            record {
              to = at (place + 1 + 2) (t.below o);
              same = skip_runs (depth + 1) 2 xs false e is;
              follows = follow code pieces f frames callers wait (evaluate b ∷ to_truth ∷ k) labels (place + 1 + 2) tail (t.below o) sl ow _ refl
                  (there_on code f (place + 1) 2 xs (there_next code f place skip xs (there ∙ e)))
                  (tail, no_leap code f tail, (z ∷ behind, (depth, append_assoc value (z ∷ []) behind), (z ∷ behind, no_leap code f (z ∷ behind), (behind, (depth + 1, refl), st))));
            }

    pub choose_on : (a b : r.Expression) (depth : ℕ) → rows ≡ chosen_code (depth + 1) (depth + 1) (expression_code pieces depth a) (expression_code pieces depth b) ++ behind
        → Answers code pieces [] ow (goes (tree (evaluate (if holds (t.top o) then a else b) ∷ k) (t.below o) sl frames ow)) c
    choose_on a b depth e =
        let one = expression_code pieces depth a in
        let other = expression_code pieces depth b in
        let jump = row (depth + 1) (Instr.GoOn (length other)) in
        let xs = (one ++ (jump ∷ other)) ++ behind in
        skips [] (depth + 1) (length one + 1) xs (other ++ behind) (λ test. evaluate (if test then a else b) ∷ k) labels labels e (part_left one (jump ∷ other) behind 1) (
          xs,
          no_leap code f xs,
          (
            jump ∷ (other ++ behind),
            (depth, append_assoc one (jump ∷ other) behind),
            leap_stands code pieces f k labels (jump ∷ (other ++ behind)) behind (leap_over code f (depth + 1) other behind) st,
          ),
        )
        (other ++ behind, no_leap code f (other ++ behind), (behind, (depth, refl), st))
