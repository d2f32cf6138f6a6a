-- Statements, which are taken to pieces, and what leads out of loops.
use Rattle.std.proofs.Common.{◌≡◌, ℕ, ◌+◌, ◌-◌, ℤ, pos, Bool, true, false, List, [], ◌∷◌, ◌++◌, length, drop, set, Option, Some, None, refl, sym, ap, ◌∙◌, subst, arith, append_assoc, length-append}
use Rattle.std.specs.Prelude.{if◌then◌else◌}
use Rattle.std.proofs.Math.Seq.{drop-append_seam, drop-append-add}
use Rattle.dsm_base.specs.declared.names.Fault.{Fault}
use Rattle.dsm_base.specs.declared.names.Mode.{Mode}
use Rattle.dsm_base.specs.declared.label.Want.{Want}
use Rattle.dsm_base.specs.declared.setup.Piece.{Piece}
use Rattle.dsm_base.specs.Steps.{Move, goes, asks}
use Rattle.dsm_check.specs.Resolved as r
use Rattle.dsm_values.specs.Values.{holds}
use Rattle.dsm_semantics.specs.States as t
use Rattle.dsm_semantics.specs.States.{Loop, Item, LockPlace, evaluate, test_index, store, discard, execute, run, declare, branch, round, decide, third_part, jump_back, leave, ask, take_lock, give, cross, gather, print}
use Rattle.dsm_semantics.specs.Semantics as sem
use Rattle.dsm_semantics.specs.Semantics.{lock_place_of, lock_line}
use Rattle.dsm_code.specs.declared.instruction.Instr.{Instr}
use Rattle.dsm_code.specs.declared.parts.Row.{Row}
use Rattle.dsm_code.specs.declared.parts.PrintPart.{PrintPart}
use Rattle.dsm_code.specs.Programs as prog
use Rattle.dsm_code.specs.Programs.{Program}
use Rattle.dsm_code.specs.Machine.{State, Frame, at_number, act, text_of, ready}
use Rattle.dsm_laws_code.specs.Instructions.{row, array_of, lock_target, lock_depth}
use Rattle.dsm_laws_code.specs.Expressions.{expression_code, chosen_code}
use Rattle.dsm_laws_code.specs.Statements.{print_of, statement_prints, statements_prints, initial_code, variables_code, effect_code, option_code, start_code, reaching_lock_code, parts_code, Exits, before, loop_exits, test_code, loop_code, statement_code, statements_code}
use Rattle.dsm_laws_code.specs.Programs.{ending}
use Rattle.dsm_laws_code.proofs.Places.{IsThere, Leap, there_next, there_on, there_behind, act_there, runs, no_leap, leap_same, leap_jump, leap_over}
use Rattle.dsm_laws_code.proofs.Lists.{one_place, parts_apart}
use Rattle.dsm_laws_code.proofs.Standing.{Labels, innermost, Exit, HasPrints, third_of, body_of, round_of, back_of, loop_of, InLoop, DoesStatement, DoesStatements, DoesBranch, DoesEither, DoesBack, DoesDecide, DoesThird, DoesRound, Stands, AllWaitAs, Follows}
use Rattle.dsm_laws_code.proofs.Answering.{tree, Answers, Comes, answers_from, leap_stands, here, follow, stays, goes_one, asks_one}
use Rattle.dsm_laws_code.proofs.Operands.{same_lock}
use Rattle.dsm_laws_code.proofs.Composites.{part_left, takes, skips}

-- the exits from before a part
pub exit_before : (count : ℕ) (part : List Row) (exits : Exits) (behind : List Row) (labels : List Labels) → count ≡ length part → Exit exits behind labels
    → Exit (before count exits) (part ++ behind) labels
exit_before count part exits behind labels is exit =
    let shifted : (n : ℕ) → drop (n + count) (part ++ behind) ≡ drop n behind =
    λ n. let e : n + count ≡ length part + n = omega (arith, is) in ap (λ m. drop m (part ++ behind)) e ∙ drop-append-add part behind n in
    record { loop = shifted exits.loop ∙ exit.loop; body = shifted exits.body ∙ exit.body }

-- what stands outside of the innermost loop
abbrev pub outside : List Labels → List Labels
outside [] = []
outside (labels ∷ outer) = outer

module _ (code : Program) (pieces : List Piece) where
  pub prints_front : (number : ℕ) (a b : List (List PrintPart)) → HasPrints code pieces number (a ++ b) → HasPrints code pieces number a
  prints_front number [] b h = tt
  prints_front number (parts ∷ a) b h = (h.0, prints_front (number + 1) a b h.1)

  pub prints_back : (number : ℕ) (a b : List (List PrintPart)) → HasPrints code pieces number (a ++ b) → HasPrints code pieces (number + length a) b
  prints_back number [] b h = let e : number ≡ number + length {A = List PrintPart} [] = omega arith in subst (λ n. HasPrints code pieces n b) e h
  prints_back number (parts ∷ a) b h =
      let e : number + 1 + length a ≡ number + length (parts ∷ a) = omega arith in
      subst (λ n. HasPrints code pieces n b) e (prints_back (number + 1) a b h.1)

  module _ (f : ℕ) where
    -- behind the innermost loop
    pub loop_left : (k : List Item) (labels : List Labels) (rows : List Row) → Stands code pieces f k labels rows
        → Stands code pieces f (sem.after_loop k) (outside labels) (innermost labels).loop
    loop_left [] labels rows st = (ap outside st.0, leap_same code f (innermost labels).loop ending (ap (λ l. (innermost l).loop) st.0))
    loop_left (third_part loop ∷ k) [] rows st = absurd st.2
    loop_left (third_part loop ∷ k) (labels ∷ outer) rows st = st.2.2
    loop_left (item ∷ k) labels rows st = loop_left k labels st.2.0 st.2.2

    -- behind the body of the innermost loop
    pub body_left : (k : List Item) (labels : List Labels) (rows : List Row) → Stands code pieces f k labels rows
        → Stands code pieces f (sem.after_body k) labels (innermost labels).body
    body_left [] labels rows st = (st.0, leap_same code f (innermost labels).body ending (ap (λ l. (innermost l).body) st.0))
    body_left (third_part loop ∷ k) [] rows st = absurd st.2
    body_left (third_part loop ∷ k) (labels ∷ outer) rows st = (st.0, leap_same code f labels.body st.0 st.2.0, st.2)
    body_left (item ∷ k) labels rows st = body_left k labels st.2.0 st.2.2

    -- inside of a loop, whose third part stands behind its body
    pub inside : (loop : Loop) (prints : ℕ) (k : List Item) (labels : List Labels) (behind : List Row) → InLoop code pieces f prints loop behind → Stands code pieces f k labels behind
        → Stands code pieces f (execute loop.body ∷ third_part loop ∷ k)
        (record { loop = behind; body = third_of code pieces loop ++ (back_of code pieces prints loop ∷ behind) } ∷ labels)
        (body_of code pieces prints loop ++ (third_of code pieces loop ++ (back_of code pieces prints loop ∷ behind)))
    inside loop prints k labels behind around st =
        let third = third_of code pieces loop in
        let back = back_of code pieces prints loop in
        let body = body_of code pieces prints loop in
        let tail = third ++ (back ∷ behind) in (
          body ++ tail,
          no_leap code f (body ++ tail),
          (
            tail,
            record { exits = loop_exits third; prints = prints; is = refl; exit = record { loop = drop-append-add third (back ∷ behind) 1; body = refl }; has = around.has },
            (tail, no_leap code f tail, (refl, record { prints = prints; is = refl; around = around }, st)),
          ),
        )

    pub reach_lock_at : (lock : r.LockPlace) (k : List Item) (labels : List Labels) (behind : List Row) → Stands code pieces f k labels behind
        → Stands code pieces f (sem.reaching_lock lock k) labels (reaching_lock_code pieces lock ++ behind)
    reach_lock_at (r.one_lock lock line) k labels behind st = st
    reach_lock_at (r.lock_element array index line) k labels behind st =
        let test = row 1 (Instr.TestIndex (array_of array) line) in
        let value = expression_code pieces 0 index in
        let rows = (value ++ (test ∷ [])) ++ behind in
        (rows, no_leap code f rows, (test ∷ behind, (0, append_assoc value (test ∷ []) behind), (test ∷ behind, no_leap code f (test ∷ behind), (behind, (1, refl), st))))

    pub effect_at : (e : r.Expression) (k : List Item) (labels : List Labels) (behind : List Row) → Stands code pieces f k labels behind
        → Stands code pieces f (evaluate e ∷ discard ∷ k) labels (effect_code pieces e ++ behind)
    effect_at e k labels behind st =
        let last = row 1 Instr.Discard in
        let value = expression_code pieces 0 e in
        let rows = (value ++ (last ∷ [])) ++ behind in
        (rows, no_leap code f rows, (last ∷ behind, (0, append_assoc value (last ∷ []) behind), (last ∷ behind, no_leap code f (last ∷ behind), (behind, (1, refl), st))))

    pub start_at : (start : r.ForStart) (k : List Item) (labels : List Labels) (behind : List Row) → Stands code pieces f k labels behind
        → Stands code pieces f (sem.starting start k) labels (start_code pieces start ++ behind)
    start_at r.start_nothing k labels behind st = st
    start_at (r.start_variables variables) k labels behind st =
        let rows = variables_code pieces variables ++ behind in
        (rows, no_leap code f rows, (behind, refl, st))
    start_at (r.start_expression e) k labels behind st = effect_at e k labels behind st

    pub step_at : (step : Option r.Expression) (k : List Item) (labels : List Labels) (behind : List Row) → Stands code pieces f k labels behind
        → Stands code pieces f (sem.stepping k step) labels (option_code pieces step ++ behind)
    step_at None k labels behind st = st
    step_at (Some e) k labels behind st = effect_at e k labels behind st

module _ (code : Program) (pieces : List Piece) (f : ℕ) (frames : List t.Frame) (callers : List Frame) (wait : AllWaitAs code pieces frames callers)
    (place : ℕ) (o sl ow : List ℤ) (rows : List Row) (there : IsThere code f place rows)
    (k : List Item) (labels : List Labels) (behind : List Row) (st : Stands code pieces f k labels behind) where
  abbrev c : State
  c = here code pieces f frames callers wait place o sl ow

  abbrev at : ℕ → List ℤ → List ℤ → State
  at p o₁ sl₁ = here code pieces f frames callers wait p o₁ sl₁ ow

  abbrev rest : t.State
  rest = tree k o sl frames ow

  piece : (words : List ℕ) (todo : List Item) (parts : List Row) → rows ≡ parts → Stands code pieces f todo labels parts
      → Answers code pieces words ow (goes (tree todo o sl frames ow)) c
  piece words todo parts e s = takes code pieces f frames callers wait place o sl ow rows there words todo labels parts e s

  -- a jump out of a loop
  leaves_by : (count : ℕ) (todo : List Item) (others : List Labels) (to : List Row) → rows ≡ row 0 (Instr.GoOn count) ∷ behind → drop count behind ≡ to
      → Stands code pieces f todo others to → Answers code pieces [] ow (goes (tree todo o sl frames ow)) c
  leaves_by count todo others to e past s =
      let first = leap_jump code f 0 count behind place (there ∙ e) in
      record {
        to = at first.to o sl;
        same = first.same (record { operands = o; slots = sl; outer = callers; own = ow });
        follows = follow code pieces f frames callers wait todo others first.to to o sl ow _ refl (first.there ∙ past) s;
      }

  -- a variable without a value
  pub zero_on : (number : ℕ) (others : List r.Variable) → rows ≡ row 0 (Instr.Push (pos 0)) ∷ row 1 (Instr.StoreSlot number) ∷ row 1 Instr.Discard ∷ (variables_code pieces others ++ behind)
      → Answers code pieces [] ow (goes (tree (declare others ∷ k) o (set sl number (pos 0)) frames ow)) c
  zero_on number others e =
      let x = row 0 (Instr.Push (pos 0)) in
      let y = row 1 (Instr.StoreSlot number) in
      let z = row 1 Instr.Discard in
      let more = variables_code pieces others ++ behind in
      let one = there ∙ e in
      let two = there_next code f place x (y ∷ z ∷ more) one in
      let three = there_next code f (place + 1) y (z ∷ more) two in
      record {
        to = at (place + 1 + 1 + 1) o (set sl number (pos 0));
        same =
            runs code f place x (y ∷ z ∷ more) (record { operands = o; slots = sl; outer = callers; own = ow }) (at (place + 1) (pos 0 ∷ o) sl) one refl
            ∙ runs code f (place + 1) y (z ∷ more) (record { operands = pos 0 ∷ o; slots = sl; outer = callers; own = ow }) (at (place + 1 + 1) (pos 0 ∷ o) (set sl number (pos 0))) two refl
            ∙ runs code f (place + 1 + 1) z more (record { operands = pos 0 ∷ o; slots = set sl number (pos 0); outer = callers; own = ow }) (at (place + 1 + 1 + 1) o (set sl number (pos 0))) three refl;
        follows = follow code pieces f frames callers wait (declare others ∷ k) labels (place + 1 + 1 + 1) more o (set sl number (pos 0)) ow _ refl
            (there_next code f (place + 1 + 1) z more three) (more, no_leap code f more, (behind, refl, st));
      }

  declaring_on : (number : ℕ) (initial : Option r.Expression) (others : List r.Variable)
      → rows ≡ (initial_code pieces initial ++ (row 1 (Instr.StoreSlot number) ∷ row 1 Instr.Discard ∷ variables_code pieces others)) ++ behind
      → Answers code pieces [] ow (sem.declaring (tree (declare others ∷ k) o sl frames ow) number initial) c
  declaring_on number None others e = zero_on number others e
  declaring_on number (Some a) others e =
      let value = expression_code pieces 0 a in
      let y = row 1 (Instr.StoreSlot number) in
      let z = row 1 Instr.Discard in
      let more = variables_code pieces others in
      let tail = y ∷ z ∷ (more ++ behind) in
      piece [] (evaluate a ∷ store (t.slot number) ∷ discard ∷ declare others ∷ k) (value ++ tail) (e ∙ append_assoc value (y ∷ z ∷ more) behind) (
        value ++ tail,
        no_leap code f (value ++ tail),
        (
          tail,
          (0, refl),
          (
            tail,
            no_leap code f tail,
            (
              z ∷ (more ++ behind),
              (1, refl),
              (z ∷ (more ++ behind), no_leap code f (z ∷ (more ++ behind)), (more ++ behind, (1, refl), (more ++ behind, no_leap code f (more ++ behind), (behind, refl, st)))),
            ),
          ),
        ),
      )

  pub declare_on : (variables : List r.Variable) → rows ≡ variables_code pieces variables ++ behind → Answers code pieces [] ow (sem.declaration rest variables) c
  declare_on [] e = piece [] k behind e st
  declare_on (variable ∷ others) e = declaring_on variable.slot variable.initial others e

  pub gather_on : (parts : List r.Part) (depth : ℕ) → rows ≡ parts_code pieces depth parts ++ behind → Answers code pieces [] ow (sem.gathering rest parts) c
  gather_on [] depth e = piece [] k behind e st
  gather_on (r.part_text text ∷ others) depth e =
      let more = parts_code pieces depth others ++ behind in
      piece [] (gather others ∷ k) more e (more, no_leap code f more, (behind, (depth, refl), st))
  gather_on (r.part_value a ∷ others) depth e =
      let value = expression_code pieces depth a in
      let more = parts_code pieces (depth + 1) others in
      piece [] (evaluate a ∷ gather others ∷ k) (value ++ (more ++ behind)) (e ∙ append_assoc value more behind)
      (value ++ (more ++ behind), no_leap code f (value ++ (more ++ behind)), (more ++ behind, (depth, refl), (more ++ behind, no_leap code f (more ++ behind), (behind, (depth + 1, refl), st))))

  -- loops

  pub round_on : (test step : Option r.Expression) (body : r.Statement) → let loop : Loop = record { test = test; step = step; body = body } in
      DoesRound code pieces f rows behind loop → Answers code pieces [] ow (goes (tree (sem.testing k loop test) o sl frames ow)) c
  round_on None step body d =
      let loop : Loop = record { test = None; step = step; body = body } in
      let around : InLoop code pieces f d.prints loop behind = record { head = place; there = there ∙ d.is; has = d.has } in
      let third = third_of code pieces loop in
      let back = back_of code pieces d.prints loop in
      let inner = body_of code pieces d.prints loop in
      let all = inner ++ (third ++ (back ∷ behind)) in
      stays code pieces f frames callers wait [] ow (execute body ∷ third_part loop ∷ k) (record { loop = behind; body = third ++ (back ∷ behind) } ∷ labels) place all o sl ow
      (there ∙ d.is ∙ parts_apart [] inner third back behind) (inside code pieces f loop d.prints k labels behind around st)
  round_on (Some e) step body d =
      let loop : Loop = record { test = Some e; step = step; body = body } in
      let around : InLoop code pieces f d.prints loop behind = record { head = place; there = there ∙ d.is; has = d.has } in
      let third = third_of code pieces loop in
      let back = back_of code pieces d.prints loop in
      let inner = body_of code pieces d.prints loop in
      let skip = row 1 (Instr.SkipIfZero (length inner + (length third + 1))) in
      let value = expression_code pieces 0 e in
      let tail = skip ∷ (inner ++ (third ++ (back ∷ behind))) in
      piece [] (evaluate e ∷ decide loop ∷ k) (value ++ tail)
      (d.is ∙ parts_apart (value ++ (skip ∷ [])) inner third back behind ∙ append_assoc value (skip ∷ []) (inner ++ (third ++ (back ∷ behind))))
      (value ++ tail, no_leap code f (value ++ tail), (tail, (0, refl), (tail, no_leap code f tail, (behind, record { prints = d.prints; is = refl; around = around }, st))))

  pub decide_on : (loop : Loop) → DoesDecide code pieces f rows behind loop
      → Answers code pieces [] ow (goes (tree (if holds (t.top o) then execute loop.body ∷ third_part loop ∷ k else k) (t.below o) sl frames ow)) c
  decide_on loop d =
      let third = third_of code pieces loop in
      let back = back_of code pieces d.prints loop in
      let inner = body_of code pieces d.prints loop in
      let xs = inner ++ (third ++ (back ∷ behind)) in
      skips code pieces f frames callers wait place o sl ow rows there [] 1 (length inner + (length third + 1)) xs behind
      (λ test. if test then execute loop.body ∷ third_part loop ∷ k else k) (record { loop = behind; body = third ++ (back ∷ behind) } ∷ labels) labels d.is
      (drop-append-add inner (third ++ (back ∷ behind)) (length third + 1) ∙ drop-append-add third (back ∷ behind) 1)
      (inside code pieces f loop d.prints k labels behind d.around st) st

  pub third_on : (loop : Loop) → DoesThird code pieces f rows behind loop → Answers code pieces [] ow (goes (tree (sem.stepping (jump_back loop ∷ k) loop.step) o sl frames ow)) c
  third_on loop d =
      let back = back_of code pieces d.prints loop in
      piece [] (sem.stepping (jump_back loop ∷ k) loop.step) (third_of code pieces loop ++ (back ∷ behind)) d.is
      (step_at code pieces f loop.step (jump_back loop ∷ k) labels (back ∷ behind)
      (back ∷ behind, no_leap code f (back ∷ behind), (behind, record { prints = d.prints; is = refl; around = d.around }, st)))

  pub back_on : (loop : Loop) → DoesBack code pieces f rows behind loop → Answers code pieces [] ow (asks Want.Quiet (λ answer. tree (round loop ∷ k) o sl frames ow)) c
  back_on loop d =
      let back = back_of code pieces d.prints loop in
      let whole = round_of code pieces d.prints loop in
      let count = length whole in
      let head = d.around.head in
      let all = loop_of code pieces d.prints loop ++ behind in
      let end : IsThere code f (head + count) (back ∷ behind) = there_behind code f head whole (back ∷ behind) (d.around.there ∙ append_assoc whole (back ∷ []) behind) in
      let same : place ≡ head + count = one_place place (head + count) (prog.function_at code f).rows back behind (there ∙ d.is) end in
      let begins : head ≡ place - count = omega (arith, same) in
      asks_one code pieces f frames callers wait place o sl ow [] back behind Want.Quiet (λ answer. tree (round loop ∷ k) o sl frames ow) (λ answer. at (place - count) o sl)
      (there ∙ d.is) refl refl
      (λ answer. follow code pieces f frames callers wait (round loop ∷ k) labels (place - count) all o sl ow _ refl (subst (λ p. IsThere code f p all) begins d.around.there)
      (all, no_leap code f all, (behind, record { prints = d.prints; is = refl; has = d.around.has }, st)))

  -- `if`

  pub branch_on : (body : r.Statement) → DoesBranch code pieces f labels rows behind body
      → Answers code pieces [] ow (goes (tree (sem.branching k (if holds (t.top o) then Some body else None)) (t.below o) sl frames ow)) c
  branch_on body d =
      let one = statement_code pieces d.exits d.prints body in
      skips code pieces f frames callers wait place o sl ow rows there [] 1 (length one) (one ++ behind) behind (λ test. sem.branching k (if test then Some body else None)) labels labels d.is
      (drop-append_seam one behind)
      (one ++ behind, no_leap code f (one ++ behind), (behind, record { exits = d.exits; prints = d.prints; is = refl; exit = d.exit; has = d.has }, st)) st

  pub either_on : (body other : r.Statement) → DoesEither code pieces f labels rows behind body other
      → Answers code pieces [] ow (goes (tree (sem.branching k (if holds (t.top o) then Some body else Some other)) (t.below o) sl frames ow)) c
  either_on body other d =
      let two = statement_code pieces d.exits d.others other in
      let one = statement_code pieces (before (length two + 1) d.exits) d.prints body in
      let jump = row 0 (Instr.GoOn (length two)) in
      let xs = (one ++ (jump ∷ two)) ++ behind in
      let after = jump ∷ (two ++ behind) in
      let count : length two + 1 ≡ length (jump ∷ two) = omega arith in
      skips code pieces f frames callers wait place o sl ow rows there [] 1 (length one + 1) xs (two ++ behind) (λ test. sem.branching k (if test then Some body else Some other)) labels labels d.is
      (part_left one (jump ∷ two) behind 1) (
        xs,
        no_leap code f xs,
        (
          after,
          record { exits = before (length two + 1) d.exits; prints = d.prints; is = append_assoc one (jump ∷ two) behind; exit = exit_before (length two + 1) (jump ∷ two) d.exits behind labels count d.exit; has = d.has },
          leap_stands code pieces f k labels after behind (leap_over code f 0 two behind) st,
        ),
      )
      (two ++ behind, no_leap code f (two ++ behind), (behind, record { exits = d.exits; prints = d.others; is = refl; exit = d.exit; has = d.other_has }, st))

  -- statements

  pub run_on : (statements : r.Statements) → DoesStatements code pieces f labels rows behind statements → Answers code pieces [] ow (sem.execution_of_all rest statements) c
  run_on r.none d = piece [] k behind d.is st
  run_on (r.then statement others) d =
      let more = statements_code pieces d.exits d.prints others in
      let exits = before (length more) d.exits in
      let prints = d.prints + length (statements_prints others) in
      let one = statement_code pieces exits prints statement in
      piece [] (execute statement ∷ run others ∷ k) (one ++ (more ++ behind)) (d.is ∙ append_assoc one more behind) (
        one ++ (more ++ behind),
        no_leap code f (one ++ (more ++ behind)),
        (
          more ++ behind,
          record { exits = exits; prints = prints; is = refl; exit = exit_before (length more) more d.exits behind labels refl d.exit; has = prints_back code pieces d.prints (statements_prints others) (statement_prints statement) d.has },
          (
            more ++ behind,
            no_leap code f (more ++ behind),
            (
              behind,
              record { exits = d.exits; prints = d.prints; is = refl; exit = d.exit; has = prints_front code pieces d.prints (statements_prints others) (statement_prints statement) d.has },
              st,
            ),
          ),
        ),
      )

  pub ask_on : (lock : LockPlace) (mode : Mode) (depth : ℕ)
      → rows ≡ row depth (Instr.Ask (lock_target lock) mode (lock_line lock)) ∷ row depth (Instr.Take (lock_target lock) mode (lock_line lock)) ∷ behind
      → Answers code pieces [] ow (sem.at_lock rest lock (λ l. asks (Want.Ask l mode (lock_line lock)) (λ answer. tree (take_lock lock mode ∷ k) o sl frames ow))) c
  ask_on lock mode depth e =
      let line = lock_line lock in
      let x = row depth (Instr.Ask (lock_target lock) mode line) in
      let y = row depth (Instr.Take (lock_target lock) mode line) in
      let stands : Stands code pieces f (take_lock lock mode ∷ k) labels (y ∷ behind) = (y ∷ behind, no_leap code f (y ∷ behind), (behind, (depth, refl), st)) in
      let go : ℕ → Move State = λ n. asks (Want.Ask (record { 0 = n }) mode line) (λ answer. at (place + 1) o sl) in
      of line x (y ∷ behind) (there ∙ e) stands go (sem.lock_number lock o) (ap (λ found. at_number c line found go) (same_lock lock o)) (λ n. refl) refl
    where
      of : (line : ℕ) (x : Row) (tail : List Row) → IsThere code f place (x ∷ tail) → Stands code pieces f (take_lock lock mode ∷ k) labels tail → (go : ℕ → Move State)
          → (found : Option ℕ) → act c x.instr ≡ at_number c line found go → ((n : ℕ) → go n ≡ asks (Want.Ask (record { 0 = n }) mode line) (λ answer. at (place + 1) o sl)) → text_of c x.instr ≡ []
          → Answers code pieces [] ow (sem.at_member rest line found (λ n. asks (Want.Ask (record { 0 = n }) mode line) (λ answer. tree (take_lock lock mode ∷ k) o sl frames ow))) c
      of line x tail there₁ stands go None is step_is words =
          asks_one code pieces f frames callers wait place o sl ow [] x tail (Want.Stop Fault.Index line) (λ answer. rest) (λ answer. c) there₁ is words (λ answer. tt)
      of line x tail there₁ stands go (Some n) is step_is words =
          asks_one code pieces f frames callers wait place o sl ow [] x tail (Want.Ask (record { 0 = n }) mode line) (λ answer. tree (take_lock lock mode ∷ k) o sl frames ow) (λ answer. at (place + 1) o sl)
          there₁ (is ∙ step_is n) words
          (λ answer. follow code pieces f frames callers wait (take_lock lock mode ∷ k) labels (place + 1) tail o sl ow _ refl (there_next code f place x tail there₁) stands)

  pub execute_on : (statement : r.Statement) → DoesStatement code pieces f labels rows behind statement → Answers code pieces [] ow (sem.execution rest statement) c
  execute_on (r.block body) d =
      piece [] (run body ∷ k) rows refl (rows, no_leap code f rows, (behind, record { exits = d.exits; prints = d.prints; is = d.is; exit = d.exit; has = d.has }, st))
  execute_on r.empty d = piece [] k behind d.is st
  execute_on (r.variables variables) d = piece [] (declare variables ∷ k) rows refl (rows, no_leap code f rows, (behind, d.is, st))
  execute_on (r.expression e) d = piece [] (evaluate e ∷ discard ∷ k) (effect_code pieces e ++ behind) d.is (effect_at code pieces f e k labels behind st)
  execute_on (r.when test body) d =
      let value = expression_code pieces 0 test in
      let one = statement_code pieces d.exits d.prints body in
      let skip = row 1 (Instr.SkipIfZero (length one)) in
      let tail = skip ∷ (one ++ behind) in
      piece [] (evaluate test ∷ branch body None ∷ k) (value ++ tail) (d.is ∙ append_assoc value (skip ∷ one) behind) (
        value ++ tail,
        no_leap code f (value ++ tail),
        (
          tail,
          (0, refl),
          (
            tail,
            no_leap code f tail,
            (
              behind,
              record { exits = d.exits; prints = d.prints; is = refl; exit = d.exit; has = d.has },
              st,
            ),
          ),
        ),
      )
  execute_on (r.either test body other) d =
      let value = expression_code pieces 0 test in
      let two = statement_code pieces d.exits d.prints other in
      let prints = d.prints + length (statement_prints other) in
      let one = statement_code pieces (before (length two + 1) d.exits) prints body in
      let chosen = chosen_code 1 0 one two in
      piece [] (evaluate test ∷ branch body (Some other) ∷ k) (value ++ (chosen ++ behind)) (d.is ∙ append_assoc value chosen behind) (
        value ++ (chosen ++ behind),
        no_leap code f (value ++ (chosen ++ behind)),
        (
          chosen ++ behind,
          (0, refl),
          (
            chosen ++ behind,
            no_leap code f (chosen ++ behind),
            (
              behind,
              record {
                exits = d.exits;
                prints = prints;
                others = d.prints;
                is = refl;
                exit = d.exit;
                has = prints_back code pieces d.prints (statement_prints other) (statement_prints body) d.has;
                other_has = prints_front code pieces d.prints (statement_prints other) (statement_prints body) d.has;
              },
              st,
            ),
          ),
        ),
      )
  execute_on (r.while test body) d =
      let loop : Loop = record { test = Some test; step = None; body = body } in
      piece [] (round loop ∷ k) rows refl (rows, no_leap code f rows, (behind, record { prints = d.prints; is = d.is; has = d.has }, st))
  execute_on (r.for start test step body) d =
      let loop : Loop = record { test = test; step = step; body = body } in
      let all = loop_of code pieces d.prints loop in
      piece [] (sem.starting start (round loop ∷ k)) (start_code pieces start ++ (all ++ behind)) (d.is ∙ append_assoc (start_code pieces start) all behind)
      (start_at code pieces f start (round loop ∷ k) labels (all ++ behind)
      (all ++ behind, no_leap code f (all ++ behind), (behind, record { prints = d.prints; is = refl; has = d.has }, st)))
  execute_on r.break d = leaves_by d.exits.loop (sem.after_loop k) (outside labels) (innermost labels).loop d.is d.exit.loop (loop_left code pieces f k labels behind st)
  execute_on r.continue d = leaves_by d.exits.body (sem.after_body k) labels (innermost labels).body d.is d.exit.body (body_left code pieces f k labels behind st)
  execute_on (r.return None) d =
      let x = row 0 (Instr.Push (pos 0)) in
      let y = row 1 Instr.Leave in
      goes_one code pieces f frames callers wait place o sl ow [] (leave ∷ k) labels x (y ∷ behind) (pos 0 ∷ o) sl ow (there ∙ d.is) refl
      (y ∷ behind, no_leap code f (y ∷ behind), (behind, (1, refl), st))
  execute_on (r.return (Some e)) d =
      let value = expression_code pieces 0 e in
      let y = row 1 Instr.Leave in
      piece [] (evaluate e ∷ leave ∷ k) (value ++ (y ∷ behind)) (d.is ∙ append_assoc value (y ∷ []) behind)
      (value ++ (y ∷ behind), no_leap code f (value ++ (y ∷ behind)), (y ∷ behind, (0, refl), (y ∷ behind, no_leap code f (y ∷ behind), (behind, (1, refl), st))))
  execute_on (r.acquire lock mode) d =
      let target = lock_target (lock_place_of lock) in
      let line = lock_line (lock_place_of lock) in
      let x = row (lock_depth lock) (Instr.Ask target mode line) in
      let y = row (lock_depth lock) (Instr.Take target mode line) in
      piece [] (sem.reaching_lock lock (ask (lock_place_of lock) mode ∷ k)) (reaching_lock_code pieces lock ++ (x ∷ y ∷ behind)) (d.is ∙ append_assoc (reaching_lock_code pieces lock) (x ∷ y ∷ []) behind)
      (reach_lock_at code pieces f lock (ask (lock_place_of lock) mode ∷ k) labels (x ∷ y ∷ behind)
      (x ∷ y ∷ behind, no_leap code f (x ∷ y ∷ behind), (behind, (lock_depth lock, refl), st)))
  execute_on (r.release lock) d =
      let x = row (lock_depth lock) (Instr.Give (lock_target (lock_place_of lock)) (lock_line (lock_place_of lock))) in
      piece [] (sem.reaching_lock lock (give (lock_place_of lock) ∷ k)) (reaching_lock_code pieces lock ++ (x ∷ behind)) (d.is ∙ append_assoc (reaching_lock_code pieces lock) (x ∷ []) behind)
      (reach_lock_at code pieces f lock (give (lock_place_of lock) ∷ k) labels (x ∷ behind) (x ∷ behind, no_leap code f (x ∷ behind), (behind, (lock_depth lock, refl), st)))
  execute_on (r.barrier bar) d =
      let x = row 0 (Instr.Arrive bar) in
      let y = row 0 (Instr.Cross bar) in
      asks_one code pieces f frames callers wait place o sl ow [] x (y ∷ behind) (Want.Arrive bar) (λ answer. tree (cross bar ∷ k) o sl frames ow) (λ answer. at (place + 1) o sl) (there ∙ d.is) refl refl
      (λ answer. follow code pieces f frames callers wait (cross bar ∷ k) labels (place + 1) (y ∷ behind) o sl ow _ refl (there_next code f place x (y ∷ behind) (there ∙ d.is))
      (y ∷ behind, no_leap code f (y ∷ behind), (behind, (0, refl), st)))
  execute_on (r.print parts) d =
      let values = parts_code pieces 0 parts in
      let x = row (prog.values_in (print_of parts)) (Instr.Print d.prints) in
      piece [] (gather parts ∷ print parts ∷ k) (values ++ (x ∷ behind)) (d.is ∙ append_assoc values (x ∷ []) behind) (
        values ++ (x ∷ behind),
        no_leap code f (values ++ (x ∷ behind)),
        (
          x ∷ behind,
          (0, refl),
          (
            x ∷ behind,
            no_leap code f (x ∷ behind),
            (
              behind,
              record { depth = prog.values_in (print_of parts); number = d.prints; is = refl; has = d.has.0 },
              st,
            ),
          ),
        ),
      )
