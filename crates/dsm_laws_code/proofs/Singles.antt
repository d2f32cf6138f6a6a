-- Items that are one instruction, and the two of a lock.
use Rattle.std.proofs.Common.{◌≡◌, ℕ, ◌+◌, ◌-◌, ℤ, pos, List, [], ◌∷◌, ◌++◌, Option, Some, None, Ok, Err, refl, sym, ap, ◌∙◌, drop, take, reverse, set, get_or}
use Rattle.dsm_base.specs.declared.names.Bar.{Bar}
use Rattle.dsm_base.specs.declared.names.Mode.{Mode}
use Rattle.dsm_base.specs.declared.names.Fault.{Fault}
use Rattle.dsm_base.specs.declared.label.Want.{Want}
use Rattle.dsm_base.specs.declared.setup.Piece.{Piece}
use Rattle.dsm_base.specs.Steps.{Move, goes, asks}
use Rattle.dsm_syntax.specs.declared.tree.UnaryOp.{UnaryOp}
use Rattle.dsm_syntax.specs.declared.tree.StepOp.{StepOp}
use Rattle.dsm_syntax.specs.declared.tree.BinaryOp.{BinaryOp}
use Rattle.dsm_syntax.specs.declared.tree.Sharing.{Sharing}
use Rattle.dsm_check.specs.declared.resolved.Array as check
use Rattle.dsm_check.specs.Resolved as r
use Rattle.dsm_values.specs.Values.{Outcome, holds, truth, unary_value, step_value, binary_value}
use Rattle.dsm_semantics.specs.States as t
use Rattle.dsm_semantics.specs.States.{Item, Place, slot, cell, member, LockPlace, take_lock}
use Rattle.dsm_semantics.specs.Semantics as sem
use Rattle.dsm_code.specs.declared.instruction.Target.{Target}
use Rattle.dsm_code.specs.declared.instruction.Use.{Use}
use Rattle.dsm_code.specs.declared.instruction.Instr.{Instr}
use Rattle.dsm_code.specs.declared.parts.Row.{Row}
use Rattle.dsm_code.specs.declared.parts.PrintPart.{PrintPart}
use Rattle.dsm_code.specs.Instructions as ins
use Rattle.dsm_code.specs.Programs as prog
use Rattle.dsm_code.specs.Programs.{Program}
use Rattle.dsm_code.specs.Machine.{State, Frame, onward, comes_to, at_number, after_load, act, step, ready, text, text_of}
use Rattle.dsm_laws_code.specs.Instructions.{row, array_of, use_of, bound_of, loading, storing, lock_target}
use Rattle.dsm_laws_code.specs.Statements.{print_of}
use Rattle.dsm_laws_code.proofs.Places.{IsThere, there_next}
use Rattle.dsm_laws_code.proofs.Standing.{Labels, Stands, AllWaitAs, Follows, DoesPrint}
use Rattle.dsm_laws_code.proofs.Standing as standing
use Rattle.dsm_laws_code.proofs.Places.{no_leap}
use Rattle.dsm_laws_code.proofs.Answering.{tree, Continues, Answers, here, follow, goes_one, asks_one}
use Rattle.dsm_laws_code.proofs.Operands.{same_top, same_below, same_member, same_second, same_rest, same_stored_member, same_loaded, same_lock, same_lock_rest, same_count, same_text}

module _ (code : Program) (pieces : List Piece) (f : ℕ) (frames : List t.Frame) (callers : List Frame) (wait : AllWaitAs code pieces frames callers)
    (place : ℕ) (o sl ow : List ℤ) (k : List Item) (labels : List Labels) (rows behind : List Row)
    (there : IsThere code f place rows) (st : Stands code pieces f k labels behind) where
  -- where the thread of code is, where it is behind the instruction, and what the tree leaves
  abbrev c : State
  c = here code pieces f frames callers wait place o sl ow

  abbrev on : List ℤ → List ℤ → List ℤ → State
  on o₁ sl₁ ow₁ = here code pieces f frames callers wait (place + 1) o₁ sl₁ ow₁

  abbrev rest : t.State
  rest = tree k o sl frames ow

  abbrev One : Instr → Type 0
  One instr = (depth : ℕ) × (rows ≡ row depth instr ∷ behind)

  pub goes_on : (words : List ℕ) (instr : Instr) → One instr → (o₁ sl₁ ow₁ : List ℤ) → act c instr ≡ goes (on o₁ sl₁ ow₁) → Answers code pieces words ow (goes (tree k o₁ sl₁ frames ow₁)) c
  goes_on words instr d o₁ sl₁ ow₁ e = goes_one code pieces f frames callers wait place o sl ow words k labels (row d.0 instr) behind o₁ sl₁ ow₁ (there ∙ d.1) e st

  pub asks_it : (words : List ℕ) (instr : Instr) → One instr → (want : Want) (after : ℤ → t.State) (then : ℤ → State) → act c instr ≡ asks want then → text_of c instr ≡ words
      → ((answer : ℤ) → Continues code pieces want (after answer) (then answer)) → Answers code pieces words ow (asks want after) c
  asks_it words instr d want after then e same next =
      asks_one code pieces f frames callers wait place o sl ow words (row d.0 instr) behind want after then (there ∙ d.1) e same next

  pub next_is : (instr : Instr) → One instr → (o₁ sl₁ ow₁ : List ℤ) (to : State) → to ≡ on o₁ sl₁ ow₁ → Follows code pieces (tree k o₁ sl₁ frames ow₁) to
  next_is instr d o₁ sl₁ ow₁ to e =
      follow code pieces f frames callers wait k labels (place + 1) behind o₁ sl₁ ow₁ to e (there_next code f place (row d.0 instr) behind (there ∙ d.1)) st

  pub stops : (words : List ℕ) (instr : Instr) → One instr → (fault : Fault) (line : ℕ) (after : ℤ → t.State) (then : ℤ → State) → act c instr ≡ asks (Want.Stop fault line) then
      → text_of c instr ≡ words → Answers code pieces words ow (asks (Want.Stop fault line) after) c
  stops words instr d fault line after then e same = asks_it words instr d (Want.Stop fault line) after then e same (λ answer. tt)

  -- with a number, or a fault
  pub found_on : (words : List ℕ) (instr : Instr) → One instr → (line : ℕ) (found : Option ℕ) (go : ℕ → Move t.State) (go₁ : ℕ → Move State) → act c instr ≡ at_number c line found go₁
      → text_of c instr ≡ words → ((n : ℕ) → act c instr ≡ go₁ n → Answers code pieces words ow (go n) c) → Answers code pieces words ow (sem.at_member rest line found go) c
  found_on words instr d line None go go₁ e same h = stops words instr d Fault.Index line (λ answer. rest) (λ answer. c) e same
  found_on words instr d line (Some n) go go₁ e same h = h n e

  -- with a value, or a fault
  pub outcome_on : (instr : Instr) → One instr → (line : ℕ) (left_over : List ℤ) (outcome : Outcome) → act c instr ≡ comes_to c left_over line outcome → text_of c instr ≡ []
      → Answers code pieces [] ow (sem.comes_to rest left_over line outcome) c
  outcome_on instr d line left_over (Ok value) e same = goes_on [] instr d (value ∷ left_over) sl ow e
  outcome_on instr d line left_over (Err fault) e same = stops [] instr d fault line (λ answer. rest) (λ answer. c) e same

  pub push_on : (n : ℤ) → One (Instr.Push n) → Answers code pieces [] ow (sem.leaves rest o n) c
  push_on n d = goes_on [] (Instr.Push n) d (n ∷ o) sl ow refl

  pub test_index_on : (array : check.Array) (line : ℕ) → One (Instr.TestIndex (array_of array) line)
      → Answers code pieces [] ow (sem.at_member rest line (sem.member_number array (t.top o)) (λ number. goes rest)) c
  test_index_on array line d =
      found_on [] (Instr.TestIndex (array_of array) line) d line (sem.member_number array (t.top o)) (λ number. goes rest) (λ n. goes (on o sl ow))
      (ap (λ found. at_number c line found (λ n. goes (on o sl ow))) (same_member array o)) refl (λ n e. goes_on [] _ d o sl ow e)

  member_loaded : (array : check.Array) (way : t.Use) (v : ℤ) → after_load c (Target.Member (array_of array)) (use_of way) v ≡ on (sem.loaded way (t.top o ∷ []) (t.below o) v) sl ow
  member_loaded array way v =
      (λ i. on (ins.loaded (use_of way) (same_top o i ∷ []) (same_below o i) v) sl ow) ∙ ap (λ l. on l sl ow) (same_loaded way (t.top o ∷ []) (t.below o) v)

  pub load_on : (from : Place) (way : t.Use) → One (loading from (use_of way)) → Answers code pieces [] ow (sem.load_at rest way from) c
  load_on (slot n) way d =
      goes_on [] (Instr.LoadSlot n (use_of way)) d (sem.loaded way [] o (get_or sl n (pos 0))) sl ow (ap (λ l. goes (on l sl ow)) (same_loaded way [] o (get_or sl n (pos 0))))
  load_on (cell Sharing.Shared n line) way d =
      asks_it [] (Instr.Load (Target.One n) (use_of way) line) d (Want.Load (record { 0 = n }) line) (λ v. record rest { operands = sem.loaded way [] o v })
      (after_load c (Target.One n) (use_of way)) refl refl
      (λ v. next_is _ d (sem.loaded way [] o v) sl ow _ (ap (λ l. on l sl ow) (same_loaded way [] o v)))
  load_on (cell Sharing.Private n line) way d =
      goes_on [] (Instr.LoadOwn (Target.One n) (use_of way) line) d (sem.loaded way [] o (get_or ow n (pos 0))) sl ow
      (ap (λ l. goes (on l sl ow)) (same_loaded way [] o (get_or ow n (pos 0))))
  load_on (member Sharing.Shared array line) way d =
      let target = Target.Member (array_of array) in
      let go : ℕ → Move State = λ n. asks (Want.Load (record { 0 = n }) line) (after_load c target (use_of way)) in
      found_on [] (Instr.Load target (use_of way) line) d line (sem.member_number array (t.top o)) _ go
      (ap (λ found. at_number c line found go) (same_member array o)) refl
      (λ n e. asks_it [] _ d (Want.Load (record { 0 = n }) line) (λ v. record rest { operands = sem.loaded way (t.top o ∷ []) (t.below o) v }) (after_load c target (use_of way)) e refl
      (λ v. next_is _ d (sem.loaded way (t.top o ∷ []) (t.below o) v) sl ow _ (member_loaded array way v)))
  load_on (member Sharing.Private array line) way d =
      let target = Target.Member (array_of array) in
      let go : ℕ → Move State = λ n. goes (after_load c target (use_of way) (get_or ow n (pos 0))) in
      found_on [] (Instr.LoadOwn target (use_of way) line) d line (sem.member_number array (t.top o)) _ go
      (ap (λ found. at_number c line found go) (same_member array o)) refl
      (λ n e. goes_on [] _ d (sem.loaded way (t.top o ∷ []) (t.below o) (get_or ow n (pos 0))) sl ow (e ∙ ap goes (member_loaded array way (get_or ow n (pos 0)))))

  pub store_on : (to : Place) → One (storing pieces to) → Answers code pieces [] ow (sem.store_at rest to) c
  store_on (slot n) d = goes_on [] (Instr.StoreSlot n) d o (set sl n (t.top o)) ow (ap (λ v. goes (on o (set sl n v) ow)) (same_top o))
  store_on (cell Sharing.Shared n line) d =
      asks_it [] (Instr.Store (Target.One n) (bound_of pieces n) line) d (Want.Store (record { 0 = n }) (t.top o) line) (λ answer. rest) (λ answer. on o sl ow)
      (ap (λ v. asks (Want.Store (record { 0 = n }) v line) (λ answer. on o sl ow)) (same_top o)) refl (λ answer. next_is _ d o sl ow _ refl)
  store_on (cell Sharing.Private n line) d =
      goes_on [] (Instr.StoreOwn (Target.One n) line) d o sl (set ow n (t.top o)) (ap (λ v. goes (on o sl (set ow n v))) (same_top o))
  store_on (member Sharing.Shared array line) d =
      let target = Target.Member (array_of array) in
      let go : ℕ → Move State = λ n. asks (Want.Store (record { 0 = n }) (ins.top o) line) (λ answer. on (ins.top o ∷ ins.below (ins.below o)) sl ow) in
      let left_over : List ℤ = t.top o ∷ t.below (t.below o) in
      found_on [] (Instr.Store target (bound_of pieces array.first) line) d line (sem.member_number array (t.top (t.below o))) _ go
      (ap (λ found. at_number c line found go) (same_stored_member array o)) refl
      (λ n e. asks_it [] _ d (Want.Store (record { 0 = n }) (t.top o) line) (λ answer. record rest { operands = left_over }) (λ answer. on left_over sl ow)
      (e ∙ (λ i. asks (Want.Store (record { 0 = n }) (same_top o i) line) (λ answer. on (same_top o i ∷ same_rest o i) sl ow))) refl
      (λ answer. next_is _ d left_over sl ow _ refl))
  store_on (member Sharing.Private array line) d =
      let target = Target.Member (array_of array) in
      let go : ℕ → Move State = λ n. goes (on (ins.top o ∷ ins.below (ins.below o)) sl (set ow n (ins.top o))) in
      let left_over : List ℤ = t.top o ∷ t.below (t.below o) in
      found_on [] (Instr.StoreOwn target line) d line (sem.member_number array (t.top (t.below o))) _ go
      (ap (λ found. at_number c line found go) (same_stored_member array o)) refl
      (λ n e. goes_on [] _ d left_over sl (set ow n (t.top o)) (e ∙ (λ i. goes (on (same_top o i ∷ same_rest o i) sl (set ow n (same_top o i))))))

  pub unary_on : (op : UnaryOp) (line : ℕ) → One (Instr.Unary op line) → Answers code pieces [] ow (sem.comes_to rest (t.below o) line (unary_value op (t.top o))) c
  unary_on op line d =
      outcome_on (Instr.Unary op line) d line (t.below o) (unary_value op (t.top o)) (λ i. comes_to c (same_below o i) line (unary_value op (same_top o i))) refl

  pub step_by_on : (op : StepOp) (line : ℕ) → One (Instr.StepBy op line) → Answers code pieces [] ow (sem.comes_to rest (t.below o) line (step_value op (t.top o))) c
  step_by_on op line d =
      outcome_on (Instr.StepBy op line) d line (t.below o) (step_value op (t.top o)) (λ i. comes_to c (same_below o i) line (step_value op (same_top o i))) refl

  pub binary_on : (op : BinaryOp) (line : ℕ) → One (Instr.Binary op line)
      → Answers code pieces [] ow (sem.comes_to rest (t.below (t.below o)) line (binary_value op (t.top (t.below o)) (t.top o))) c
  binary_on op line d =
      outcome_on (Instr.Binary op line) d line (t.below (t.below o)) (binary_value op (t.top (t.below o)) (t.top o))
      (λ i. comes_to c (same_rest o i) line (binary_value op (same_second o i) (same_top o i))) refl

  pub to_truth_on : One Instr.ToTruth → Answers code pieces [] ow (sem.leaves rest (t.below o) (truth (holds (t.top o)))) c
  to_truth_on d = goes_on [] Instr.ToTruth d (truth (holds (t.top o)) ∷ t.below o) sl ow (λ i. goes (on (truth (holds (same_top o i)) ∷ same_below o i) sl ow))

  pub discard_on : One Instr.Discard → Answers code pieces [] ow (goes (record rest { operands = t.below o })) c
  discard_on d = goes_on [] Instr.Discard d (t.below o) sl ow (λ i. goes (on (same_below o i) sl ow))

  pub take_on : (lock : LockPlace) (mode : Mode) (line : ℕ) → One (Instr.Take (lock_target lock) mode (sem.lock_line lock))
      → Answers code pieces [] ow (sem.at_lock rest lock (λ l. asks (Want.Take l mode) (λ answer. record rest { operands = sem.below_index lock o }))) c
  take_on lock mode line d =
      let go : ℕ → Move State = λ n. asks (Want.Take (record { 0 = n }) mode) (λ answer. on (ins.below_index (lock_target lock) o) sl ow) in
      found_on [] (Instr.Take (lock_target lock) mode (sem.lock_line lock)) d (sem.lock_line lock) (sem.lock_number lock o) _ go
      (ap (λ found. at_number c (sem.lock_line lock) found go) (same_lock lock o)) refl
      (λ n e. asks_it [] _ d (Want.Take (record { 0 = n }) mode) _ (λ answer. on (ins.below_index (lock_target lock) o) sl ow) e refl
      (λ answer. next_is _ d (sem.below_index lock o) sl ow _ (ap (λ l. on l sl ow) (same_lock_rest lock o))))

  pub give_on : (lock : LockPlace) → One (Instr.Give (lock_target lock) (sem.lock_line lock))
      → Answers code pieces [] ow (sem.at_lock rest lock (λ l. asks (Want.Give l (sem.lock_line lock)) (λ answer. record rest { operands = sem.below_index lock o }))) c
  give_on lock d =
      let line = sem.lock_line lock in
      let go : ℕ → Move State = λ n. asks (Want.Give (record { 0 = n }) line) (λ answer. on (ins.below_index (lock_target lock) o) sl ow) in
      found_on [] (Instr.Give (lock_target lock) line) d line (sem.lock_number lock o) _ go
      (ap (λ found. at_number c line found go) (same_lock lock o)) refl
      (λ n e. asks_it [] _ d (Want.Give (record { 0 = n }) line) _ (λ answer. on (ins.below_index (lock_target lock) o) sl ow) e refl
      (λ answer. next_is _ d (sem.below_index lock o) sl ow _ (ap (λ l. on l sl ow) (same_lock_rest lock o))))

  pub cross_on : (bar : Bar) → One (Instr.Cross bar) → Answers code pieces [] ow (asks (Want.Cross bar) (λ answer. rest)) c
  cross_on bar d = asks_it [] (Instr.Cross bar) d (Want.Cross bar) (λ answer. rest) (λ answer. on o sl ow) refl refl (λ answer. next_is _ d o sl ow _ refl)

  pub print_on : (parts : List r.Part) → DoesPrint code pieces f rows behind parts
      → Answers code pieces (sem.parts_text parts (reverse (take (sem.values_in parts) o))) ow (asks Want.Line (λ answer. record rest { operands = drop (sem.values_in parts) o })) c
  print_on parts d =
      let one : One (Instr.Print d.number) = (d.depth, d.is) in
      let count : prog.values_in (prog.print_at code d.number) ≡ sem.values_in parts = ap prog.values_in d.has ∙ same_count parts in
      asks_it (sem.parts_text parts (reverse (take (sem.values_in parts) o))) (Instr.Print d.number) one Want.Line _
      (λ answer. on (drop (prog.values_in (prog.print_at code d.number)) o) sl ow) refl
      ((λ i. prog.parts_text (d.has i) (reverse (take (count i) o))) ∙ same_text parts (reverse (take (sem.values_in parts) o)))
      (λ answer. next_is _ one (drop (sem.values_in parts) o) sl ow _ (ap (λ n. on (drop n o) sl ow) count))
