-- Parts of code, which are fine where they stand.
use Rattle.std.proofs.Common.{◌≡◌, ℕ, zero, suc, ◌+◌, ◌-◌, ◌^◌, ◌<◌, ◌≤◌, Bool, true, List, [], ◌∷◌, ◌++◌, length, drop, Some, refl, sym, ap, ◌∙◌, subst, arith, append_assoc}
use Rattle.std.specs.Prelude.{slice_get}
use Rattle.std.proofs.Math.Seq.{drop-append_seam}
use Rattle.std.proofs.lemmas.Bool.{and_parts, lt-ltb, le-leb, eq-eqb}
use Rattle.dsm_code.specs.declared.instruction.Instr.{Instr}
use Rattle.dsm_code.specs.declared.parts.Row.{Row}
use Rattle.dsm_code.specs.Instructions.{is_free}
use Rattle.dsm_code.specs.Programs.{Program, Function}
use Rattle.dsm_code.specs.Valid.{takes, gives, depth_after, has_names, is_such, is_there, leads_on, are_known, is_fine, all_fine_from}
use Rattle.dsm_laws_language.proofs.Tests.{both}
use Rattle.dsm_laws_code.specs.Instructions.{row}
use Rattle.dsm_laws_code.proofs.Places.{drop_on, first_left}

-- the first instruction is no take and no crossing, and finds so many operands
abbrev pub Starts : ℕ → List Row → Type 0
Starts depth [] = ⊥
Starts depth (here ∷ rest) = (is_free here.instr ≡ true) × (here.depth ≡ depth)

-- a place that there is
pub is_within : {A : Type 0} (xs : List A) (place : ℕ) (x : A) → slice_get xs place ≡ Some x → place < length xs
is_within [] place x e = absurd cc
is_within (y ∷ xs) zero x e = omega arith
is_within (y ∷ xs) (suc place) x e = let more = is_within xs place x e in omega (arith, more)

module _ (code : Program) (f : Function) where
  -- a function with fewer than 2^32 instructions, none with more operands than the deepest, and with names where a step has a label
  pub record IsPlaced : Type 0 where
    pub short : length f.rows < 2 ^ 32
    pub deep : (place : ℕ) (here : Row) → slice_get f.rows place ≡ Some here → here.depth ≤ code.deepest
    pub known : (place : ℕ) (here : Row) → slice_get f.rows place ≡ Some here → are_known f place here.instr ≡ true

  -- these instructions stand at a place and behind it
  abbrev pub IsAt : ℕ → List Row → Type 0
  IsAt place rows = drop place f.rows ≡ rows

  pub at_on : (place n : ℕ) (rows : List Row) → IsAt place rows → IsAt (place + n) (drop n rows)
  at_on place n rows at = drop_on place n f.rows ∙ ap (drop n) at

  pub at_next : (place : ℕ) (here : Row) (rows : List Row) → IsAt place (here ∷ rows) → IsAt (place + 1) rows
  at_next place here rows at = at_on place 1 (here ∷ rows) at

  pub at_behind : (place : ℕ) (first rows : List Row) → IsAt place (first ++ rows) → IsAt (place + length first) rows
  at_behind place first rows at = at_on place (length first) (first ++ rows) at ∙ drop-append_seam first rows

  -- a part is fine, where this stands behind it
  abbrev pub Part : List Row → List Row → Type 0
  Part rows behind = (place : ℕ) → IsAt place (rows ++ behind) → all_fine_from code f place rows ≡ true

  -- and it can be led to with so many operands
  pub record Leads (depth : ℕ) (rows behind : List Row) : Type 0 where
    pub part : Part rows behind
    pub starts : Starts depth (rows ++ behind)

  pub fine_both : (place : ℕ) (a b : List Row) → all_fine_from code f place a ≡ true → all_fine_from code f (place + length a) b ≡ true → all_fine_from code f place (a ++ b) ≡ true
  fine_both place [] b one other = let e : place + length {A = Row} [] ≡ place = omega arith in subst (λ n. all_fine_from code f n b ≡ true) e other
  fine_both place (here ∷ a) b one other =
      let split = and_parts (is_fine code f place here) (all_fine_from code f (place + 1) a) one in
      let e : place + length (here ∷ a) ≡ place + 1 + length a = omega arith in
      both split.0 (fine_both (place + 1) a b split.1 (subst (λ n. all_fine_from code f n b ≡ true) e other))

  pub part_both : (a b behind : List Row) → Part a (b ++ behind) → Part b behind → Part (a ++ b) behind
  part_both a b behind one other place at =
      let first : IsAt place (a ++ (b ++ behind)) = at ∙ append_assoc a b behind in
      fine_both place a b (one place first) (other (place + length a) (at_behind place a (b ++ behind) first))

  pub no_part : (behind : List Row) → Part [] behind
  no_part behind place at = refl

  -- one part, and behind it another
  pub leads_both : (depth between : ℕ) (a b behind : List Row) → (Starts between (b ++ behind) → Leads depth a (b ++ behind)) → Leads between b behind → Leads depth (a ++ b) behind
  leads_both depth between a b behind one other =
      let first = one other.starts in
      record { part = part_both a b behind first.part other.part; starts = subst (Starts depth) (sym (append_assoc a b behind)) first.starts }

  module _ (placed : IsPlaced) where
    pub low_at : (depth place : ℕ) (here : Row) (rest : List Row) → IsAt place (here ∷ rest) → here.depth ≡ depth → depth ≤ code.deepest
    low_at depth place here rest at same = let deep = placed.deep place here (first_left place f.rows here rest at) in omega (arith, deep, same)

    -- at a place there is an instruction of a kind
    pub there_is : (kind : Instr → Bool) (depth place : ℕ) (here : Row) (rest : List Row) → IsAt place (here ∷ rest) → kind here.instr ≡ true → here.depth ≡ depth → is_there kind code f depth place ≡ true
    there_is kind depth place here rest at of_kind same =
        let found = first_left place f.rows here rest at in
        let low = low_at depth place here rest at same in
        let small : place < 2 ^ 32 = let within = is_within f.rows place here found in let short = placed.short in omega (arith, within, short) in
        let such : is_such kind code depth place (Some here) ≡ true = both of_kind (both (eq-eqb here.depth depth same) (both (le-leb depth code.deepest low) (lt-ltb place (2 ^ 32) small))) in
        subst (λ o. is_such kind code depth place o ≡ true) (sym found) such

    pub starts_there : (depth place : ℕ) (rows : List Row) → IsAt place rows → Starts depth rows → is_there is_free code f depth place ≡ true
    starts_there depth place [] at starts = absurd starts
    starts_there depth place (here ∷ rest) at starts = there_is is_free depth place here rest at starts.0 starts.1

    pub starts_low : (depth place : ℕ) (rows : List Row) → IsAt place rows → Starts depth rows → depth ≤ code.deepest
    starts_low depth place [] at starts = absurd starts
    starts_low depth place (here ∷ rest) at starts = low_at depth place here rest at starts.1

    -- where an instruction leads on with so many operands
    abbrev pub GoesOn : ℕ → Instr → List Row → Type 0
    GoesOn after instr behind = (place : ℕ) → IsAt (place + 1) behind → (after ≤ code.deepest) × (leads_on code f place after instr ≡ true)

    -- it is fine at a place from which it does
    pub fine_at : (place depth after : ℕ) (instr : Instr) (behind : List Row) → takes code instr ≤ depth → depth - takes code instr + gives instr ≡ after → has_names code f instr ≡ true
        → IsAt place (row depth instr ∷ behind) → (after ≤ code.deepest) × (leads_on code f place after instr ≡ true) → is_fine code f place (row depth instr) ≡ true
    fine_at place depth after instr behind finds leaves names at next =
        let known = placed.known place (row depth instr) (first_left place f.rows (row depth instr) behind at) in
        let low : depth_after code depth instr ≤ code.deepest = subst (λ n. n ≤ code.deepest) (sym leaves) next.0 in
        let led : leads_on code f place (depth_after code depth instr) instr ≡ true = subst (λ n. leads_on code f place n instr ≡ true) (sym leaves) next.1 in
        both (le-leb (takes code instr) depth finds) (both (le-leb (depth_after code depth instr) code.deepest low) (both names (both led known)))

    pub part_one : (depth after : ℕ) (instr : Instr) (behind : List Row) → takes code instr ≤ depth → depth - takes code instr + gives instr ≡ after → has_names code f instr ≡ true
        → GoesOn after instr behind → Part (row depth instr ∷ []) behind
    part_one depth after instr behind finds leaves names on place at =
        both (fine_at place depth after instr behind finds leaves names at (on place (at_next place (row depth instr) behind at))) refl

    -- it leads to the next one
    pub to_next : (after : ℕ) (instr : Instr) (behind : List Row) → ((place : ℕ) → leads_on code f place after instr ≡ is_there is_free code f after (place + 1)) → Starts after behind → GoesOn after instr behind
    to_next after instr behind plain starts place at = (starts_low after (place + 1) behind at starts, plain place ∙ starts_there after (place + 1) behind at starts)

    -- an instruction that can be led to, and leads to the next one
    pub one_leads : (depth after : ℕ) (instr : Instr) (behind : List Row) → is_free instr ≡ true → takes code instr ≤ depth → depth - takes code instr + gives instr ≡ after → has_names code f instr ≡ true
        → ((place : ℕ) → leads_on code f place after instr ≡ is_there is_free code f after (place + 1)) → Starts after behind → Leads depth (row depth instr ∷ []) behind
    one_leads depth after instr behind free finds leaves names plain starts =
        record { part = part_one depth after instr behind finds leaves names (to_next after instr behind plain starts); starts = (free, refl) }

    -- the same, with more behind it
    pub one_then : (depth after : ℕ) (instr : Instr) (rest behind : List Row) → is_free instr ≡ true → takes code instr ≤ depth → depth - takes code instr + gives instr ≡ after → has_names code f instr ≡ true
        → ((place : ℕ) → leads_on code f place after instr ≡ is_there is_free code f after (place + 1)) → Leads after rest behind → Leads depth (row depth instr ∷ rest) behind
    one_then depth after instr rest behind free finds leaves names plain more =
        leads_both depth after (row depth instr ∷ []) rest behind (one_leads depth after instr (rest ++ behind) free finds leaves names plain) more
