-- Jumps, and parts of which one is left out.
use Rattle.std.proofs.Common.{◌≡◌, ℕ, ◌+◌, ◌-◌, true, List, [], ◌∷◌, ◌++◌, length, drop, refl, sym, ap, ◌∙◌, subst, arith, append_assoc}
use Rattle.std.proofs.Math.Seq.{drop-append_seam, drop-append-add}
use Rattle.std.proofs.lemmas.Bool.{le-leb}
use Rattle.dsm_code.specs.declared.instruction.Instr.{Instr}
use Rattle.dsm_code.specs.declared.parts.Row.{Row}
use Rattle.dsm_code.specs.Programs.{Program, Function}
use Rattle.dsm_code.specs.Instructions.{is_free}
use Rattle.dsm_code.specs.Valid.{is_there}
use Rattle.dsm_laws_language.proofs.Tests.{both}
use Rattle.dsm_laws_code.specs.Instructions.{row}
use Rattle.dsm_laws_code.specs.Expressions.{chosen_code}
use Rattle.dsm_laws_compiled.proofs.Parts.{Starts, IsPlaced, IsAt, at_on, at_behind, fine_both, fine_at, Part, Leads, part_both, part_one, starts_there, starts_low, leads_both}

module _ (code : Program) (f : Function) (placed : IsPlaced code f) where
  -- a jump on
  pub jump_leads : (depth count : ℕ) (behind : List Row) → Starts depth (drop count behind) → Leads code f depth (row depth (Instr.GoOn count) ∷ []) behind
  jump_leads depth count behind starts = record {
    part = part_one code f placed depth depth (Instr.GoOn count) behind (omega arith) (omega arith) refl (λ place at.
        let to = at_on code f (place + 1) count behind at in
        (starts_low code f placed depth (place + 1 + count) (drop count behind) to starts, starts_there code f placed depth (place + 1 + count) (drop count behind) to starts));
    starts = (refl, refl);
  }

  -- a jump over some instructions where a value is 0
  pub skip_leads : (depth count : ℕ) (behind : List Row) → Starts depth behind → Starts depth (drop count behind) → Leads code f (depth + 1) (row (depth + 1) (Instr.SkipIfZero count) ∷ []) behind
  skip_leads depth count behind next starts = record {
    part = part_one code f placed (depth + 1) depth (Instr.SkipIfZero count) behind (omega arith) (omega arith) refl (λ place at.
        let to = at_on code f (place + 1) count behind at in (
          starts_low code f placed depth (place + 1) behind at next,
          both (starts_there code f placed depth (place + 1) behind at next) (starts_there code f placed depth (place + 1 + count) (drop count behind) to starts),
        ));
    starts = (refl, refl);
  }

  -- one of two parts, by the value on top
  pub chosen_leads : (depth after : ℕ) (one other behind : List Row) → Leads code f depth one (row after (Instr.GoOn (length other)) ∷ (other ++ behind)) → Leads code f depth other behind
      → Starts after behind → Leads code f (depth + 1) (chosen_code (depth + 1) after one other) behind
  chosen_leads depth after one other behind first second starts =
      let rest = row after (Instr.GoOn (length other)) ∷ other in
      let jump = jump_leads after (length other) (other ++ behind) (subst (Starts after) (sym (drop-append_seam other behind)) starts) in
      let jumped : Leads code f after rest behind = record { part = part_both code f (row after (Instr.GoOn (length other)) ∷ []) other behind jump.part second.part; starts = jump.starts } in
      let whole = leads_both code f depth after one rest behind (λ s. first) jumped in
      let over : drop (length one + 1) ((one ++ rest) ++ behind) ≡ other ++ behind =
      ap (drop (length one + 1)) (append_assoc one rest behind) ∙ drop-append-add one (rest ++ behind) 1 in
      let skip = skip_leads depth (length one + 1) ((one ++ rest) ++ behind) whole.starts (subst (Starts depth) (sym over) second.starts) in
      record { part = part_both code f (row (depth + 1) (Instr.SkipIfZero (length one + 1)) ∷ []) (one ++ rest) behind skip.part whole.part; starts = skip.starts }

  -- a loop: a round, and the jump back to its beginning
  pub loop_leads : (round behind : List Row) → Leads code f 0 round (row 0 (Instr.GoBack (length round)) ∷ behind) → Leads code f 0 (round ++ (row 0 (Instr.GoBack (length round)) ∷ [])) behind
  loop_leads round behind first =
      record { part = loop_fine; starts = subst (Starts 0) (sym (append_assoc round (row 0 (Instr.GoBack (length round)) ∷ []) behind)) first.starts }
    where
      loop_fine : Part code f (round ++ (row 0 (Instr.GoBack (length round)) ∷ [])) behind
      loop_fine place at =
          let back = row 0 (Instr.GoBack (length round)) in
          let head : IsAt code f place (round ++ (back ∷ behind)) = at ∙ append_assoc round (back ∷ []) behind in
          let to : place ≡ place + length round - length round = omega arith in
          let there = subst (λ n. is_there is_free code f 0 n ≡ true) to (starts_there code f placed 0 place (round ++ (back ∷ behind)) head first.starts) in
          let low = starts_low code f placed 0 place (round ++ (back ∷ behind)) head first.starts in
          let on = both (le-leb (length round) (place + length round) (omega arith)) there in
          fine_both code f place round (back ∷ []) (first.part place head)
          (both (fine_at code f placed (place + length round) 0 0 (Instr.GoBack (length round)) behind (omega arith) refl refl (at_behind code f place round (back ∷ behind) head) (low, on)) refl)
