-- What one more unit leaves of a run.
use Rattle.std.specs.Prelude.{◌≡◌, ◌<◌, ℕ, ◌+◌, List, [], ◌∷◌, ◌++◌, length, take, reverse, Option}
use Rattle.std.proofs.Common.{refl, sym, ap, ◌∙◌, arith, subst, append-nil}
use Rattle.std.proofs.Math.ListN.{get_or}
use Rattle.std.proofs.lemmas.Grind.{common_steps}
use Rattle.dsm_base.specs.declared.act.Act.{Act}
use Rattle.dsm_base.specs.declared.errors.ReadErr.{ReadErr}
use Rattle.dsm_base.specs.Sink.{appended, TakesPart}
use Rattle.dsm_net.specs.Fits.{with_unit, Done, FitsUnits}
use Rattle.dsm_net.specs.Units.{went}
use Rattle.dsm_records.specs.Outputs.{lines_of}
use Rattle.dsm_code.specs.Machine.{code_semantics}
use Rattle.dsm_network.specs.World.{setup_of, groups_of, units_of, records_of, IsRunOf}
use Rattle.dsm_laws_history.specs.Output.{output_of}
use Rattle.dsm_top.specs.Ended.{TakesFront}
use Rattle.dsm_top.specs.Runs.{joined, CodeWorld, first_by, code_kind, first_in, IsMadeBy, FitsFirst, WroteCut}
use Rattle.dsm_top.proofs.Pieces.{part_of, next_taken}
use Rattle.dsm_top.proofs.Units.{next_unit, lines_of_unit}

-- all of the bytes are a front of them
pub front_whole : (before after : Option (List ℕ)) (bytes : List ℕ) → after ≡ appended before bytes → TakesFront before after bytes
front_whole before after bytes is =
    let all : bytes ≡ take (length bytes) bytes = grind (arith, common_steps) in
    record { count = length bytes; taken = is ∙ ap (appended before) all }

pub front_part : (before after : Option (List ℕ)) (bytes : List ℕ) → TakesPart before after bytes → TakesFront before after bytes
front_part before after bytes part = record { count = part.count; taken = part.taken }

pub part_cut : (before after : Option (List ℕ)) (bytes : List ℕ) (e : ReadErr) → TakesPart before after bytes → WroteCut before after bytes e
part_cut before after bytes ReadErr.Failed part = part
part_cut before after bytes ReadErr.Memory part = front_part before after bytes part

-- a world before a unit and after it
module _ (old new : CodeWorld) (act : Act) (trace : groups_of new ≡ with_unit (units_of old + 1) (records_of code_kind first_by old act) (groups_of old)) where
  prints : (lines : List (List ℕ)) → lines ≡ lines_of (records_of code_kind first_by old act) →
      output_of (groups_of new) ≡ output_of (groups_of old) ++ joined lines
  prints lines are =
      ap output_of trace
      ∙ (lines_of_unit (units_of old + 1) (records_of code_kind first_by old act) (groups_of old)
      ∙ ap (λ one. output_of (groups_of old) ++ joined one) (sym are))

  pub wrote_next : (held before after : Option (List ℕ)) (lines : List (List ℕ)) → lines ≡ lines_of (records_of code_kind first_by old act) →
      before ≡ appended held (output_of (groups_of old)) → after ≡ appended before (joined lines) → after ≡ appended held (output_of (groups_of new))
  wrote_next held before after lines are so_far more =
      next_taken held before after (output_of (groups_of old)) (joined lines) (joined lines) so_far more refl ∙ ap (appended held) (sym (prints lines are))

  pub wrote_part : (held before after : Option (List ℕ)) (lines : List (List ℕ)) (e : ReadErr) → lines ≡ lines_of (records_of code_kind first_by old act) →
      before ≡ appended held (output_of (groups_of old)) → TakesPart before after (joined lines) → WroteCut held after (output_of (groups_of new)) e
  wrote_part held before after lines e are so_far part =
      let all = ap (λ one. output_of (groups_of old) ++ one) (append-nil (joined lines)) ∙ sym (prints lines are) in
      part_cut held after (output_of (groups_of new)) e
      (subst (TakesPart held after) all (part_of held before after (output_of (groups_of old)) (joined lines) [] so_far part))

-- one more unit
pub made_next : (old new : CodeWorld) (schedule : List Act) (index : ℕ) (act : Act) → units_of old ≡ index → act ≡ get_or schedule index act → index < length schedule → units_of new ≡ units_of old + 1
    → ((done : List Done) → IsRunOf code_kind first_by done old → IsRunOf code_kind first_by (record { act = act; outcome = went } ∷ done) new)
    → IsMadeBy schedule old → IsMadeBy schedule new
made_next old new schedule index act count is inside units goes_on made =
    let here : act ≡ get_or schedule (units_of old) act = is ∙ ap (λ n. get_or schedule n act) (sym count) in
    let within : units_of old < length schedule = omega (arith, count, inside) in
    record {
      done = record { act = act; outcome = went } ∷ made.done;
      acts = ap (λ acts. act ∷ acts) made.acts ∙ (sym (next_unit schedule (units_of old) act here within) ∙ ap (λ n. reverse (take n schedule)) (sym units));
      run = goes_on made.done made.run;
    }

-- the trace of what was made fits the units
abbrev pub made_fits : (world : CodeWorld) (schedule : List Act) → IsMadeBy schedule world → FitsFirst world schedule
made_fits world schedule made = record { done = made.done; same_acts = made.acts; is_trace = ap (λ ran. ran.groups) made.run.ran }

-- a world that shows the same trace
pub fits_same : (old new : CodeWorld) (schedule : List Act) → groups_of new ≡ groups_of old → units_of new ≡ units_of old → setup_of new ≡ setup_of old → first_in new ≡ first_in old
    → FitsFirst old schedule → FitsFirst new schedule
fits_same old new schedule groups units setup first fits =
    let at_groups = subst (λ g. FitsUnits (setup_of old) (first_in old) code_semantics (reverse (take (units_of old) schedule)) g) (sym groups) fits in
    let at_units = subst (λ n. FitsUnits (setup_of old) (first_in old) code_semantics (reverse (take n schedule)) (groups_of new)) (sym units) at_groups in
    let at_first = subst (λ f. FitsUnits (setup_of old) f code_semantics (reverse (take (units_of new) schedule)) (groups_of new)) (sym first) at_units in
    subst (λ s. FitsUnits s (first_in new) code_semantics (reverse (take (units_of new) schedule)) (groups_of new)) (sym setup) at_first
