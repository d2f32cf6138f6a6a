-- What was asked for, behind the lines of a run.
use Rattle.std.specs.Prelude.{◌≡◌, ℕ, List, [], ◌++◌, Option, Result, Ok, Err, OnOk, OnErr, IfErr}
use Rattle.std.proofs.Common.{refl, subst, append-nil, inr}
use Rattle.dsm_base.specs.declared.errors.ReadErr.{ReadErr}
use Rattle.dsm_base.specs.Sink.{appended, TakesPart}
use Rattle.dsm_top.specs.Runs.{WroteCutShowing}
use Rattle.dsm_top.proofs.Pieces.{part_of, next_taken}

-- once the first of two pieces is taken, a part of the second one is a part of both
pub behind_part : {T : Type 0} (before lined now : Option (List ℕ)) (first second : List ℕ) (result : Result T ReadErr) → lined ≡ appended before first → OnErr result (TakesPart lined now second) →
    OnErr result (TakesPart before now (first ++ second))
behind_part before lined now first second (Ok value) wrote part = tt
behind_part before lined now first second (Err e) wrote part =
    subst (λ rest. TakesPart before now (first ++ rest)) (append-nil second) (part_of before lined now first second [] wrote part)

module _ {T : Type 0} (before lined now : Option (List ℕ)) (lines shown : List ℕ) (wrote : lined ≡ appended before lines) where
  -- the lines are written, and then all of it is
  pub showing_whole : (result : Result T ReadErr) → OnOk result (now ≡ appended lined shown) → OnOk result (now ≡ appended before (lines ++ shown))
  showing_whole (Ok value) more = next_taken before lined now lines shown shown wrote more refl
  showing_whole (Err e) more = tt

  -- or a part of it
  pub showing_cut : (All : Type 0) → All → (result : Result T ReadErr) → OnErr result (TakesPart lined now shown) → IfErr result (WroteCutShowing before now lines shown All)
  showing_cut All all (Ok value) part = tt
  showing_cut All all (Err e) part =
      inr (all, subst (λ rest. TakesPart before now (lines ++ rest)) (append-nil shown) (part_of before lined now lines shown [] wrote part))
