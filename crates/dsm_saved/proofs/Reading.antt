-- What was read of a function that is under way, by its number.
use Rattle.std.proofs.Common.{◌≡◌, ◌∙◌, ℕ, List, Option, Ok, sym, ap, subst}
use Rattle.std.specs.Prelude.{◌==◌}
use Rattle.dsm_fields.specs.declared.error.FieldErr.{FieldErr}
use Rattle.dsm_fields.specs.Reading.{Fails}
use Rattle.dsm_code.specs.Programs.{Program}
use Rattle.dsm_saved.specs.declared.saved.SavedFrame.{SavedFrame}
use Rattle.dsm_saved.specs.Spelling.{due}
use Rattle.dsm_saved.specs.Reading.{known_at, frame_at}

module _ (program : Program) (innermost count at : ℕ) (last : Option SavedFrame) (next : Option ℕ) (bytes : List ℕ) where
  pub frame_said : (item : SavedFrame) (after : List ℕ) → count ≡ innermost → next ≡ due program last → known_at program (at == count) next bytes ≡ Ok (item, after) → frame_at program innermost at last bytes ≡ Ok (item, after)
  frame_said item after same is read =
      ap (λ (n : ℕ). known_at program (at == n) (due program last) bytes) (sym same) ∙ ap (λ (o : Option ℕ). known_at program (at == count) o bytes) (sym is) ∙ read

  pub frame_failed : (e : FieldErr) → count ≡ innermost → next ≡ due program last → Fails e (known_at program (at == count) next bytes) → Fails e (frame_at program innermost at last bytes)
  frame_failed e same is read =
      subst (λ (n : ℕ). Fails e (known_at program (at == n) (due program last) bytes)) same (subst (λ (o : Option ℕ). Fails e (known_at program (at == count) o bytes)) is read)
