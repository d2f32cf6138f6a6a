-- The label of a turn answers what was wanted.
use Rattle.std.proofs.Common.{◌≡◌, ℕ, Bool, true, false, if◌then◌else◌, List, Some, is_some, refl, subst}
use Rattle.dsm_base.specs.declared.names.Fault.{Fault}
use Rattle.dsm_base.specs.declared.label.Want.{Want}
use Rattle.dsm_base.specs.declared.label.Label.{Label}
use Rattle.dsm_base.specs.declared.setup.Piece.{Piece}
use Rattle.dsm_base.specs.Access.{piece_of, may_load_piece, may_store_piece}
use Rattle.dsm_base.specs.Plain.{Surroundings, label_of}
use Rattle.dsm_base.specs.Threads.{AnswersTo}

some_in : {A : Type 0} (P : A → Type 0) (a b : A) → Some a ≡ Some b → P a → P b
some_in P a b h p = let same : a ≡ b = cc in subst P same p

module _ (pieces : List Piece) (p : ℕ) (seen : Surroundings) (text : List ℕ) where
  answers_if : (want : Want) (test : Bool) (a b label : Label) → Some (if test then a else b) ≡ Some label → AnswersTo want a → AnswersTo want b → AnswersTo want label
  answers_if want true a b label is f g = some_in (AnswersTo want) a label is f
  answers_if want false a b label is f g = some_in (AnswersTo want) b label is g

  pub label_answers : (want : Want) (label : Label) → label_of pieces p seen text want ≡ Some label → AnswersTo want label
  label_answers Want.Quiet label is = some_in (AnswersTo Want.Quiet) Label.Quiet label is (tt, refl)
  label_answers (Want.Load cell line) label is =
      answers_if (Want.Load cell line) (may_load_piece p seen.rights (piece_of pieces cell.0)) (Label.Load cell (seen.memory cell.0)) (Label.Stop Fault.Unbound line) label is (tt, refl) (tt, refl)
  label_answers (Want.Store cell value line) label is =
      answers_if (Want.Store cell value line) (may_store_piece p seen.rights (piece_of pieces cell.0)) (Label.Store cell value) (Label.Stop Fault.Unbound line) label is (tt, refl) (tt, refl)
  label_answers (Want.Ask lock mode line) label is =
      answers_if (Want.Ask lock mode line) (is_some (seen.rights.held lock.0)) (Label.Stop Fault.Held line) (Label.Ask lock mode) label is (tt, refl) (tt, refl)
  label_answers (Want.Take lock mode) label is =
      some_in (AnswersTo (Want.Take lock mode)) (Label.Take lock mode (seen.versions lock.0)) label is (tt, (seen.versions lock.0, refl))
  label_answers (Want.Give lock line) label is =
      answers_if (Want.Give lock line) (is_some (seen.rights.held lock.0)) (Label.Give lock) (Label.Stop Fault.NotHeld line) label is (tt, refl) (tt, refl)
  label_answers (Want.Arrive bar) label is = some_in (AnswersTo (Want.Arrive bar)) (Label.Arrive bar) label is (tt, refl)
  label_answers (Want.Cross bar) label is = some_in (AnswersTo (Want.Cross bar)) (Label.Cross bar _) label is (tt, (_, refl))
  label_answers Want.Line label is = some_in (AnswersTo Want.Line) (Label.Line text) label is (tt, (text, refl))
  label_answers Want.End label is = some_in (AnswersTo Want.End) Label.End label is (tt, refl)
  label_answers (Want.Stop fault line) label is = some_in (AnswersTo (Want.Stop fault line)) (Label.Stop fault line) label is (tt, refl)
  label_answers Want.Over label is = cc
