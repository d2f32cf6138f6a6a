-- Threads of two kinds beside each other, of which the first runs as the second.
use Rattle.std.specs.Prelude.{◌≡◌, ℕ, ◌+◌, Bool, true, false, if◌then◌else◌, List, [], ◌∷◌, Option, Some, None, is_some}
use Rattle.std.proofs.Common.{refl, sym, ap, ◌∙◌, subst}
use Rattle.dsm_base.specs.declared.label.Label.{Label}
use Rattle.dsm_base.specs.declared.label.Want.{Want}
use Rattle.dsm_base.specs.declared.names.Fault.{Fault}
use Rattle.dsm_base.specs.declared.setup.Piece.{Piece}
use Rattle.dsm_base.specs.Threads.{Semantics, AnswersTo, state_after}
use Rattle.dsm_base.specs.Plain.{Surroundings, label_of}
use Rattle.dsm_base.specs.Access.{piece_of, may_load_piece, may_store_piece}
use Rattle.dsm_laws_code.specs.Runs.{AllAnswer, RunsAs}

-- threads of both kinds, which want what those of the second kind want, and go on by the same labels
abbrev pub both : {S T : Type 0} → Semantics S → Semantics T → Semantics (S × T)
both threads others = record {
  want = λ s. others.want s.1;
  text = λ s. others.text s.1;
  after = λ s label. (threads.after s.0 label, others.after s.1 label);
}

-- the first states of both
abbrev pub both_first : {S T : Type 0} → (ℕ → S) → (ℕ → T) → ℕ → S × T
both_first first start p = (first p, start p)

module _ {S T : Type 0} (threads : Semantics S) (others : Semantics T) where
  -- both have come here by the same labels, each of which answered
  pub record AreBeside (s : S × T) : Type 0 where
    pub first : S
    pub start : T
    pub like : RunsAs threads first others start
    pub labels : List Label
    pub all : AllAnswer others start labels
    pub is : s.0 ≡ state_after threads first labels
    pub other_is : s.1 ≡ state_after others start labels

  pub beside_first : (first : S) (start : T) → RunsAs threads first others start → AreBeside (first, start)
  beside_first first start like = record { first = first; start = start; like = like; labels = []; all = tt; is = refl; other_is = refl }

  pub beside_on : (s : S × T) (label : Label) → AreBeside s → AnswersTo (others.want s.1) label → AreBeside (threads.after s.0 label, others.after s.1 label)
  beside_on s label b answers = record {
    first = b.first;
    start = b.start;
    like = b.like;
    labels = label ∷ b.labels;
    all = (subst (λ t. AnswersTo (others.want t) label) b.other_is answers, b.all);
    is = ap (λ one. threads.after one label) b.is;
    other_is = ap (λ one. others.after one label) b.other_is;
  }

  pub same_want : (s : S × T) → AreBeside s → threads.want s.0 ≡ others.want s.1
  same_want s b = ap threads.want b.is ∙ ((b.like b.labels b.all).0 ∙ ap others.want (sym b.other_is))

  pub same_text : (s : S × T) → AreBeside s → threads.text s.0 ≡ others.text s.1
  same_text s b = ap threads.text b.is ∙ ((b.like b.labels b.all).1 ∙ ap others.text (sym b.other_is))

-- Labels answer.

either : (want : Want) (test : Bool) (one other : Label) → AnswersTo want one → AnswersTo want other → AnswersTo want (if test then one else other)
either want true one other a b = a
either want false one other a b = b

-- the label that there is answers
abbrev IsAnswer : Want → Option Label → Type 0
IsAnswer want None = Unit {0}
IsAnswer want (Some label) = AnswersTo want label

answer_is : (pieces : List Piece) (p : ℕ) (seen : Surroundings) (text : List ℕ) (want : Want) → IsAnswer want (label_of pieces p seen text want)
answer_is pieces p seen text Want.Quiet = (tt, refl)
answer_is pieces p seen text (Want.Load cell line) =
    either (Want.Load cell line) (may_load_piece p seen.rights (piece_of pieces cell.0)) (Label.Load cell (seen.memory cell.0)) (Label.Stop Fault.Unbound line) (tt, refl) (tt, refl)
answer_is pieces p seen text (Want.Store cell value line) =
    either (Want.Store cell value line) (may_store_piece p seen.rights (piece_of pieces cell.0)) (Label.Store cell value) (Label.Stop Fault.Unbound line) (tt, refl) (tt, refl)
answer_is pieces p seen text (Want.Ask lock mode line) =
    either (Want.Ask lock mode line) (is_some (seen.rights.held lock.0)) (Label.Stop Fault.Held line) (Label.Ask lock mode) (tt, refl) (tt, refl)
answer_is pieces p seen text (Want.Take lock mode) = (tt, (seen.versions lock.0, refl))
answer_is pieces p seen text (Want.Give lock line) =
    either (Want.Give lock line) (is_some (seen.rights.held lock.0)) (Label.Give lock) (Label.Stop Fault.NotHeld line) (tt, refl) (tt, refl)
answer_is pieces p seen text (Want.Arrive bar) = (tt, refl)
answer_is pieces p seen text (Want.Cross bar) = (tt, (seen.rights.crossed bar.0 + 1, refl))
answer_is pieces p seen text Want.Line = (tt, (text, refl))
answer_is pieces p seen text Want.End = (tt, refl)
answer_is pieces p seen text (Want.Stop fault line) = (tt, refl)
answer_is pieces p seen text Want.Over = tt

pub answers : (pieces : List Piece) (p : ℕ) (seen : Surroundings) (text : List ℕ) (want : Want) (label : Label) → label_of pieces p seen text want ≡ Some label → AnswersTo want label
answers pieces p seen text want label is = subst (IsAnswer want) is (answer_is pieces p seen text want)
