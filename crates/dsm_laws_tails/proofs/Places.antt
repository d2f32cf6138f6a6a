-- Labels at their places in lists of labels and of turns.
use Rattle.std.specs.Prelude.{◌≡◌, ℕ, List, [], ◌∷◌, ◌++◌, ◌⊎◌}
use Rattle.std.proofs.Common.{arith, refl, sym, ap, ◌∙◌, ⊎_elim, inl, inr, append_assoc}
use Rattle.std.proofs.lemmas.Bool.{cases_eq}
use Rattle.dsm_base.specs.declared.label.Label.{Label}
use Rattle.dsm_base.specs.Plain.{Turn, labels_of}
use Rattle.dsm_laws_runs.proofs.OwnPart.{labels_mine, labels_other}
use Rattle.dsm_laws_tails.specs.Shuffles.{HasLabel}

-- an empty list has no label
pub has_nothing : (label : Label) (older : List Label) → HasLabel [] label older → ⊥
has_nothing label older has = at_newer has.newer has.is
  where
    at_newer : (newer : List Label) → [] ≡ newer ++ (label ∷ older) → ⊥
    at_newer [] e = cc e
    at_newer (one ∷ newer) e = cc e

pub has_newest : (label : Label) (labels : List Label) → HasLabel (label ∷ labels) label labels
has_newest label labels = record { newer = []; is = refl }

-- with labels more, behind and before
pub has_later : (newer labels : List Label) (label : Label) (before : List Label) → HasLabel labels label before → HasLabel (newer ++ labels) label before
has_later newer labels label before has = record { newer = newer ++ has.newer; is = ap (λ labels. newer ++ labels) has.is ∙ sym (append_assoc newer has.newer (label ∷ before)) }

pub has_earlier : (labels older : List Label) (label : Label) (before : List Label) → HasLabel labels label before → HasLabel (labels ++ older) label (before ++ older)
has_earlier labels older label before has = record { newer = has.newer; is = ap (λ labels. labels ++ older) has.is ∙ append_assoc has.newer (label ∷ before) older }

-- a label of a list is the newest or one of those before it
pub newest_or_older : (newest : Label) (labels : List Label) (label : Label) (before : List Label) → HasLabel (newest ∷ labels) label before →
    ((label ≡ newest) × (before ≡ labels)) ⊎ HasLabel labels label before
newest_or_older newest labels label before has = at_newer has.newer has.is
  where
    at_newer : (newer : List Label) → newest ∷ labels ≡ newer ++ (label ∷ before) → ((label ≡ newest) × (before ≡ labels)) ⊎ HasLabel labels label before
    at_newer [] e = inl (cc, cc)
    at_newer (one ∷ newer) e = inr (record { newer = newer; is = cc })

-- the labels of a processor in turns

pub labels_join : (p : ℕ) (more before : List Turn) → labels_of p (more ++ before) ≡ labels_of p more ++ labels_of p before
labels_join p [] before = refl
labels_join p (turn ∷ more) before = grind (arith, labels_join p more before)

-- with a turn more
pub has_before : (turn : Turn) (before : List Turn) (q : ℕ) (label : Label) (older : List Label) → HasLabel (labels_of q before) label older → HasLabel (labels_of q (turn ∷ before)) label older
has_before turn before q label older has =
    ⊎_elim
    (λ e. record { newer = turn.label ∷ has.newer; is = labels_mine q turn before e ∙ ap (λ labels. turn.label ∷ labels) has.is })
    (λ ne. record { newer = has.newer; is = labels_other q turn before ne ∙ has.is })
    (cases_eq turn.proc q)

-- the newest turn, or one before it
pub has_turn : (turn : Turn) (before : List Turn) → HasLabel (labels_of turn.proc (turn ∷ before)) turn.label (labels_of turn.proc before)
has_turn turn before = record { newer = []; is = labels_mine turn.proc turn before refl }

pub turn_or_before : (turn : Turn) (before : List Turn) (q : ℕ) (label : Label) (older : List Label) → HasLabel (labels_of q (turn ∷ before)) label older →
    ((turn.proc ≡ q) × (label ≡ turn.label)) ⊎ HasLabel (labels_of q before) label older
turn_or_before turn before q label older has =
    ⊎_elim
    (λ mine. ⊎_elim (λ newest. inl (mine, newest.0)) (λ was. inr was) (newest_or_older turn.label (labels_of q before) label older (rw (labels_mine q turn before mine) at has)))
    (λ ne. inr (rw (labels_other q turn before ne) at has))
    (cases_eq turn.proc q)
