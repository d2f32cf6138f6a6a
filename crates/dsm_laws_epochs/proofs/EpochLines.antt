-- What an epoch leaves is settled once its end is reached.
use Rattle.std.specs.Prelude.{◌≡◌, ◌≢◌, ℕ, ◌<◌, ◌≤◌, Bool, true, ◌&&◌, ◌||◌, ◌==◌, List, [], ◌∷◌, ◌++◌}
use Rattle.std.proofs.Common.{arith, refl, ap, ◌∙◌, ⊎_elim}
use Rattle.std.proofs.lemmas.Bool.{cases_Bool, cases_eq}
use Rattle.dsm_base.specs.declared.names.Bar.{Bar}
use Rattle.dsm_base.specs.declared.label.Label.{Label}
use Rattle.dsm_base.specs.declared.setup.Setup.{Setup}
use Rattle.dsm_base.specs.Access.{piece_of}
use Rattle.dsm_base.specs.Threads.{Semantics}
use Rattle.dsm_base.specs.Plain.{Turn, IsPlainRun, after_run, labels_of}
use Rattle.dsm_laws_runs.specs.OwnPart.{arrived_of, crossed_of}
use Rattle.dsm_laws_runs.specs.Versions.{AllAskFirst}
use Rattle.dsm_laws_runs.specs.Barriers.{owner_of, stored_by, until_arrival, memory_in}
use Rattle.dsm_laws_runs.specs.Newer.{stores_own, is_stored_in}
use Rattle.dsm_laws_runs.proofs.OwnPart.{own_arrived, own_crossed, labels_mine, labels_other}
use Rattle.dsm_laws_runs.proofs.Barriers.{settled_at, arrived_rises, until_later}

-- the labels of one processor in a run that goes on
labels_more : (p : ℕ) (newer before : List Turn) → labels_of p (newer ++ before) ≡ labels_of p newer ++ labels_of p before
labels_more p [] before = refl
labels_more p (turn ∷ newer) before =
    ⊎_elim
    (λ mine. labels_mine p turn (newer ++ before) mine ∙ ap (λ labels. turn.label ∷ labels) (labels_more p newer before)
    ∙ ap (λ labels. labels ++ labels_of p before) (back mine))
    (λ ne. labels_other p turn (newer ++ before) ne ∙ labels_more p newer before ∙ ap (λ labels. labels ++ labels_of p before) (back_other ne))
    (cases_eq turn.proc p)
  where
    back : turn.proc ≡ p → turn.label ∷ labels_of p newer ≡ labels_of p (turn ∷ newer)
    back mine = rw (labels_mine p turn newer mine) refl

    back_other : turn.proc ≢ p → labels_of p newer ≡ labels_of p (turn ∷ newer)
    back_other ne = rw (labels_other p turn newer ne) refl

no_cross : (line_at : ℕ → ℕ) (setup : Setup) (bar owner line : ℕ) (label : Label) → stores_own line_at setup bar owner line label ≡ true → (other : Bar) (into : ℕ) → label ≡ Label.Cross other into → ⊥
no_cross line_at setup bar owner line (Label.Cross crossed into) stores other now e = cc stores
no_cross line_at setup bar owner line _ stores other now e = cc e

module _ {S : Type 0} (line_at : ℕ → ℕ) (setup : Setup) (first : ℕ → S) (threads : Semantics S) (ask_first : AllAskFirst setup first threads) (bar owner epoch line : ℕ) where
  -- a label behind the arrival stores nothing in the epoch
  own_settled : (label : Label) (before : List Label) → epoch < arrived_of before bar → (stores_own line_at setup bar owner line label ≡ true → arrived_of before bar ≡ crossed_of before bar) →
      is_stored_in line_at setup bar owner epoch (label ∷ before) line ≡ is_stored_in line_at setup bar owner epoch before line
  own_settled label before lt in_step =
      none (stores_own line_at setup bar owner line label) (crossed_of before bar) (arrived_of before bar) (is_stored_in line_at setup bar owner epoch before line) lt in_step
    where
      none : (b : Bool) (crossed arrived : ℕ) (rest : Bool) → epoch < arrived → (b ≡ true → arrived ≡ crossed) → ((b && (crossed == epoch)) || rest) ≡ rest
      none b crossed arrived rest lt same = grind (arith, cases_Bool b, same)

  arrived_more : (newer before : List Turn) → epoch < (after_run first threads before).arrived owner bar → epoch < arrived_of (labels_of owner (newer ++ before)) bar
  arrived_more newer before lt =
      rw (labels_more owner newer before) (over (labels_of owner newer) (rw (own_arrived first threads before owner) at lt))
    where
      over : (labels : List Label) → epoch < arrived_of (labels_of owner before) bar → epoch < arrived_of (labels ++ labels_of owner before) bar
      over [] lt = lt
      over (label ∷ labels) lt = omega (arith, over labels lt, arrived_rises label (labels ++ labels_of owner before) bar)

  pub settled : (newer before : List Turn) → IsPlainRun setup first threads (newer ++ before) → epoch < (after_run first threads before).arrived owner bar →
      is_stored_in line_at setup bar owner epoch (labels_of owner (newer ++ before)) line ≡ is_stored_in line_at setup bar owner epoch (labels_of owner before) line
  settled [] before is_run lt = refl
  settled (turn ∷ newer) before is_run lt =
      ⊎_elim
      (λ mine. ap (λ labels. is_stored_in line_at setup bar owner epoch labels line) (labels_mine owner turn (newer ++ before) mine)
      ∙ own_settled turn.label (labels_of owner (newer ++ before)) (arrived_more newer before lt)
      (λ stores. rw (← own_arrived first threads (newer ++ before) owner, ← own_crossed first threads (newer ++ before) owner)
      (settled_at setup first threads ask_first bar (newer ++ before) is_run.0 owner (rw mine at is_run.1.is_processor) turn.label (rw mine at is_run.1.is_label)
      (no_cross line_at setup bar owner line turn.label stores)))
      ∙ settled newer before is_run.0 lt)
      (λ ne. ap (λ labels. is_stored_in line_at setup bar owner epoch labels line) (labels_other owner turn (newer ++ before) ne) ∙ settled newer before is_run.0 lt)
      (cases_eq turn.proc owner)

pub values_settled : {S : Type 0} (setup : Setup) (first : ℕ → S) (threads : Semantics S) (newer before : List Turn) (bar epoch cell : ℕ) →
    epoch ≤ (after_run first threads before).arrived (owner_of (piece_of setup.bindings cell)) bar →
    memory_in setup (λ p. labels_of p (newer ++ before)) bar epoch cell ≡ memory_in setup (λ p. labels_of p before) bar epoch cell
values_settled setup first threads newer before bar epoch cell le =
    let owner = owner_of (piece_of setup.bindings cell) in
    let same : until_arrival bar epoch (labels_of owner (newer ++ before)) ≡ until_arrival bar epoch (labels_of owner before) =
    rw (labels_more owner newer before) (until_later bar epoch (labels_of owner newer) (labels_of owner before) (rw (own_arrived first threads before owner) at le)).1 in
    ap (λ labels. stored_by labels cell) same
