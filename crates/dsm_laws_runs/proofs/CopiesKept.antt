-- How turns with their copies go on with the run: in a run that is like it, with a turn more, and with a turn less.
use Rattle.std.specs.Prelude.{◌≡◌, ◌≢◌, ℕ, ℤ, List, ◌∷◌, Some}
use Rattle.std.proofs.Common.{sym, ap, subst, ◌∙◌}
use Rattle.dsm_base.specs.declared.setup.Setup.{Setup}
use Rattle.dsm_base.specs.Access.{piece_of}
use Rattle.dsm_base.specs.Threads.{Semantics}
use Rattle.dsm_base.specs.Plain.{Turn, IsPlainRun, IsPlainTurn, after_run, labels_of, plain_turn}
use Rattle.dsm_laws_runs.specs.Swap.{IsRunLike}
use Rattle.dsm_laws_runs.specs.Barriers.{owner_of, stored_by, until_arrival}
use Rattle.dsm_laws_runs.specs.Copies.{OwnTurn, own_labels, newest_copy, memories_of, Renews, AreAdequate, HasCopies}
use Rattle.dsm_laws_runs.proofs.OwnPart.{labels_mine, labels_other}
use Rattle.dsm_laws_runs.proofs.Agreements.{AreKnown, known_itself, known_before, renews_same, adequate_same}

module _ {S : Type 0} (setup : Setup) (first : ℕ → S) (threads : Semantics S) (p : ℕ) where
  -- a run that leaves the same
  pub copies_alike : (run other : List Turn) (turns : List OwnTurn) → IsRunLike setup first threads other run → HasCopies setup first threads run p turns → HasCopies setup first threads other p turns
  copies_alike run other turns like has = record {
    ask_first = has.ask_first;
    is_run = like.is_run;
    is_processor = has.is_processor;
    same_labels = like.same_labels p ∙ has.same_labels;
    adequate = adequate_same setup first threads (memories_of setup first threads run) (memories_of setup first threads other) run has.is_run (known_itself setup first threads run) also p turns has.same_labels has.adequate;
  }
    where
      also : AreKnown setup first threads (memories_of setup first threads other) run
      also = record {
        at_version = λ lock version le cell is. like.same_versions lock version cell is;
        in_epoch = λ bar epoch cell le. ap (λ labels. stored_by (until_arrival bar epoch labels) cell) (like.same_labels (owner_of (piece_of setup.bindings cell)));
      }

  -- one turn more
  module _ (turn : Turn) (run : List Turn) (turns : List OwnTurn) (has : HasCopies setup first threads run p turns) (is_turn : IsPlainTurn setup threads (after_run first threads run) turn) where
    was_adequate : AreAdequate setup (memories_of setup first threads (turn ∷ run)) p turns
    was_adequate =
        adequate_same setup first threads (memories_of setup first threads run) (memories_of setup first threads (turn ∷ run)) run has.is_run (known_itself setup first threads run)
        (known_before setup first threads (memories_of setup first threads (turn ∷ run)) turn run is_turn.is_processor (known_itself setup first threads (turn ∷ run))) p turns has.same_labels has.adequate

    pub copies_other : turn.proc ≢ p → HasCopies setup first threads (turn ∷ run) p turns
    copies_other ne = record {
      ask_first = has.ask_first;
      is_run = (has.is_run, is_turn);
      is_processor = has.is_processor;
      same_labels = labels_other p turn run ne ∙ has.same_labels;
      adequate = was_adequate;
    }

    pub copies_own : turn.proc ≡ p → (now : ℕ → ℤ) → Renews setup (memories_of setup first threads run) p turn.label (newest_copy turns) now →
        HasCopies setup first threads (turn ∷ run) p (record { label = turn.label; copy = now } ∷ turns)
    copies_own mine now renews = record {
      ask_first = has.ask_first;
      is_run = (has.is_run, is_turn);
      is_processor = has.is_processor;
      same_labels = labels_mine p turn run mine ∙ ap (λ labels. turn.label ∷ labels) has.same_labels;
      adequate = (
        was_adequate,
        renews_same setup first threads (memories_of setup first threads run) (memories_of setup first threads (turn ∷ run)) run (known_itself setup first threads run)
            (known_before setup first threads (memories_of setup first threads (turn ∷ run)) turn run is_turn.is_processor (known_itself setup first threads (turn ∷ run))) p turn.label
            (subst (λ p. plain_turn setup threads (after_run first threads run) p ≡ Some turn.label) mine is_turn.is_label) (newest_copy turns) now renews,
      );
    }

  -- one turn less
  module _ (turn : Turn) (before : List Turn) where
    less_adequate : (turns : List OwnTurn) → IsPlainRun setup first threads (turn ∷ before) → labels_of p before ≡ own_labels turns → AreAdequate setup (memories_of setup first threads (turn ∷ before)) p turns →
        AreAdequate setup (memories_of setup first threads before) p turns
    less_adequate turns is_run same adequate =
        adequate_same setup first threads (memories_of setup first threads (turn ∷ before)) (memories_of setup first threads before) before is_run.0
        (known_before setup first threads (memories_of setup first threads (turn ∷ before)) turn before is_run.1.is_processor (known_itself setup first threads (turn ∷ before)))
        (known_itself setup first threads before) p turns same adequate

    pub copies_less_other : (turns : List OwnTurn) → HasCopies setup first threads (turn ∷ before) p turns → turn.proc ≢ p → HasCopies setup first threads before p turns
    copies_less_other turns has ne =
        let same : labels_of p before ≡ own_labels turns = sym (labels_other p turn before ne) ∙ has.same_labels in
        record { ask_first = has.ask_first; is_run = has.is_run.0; is_processor = has.is_processor; same_labels = same; adequate = less_adequate turns has.is_run same has.adequate }

    pub copies_less_own : (own : OwnTurn) (turns : List OwnTurn) → HasCopies setup first threads (turn ∷ before) p (own ∷ turns) → turn.proc ≡ p → HasCopies setup first threads before p turns
    copies_less_own own turns has mine =
        let both : turn.label ∷ labels_of p before ≡ own.label ∷ own_labels turns = sym (labels_mine p turn before mine) ∙ has.same_labels in
        let same : labels_of p before ≡ own_labels turns = cc in
        record { ask_first = has.ask_first; is_run = has.is_run.0; is_processor = has.is_processor; same_labels = same; adequate = less_adequate turns has.is_run same has.adequate.0 }
