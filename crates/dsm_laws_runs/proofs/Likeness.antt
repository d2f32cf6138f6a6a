-- Runs that leave the same.
use Rattle.std.specs.Prelude.{◌≡◌, ℕ, List, ◌∷◌}
use Rattle.std.proofs.Common.{arith, refl, sym, ap, subst, ◌∙◌}
use Rattle.dsm_base.specs.declared.setup.Setup.{Setup}
use Rattle.dsm_base.specs.Threads.{Semantics}
use Rattle.dsm_base.specs.Plain.{Turn, IsPlainRun, IsPlainTurn, after_run, plain_after, labels_of}
use Rattle.dsm_laws_runs.specs.Swap.{IsRunLike}
use Rattle.dsm_laws_runs.proofs.Swap.{memory_at_if}

one_more : (p : ℕ) (turn : Turn) (run other : List Turn) → labels_of p run ≡ labels_of p other → labels_of p (turn ∷ run) ≡ labels_of p (turn ∷ other)
one_more p turn run other same = grind arith

module _ {S : Type 0} (setup : Setup) (first : ℕ → S) (threads : Semantics S) where
  pub like_itself : (run : List Turn) → IsPlainRun setup first threads run → IsRunLike setup first threads run run
  like_itself run is_run = record { is_run = is_run; same_labels = λ p. refl; same_state = refl; same_versions = λ lock version cell is. refl }

  pub then_like : (one two three : List Turn) → IsRunLike setup first threads one two → IsRunLike setup first threads two three → IsRunLike setup first threads one three
  then_like one two three a b = record {
    is_run = a.is_run;
    same_labels = λ p. a.same_labels p ∙ b.same_labels p;
    same_state = a.same_state ∙ b.same_state;
    same_versions = λ lock version cell is. a.same_versions lock version cell is ∙ b.same_versions lock version cell is;
  }

  -- with one turn more
  pub more_like : (turn : Turn) (run other : List Turn) → IsRunLike setup first threads run other → IsPlainTurn setup threads (after_run first threads other) turn →
      IsRunLike setup first threads (turn ∷ run) (turn ∷ other)
  more_like turn run other like is_turn = record {
    is_run = (like.is_run, subst (λ s. IsPlainTurn setup threads s turn) (sym like.same_state) is_turn);
    same_labels = λ p. one_more p turn run other (like.same_labels p);
    same_state = ap (λ s. plain_after threads s turn.proc turn.label) like.same_state;
    same_versions = λ lock version cell is.
        memory_at_if first threads turn run lock version cell ∙ rw (like.same_state, like.same_versions lock version cell is) (sym (memory_at_if first threads turn other lock version cell));
  }
