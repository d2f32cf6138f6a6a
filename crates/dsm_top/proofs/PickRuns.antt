-- One more pick of a run.
use Rattle.std.specs.Prelude.{◌≡◌, ◌<◌, ◌+◌, ℕ, List, [], ◌++◌, length, take, Option, Some, None}
use Rattle.std.proofs.Common.{refl, sym, ap, ◌∙◌, append-nil}
use Rattle.std.proofs.Math.ListN.{get_or}
use Rattle.std.proofs.lemmas.List.Sums.{fold_more}
use Rattle.dsm_base.specs.declared.names.Proc.{Proc}
use Rattle.dsm_base.specs.declared.label.Label.{Label}
use Rattle.dsm_base.specs.declared.setup.Setup.{Setup}
use Rattle.dsm_base.specs.Output.{line_text, printed_of, printed_lines}
use Rattle.dsm_base.specs.Plain.{PlainState, Turn, plain_turn, after_run}
use Rattle.dsm_base.specs.Threads.{Semantics}
use Rattle.dsm_top.specs.PickRuns.{with_turn, with_pick, run_by_picks}

module _ {S : Type 0} (setup : Setup) (first : ℕ → S) (threads : Semantics S) where
  -- the turn that a machine shows is the one that is added
  pub next_is : (machine : PlainState S) (turns : List Turn) (p : Proc) (found : Option Label) → machine ≡ after_run first threads turns → plain_turn setup threads machine p.0 ≡ found
      → with_pick setup first threads turns p ≡ with_turn turns p.0 found
  next_is machine turns p found at is = ap (with_turn turns p.0) (ap (λ s. plain_turn setup threads s p.0) (sym at) ∙ is)

  -- one more pick of a list
  pub next_pick : (picks : List Proc) (units : ℕ) (p : Proc) → p ≡ get_or picks units p → units < length picks
      → run_by_picks setup first threads (take (units + 1) picks) ≡ with_pick setup first threads (run_by_picks setup first threads (take units picks)) p
  next_pick picks units p is inside =
      fold_more (with_pick setup first threads) [] picks units p inside ∙ ap (with_pick setup first threads (run_by_picks setup first threads (take units picks))) (sym is)

-- what one more turn prints
pub next_line : (turns : List Turn) (p : ℕ) (label : Label) → printed_lines (with_turn turns p (Some label)) ≡ printed_lines turns ++ printed_of p (line_text label)
next_line turns p label = refl

pub no_line : (turns : List Turn) (p : ℕ) → printed_lines (with_turn turns p None) ≡ printed_lines turns ++ []
no_line turns p = sym (append-nil (printed_lines turns))
