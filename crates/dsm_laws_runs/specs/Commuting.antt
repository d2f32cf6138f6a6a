-- Turns that may be made in either order.
use Rattle.std.specs.Prelude.{◌≡◌, ◌≢◌, ℕ, Option, Some, None}
use Rattle.dsm_base.specs.declared.label.Label.{Label}
use Rattle.dsm_base.specs.declared.setup.Setup.{Setup}
use Rattle.dsm_base.specs.Threads.{Semantics}
use Rattle.dsm_base.specs.Plain.{PlainState, plain_turn, plain_after}

-- what processors share, by its number
pub data Thing : Type 0 where
  a_lock : ℕ → Thing
  a_barrier : ℕ → Thing
  a_cell : ℕ → Thing

-- what a label touches, if anything
abbrev pub touched : Label → Option Thing
touched (Label.Load cell value) = Some (a_cell cell.0)
touched (Label.Store cell value) = Some (a_cell cell.0)
touched (Label.Ask lock mode) = Some (a_lock lock.0)
touched (Label.Take lock mode version) = Some (a_lock lock.0)
touched (Label.Give lock) = Some (a_lock lock.0)
touched (Label.Arrive bar) = Some (a_barrier bar.0)
touched (Label.Cross bar epoch) = Some (a_barrier bar.0)
touched Label.Quiet = None
touched (Label.Line text) = None
touched Label.End = None
touched (Label.Stop fault line) = None

-- there is nothing that both labels touch
abbrev pub TouchNothingInCommon : Label → Label → Type 0
TouchNothingInCommon one other = (thing : Thing) → touched one ≡ Some thing → touched other ≢ Some thing

-- the turns of p and q can be made in either order, and leave the same
pub record Commute {S : Type 0} (setup : Setup) (threads : Semantics S) (s : PlainState S) (p q : ℕ) (one other : Label) : Type 0 where
  pub other_second : plain_turn setup threads (plain_after threads s p one) q ≡ Some other
  pub one_second : plain_turn setup threads (plain_after threads s q other) p ≡ Some one
  pub same : plain_after threads (plain_after threads s p one) q other ≡ plain_after threads (plain_after threads s q other) p one
