-- What answers a step of a thread that has to wait: a grant for a take, an opening for a crossing.
use Rattle.std.specs.Prelude.{ℕ, ◌+◌, Bool, ◌&&◌, ◌==◌, List, [], find, Option, Some, option_map}
use Rattle.dsm_base.specs.declared.label.Want.{Want}
use Rattle.dsm_lines.specs.declared.list.Line.{Line}
use Rattle.dsm_lines.specs.declared.of_objects.MailGrant.{MailGrant}
use Rattle.dsm_lines.specs.declared.of_objects.MailOpening.{MailOpening}
use Rattle.dsm_net.specs.Processor.{Processor}

-- the version of a take, or the epoch of a crossing, and the lines that it brings
pub record Input : Type 0 where
  pub number : ℕ
  pub lines : List Line

-- a grant of this lock for this turn
abbrev pub is_grant_for : ℕ → ℕ → MailGrant → Bool
is_grant_for turn lock grant = (grant.turn == turn) && (grant.lock.0 == lock)

-- an opening of this barrier into this epoch
abbrev pub is_opening_of : ℕ → ℕ → MailOpening → Bool
is_opening_of bar epoch opening = (opening.bar.0 == bar) && (opening.epoch == epoch)

-- what a grant gives a take
abbrev pub input_of_grant : MailGrant → Input
input_of_grant grant = record { number = grant.version; lines = grant.lines }

-- what an opening gives a crossing
abbrev pub input_of_opening : MailOpening → Input
input_of_opening opening = record { number = opening.epoch; lines = opening.lines }

-- all that can answer what a processor's thread wants; a step that waits for nothing needs no lines and no number
abbrev pub input_for : {S : Type 0} → Processor S → Want → Option Input
input_for s (Want.Take lock mode) =
    option_map input_of_grant (find (is_grant_for (s.own.turns + 1) lock.0) s.mail.grants)
input_for s (Want.Cross bar) =
    option_map input_of_opening (find (is_opening_of bar.0 (s.own.crossed bar.0 + 1)) s.mail.openings)
input_for s want = Some record { number = 0; lines = [] }
