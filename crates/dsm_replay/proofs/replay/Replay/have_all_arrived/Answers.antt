use Rattle.std.specs.Prelude.{is_some}
use Rattle.std.specs.Option.{option_and_then}
use Rattle.std.proofs.Common.{◌≡◌, ◌||◌, ◌==◌, false, sym, arith}
use Rattle.dsm_replay.specs.Reports.{lines_arrived}
use Rattle.dsm_replay.specs.Replays.{told_to}
use Rattle.dsm_replay.proofs.Telling.{fails_at}
use Rattle.dsm_replay.proofs.replay.Replay.have_all_arrived.Goals as goal

pub returns-then-not-has_arrived : goal.returns-then-not-has_arrived
returns-then-not-has_arrived c =
    let q = c.loop-q.q in
    let told = told_to c.args.self.now in
    let missing : ((q == c.args.self.now.me.0) || is_some (option_and_then (lines_arrived c.args.bar.0 c.args.ended) (told.reports q))) ≡ false = grind (arith, c.has_arrived.ensures, c.if-not-has_arrived.true) in
    sym (fails_at c.args.self.now.procs (λ p. (p == c.args.self.now.me.0) || is_some (option_and_then (lines_arrived c.args.bar.0 c.args.ended) (told.reports p))) q c.loop-q-test.true missing)
