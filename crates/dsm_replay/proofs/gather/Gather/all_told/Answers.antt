use Rattle.std.specs.Prelude.{is_some}
use Rattle.std.proofs.Common.{◌≡◌, ◌||◌, ◌==◌, false, sym, arith}
use Rattle.dsm_replay.specs.Gathering.{gathered_by}
use Rattle.dsm_replay.proofs.Telling.{fails_at}
use Rattle.dsm_replay.proofs.gather.Gather.all_told.Goals as goal

pub returns-then-not-is_told : goal.returns-then-not-is_told
returns-then-not-is_told c =
    let q = c.loop-q.q in
    let not_told : ((q == c.args.self.now.me.0) || is_some ((gathered_by c.args.self.now).reports q)) ≡ false = grind (arith, c.is_told.ensures, c.if-not-is_told.true) in
    sym (fails_at c.args.self.now.procs (λ p. (p == c.args.self.now.me.0) || is_some ((gathered_by c.args.self.now).reports p)) q c.loop-q-test.true not_told)
