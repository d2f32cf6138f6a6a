use Rattle.std.proofs.Common.{◌-◌, ◌∙◌, ap, subst, refl, IfOk, ◌≡◌, List}
use Rattle.dsm_lines.specs.declared.list.Line.{Line}
use Rattle.dsm_barrier.specs.Joined.{with_lines}
use Rattle.dsm_replay.specs.Inputs.{lines_of_version}
use Rattle.dsm_replay.specs.Newest.{newest_lines}
use Rattle.dsm_replay.specs.Replays.{told_to}
use Rattle.dsm_replay.proofs.Telling.{version_on, no_version}
use Rattle.dsm_replay.proofs.replay.Replay.newest_lines.Goals as goal

pub loop-version-preserved : goal.loop-version-preserved
loop-version-preserved c =
    let version = c.loop-version.version in
    let lines_of = lines_of_version (told_to c.args.self.now) c.args.lock.0 in
    version_on lines_of c.args.over version (version - 1) c.loop-version.merged c.add.new.self (newest_lines lines_of c.args.over c.args.upto) c.loop-version-test.true refl
    (c.in_ok-add.ensures ∙ ap (with_lines c.loop-version.merged) c.lines_of_version.ensures) c.loop-version.invariant

pub returns : goal.returns
returns c =
    let lines_of = lines_of_version (told_to c.args.self.now) c.args.lock.0 in
    subst (λ (merged : List Line). IfOk c.into_lines.result (λ lines. lines ≡ merged))
    (no_version lines_of c.args.over c.loop-version.version c.loop-version.merged (newest_lines lines_of c.args.over c.args.upto) c.loop-version-test.false c.loop-version.invariant)
    c.into_lines.ensures
