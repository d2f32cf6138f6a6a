use Rattle.std.proofs.Common.{◌+◌, drop, ap, ◌∙◌, refl}
use Rattle.std.specs.Option.{option_or}
use Rattle.dsm_replay.specs.Places.{one_place}
use Rattle.dsm_replay.specs.Kept.{place_in}
use Rattle.dsm_replay.proofs.Noting.{gone_over, all_gone_over, at_entry, none_behind}
use Rattle.dsm_replay.proofs.places.Places.of.Goals as goal

pub loop-at-preserved : goal.loop-at-preserved
loop-at-preserved g c =
    let entries = c.args.entries.now in
    let at = c.loop-at.at in
    let entry = c.index-entries-at.result in
    λ number object.
    gone_over g.T.Keyed.entry_key (place_in c.note.new.self number object) (place_in c.loop-at.places number object) number object at (at + 1) entry
    (drop at entries) (drop (at + 1) entries) _ refl
    (at_entry g.T.Keyed.entry_key entries at entry c.loop-at-test.true c.index-entries-at.is)
    (c.in_ok-note.ensures number object ∙ ap (λ key. option_or (place_in c.loop-at.places number object) (one_place key at number object)) c.key.ensures)
    (c.loop-at.invariant number object)

pub returns : goal.returns
returns g c =
    λ number object.
    all_gone_over g.T.Keyed.entry_key (place_in c.loop-at.places number object) number object c.loop-at.at (drop c.loop-at.at c.args.entries.now) _
    (none_behind g.T.Keyed.entry_key c.args.entries.now c.loop-at.at c.loop-at-test.false) (c.loop-at.invariant number object)
