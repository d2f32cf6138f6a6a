use Rattle.std.proofs.Common.{◌≡◌, None, arith}
use Rattle.dsm_replay.specs.Kept.{place_in}
use Rattle.dsm_replay.proofs.Noting.{noted}
use Rattle.dsm_replay.proofs.places.Places.note.Goals as goal

pub returns-in_ok-insert : goal.returns-in_ok-insert
returns-in_ok-insert c =
    let none : place_in c.args.self.now c.args.key.0 c.args.key.1 ≡ None = grind (arith, c.contains_key.ensures, c.if-not-contains_key.true) in
    λ number object. noted (place_in c.args.self.now) c.args.key c.args.place number object (place_in (record { places = c.insert.new.self }) number object) none (c.in_ok-insert.ensures.updates.0 (number, object))
