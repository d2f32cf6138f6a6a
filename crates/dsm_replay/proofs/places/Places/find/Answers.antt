use Rattle.std.proofs.Common.{◌∙◌, sym}
use Rattle.dsm_replay.proofs.Noting.{found_at, not_found}
use Rattle.dsm_replay.proofs.places.Places.find.Goals as goal

pub returns-in-Some : goal.returns-in-Some
returns-in-Some g c =
    c.entry_at.ensures ∙ found_at g.T.Keyed.entry_key c.args.number c.args.object c.args.entries.now c.in-Some.place (sym c.requires ∙ sym c.in-Some.ensures)

pub returns-in-None : goal.returns-in-None
returns-in-None g c =
    sym (not_found g.T.Keyed.entry_key c.args.number c.args.object 0 c.args.entries.now (sym c.requires ∙ sym c.in-None.ensures))
