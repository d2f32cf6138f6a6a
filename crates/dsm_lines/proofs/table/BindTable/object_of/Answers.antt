use Rattle.std.proofs.Common.{◌≡◌, sym, ◌∙◌, rules}
use Rattle.std.specs.Option.{option_map}
use Rattle.dsm_lines.specs.declared.place.Place.{Place}
use Rattle.dsm_lines.specs.Places.{place_of}
use Rattle.dsm_lines.proofs.Tabling.{object_of_place}
use Rattle.dsm_lines.proofs.table.BindTable.object_of.Goals as goal

pub returns : goal.returns
returns c =
    let place : c.map.result ≡ option_map (λ (place : Place). place.piece.object) (place_of c.args.self.now c.args.cell.0) = search rules in
    place ∙ sym (object_of_place c.args.self.now c.args.cell.0)
