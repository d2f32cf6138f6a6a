use Rattle.std.proofs.Common.{◌≡◌, drop}
use Rattle.dsm_lines.specs.Places.{cells_in}
use Rattle.dsm_lines.specs.Copies.{laid}
use Rattle.dsm_lines.specs.LinePages.{pages_pieces, pages_memory}
use Rattle.dsm_lines.proofs.pages.LinePages.lay.Given as goal

-- the rest of the values, laid over what is there now, gives the whole
abbrev pub invariant-loop-at : goal.invariant-loop-at
invariant-loop-at l =
    record {
      memory : laid (pages_memory l.self) (drop l.at (cells_in (pages_pieces l.initial.self) l.line)) (drop l.at l.values)
          ≡ laid (pages_memory l.initial.self) (cells_in (pages_pieces l.initial.self) l.line) l.values;
      pieces : pages_pieces l.self ≡ pages_pieces l.initial.self;
    }
