use Rattle.std.proofs.Common.{◌≡◌, drop}
use Rattle.dsm_lines.specs.Copies.{overlaid}
use Rattle.dsm_lines.specs.LinePages.{pages_pieces, pages_memory}
use Rattle.dsm_lines.proofs.pages.LinePages.overlay.Given as goal

-- the rest of the lines, laid over what is there now, gives the whole
abbrev pub invariant-loop-line : goal.invariant-loop-line
invariant-loop-line l =
    record {
      memory : overlaid (pages_pieces l.initial.self) (pages_memory l.self) (drop l.line-index l.line-items)
          ≡ overlaid (pages_pieces l.initial.self) (pages_memory l.initial.self) l.line-items;
      pieces : pages_pieces l.self ≡ pages_pieces l.initial.self;
    }
