use Rattle.std.proofs.Common.{◌≡◌, List, map, reverse, take, ap, sym, ◌∙◌}
use Rattle.std.proofs.lemmas.List.{take_all}
use Rattle.dsm_check.specs.declared.scope.Known.{Known}
use Rattle.dsm_check.specs.Environments.{is_here}
use Rattle.dsm_check.specs.FileTables.{names_of}
use Rattle.dsm_check.specs.BodyTables.{entry_of}
use Rattle.dsm_check.proofs.Blocks.{here_inside}
use Rattle.dsm_check.proofs.scope.Scope.is_here.Goals as goal

pub returns : goal.returns
returns c =
    let scope = c.args.self.now in
    let name = c.args.name.now in
    let all : take c.loop-known.known-index c.oldest_first-oldest_first.result.now ≡ c.oldest_first-oldest_first.result.now = take_all _ _ c.loop-known-test.false in
    c.loop-known.invariant
    ∙ ap (λ (known : List Known). is_here (map entry_of (reverse known)) name) all
    ∙ ap (λ (known : List Known). is_here (map entry_of known) name) (sym c.oldest_first-oldest_first.ensures)
    ∙ sym (here_inside scope.locals (names_of scope.file.now) name c.requires)
