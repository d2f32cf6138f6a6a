use Rattle.std.proofs.Common.{◌≡◌, ◌+◌, drop}
use Rattle.dsm_check.specs.Views.{views}
use Rattle.dsm_laws_code.specs.Expressions.{arguments_code}
use Rattle.dsm_compile.specs.Drafts.{with_code}
use Rattle.dsm_compile.proofs.writer.Writer.+expression.Given as goal

-- the arguments from there on are written
abbrev pub invariant-arguments-loop-at : goal.invariant-arguments-loop-at
invariant-arguments-loop-at l =
    l.self ≡ with_code (arguments_code l.initial.self.pieces (l.depth + l.at) (views (drop l.at l.arguments))) l.initial.self
