use Rattle.std.proofs.Common.{◌≡◌, drop}
use Rattle.dsm_check.specs.Views.{view_statements}
use Rattle.dsm_compile.specs.Drafts.{with_statements, exits_of}
use Rattle.dsm_compile.proofs.writer.Writer.+statement.Given as goal

-- the statements from there on are written
abbrev pub invariant-statements-loop-at : goal.invariant-statements-loop-at
invariant-statements-loop-at l = l.self ≡ with_statements (exits_of l.exits) (view_statements (drop l.at l.statements)) l.initial.self
