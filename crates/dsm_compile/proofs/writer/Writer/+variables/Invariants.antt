use Rattle.std.proofs.Common.{length}
use Rattle.dsm_compile.proofs.writer.Writer.+variables.Given as goal

abbrev pub decreases-variables : goal.decreases-variables
decreases-variables l = length l.variables.now
