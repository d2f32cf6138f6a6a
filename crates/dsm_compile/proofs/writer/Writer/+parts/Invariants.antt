use Rattle.std.proofs.Common.{length}
use Rattle.dsm_compile.proofs.writer.Writer.+parts.Given as goal

abbrev pub decreases-parts : goal.decreases-parts
decreases-parts l = length l.parts.now
