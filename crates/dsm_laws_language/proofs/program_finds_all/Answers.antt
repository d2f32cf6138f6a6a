use Rattle.dsm_laws_language.proofs.Steps.{goes_closed}
use Rattle.dsm_laws_language.proofs.Reached.{started_closed, completed_closed, closed_finds, reached_finds, labels_reached}
use Rattle.dsm_laws_language.proofs.Wants.{over_only, line_only}
use Rattle.dsm_laws_language.proofs.program_finds_all.Goals as goal

pub returns : goal.returns
returns c = record {
  started = λ program procs me closed. started_closed program closed procs me;
  step = λ program s t closed state is. goes_closed program closed s t state is;
  label = λ program s label closed state answers. completed_closed program closed s label state answers;
  finds = λ program s closed state. closed_finds program closed s state;
  reached = reached_finds;
  after_labels = labels_reached;
  over = over_only;
  line = line_only;
}
