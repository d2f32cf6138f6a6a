use Rattle.std.proofs.Common.{refl, sym, ap, subst, inl, map, string_bytes, Err}
use Rattle.dsm_command.specs.Commands.{command_of}
use Rattle.dsm_top.specs.declared.status.Status.{Status}
use Rattle.dsm_top.specs.Prepared.{IsPrepared}
use Rattle.dsm_top.specs.Refusals.{Given, RefusesCommand, RefusesOrMemory}
use Rattle.dsm_top.proofs.Calls.{refused_silent}
use Rattle.dsm_top.proofs.tool.run_tool.Goals as goal

pub returns-in-Err-Refused : goal.returns-in-Err-Refused
returns-in-Err-Refused g c =
    let given : Given = record {
      command = command_of (map string_bytes c.args.words.now.items);
      files = g.F.Files.files_hold c.args.files.now;
      faults_before = g.F.Files.files_faults c.args.files.now;
      faults_after = g.F.Files.files_faults c.args.files.now;
    } in
    let none = c.in-Err-Refused.ensures.refused (ap Err c.in-Err-Refused.field-0-is) in
    record { ended = inl (c.refuse.ensures given none (subst (RefusesCommand given Status.WordsRefused) (sym none) refl)) }

pub returns-in-Err-Memory : goal.returns-in-Err-Memory
returns-in-Err-Memory g c =
    let given : Given = record {
      command = command_of (map string_bytes c.args.words.now.items);
      files = g.F.Files.files_hold c.args.files.now;
      faults_before = g.F.Files.files_faults c.args.files.now;
      faults_after = g.F.Files.files_faults c.args.files.now;
    } in
    record { ended = inl (refused_silent given (g.K.Sink.sink_holds c.args.out.now) (g.K.Sink.sink_holds c.args.out.now) (g.K.Sink.sink_faults c.args.out.now) (g.K.Sink.sink_faults c.args.out.now) c.untraced.result Status.Memory c.untraced.ensures refl refl) }

pub returns-in-Ok-prepare : goal.returns-in-Ok-prepare
returns-in-Ok-prepare g c = record {
  ended = c.perform.ensures _ (subst (λ command. IsPrepared (g.F.Files.files_hold c.args.files.now) command c.in-Ok-prepare.prepared) (sym c.in-Ok.ensures.command) c.in-Ok-prepare.ensures.accepted);
}

pub returns : goal.returns
returns g c =
    let given : Given = record {
      command = command_of (map string_bytes c.args.words.now.items);
      files = g.F.Files.files_hold c.args.files.now;
      faults_before = g.F.Files.files_faults c.args.files.now;
      faults_after = g.F.Files.files_faults c.prepare.new.files;
    } in
    record {
      ended = inl (c.refuse-in-Err.ensures given c.in-Ok.ensures.command
          (subst (λ command. RefusesOrMemory record { command = command; files = given.files; faults_before = given.faults_before; faults_after = given.faults_after } c.in-Err.status) (sym c.in-Ok.ensures.command) c.in-Err.ensures.refused));
    }
