use Rattle.std.proofs.Common.{◌∙◌, refl}
use Rattle.dsm_top.specs.declared.status.Status.{Status}
use Rattle.dsm_top.specs.CommandInCode.{told_command}
use Rattle.dsm_top.proofs.Calls.{refused_silent, refused_whole, refused_cut}
use Rattle.dsm_top.proofs.tool.refuse.Goals as goal

pub returns-in-Memory : goal.returns-in-Memory
returns-in-Memory g c given same is =
    refused_silent given (g.K.Sink.sink_holds c.args.out.now) (g.K.Sink.sink_holds c.args.out.now) (g.K.Sink.sink_faults c.args.out.now) (g.K.Sink.sink_faults c.args.out.now) c.untraced.result c.args.status c.untraced.ensures c.in-Memory.is refl

pub returns-in_default-message : goal.returns-in_default-message
returns-in_default-message g c given same is =
    refused_silent given (g.K.Sink.sink_holds c.args.out.now) (g.K.Sink.sink_holds c.args.out.now) (g.K.Sink.sink_faults c.args.out.now) (g.K.Sink.sink_faults c.args.out.now) c.untraced-in_default-message.result Status.Memory c.untraced-in_default-message.ensures refl refl

pub returns-in-Ok-put_all : goal.returns-in-Ok-put_all
returns-in-Ok-put_all g c given same is =
    refused_whole given (g.K.Sink.sink_holds c.args.out.now) (g.K.Sink.sink_holds c.put_all.new.out) (g.K.Sink.sink_faults c.args.out.now) (g.K.Sink.sink_faults c.put_all.new.out) c.args.status c.in_default.not-Memory is (told_command c.args.command) same
    c.as_slice.result.now (c.as_slice.ensures ∙ c.in-Ok.ensures) c.untraced-in-Ok-put_all.result c.untraced-in-Ok-put_all.ensures c.in-Ok-put_all.ensures.whole

pub returns-in-Err : goal.returns-in-Err
returns-in-Err g c given same is =
    refused_cut given (g.K.Sink.sink_holds c.args.out.now) (g.K.Sink.sink_holds c.put_all.new.out) (g.K.Sink.sink_faults c.args.out.now) (g.K.Sink.sink_faults c.put_all.new.out) c.args.status c.in_default.not-Memory is (told_command c.args.command) same
    c.as_slice.result.now (c.as_slice.ensures ∙ c.in-Ok.ensures) c.untraced-in-Err.result c.from.result c.in-Err.error c.untraced-in-Err.ensures c.from.ensures c.in-Err.ensures.part c.in-Err.ensures.cause.rose
