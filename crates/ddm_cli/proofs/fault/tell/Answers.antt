use Rattle.std.proofs.Common.{◌∙◌, subst}
use Rattle.ddm_cli.specs.ReportCrate.Appends.{Appends, AppendsPart}
use Rattle.ddm_cli.proofs.Telling.{head_offered, rest_offered}
use Rattle.ddm_cli.proofs.fault.tell.Goals as goal

pub returns-in-Ok : goal.returns-in-Ok
returns-in-Ok g c =
    let head = subst (Appends (g.K.Sink.held c.args.faults_out.now) (g.K.Sink.held c.write_all.new.sink)) (c.as_slice.ensures ∙ c.line_head-head.ensures) c.in-Ok.ensures.ok in
    rest_offered g.K.Sink.held g.K.Sink.faults c.args.faults_out.now c.write_all.new.sink c.tell_rest.new.faults_out c.args.status.now c.tell_rest.result head c.write_all.ensures.cause.later c.tell_rest.ensures.ok c.tell_rest.ensures.err c.tell_rest.ensures.cause

pub returns-in-Err : goal.returns-in-Err
returns-in-Err g c =
    let part = subst (AppendsPart (g.K.Sink.held c.args.faults_out.now) (g.K.Sink.held c.write_all.new.sink)) (c.as_slice.ensures ∙ c.line_head-head.ensures) c.in-Err.ensures.err in
    head_offered g.K.Sink.held g.K.Sink.faults c.args.faults_out.now c.write_all.new.sink c.args.status.now part c.in-Err.ensures.cause.failed
