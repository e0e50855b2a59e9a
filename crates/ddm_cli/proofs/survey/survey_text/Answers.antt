use Rattle.std.proofs.Common.{ap, sym, subst, arith}
use Rattle.ddm_cli.specs.TreeModel.Start.Sources.{TreeValue}
use Rattle.ddm_cli.specs.TreeModel.State.Shape.{frame_of}
use Rattle.ddm_cli.specs.DdmTree.Machine.{MachineState}
use Rattle.ddm_cli.specs.AnyMachine.Any.{machine_state}
use Rattle.ddm_cli.specs.ScheduleLog.Shapes.{shape_view}
use Rattle.ddm_cli.specs.RecordingCrate.Runs.{IsStart as CanBegin}
use Rattle.ddm_cli.proofs.Records.{can_record}
use Rattle.ddm_cli.proofs.StartNames.{start_ops}
use Rattle.ddm_cli.proofs.survey.survey_text.Goals as goal

pub survey-requires-clause-begins : goal.survey-requires-clause-begins
survey-requires-clause-begins c =
    let levels = ap (λ (u : TreeValue). u.levels) c.tree.view_is in
    let s = machine_state c.args.start.now in
    subst (λ ls. CanBegin (shape_view ls) s) (sym levels) (can_record c.args.tree.now c.requires.tree s c.requires.start)

pub survey-requires-clause-none : goal.survey-requires-clause-none
survey-requires-clause-none c = start_ops c.args.tree.now (machine_state c.args.start.now) c.requires.start

pub survey-requires-clause-twin : goal.survey-requires-clause-twin
survey-requires-clause-twin c =
    record { kind = c.requires.kind; frame = ap (λ (s : MachineState). frame_of s.machine) c.requires.alike; room = omega arith }
