use Rattle.std.proofs.Common.{ap, sym, subst}
use Rattle.ddm_cli.specs.TreeModel.Start.Sources.{TreeValue}
use Rattle.ddm_cli.specs.TreeModel.State.Shape.{frame_of}
use Rattle.ddm_cli.specs.DdmTree.Machine.{MachineState}
use Rattle.ddm_cli.specs.AnyMachine.Any.{machine_state}
use Rattle.ddm_cli.specs.ScheduleLog.Shapes.{shape_view}
use Rattle.outcomes.specs.Runs.{HasShape}
use Rattle.ddm_cli.proofs.Surveys.{can_begin, has_shape}
use Rattle.ddm_cli.proofs.surveying.table_text.Goals as goal

pub outcomes-requires-clause-shape : goal.outcomes-requires-clause-shape
outcomes-requires-clause-shape c =
    let levels = ap (λ (u : TreeValue). u.levels) c.tree.view_is in
    subst (λ ls. HasShape (shape_view ls) (machine_state c.args.start.now).machine) (sym levels) (has_shape c.args.tree.now c.requires.tree (machine_state c.args.start.now) c.requires.start)

pub outcomes-requires-clause-start : goal.outcomes-requires-clause-start
outcomes-requires-clause-start c = can_begin c.args.tree.now c.requires.tree (machine_state c.args.start.now) c.requires.start c.args.seeds.turns c.requires.turns

pub outcomes-requires-clause-frame : goal.outcomes-requires-clause-frame
outcomes-requires-clause-frame c = ap (λ (s : MachineState). frame_of s.machine) c.requires.alike
