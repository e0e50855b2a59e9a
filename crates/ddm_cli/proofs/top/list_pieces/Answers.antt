use Rattle.std.proofs.Common.{ap, ◌∙◌}
use Rattle.ddm_cli.specs.TreeModel.Start.Sources.{TreeValue}
use Rattle.ddm_cli.specs.TextModel.Schedule.{schedule_text}
use Rattle.ddm_cli.specs.TextModel.Seeded.{seeded_turns}
use Rattle.ddm_cli.specs.ScheduleLog.Shapes.{shape_view}
use Rattle.ddm_cli.specs.Top.{list_at}
use Rattle.ddm_cli.proofs.Taken.{list_taken}
use Rattle.ddm_cli.proofs.top.list_pieces.Goals as goal

pub returns-clause-taken : goal.returns-clause-taken
unfolding list_at
returns-clause-taken g c =
    let levels = ap (λ (u : TreeValue). u.levels) c.tree.view_is in
    let text = c.in_ok-new.ensures ∙ ap (λ ls. schedule_text (seeded_turns (shape_view ls) c.args.seed c.args.count)) levels in
    list_taken (g.F.Shelf.told c.args.files.now c.args.tree.now) c.in_ok-tree.tree c.args.seed c.args.count c.in_ok-new.field-0 c.in_ok-tree.ensures.found text
