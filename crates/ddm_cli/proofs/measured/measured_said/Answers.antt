use Rattle.std.proofs.Common.{◌∙◌, ap, subst, sym}
use Rattle.ddm_cli.specs.TreeModel.Start.Sources.{TreeValue}
use Rattle.ddm_cli.specs.AnyMachine.Any.{machine_state}
use Rattle.ddm_cli.specs.ScheduleLog.Shapes.{shape_view}
use Rattle.ddm_cli.specs.RecordingCrate.Runs.{IsStart as CanBegin}
use Rattle.ddm_cli.specs.MeasureModel.Text.{measure_text}
use Rattle.ddm_words.specs.Views.{recorded_from}
use Rattle.ddm_cli.proofs.Measures.{measures_taken}
use Rattle.ddm_cli.proofs.Records.{can_record}
use Rattle.ddm_cli.proofs.measured.measured_said.Goals as goal

pub measure_text-text-requires : goal.measure_text-text-requires
measure_text-text-requires g c =
    let found = c.in_ok-machine.ensures.found in
    let levels = ap (λ (u : TreeValue). u.levels) c.tree.view_is in
    let s = machine_state c.in_ok-machine.machine in
    subst (λ ls. CanBegin (shape_view ls) s) (sym levels) (can_record c.in_ok-tree.tree c.in_ok-tree.ensures.tree s (found.0, found.1))

pub returns-in-Ok-clause-taken : goal.returns-in-Ok-clause-taken
returns-in-Ok-clause-taken g c =
    let told = g.F.Shelf.told c.args.files.now in
    let recorded = recorded_from c.args.recorded in
    let found = c.in_ok-machine.ensures.found in
    let levels = ap (λ (u : TreeValue). u.levels) c.tree.view_is in
    let s = machine_state c.in_ok-machine.machine in
    let text = c.in-Ok.ensures.text ∙ ap (λ ls. measure_text recorded.kind (shape_view ls) recorded.seed recorded.turns s.machine) levels in
    measures_taken recorded c.in_ok-tree.tree found.0 s c.in-Ok.text.items found.1 text (told recorded.tree) (told recorded.image) c.in_ok-tree.ensures.found (rw c.tree_file.ensures.same at found.2)
