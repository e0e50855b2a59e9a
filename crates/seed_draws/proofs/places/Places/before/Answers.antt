use Rattle.std.proofs.Common.{◌∙◌, ap}
use Rattle.std.specs.Prelude.{slice_index_or}
use Rattle.seed_draws.specs.TextModel.Schedule.{ShapeView}
use Rattle.recording_model.specs.LetBy.{turns_before}
use Rattle.seed_draws.proofs.Draws.{before-at}
use Rattle.seed_draws.proofs.places.Places.before.Goals as goal

pub returns : goal.returns
returns c =
    let p = c.self.inside in
    let shape : ShapeView = record { harts = p.harts; buses = p.widths.items } in
    c.value_at.ensures ∙ ap (λ xs. slice_index_or xs c.bus.inside.0 p.count) c.deref.ensures.value ∙ before-at shape p.before.items p.count c.bus.inside.0 c.self.invariant
    ∙ ap (λ (s : ShapeView). turns_before s c.bus.inside.0) c.self.view_is
    ∙ ap (turns_before c.args.self.now) c.bus.view_is
