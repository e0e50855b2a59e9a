use Rattle.std.proofs.Common.{◌<◌, ◌+◌, ◌*◌, ◌++◌, [], ◌∷◌, ℕ, List, length, map, take, ap, sym, ◌∙◌, zero-add, arith}
use Rattle.std.specs.List.{range_with_len}
use Rattle.std.proofs.lemmas.List.{take_more}
use Rattle.std.proofs.lemmas.List.FromFn.{map-range_with_len_more}
use Rattle.schedule_log.specs.Shapes.{shape_view}
use Rattle.seed_draws.specs.TextModel.Schedule.{ShapeView}
use Rattle.recording_model.specs.LetBy.{turns_before}
use Rattle.seed_draws.proofs.Draws.{before-more}
use Rattle.seed_draws.proofs.places.Places.new.Goals as goal

pub loop-bus-preserved : goal.loop-bus-preserved
loop-bus-preserved c =
    let shape : ShapeView = shape_view c.args.shape.now in
    let k = c.loop-bus.bus in
    let i = c.loop-bus.invariant in
    let children = c.width_at-children.result in
    let inside : k < length shape.buses = omega (arith, c.loop-bus-test.true, c.buses-buses.ensures.buses) in (
      c.in_ok-push.ensures.items ∙ ap (λ (xs : List ℕ). xs ++ children ∷ []) i.0 ∙ ap (λ (n : ℕ). take k shape.buses ++ n ∷ []) c.width_at-children.ensures.width ∙ sym (take_more shape.buses k 0 inside),
      c.in_ok-push-2.ensures.items ∙ ap (λ (xs : List ℕ). xs ++ c.loop-bus.count ∷ []) i.1 ∙ ap (λ (n : ℕ). map (turns_before shape) (range_with_len 0 k) ++ n ∷ []) i.2 ∙ sym (map-range_with_len_more (turns_before shape) 0 k k (zero-add k)),
      ap (λ (n : ℕ). n + (1 + 3 * children)) i.2 ∙ before-more shape k children inside c.width_at-children.ensures.width,
      omega (arith, i.3, c.width_at-children.ensures.few),
    )
