use Rattle.std.proofs.Common.{◌<◌, ◌++◌, [], ◌∷◌, length, take, ap, sym, ◌∙◌, arith, length-set}
use Rattle.std.proofs.lemmas.List.{take_more, take_more_set}
use Rattle.tree_config.specs.Levels.{widths_of}
use Rattle.schedule_log.proofs.parts.Parts.new.Goals as goal

pub loop-bus-preserved : goal.loop-bus-preserved
loop-bus-preserved c =
    let ws = widths_of c.args.shape.now in
    let l = c.loop-bus in
    let inside : l.bus < length ws = omega (arith, c.loop-bus-test.true, c.buses-buses.ensures.buses) in
    record {
      front = take_more_set l.widths l.bus c.width_at.result (omega (arith, l.invariant.places, c.loop-bus-test.true, c.buses-buses.ensures.few))
          ∙ ap (λ front. front ++ c.width_at.result ∷ []) l.invariant.front
          ∙ ap (λ w. take l.bus ws ++ w ∷ []) c.width_at.ensures.width
          ∙ sym (take_more ws l.bus 0 inside);
      places = length-set l.widths l.bus c.width_at.result ∙ l.invariant.places;
    }
