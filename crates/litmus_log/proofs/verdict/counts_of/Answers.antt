use Rattle.std.proofs.Common.{rules, ◌≡◌, ◌∙◌, ap}
use Rattle.litmus_model.specs.Kept.{test_from}
use Rattle.litmus_model.specs.Satisfies.{satisfies}
use Rattle.litmus_model.specs.StatesText.{StateLine}
use Rattle.litmus_log.proofs.Counted.{step}
use Rattle.litmus_log.proofs.verdict.counts_of.Goals as goal

pub loop-state-preserved : goal.loop-state-preserved
loop-state-preserved c =
    let x = c.state-item.result in
    let is : c.in_ok-satisfies.field-0 ≡ satisfies (test_from c.args.test.now) c.args.item_bytes x.words = search rules in
    let same : c.state.inside.times ≡ x.times = search rules in
    let k = c.loop-state.state-index in
    let counts = c.loop-state.counts in
    let more = step (test_from c.args.test.now) c.args.item_bytes c.args.states.now k x c.loop-state-test.true c.in_ok-satisfies.field-0 c.state.inside.times counts.satisfying counts.others c.with-counts.result.satisfying c.with-counts.result.others
    (is ∙ ap (λ (s : StateLine). satisfies (test_from c.args.test.now) c.args.item_bytes s.words) c.state-item.is) (same ∙ ap (λ (s : StateLine). s.times) c.state-item.is) c.with-counts.ensures.satisfying c.with-counts.ensures.others c.loop-state.invariant.satisfying c.loop-state.invariant.others c.loop-state.invariant.times in
    record { satisfying = more.0; others = more.1; times = more.2 }
