use Rattle.std.proofs.Common.{◌≡◌, Some, None, ap, ◌∙◌}
use Rattle.start_memory.specs.TreeModel.Start.Machine.{header_met}
use Rattle.start_memory.specs.Memory.{stack_of}
use Rattle.start_memory.proofs.StackOverlaps.{overlap-all, overlap-end, overlap-met, overlap-past}
use Rattle.start_memory.proofs.overlaps.first_overlap.Goals as goal

pub loop-hart-init : goal.loop-hart-init
loop-hart-init c = overlap-all c.args.start c.args.segments.now

pub returns-in-Some : goal.returns-in-Some
returns-in-Some c =
    let met : Some c.in-Some.header ≡ header_met (stack_of c.args.start c.loop-hart.hart) c.args.segments.now = c.in-Some.ensures ∙ ap (λ s. header_met s c.args.segments.now) c.stack_span.ensures.span in
    c.loop-hart.invariant ∙ overlap-met c.args.start c.args.segments.now c.loop-hart.hart c.in-Some.header c.loop-hart-test.true met

pub loop-hart-preserved : goal.loop-hart-preserved
loop-hart-preserved c =
    let none : None ≡ header_met (stack_of c.args.start c.loop-hart.hart) c.args.segments.now = c.in_default.ensures ∙ ap (λ s. header_met s c.args.segments.now) c.stack_span.ensures.span in
    c.loop-hart.invariant ∙ overlap-past c.args.start c.args.segments.now c.loop-hart.hart c.loop-hart-test.true none

pub returns : goal.returns
returns c = c.loop-hart.invariant ∙ overlap-end c.args.start c.args.segments.now c.loop-hart.hart c.loop-hart-test.false
