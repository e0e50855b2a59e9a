use Rattle.std.proofs.Common.{sym, subst}
use Rattle.std.specs.Prelude.{All}
use Rattle.start_memory.proofs.MemorySpans.{Ends, all_stacks, one_stack_more, spans_end}
use Rattle.start_memory.proofs.spans.spans_of.Goals as goal

pub loop-hart-preserved : goal.loop-hart-preserved
loop-hart-preserved c = one_stack_more c.args.start c.args.segments.now c.loop-hart.hart _ _ _ c.loop-hart.invariant c.in_ok-push-2.ensures.items c.stack_span.ensures.span

pub returns-clause-spans : goal.returns-clause-spans
returns-clause-spans c = all_stacks c.args.start c.args.segments.now c.loop-hart.hart _ c.loop-hart.auto.hart-end c.loop-hart-test.false c.loop-hart.invariant

pub returns-clause-ends : goal.returns-clause-ends
returns-clause-ends c =
    let all = all_stacks c.args.start c.args.segments.now c.loop-hart.hart _ c.loop-hart.auto.hart-end c.loop-hart-test.false c.loop-hart.invariant in
    subst (All Ends) (sym all) (spans_end c.args.start c.args.segments.now c.requires.ends c.requires.stacks)
