use Rattle.std.proofs.Common.{◌∙◌, sym}
use Rattle.start_memory.proofs.ByteAt.{rest_has, rest_none, rest_past}
use Rattle.start_memory.proofs.words.byte_at.Goals as goal

pub returns-then-has_byte : goal.returns-then-has_byte
returns-then-has_byte c =
    c.byte_of.ensures
    ∙ sym (rest_has c.args.segments.now c.loop-segment.segment-index c.segment-item.result c.args.a c.loop-segment-test.true c.segment-item.is (sym c.has_byte.ensures ∙ c.if-has_byte.true))
    ∙ c.loop-segment.invariant

pub loop-segment-preserved : goal.loop-segment-preserved
loop-segment-preserved c =
    sym (rest_past c.args.segments.now c.loop-segment.segment-index c.segment-item.result c.args.a c.loop-segment-test.true c.segment-item.is (sym c.has_byte.ensures ∙ c.if-has_byte.false))
    ∙ c.loop-segment.invariant

pub returns : goal.returns
returns c = sym (rest_none c.args.segments.now c.loop-segment.segment-index c.args.a c.loop-segment-test.false) ∙ c.loop-segment.invariant
