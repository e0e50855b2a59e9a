use Rattle.std.proofs.Common.{◌∙◌, sym}
use Rattle.start_memory.proofs.WordAt.{word_here, word_none, word_past}
use Rattle.start_memory.proofs.words.memory_word.Goals as goal

pub returns-then-has_word : goal.returns-then-has_word
returns-then-has_word c =
    c.segment_word.ensures
    ∙ sym (word_here c.args.segments.now c.loop-segment.segment-index c.segment-item.result c.args.a c.loop-segment-test.true c.segment-item.is (sym c.has_word.ensures ∙ c.if-has_word.true))
    ∙ c.loop-segment.invariant

pub loop-segment-preserved : goal.loop-segment-preserved
loop-segment-preserved c =
    sym (word_past c.args.segments.now c.loop-segment.segment-index c.segment-item.result c.args.a c.loop-segment-test.true c.segment-item.is (sym c.is_apart.ensures ∙ c.if-not-is_apart.false))
    ∙ c.loop-segment.invariant

pub returns : goal.returns
returns c = sym (word_none c.args.segments.now c.loop-segment.segment-index c.args.a c.loop-segment-test.false) ∙ c.loop-segment.invariant
