use Rattle.std.proofs.Common.{◌+◌, arith}
use Rattle.std.proofs.lemmas.List.{take_rest}
use Rattle.litmus_text.proofs.Texts.{byte_shown}
use Rattle.litmus_text.proofs.comments.without_comments.Goals as goal

pub loop-at-preserved : goal.loop-at-preserved
loop-at-preserved c =
    let text = c.args.text.now in
    let rest = take_rest text (c.loop-at.at + 1) in
    let step = byte_shown c.loop-at.bytes.items text c.loop-at.so_far c.loop-at.at 0 c.loop-at-test.true in
    record {
      whole = cc (rest, step, c.loop-at.invariant.whole, c.shown.ensures, c.in_ok-push_byte.ensures, c.behind_byte-so_far.ensures.next);
      line = omega (arith, c.behind_byte-so_far.ensures.line, c.loop-at.invariant.line);
      depth = omega (arith, c.behind_byte-so_far.ensures.depth, c.loop-at.invariant.depth);
    }
