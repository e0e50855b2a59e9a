use Rattle.std.proofs.Common.{List, ◌++◌, length, ap, ◌∙◌, arith, length-append}
use Rattle.rv_decode.specs.declared.instructions.Instr.{Instr}
use Rattle.litmus_model.specs.Image.{block_of}
use Rattle.litmus_model.specs.Kept.{test_from}
use Rattle.litmus_image.proofs.Blocks.{more_begins, more_blocks, short_block}
use Rattle.litmus_image.proofs.assembling.blocks_of.Goals as goal

pub loop-thread-preserved : goal.loop-thread-preserved
loop-thread-preserved c =
    let test = test_from c.args.test.now in
    let k = c.loop-thread.thread in
    let block = block_of c.args.runs test c.args.item_bytes k in
    let blocks = more_blocks c.args.runs test c.args.item_bytes k in
    let begins = more_begins c.args.first c.args.runs test c.args.item_bytes k in
    let longer = ap (λ (is : List Instr). length is) c.in_ok-push_block.ensures in
    let lengths = length-append c.loop-thread.code.items block in
    let short = short_block c.args.runs test c.args.item_bytes k c.requires.sound in
    record {
      code = c.in_ok-push_block.ensures ∙ ap (λ (is : List Instr). is ++ block) c.loop-thread.invariant.code ∙ blocks;
      begins = cc (begins, c.in_ok-push.ensures.items, c.number_after.ensures, c.deref.ensures.value, c.loop-thread.invariant.code, c.loop-thread.invariant.begins);
      short = omega (arith, longer, lengths, short, c.loop-thread.invariant.short);
    }
