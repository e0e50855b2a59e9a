use Rattle.litmus_model.specs.Kept.{test_from}
use Rattle.litmus_image.proofs.Blocks.{whole_block}
use Rattle.litmus_image.proofs.assembling.push_block.Goals as goal

pub returns : goal.returns
returns c =
    let whole = whole_block c.args.code.now.items c.args.runs (test_from c.args.test.now) c.args.item_bytes c.args.thread in
    cc (whole, c.deref.ensures.value, c.in_ok-steps.ensures, c.deref-2.ensures.value, c.in_ok-push_prologue.ensures, c.in_ok-push_own.ensures, c.in_ok-push.ensures.items)
