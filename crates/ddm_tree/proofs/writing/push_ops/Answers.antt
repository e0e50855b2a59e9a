use Rattle.std.proofs.Common.{◌<◌, length, arith}
use Rattle.ddm_tree.specs.DdmText.Adds.{◌▸◌}
use Rattle.ddm_tree.specs.StateWords.Parts.{op_words}
use Rattle.ddm_tree.proofs.StateWords.Nothing.{begins-after, on-err}
use Rattle.operation_list.proofs.Taken.{texts_more}
use Rattle.ddm_tree.proofs.writing.push_ops.Goals as goal

pub returns-in_err-spell-clause-err : goal.returns-in_err-spell-clause-err
returns-in_err-spell-clause-err c = on-err _ (begins-after (c.in_ok-push_words.ensures.ok ▸ c.loop-place.invariant) c.in_err-spell.ensures.err)

pub loop-place-preserved : goal.loop-place-preserved
loop-place-preserved c =
    let inside : c.loop-place.place < length c.args.ops.now.items = omega (arith, c.loop-place-test.true, c.len-place-end.ensures.length) in
    rw (texts_more c.args.ops.now.items c.loop-place.place c.get-op.result inside c.get-op.ensures op_words) (c.loop-place.invariant ▸ c.in_ok-spell.ensures.ok)
