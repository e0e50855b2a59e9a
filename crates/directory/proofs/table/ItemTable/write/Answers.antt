use Rattle.std.proofs.Common.{◌<◌, length, ap, arith}
use Rattle.std.proofs.lemmas.List.{length-map}
use Rattle.directory.specs.TreeModel.State.Values.{absent_item}
use Rattle.directory.specs.DdmText.Adds.{◌▸◌}
use Rattle.directory.proofs.StateWords.Nothing.{begins-after, on-err}
use Rattle.directory.specs.Packed.{packed_item}
use Rattle.directory.proofs.Records.{records_more}
use Rattle.directory.proofs.table.ItemTable.write.Goals as goal

pub returns-in_err-write-clause-err : goal.returns-in_err-write-clause-err
returns-in_err-write-clause-err c = on-err _ (begins-after (c.in_ok-push_words.ensures.ok ▸ c.loop-item.invariant) c.in_err-write.ensures.err)

pub loop-item-preserved : goal.loop-item-preserved
loop-item-preserved c =
    let inside : c.loop-item.item < length c.args.self.now = omega (arith, c.loop-item-test.true, ap length c.packed.ensures, length-map c.args.self.now packed_item) in
    rw (records_more c.args.top c.loop-item.item c.args.self.now absent_item inside) (c.loop-item.invariant ▸ rw c.at.ensures at c.in_ok-write.ensures.ok)
