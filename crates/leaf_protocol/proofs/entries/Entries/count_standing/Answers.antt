use Rattle.std.proofs.Common.{arith, length-append}
use Rattle.leaf_protocol.proofs.Standing.{one_set_more, row_more}
use Rattle.leaf_protocol.proofs.entries.Entries.count_standing.Goals as goal

pub loop-set-preserved : goal.loop-set-preserved
loop-set-preserved g c =
    (rw (one_set_more c.args.self.now.sets c.args.self.now.ways g.row.WAYS c.loop-set.set, length-append) (grind (arith, c.loop-set.invariant.0, c.count_in-count.ensures.value)), row_more c.loop-set.set g.row.WAYS _ _ c.loop-set.invariant.1 c.count_in-count.ensures.few)
