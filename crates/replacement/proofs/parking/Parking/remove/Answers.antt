use Rattle.std.proofs.Common.{arith, not}
use Rattle.replacement.specs.TreeModel.State.Leaf.{is_copy}
use Rattle.replacement.specs.TreeModel.State.Leaf.{copy_item}
use Rattle.replacement.proofs.Once.{once-filter, fewer}
use Rattle.replacement.proofs.parking.Parking.remove.Goals as goal

pub invariant_of-self : goal.invariant_of-self
invariant_of-self g c = rw c.take_out.ensures.rest (record {
  once = once-filter copy_item (λ e. not (is_copy c.args.item e)) c.self.inside.entries.list c.self.invariant.once;
  within = omega (arith, c.self.invariant.within, fewer (λ e. not (is_copy c.args.item e)) c.self.inside.entries.list);
  small = c.self.invariant.small;
  words_fit = c.self.invariant.words_fit;
})
