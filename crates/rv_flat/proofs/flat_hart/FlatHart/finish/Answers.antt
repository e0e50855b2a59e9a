use Rattle.rv_flat.proofs.RegistersKept.{finish_hart}
use Rattle.rv_flat.proofs.flat_hart.FlatHart.finish.Goals as goal

pub invariant_of-self : goal.invariant_of-self
invariant_of-self g c = rw c.finish.ensures.hart (finish_hart _ _ _ _ _ (rw c.make_room_to_count.ensures.hart c.self.invariant))
