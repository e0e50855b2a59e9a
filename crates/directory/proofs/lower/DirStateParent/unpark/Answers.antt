use Rattle.std.proofs.Common.{refl}
use Rattle.directory.proofs.Changes.{shape-parked, copies-without}
use Rattle.directory.proofs.lower.DirStateParent.unpark.Goals as goal

pub invariant_of-self : goal.invariant_of-self
invariant_of-self g c =
    rw c.remove.ensures.rest (shape-parked _ _ _ _ _ _ _ _ _ _ c.self.invariant refl (copies-without _ c.args.item c.self.inside.parking.list c.self.invariant.copies))
