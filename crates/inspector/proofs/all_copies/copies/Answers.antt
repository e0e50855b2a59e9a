use Rattle.inspector.specs.Copies.{copies_in}
use Rattle.inspector.proofs.OneMore.{joined}
use Rattle.inspector.proofs.all_copies.copies.Goals as goal

pub returns : goal.returns
unfolding copies_in
returns g c = joined _ _ _ _ _ _ _ c.new-places.ensures.items c.in_ok-push_leaf_copies.ensures c.in_ok-push_parked_copies.ensures c.in_ok-push_all_down_copies.ensures
