use Rattle.film.proofs.EachBus.{still_told}
use Rattle.film.proofs.stills.still_over.Goals as goal

pub returns : goal.returns
returns g c = still_told c.args.machine.now.machine _ _ _ _ c.clear.ensures c.in_ok-add_leaves.ensures c.in_ok-add_buses.ensures c.in_ok-add_copies.ensures
