use Rattle.std.proofs.Common.{ap}
use Rattle.film.proofs.EachLeaf.{copy_told}
use Rattle.film.proofs.copies.add_copy.Goals as goal

pub returns : goal.returns
returns g c = copy_told c.args.machine.now.machine c.args.item _ _ _ c.found.result (ap (λ f. f.place) c.add_place.view_is) c.found.ensures c.in_ok-add_place.ensures
