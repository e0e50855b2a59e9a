use Rattle.std.proofs.Common.{◌≡◌, [], nat_eq, length, arith}
use Rattle.std.proofs.lemmas.Bool.{eqb-true}
use Rattle.tree_model.proofs.Tests.{and-first}
use Rattle.film_model.specs.TreeModel.State.Shape.{are_below, buses_of, leaves_numbered, skeleton, traffic_counted}
use Rattle.film_model.specs.TreeModel.State.Values.{root_of}
use Rattle.film_model.proofs.KeysApart.{keys_apart}
use Rattle.film_model.proofs.laws.keys_come_once.Goals as goal

pub returns : goal.returns
returns c items m shaped within registers few leaves buses all =
    let numbers = buses_of (skeleton (root_of m)) [] in
    let counted : length numbers ≡ length m.traffic = eqb-true (length numbers) (length m.traffic) (and-first (nat_eq (length numbers) (length m.traffic)) (are_below (length m.traffic) numbers) (shaped.each traffic_counted)) in
    keys_apart m items (shaped.each leaves_numbered) within registers few leaves (omega (arith, buses, counted)) all
