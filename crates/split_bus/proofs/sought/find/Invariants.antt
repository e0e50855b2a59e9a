use Rattle.std.proofs.Common.{◌≡◌, drop, map}
use Rattle.split_bus.specs.TreeModel.State.Lists.{find_from}
use Rattle.split_bus.specs.Children.{is_sought}
use Rattle.split_bus.proofs.sought.find.Given as goal

abbrev pub invariant-loop-i : goal.invariant-loop-i
invariant-loop-i g l =
    let t = is_sought l.sought l.item in
    let ns = map g.C.Agent.value l.children in
    find_from t 0 ns ≡ find_from t l.i (drop l.i ns)
