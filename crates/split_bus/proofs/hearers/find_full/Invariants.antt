use Rattle.std.proofs.Common.{◌≡◌, drop, map}
use Rattle.split_bus.specs.TreeModel.State.Lists.{first_given}
use Rattle.split_bus.specs.Children.{full_to_hear}
use Rattle.split_bus.proofs.hearers.find_full.Given as goal

abbrev pub invariant-loop-i : goal.invariant-loop-i
invariant-loop-i g l =
    let t = full_to_hear l.hearers l.item in
    let ns = map g.C.Agent.value l.children in
    first_given t 0 ns ≡ first_given t l.i (drop l.i ns)
