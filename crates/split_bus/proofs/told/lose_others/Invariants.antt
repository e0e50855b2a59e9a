use Rattle.std.proofs.Common.{◌≡◌, map}
use Rattle.split_bus.specs.TreeModel.Turns.Children.{erased_by}
use Rattle.split_bus.proofs.Loops.{map_first}
use Rattle.split_bus.proofs.told.lose_others.Given as goal

abbrev pub invariant-loop-i : goal.invariant-loop-i
invariant-loop-i g l =
    map g.C.Agent.value l.children ≡ map_first (erased_by l.c l.item l.stamp) l.i 0 (map g.C.Agent.value l.initial.children)
