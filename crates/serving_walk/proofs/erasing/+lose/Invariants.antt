use Rattle.std.proofs.Common.{◌≡◌, ◌+◌, ◌*◌, ◌++◌, Some, take}
use Rattle.std.specs.List.{flat_map}
use Rattle.serving_model.specs.Walk.{loses}
use Rattle.serving_walk.specs.Parts.{bus_count, part_at, kids_of, each_but}
use Rattle.serving_walk.proofs.erasing.+lose.Given as goal

abbrev pub decreases-lose : goal.decreases-lose
decreases-lose g l = bus_count (part_at (Some l.bus) (g.T.Tree.value l.tree.now)) * 3

abbrev pub decreases-lose_unless : goal.decreases-lose_unless
decreases-lose_unless g l = bus_count (part_at (Some l.bus) (g.T.Tree.value l.tree.now)) * 3 + 1

abbrev pub decreases-lose_all : goal.decreases-lose_all
decreases-lose_all g l = bus_count (part_at (Some l.bus) (g.T.Tree.value l.tree.now)) * 3 + 2

-- the turns of the children before are added
abbrev pub invariant-lose_all-loop-child : goal.invariant-lose_all-loop-child
invariant-lose_all-loop-child g l = l.out.items ≡ l.fn.out.items ++ flat_map (λ turns. turns) (take l.child (each_but l.but (loses l.item (kids_of (part_at (Some l.bus) (g.T.Tree.value l.tree))))))
