use Rattle.std.proofs.Common.{◌≡◌, ℕ, ◌+◌, ◌*◌, ◌<◌, Some, false}
use Rattle.serving_model.specs.Walk.{is_over}
use Rattle.serving_walk.specs.Parts.{bus_count, part_at, under}
use Rattle.serving_walk.proofs.parts.+over.Given as goal

abbrev pub decreases-first_over : goal.decreases-first_over
decreases-first_over g l = bus_count (part_at (Some l.bus) (g.T.Tree.value l.tree.now)) * 3 + 1

abbrev pub decreases-is_over : goal.decreases-is_over
decreases-is_over g l = bus_count (part_at (Some l.bus) (g.T.Tree.value l.tree.now)) * 3

abbrev pub decreases-over : goal.decreases-over
decreases-over g l = bus_count (part_at (Some l.bus) (g.T.Tree.value l.tree.now)) * 3 + 2

-- no child before is over the leaf
abbrev pub invariant-first_over-loop-child : goal.invariant-first_over-loop-child
invariant-first_over-loop-child g l = (j : ℕ) → j < l.child → is_over l.leaf j (under l.bus j (g.T.Tree.value l.tree)) ≡ false
