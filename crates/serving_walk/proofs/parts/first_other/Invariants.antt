use Rattle.std.proofs.Common.{◌≡◌, ℕ, ◌<◌, false}
use Rattle.headline.specs.TreeModel.Turns.Children.{other_holds}
use Rattle.serving_walk.specs.Parts.{under}
use Rattle.serving_walk.proofs.parts.first_other.Given as goal

-- no other child before holds the item
abbrev pub invariant-loop-child : goal.invariant-loop-child
invariant-loop-child g l = (j : ℕ) → j < l.child → other_holds l.than l.item j (under l.bus j (g.T.Tree.value l.tree)) ≡ false
