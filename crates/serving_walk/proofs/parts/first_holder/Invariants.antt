use Rattle.std.proofs.Common.{◌≡◌, ℕ, ◌<◌, false}
use Rattle.headline.specs.TreeModel.Turns.Children.{holds_item}
use Rattle.serving_walk.specs.Parts.{under}
use Rattle.serving_walk.proofs.parts.first_holder.Given as goal

-- no child before holds the item
abbrev pub invariant-loop-child : goal.invariant-loop-child
invariant-loop-child g l = (j : ℕ) → j < l.child → holds_item l.item j (under l.bus j (g.T.Tree.value l.tree)) ≡ false
