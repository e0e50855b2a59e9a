-- A turn of a bus leaves every leaf where it is, with its hart; a reservation stays only where the leaf keeps its words.
-- To be believed where a rule is relied on; the order of the witness needs no reader here.
use Rattle.std.specs.Prelude.{◌≡◌, ℕ, true, false, List, [], Some}
use Rattle.order_laws.specs.TreeModel.State.States.{is_held}
use Rattle.order_laws.specs.TreeModel.State.Values.{LeafValue, Node, leaf_node, dir_node}
use Rattle.order_laws.specs.TreeModel.State.Leaf.{leaf_entry, leaf_hold}
use Rattle.order_laws.specs.TreeModel.State.Place.{Where, at_top, at_child}
use Rattle.order_laws.specs.TreeRules.Order.Moments.{less, spot_moment}
use Rattle.order_laws.specs.TreeRules.Order.Places.{LeafAt, leaves_in, placed_leaves}
use Rattle.order_laws.specs.Moves.HeldWords.{held_words}
use Rattle.order_laws.specs.Pairs.{Pairs}

pub record KeepsLeaf (v w : LeafValue) : Type 0 where
  pub number : w.number ≡ v.number
  pub hart : w.hart ≡ v.hart
  pub done : w.done ≡ v.done
  -- an item that is reserved then was before, and the words of it that the leaf had it has
  pub reserved :
      (y : ℕ) → w.reservation ≡ Some y →
      (v.reservation ≡ Some y)
      × (is_held (leaf_hold y v) ≡ true → held_words (leaf_entry y w) ≡ held_words (leaf_entry y v))

-- at the same place, where the present moment of the bus hasn't fallen
pub record LeafKept (a b : LeafAt) : Type 0 where
  pub above : b.spot.above ≡ a.spot.above
  pub number : b.spot.number ≡ a.spot.number
  pub moment : less (spot_moment b.spot) (spot_moment a.spot) ≡ false
  pub leaf : KeepsLeaf a.leaf b.leaf

-- leaf by leaf
abbrev pub LeavesKept : List LeafAt → List LeafAt → Type 0
LeavesKept = Pairs LeafKept

-- the leaves of a node and of all below it
abbrev pub leaves_below : Where → Node → List LeafAt
leaves_below at_top (leaf_node v) = []
leaves_below at_top (dir_node d ns) = placed_leaves [] d 0 ns
leaves_below (at_child c) n = leaves_in c n
