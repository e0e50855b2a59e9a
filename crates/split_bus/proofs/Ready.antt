-- Where a turn is ready to move the item that a child names.
use Rattle.std.proofs.Common.{◌≡◌, ℕ, ◌+◌, ◌^◌, ◌<◌, List, length}
use Rattle.split_bus.specs.TreeModel.State.Values.{DirValue, Node}
use Rattle.split_bus.specs.TreeModel.State.Blank.{no_node}
use Rattle.split_bus.specs.TreeModel.Turns.Children.{child_at}
use Rattle.item_states.specs.Parts.{node_items}
use Rattle.split_bus.specs.Outcomes.{AreSized, IsReady}

module _ (width : ℕ) (p : DirValue) (ns : List Node) (words_fit : width < 2 ^ 32) (same : p.sizes.width ≡ width) (count : p.count + 1 < 2 ^ 32) (sized : AreSized p ns) where
  -- an item that the parent keeps something of
  pub ready-in_range : (x : ℕ) → x < length p.items → IsReady width x p ns
  ready-in_range x in_range = record {
    words_fit = words_fit;
    sized = same;
    count = count;
    in_range = in_range;
    have = λ k d within. rw (sized k d within) in_range;
  }

  -- an item that child c keeps something of
  pub ready-named : (c x : ℕ) → c < length ns → x < node_items (child_at c ns) → IsReady width x p ns
  ready-named c x within named = ready-in_range x (rw (sized c no_node within) at named)
