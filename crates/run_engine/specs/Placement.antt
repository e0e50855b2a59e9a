-- When items can be placed in leaves.
-- Letters: v is a leaf, ls are leaves, x is an item.
-- To be believed with the contracts: it says which leaves a call takes.
use Rattle.std.specs.Prelude.{◌≡◌, ℕ, ◌+◌, ◌<◌, ◌≤◌, ◌^◌, ◌%◌, false, List, length, None, All}
use Rattle.run_engine.specs.TreeModel.State.Values.{LeafValue}
use Rattle.run_engine.specs.TreeModel.State.Leaf.{leaf_entry}
use Rattle.run_engine.specs.TreeModel.Start.Nodes.{has_way}

-- the leaf knows the item, and has no entry of it
pub record TakesItem (x : ℕ) (v : LeafValue) : Type 0 where
  pub known : x < length v.ways
  pub absent : leaf_entry x v ≡ None

-- the leaf knows so many items, and has no entry
pub record IsBlank (items : ℕ) (v : LeafValue) : Type 0 where
  pub known : items ≤ length v.ways
  pub absent : (x : ℕ) → leaf_entry x v ≡ None

-- a leaf with so many sets
abbrev pub HasSets : ℕ → LeafValue → Type 0
HasSets sets v = v.sizes.sets ≡ sets

-- the k-th leaf in cyclic order from an item's own one
abbrev pub in_turn : ℕ → ℕ → ℕ → ℕ
in_turn x count k = (x % count + k) % count

-- the first so many leaves in that order have no way left for the item
abbrev pub ArePassed : ℕ → ℕ → List LeafValue → Type 0
ArePassed x count ls = (k : ℕ) → k < count → has_way ls x (in_turn x (length ls) k) ≡ false

-- the words of so many items can be placed in these leaves
pub record CanPlace (words : List (List ℕ)) (ls : List LeafValue) : Type 0 where
  pub few_items : length words < 2 ^ 32
  pub few_leaves : length ls < 2 ^ 31
  pub blank : All (IsBlank (length words)) ls
