-- A shape's text and its reading: what the reading gives, and where it stops, are said by the grammar alone.
use Rattle.std.specs.Prelude.{ℕ, ◌≡◌, ◌≤◌, List, [], ◌++◌, length, take}
use Rattle.tree_config.specs.ShapeText.{Tree, Trees, group_tree, node_text}

-- the text is that of this shape, which is a group
pub record IsTextOf (t : Tree) (text : List ℕ) : Type 0 where
  pub first : Tree
  pub others : Trees
  pub group : t ≡ group_tree first others
  pub spells : text ≡ node_text t []

-- some shape begins with these bytes
pub record Begins (bytes : List ℕ) : Type 0 where
  pub first : Tree
  pub others : Trees
  pub rest : List ℕ
  pub whole : bytes ++ rest ≡ node_text (group_tree first others) []

-- no longer prefix of the text is one with which some shape begins
pub record IsLongestBeginning (text : List ℕ) (place : ℕ) : Type 0 where
  pub within : place ≤ length text
  pub begins : Begins (take place text)
  pub longest : (n : ℕ) → n ≤ length text → Begins (take n text) → n ≤ place
