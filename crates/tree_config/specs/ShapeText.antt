-- Shapes: trees of groups and leaves, the text of each, and what a text reads as.
use Rattle.std.specs.Prelude.{ℕ, ◌+◌, nat_eq, List, [], ◌∷◌, Option, Some, None, Result, Ok, Err, if◌then◌else◌}
use Rattle.std.specs.Option.{option_map_or}

-- ---- the grammar: a node is a leaf or a group, and a group has one node or more

mutual
  pub data Tree : Type 0 where
    leaf_tree : Tree
    group_tree : Tree → Trees → Tree

  pub data Trees : Type 0 where
    no_trees : Trees
    more_trees : Tree → Trees → Trees

-- the bytes of `L`, `(` and `)`
abbrev pub leaf_byte : ℕ
leaf_byte = 76

abbrev pub open_byte : ℕ
open_byte = 40

abbrev pub close_byte : ℕ
close_byte = 41

abbrev mutual
  -- the text of a node, before the rest of a text
  pub node_text : Tree → List ℕ → List ℕ
  node_text leaf_tree rest = leaf_byte ∷ rest
  node_text (group_tree t ts) rest = open_byte ∷ node_text t (nodes_text ts (close_byte ∷ rest))

  pub nodes_text : Trees → List ℕ → List ℕ
  nodes_text no_trees rest = rest
  nodes_text (more_trees t ts) rest = node_text t (nodes_text ts rest)

-- ---- the reading: the shape, or how many bytes the longest prefix has with which some shape begins

abbrev pub push_tree : Trees → Tree → Trees
push_tree no_trees n = more_trees n no_trees
push_tree (more_trees t ts) n = more_trees t (push_tree ts n)

-- what is read up to a place: nothing, the nodes so far of each group that is open, the innermost first, or a whole shape
pub data Reading : Type 0 where
  nothing_read : Reading
  open_groups : Trees → List Trees → Reading
  whole_shape : Tree → Reading

-- a group that is closed: a node of the group round it, or the whole shape
abbrev pub with_group : Tree → List Trees → Reading
with_group n [] = whole_shape n
with_group n (ts ∷ outer) = open_groups (push_tree ts n) outer

-- a group without nodes isn't closed
abbrev pub after_close : Trees → List Trees → Option Reading
after_close no_trees outer = None
after_close (more_trees t ts) outer = Some (with_group (group_tree t ts) outer)

-- what is read with one byte more, where some shape goes on so
abbrev pub after_byte : Reading → ℕ → Option Reading
after_byte nothing_read b = if nat_eq b open_byte then Some (open_groups no_trees []) else None
after_byte (whole_shape t) b = None
after_byte (open_groups ts outer) b =
    if nat_eq b leaf_byte then Some (open_groups (push_tree ts leaf_tree) outer)
    else (if nat_eq b open_byte then Some (open_groups no_trees (ts ∷ outer))
    else (if nat_eq b close_byte then after_close ts outer else None))

abbrev pub at_end : Reading → ℕ → Result Tree ℕ
at_end nothing_read at = Err at
at_end (open_groups ts outer) at = Err at
at_end (whole_shape t) at = Ok t

-- what the rest of a text reads as, from a place on
unfoldable pub read_from : Reading → ℕ → List ℕ → Result Tree ℕ
read_from r at [] = at_end r at
read_from r at (b ∷ bs) = option_map_or (λ next. read_from next (at + 1) bs) (after_byte r b) (Err at)

abbrev pub shape_of : List ℕ → Result Tree ℕ
shape_of text = read_from nothing_read 0 text
