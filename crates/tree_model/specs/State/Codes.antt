-- How a proof stores a tree, by which it tells one tree from another where a type of the code is seen as a tree. A leaf and
-- a directory need nothing of this: what stores them is found from their fields.
use Rattle.std.specs.Prelude.{◌≡◌, List, [], ◌∷◌, refl}
use Rattle.std.specs.Coded.{Coded, codes}
use base.Stored.{Gv}
use Rattle.tree_model.specs.State.Values.{LeafValue, DirValue, Node, Nodes, leaf_node, dir_node, no_nodes, more_nodes}

-- a leaf, or a directory over its children, each child as it is stored
pub data NodeParts : Type 0 where
  leaf_parts : LeafValue → NodeParts
  dir_parts : DirValue → List Gv → NodeParts

-- a leaf or a directory is stored as its fields
pub parts_code : Coded NodeParts
parts_code = hlevel codes

-- what is stored of a node, and of each child in turn
abbrev mutual
  pub stored_node : Node → Gv
  stored_node (leaf_node v) = parts_code.code (leaf_parts v)
  stored_node (dir_node v ns) = parts_code.code (dir_parts v (stored_nodes ns))

  pub stored_nodes : Nodes → List Gv
  stored_nodes no_nodes = []
  stored_nodes (more_nodes n ns) = stored_node n ∷ stored_nodes ns

-- nodes that are stored alike are equal
mutual
  pub stored_node-injective : (x y : Node) → stored_node x ≡ stored_node y → x ≡ y
  stored_node-injective (leaf_node v) (leaf_node w) e = let a = parts_code.inj _ _ e in cc
  stored_node-injective (leaf_node v) (dir_node w ns) e = let a = parts_code.inj _ _ e in cc
  stored_node-injective (dir_node v ms) (leaf_node w) e = let a = parts_code.inj _ _ e in cc
  stored_node-injective (dir_node v ms) (dir_node w ns) e =
      let a = parts_code.inj _ _ e in
      let b = stored_nodes-injective ms ns cc in
      cc

  pub stored_nodes-injective : (x y : Nodes) → stored_nodes x ≡ stored_nodes y → x ≡ y
  stored_nodes-injective no_nodes no_nodes e = refl
  stored_nodes-injective no_nodes (more_nodes n ns) e = cc
  stored_nodes-injective (more_nodes m ms) no_nodes e = cc
  stored_nodes-injective (more_nodes m ms) (more_nodes n ns) e =
      let a = stored_node-injective m n cc in
      let b = stored_nodes-injective ms ns cc in
      cc

-- a tree is stored as its root
abbrev pub node_code : Coded Node
node_code = record { code = stored_node; inj = stored_node-injective }
