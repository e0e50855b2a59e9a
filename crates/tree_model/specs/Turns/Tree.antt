-- A node of the tree by its number: what is read of it, and the tree in which it alone was changed. Every turn, and every
-- question to a machine, is one of these. Leaves and buses have different numbers, so there is one such node at most.
-- Letters: n is a node, ns are nodes, w is where it stands, v a leaf, d a directory.
-- To be believed: it is what the machine is.
use Rattle.std.specs.Prelude.{ℕ, ◌+◌, Bool, false, ◌||◌, nat_eq, List, [], ◌∷◌, Option, Some, None, if◌then◌else◌}
use Rattle.tree_model.specs.State.Values.{LeafValue, DirValue, Node, Nodes, leaf_node, dir_node, no_nodes, more_nodes, children}
use Rattle.tree_model.specs.State.Place.{Where, at_child, where_path, spot_in}

-- the leaf, or the directory over the bus, of this number
pub data Name : Type 0 where
  leaf_of_number : ℕ → Name
  bus_of_number : ℕ → Name

abbrev pub is_named : Name → Node → Bool
is_named (leaf_of_number number) (leaf_node v) = nat_eq v.number number
is_named (leaf_of_number number) (dir_node d ns) = false
is_named (bus_of_number number) (leaf_node v) = false
is_named (bus_of_number number) (dir_node d ns) = nat_eq d.bus number

module _ (name : Name) where
  abbrev mutual
    -- it is in this part of the tree
    pub has_node : Node → Bool
    has_node (leaf_node v) = is_named name (leaf_node v)
    has_node (dir_node d ns) = is_named name (dir_node d ns) || has_among ns

    pub has_among : Nodes → Bool
    has_among no_nodes = false
    has_among (more_nodes n ns) = has_node n || has_among ns

  module _ {A : Type 0} (read : Where → Node → A) where
    abbrev mutual
      -- what is read of it, by where it stands; None where it isn't in this part of the tree
      pub read_in : Where → Node → Option A
      read_in w (leaf_node v) = if is_named name (leaf_node v) then Some (read w (leaf_node v)) else None
      read_in w (dir_node d ns) = if is_named name (dir_node d ns) then Some (read w (dir_node d ns)) else read_among (where_path w) d 0 ns

      -- the children, from number i on, of a directory with this path
      pub read_among : List ℕ → DirValue → ℕ → Nodes → Option A
      read_among path d i no_nodes = None
      read_among path d i (more_nodes n ns) = if has_node n then read_in (at_child (spot_in path d i)) n else read_among path d (i + 1) ns

  module _ (change : Where → Node → Node) where
    abbrev mutual
      -- the tree in which it was changed
      pub changed_in : Where → Node → Node
      changed_in w (leaf_node v) = if is_named name (leaf_node v) then change w (leaf_node v) else leaf_node v
      changed_in w (dir_node d ns) =
          if is_named name (dir_node d ns) then change w (dir_node d ns)
          else dir_node d (changed_among (where_path w) d 0 ns)

      pub changed_among : List ℕ → DirValue → ℕ → Nodes → Nodes
      changed_among path d i no_nodes = no_nodes
      changed_among path d i (more_nodes n ns) =
          if has_node n then more_nodes (changed_in (at_child (spot_in path d i)) n) ns else more_nodes n (changed_among path d (i + 1) ns)

-- ---- what is read of a leaf or of a directory

module _ {A : Type 0} where
  abbrev pub of_leaf : (Where → LeafValue → A) → A → Where → Node → A
  of_leaf read other w (leaf_node v) = read w v
  of_leaf read other w (dir_node d ns) = other

  abbrev pub of_dir : (Where → DirValue → List Node → A) → A → Where → Node → A
  of_dir read other w (leaf_node v) = other
  of_dir read other w (dir_node d ns) = read w d (children ns)

-- ---- a tree in which one node was changed, as a relation

-- R says how the node itself was changed, where it stands
module _ (R : Where → Node → Node → Type 0) where
  mutual
    -- the second tree is the first one, but for the node at this path below
    pub data ChangedAt : Where → List ℕ → Node → Node → Type 0 where
      changed_here : {w : Where} {n m : Node} → R w n m → ChangedAt w [] n m
      changed_below :
          {w : Where} {d : DirValue} {ns ms : Nodes} {i : ℕ} {path : List ℕ} →
          ChangedAmong (where_path w) d 0 i path ns ms → ChangedAt w (i ∷ path) (dir_node d ns) (dir_node d ms)

    -- of the children from number k on, of a directory with this path, that of number i was changed
    pub data ChangedAmong : List ℕ → DirValue → ℕ → ℕ → List ℕ → Nodes → Nodes → Type 0 where
      changed_first :
          {above : List ℕ} {d : DirValue} {k : ℕ} {path : List ℕ} {n m : Node} {ns : Nodes} →
          ChangedAt (at_child (spot_in above d k)) path n m →
          ChangedAmong above d k k path (more_nodes n ns) (more_nodes m ns)
      changed_later :
          {above : List ℕ} {d : DirValue} {k i : ℕ} {path : List ℕ} {n : Node} {ns ms : Nodes} →
          ChangedAmong above d (k + 1) i path ns ms →
          ChangedAmong above d k i path (more_nodes n ns) (more_nodes n ms)
