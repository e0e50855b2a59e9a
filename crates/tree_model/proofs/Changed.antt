-- Induction over a tree in which one node was changed.
use Rattle.std.proofs.Common.{ℕ, ◌+◌, List, [], ◌∷◌}
use Rattle.tree_model.specs.State.Values.{DirValue, Node, Nodes, dir_node, more_nodes}
use Rattle.tree_model.specs.State.Place.{Where, at_child, where_path, spot_in}
use Rattle.tree_model.specs.Turns.Tree.{ChangedAt, ChangedAmong, changed_here, changed_below, changed_first, changed_later}

-- a fact P of each part of the tree that has the changed node, and Q of each run of children that has it, with their places
module _
    (R : Where → Node → Node → Type 0) (P : Where → List ℕ → Node → Node → Type 0) (Q : List ℕ → DirValue → ℕ → ℕ → List ℕ → Nodes → Nodes → Type 0) (here : (w : Where) (n m : Node) → R w n m → P w [] n m)
    (below : (w : Where) (d : DirValue) (i : ℕ) (path : List ℕ) (ns ms : Nodes) → Q (where_path w) d 0 i path ns ms → P w (i ∷ path) (dir_node d ns) (dir_node d ms))
    (first : (above : List ℕ) (d : DirValue) (k : ℕ) (path : List ℕ) (n m : Node) (ns : Nodes) → P (at_child (spot_in above d k)) path n m → Q above d k k path (more_nodes n ns) (more_nodes m ns))
    (later : (above : List ℕ) (d : DirValue) (k i : ℕ) (path : List ℕ) (n : Node) (ns ms : Nodes) → Q above d (k + 1) i path ns ms → Q above d k i path (more_nodes n ns) (more_nodes n ms)) where
  mutual
    pub changed-holds : (w : Where) (path : List ℕ) (n m : Node) → ChangedAt R w path n m → P w path n m
    changed-holds w path n m (changed_here r) = here w n m r
    changed-holds w path n m (changed_below {d = d} {ns = ns} {ms = ms} {i = i} {path = rest} r) = below w d i rest ns ms (changed_among-holds (where_path w) d 0 i rest ns ms r)

    pub changed_among-holds : (above : List ℕ) (d : DirValue) (k i : ℕ) (path : List ℕ) (ns ms : Nodes) → ChangedAmong R above d k i path ns ms → Q above d k i path ns ms
    changed_among-holds above d k i path ns ms (changed_first {n = n} {m = m} {ns = rest} r) = first above d k path n m rest (changed-holds (at_child (spot_in above d k)) path n m r)
    changed_among-holds above d k i path ns ms (changed_later {n = n} {ns = old} {ms = new} r) = later above d k i path n old new (changed_among-holds above d (k + 1) i path old new r)

-- a relation of a part of the tree before and after, wherever the changed node stands in it
module _
    (R : Where → Node → Node → Type 0) (P : Node → Node → Type 0) (Q : Nodes → Nodes → Type 0) (here : (w : Where) (n m : Node) → R w n m → P n m) (below : (d : DirValue) (ns ms : Nodes) → Q ns ms → P (dir_node d ns) (dir_node d ms))
    (first : (n m : Node) (ns : Nodes) → P n m → Q (more_nodes n ns) (more_nodes m ns)) (later : (n : Node) (ns ms : Nodes) → Q ns ms → Q (more_nodes n ns) (more_nodes n ms)) where
  pub changed-keeps : (w : Where) (path : List ℕ) (n m : Node) → ChangedAt R w path n m → P n m
  changed-keeps =
      changed-holds R (λ w path n m. P n m) (λ above d k i path ns ms. Q ns ms) here (λ w d i path ns ms q. below d ns ms q) (λ above d k path n m ns p. first n m ns p) (λ above d k i path n ns ms q. later n ns ms q)
