-- The tree after a hart's turn: one leaf has taken its turn, and all else is as it was.
use Rattle.std.proofs.Common.{◌≡◌, ◌≢◌, ℕ, ◌+◌, ◌≤◌, ◌<◌, Bool, true, false, ◌⊎◌, inl, inr, List, [], ◌∷◌, ◌++◌, length, refl, sym, ap, ◌∙◌, append-nil, append_assoc, arith}
use Rattle.std.proofs.lemmas.Bool.{true≢false, false_from_ne_true, cases_lt, eq-eqb}
use Rattle.std.proofs.lemmas.List.{length-append}
use Rattle.order_laws.specs.TreeModel.State.Values.{LeafValue, DirValue, Node, Nodes, leaf_node, dir_node, no_nodes, more_nodes}
use Rattle.order_laws.specs.TreeModel.State.Place.{Spot, Where, at_top, at_child, spot_path, spot_in, where_path}
use Rattle.order_laws.specs.TreeModel.Turns.Tree.{ChangedAt}
use Rattle.order_laws.proofs.TreeModel.Changed.{changed-holds}
use Rattle.order_laws.specs.TreeRules.Order.Moments.{is_under}
use Rattle.order_lists.proofs.Paths.{under-itself, under-append, under-shorter, under_child, one_child}

-- of a leaf that takes its turn, where it stands
abbrev pub AtLeaf : Type 1
AtLeaf = Spot → LeafValue → LeafValue → Type 0

-- two trees that are the same but at the leaf with the path `at`, which takes its turn
module _ (at : List ℕ) (Takes : AtLeaf) where
  abbrev mutual
    pub NodeTurned : Spot → Node → Node → Type 0
    NodeTurned c (leaf_node v) (leaf_node w) = ((w ≡ v) × (is_under at (spot_path c) ≡ false)) ⊎ ((spot_path c ≡ at) × Takes c v w)
    NodeTurned c (leaf_node v) (dir_node e ms) = ⊥
    NodeTurned c (dir_node d ns) (leaf_node w) = ⊥
    NodeTurned c (dir_node d ns) (dir_node e ms) = (e ≡ d) × (is_under at (spot_path c) ≡ false) × AmongTurned (spot_path c) d 0 ns ms

    -- the children, from number i on, of a directory with this path
    pub AmongTurned : List ℕ → DirValue → ℕ → Nodes → Nodes → Type 0
    AmongTurned path d i no_nodes no_nodes = Unit {0}
    AmongTurned path d i no_nodes (more_nodes m ms) = ⊥
    AmongTurned path d i (more_nodes n ns) no_nodes = ⊥
    AmongTurned path d i (more_nodes n ns) (more_nodes m ms) = NodeTurned (spot_in path d i) n m × AmongTurned path d (i + 1) ns ms

  -- where neither the bus is under the leaf nor the leaf under its child, the child isn't under the leaf
  apart : (above : List ℕ) (i : ℕ) → is_under at above ≡ false → is_under (above ++ i ∷ []) at ≡ false → is_under at (above ++ i ∷ []) ≡ false
  apart above i h k = false_from_ne_true (is_under at (above ++ i ∷ [])) (λ u. by_length u (cases_lt (length above) (length at))) where
    by_length : is_under at (above ++ i ∷ []) ≡ true → (length above < length at) ⊎ (length at ≤ length above) → ⊥
    by_length u (inl l) =
        let e : length (above ++ i ∷ []) ≡ length above + 1 = length-append above (i ∷ []) in
        true≢false (sym (under-shorter (above ++ i ∷ []) at (above ++ i ∷ []) (under-itself (above ++ i ∷ [])) u (omega (arith, e, l))) ∙ k)
    by_length u (inr l) = true≢false (sym (under-shorter at above (above ++ i ∷ []) u (under-append above (i ∷ [])) l) ∙ h)

  child_elsewhere : (path : List ℕ) (i : ℕ) → is_under path at ≡ false → is_under (path ++ i ∷ []) at ≡ false
  child_elsewhere path i h = go (is_under (path ++ i ∷ []) at) refl where
    go : (t : Bool) → is_under (path ++ i ∷ []) at ≡ t → is_under (path ++ i ∷ []) at ≡ false
    go true e = absurd (true≢false (sym (under_child path at i e) ∙ h))
    go false e = e

  -- where the leaf isn't, all is the same
  mutual
    pub node_same : (c : Spot) (n : Node) → is_under at c.above ≡ false → is_under (spot_path c) at ≡ false → NodeTurned c n n
    node_same c (leaf_node v) k h = inl (refl, apart c.above c.number k h)
    node_same c (dir_node d ns) k h = (refl, apart c.above c.number k h, among_same (spot_path c) d 0 ns (apart c.above c.number k h) (λ j l. child_elsewhere (spot_path c) j h))

    pub among_same : (path : List ℕ) (d : DirValue) (i : ℕ) (ns : Nodes) → is_under at path ≡ false → ((j : ℕ) → i ≤ j → is_under (path ++ j ∷ []) at ≡ false) → AmongTurned path d i ns ns
    among_same path d i no_nodes k h = tt
    among_same path d i (more_nodes n ns) k h = (node_same (spot_in path d i) n k (h i (omega arith)), among_same path d (i + 1) ns k (λ j l. h j (omega arith)))

  -- a path that goes on isn't over what it goes on from
  longer : (path : List ℕ) (i : ℕ) (rest : List ℕ) → at ≡ path ++ i ∷ rest → is_under at path ≡ false
  longer path i rest e = ap (λ p. is_under p path) e ∙ go path where
    go : (p : List ℕ) → is_under (p ++ i ∷ rest) p ≡ false
    go [] = refl
    go (c ∷ p) = rw (eq-eqb c c refl) (go p)

  other_child : (path : List ℕ) (i j : ℕ) (rest : List ℕ) → at ≡ path ++ i ∷ rest → j ≢ i → is_under (path ++ j ∷ []) at ≡ false
  other_child path i j rest e off = false_from_ne_true (is_under (path ++ j ∷ []) at) (λ u. off (one_child path at j i u (ap (is_under (path ++ i ∷ [])) (e ∙ split) ∙ under-append (path ++ i ∷ []) rest))) where
    split : path ++ i ∷ rest ≡ (path ++ i ∷ []) ++ rest
    split = sym (append_assoc path (i ∷ []) rest)

  -- ---- from a change of one node

  -- at the root, which is a directory
  abbrev pub RootTurned : Node → Node → Type 0
  RootTurned (leaf_node v) k = Unit {0}
  RootTurned (dir_node d ns) (leaf_node w) = ⊥
  RootTurned (dir_node d ns) (dir_node e ms) = (e ≡ d) × AmongTurned [] d 0 ns ms

  abbrev WhereTurned : Where → Node → Node → Type 0
  WhereTurned at_top n k = RootTurned n k
  WhereTurned (at_child c) n k = NodeTurned c n k

  module _ (R : Where → Node → Node → Type 0) (at_root : (n k : Node) → R at_top n k → RootTurned n k) (at_leaf : (c : Spot) (n k : Node) → R (at_child c) n k → spot_path c ≡ at → NodeTurned c n k) where
    abbrev PartTurned : Where → List ℕ → Node → Node → Type 0
    PartTurned w path n k = at ≡ where_path w ++ path → WhereTurned w n k

    abbrev RunTurned : List ℕ → DirValue → ℕ → ℕ → List ℕ → Nodes → Nodes → Type 0
    RunTurned above d k i path ns ms = at ≡ above ++ i ∷ path → (k ≤ i) × AmongTurned above d k ns ms

    part_here : (w : Where) (n k : Node) → R w n k → PartTurned w [] n k
    part_here at_top n k r e = at_root n k r
    part_here (at_child c) n k r e = at_leaf c n k r (sym (e ∙ append-nil (spot_path c)))

    part_below : (w : Where) (d : DirValue) (i : ℕ) (path : List ℕ) (ns ms : Nodes) → RunTurned (where_path w) d 0 i path ns ms → PartTurned w (i ∷ path) (dir_node d ns) (dir_node d ms)
    part_below at_top d i path ns ms run e = (refl, (run e).1)
    part_below (at_child c) d i path ns ms run e = (refl, longer (spot_path c) i path e, (run e).1)

    run_first : (above : List ℕ) (d : DirValue) (k : ℕ) (path : List ℕ) (n m : Node) (ns : Nodes) → PartTurned (at_child (spot_in above d k)) path n m → RunTurned above d k k path (more_nodes n ns) (more_nodes m ns)
    run_first above d k path n m ns part e = (omega arith, (part (e ∙ sym (append_assoc above (k ∷ []) path)), among_same above d (k + 1) ns (longer above k path e) (λ j l. other_child above k j path e (λ same. omega (arith, same, l)))))

    run_later : (above : List ℕ) (d : DirValue) (k i : ℕ) (path : List ℕ) (n : Node) (ns ms : Nodes) → RunTurned above d (k + 1) i path ns ms → RunTurned above d k i path (more_nodes n ns) (more_nodes n ms)
    run_later above d k i path n ns ms run e =
        let rest : (k + 1 ≤ i) × AmongTurned above d (k + 1) ns ms = run e in
        let l : k + 1 ≤ i = rest.0 in
        (omega (arith, l), (node_same (spot_in above d k) n (longer above i path e) (other_child above i k path e (λ same. omega (arith, same, l))), rest.1))

    pub root_turned : (n k : Node) → ChangedAt R at_top at n k → RootTurned n k
    root_turned n k changed = changed-holds R PartTurned RunTurned part_here part_below run_first run_later at_top at n k changed refl
