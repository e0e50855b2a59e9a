-- Claims, directories and leaves after a hart's turn: claims and directories are the same, one leaf is another.
use Rattle.std.proofs.Common.{◌≡◌, ℕ, ◌+◌, false, ◌⊎◌, inl, inr, List, ◌∷◌, ◌++◌, refl, sym, ap, subst, ◌∙◌}
use Rattle.order_laws.specs.DdmTypes.declared.operations.Effect.{Effect}
use Rattle.order_laws.specs.DdmTypes.ItemTable.{ItemTable}
use Rattle.order_laws.specs.TreeModel.State.States.{is_exclusive}
use Rattle.order_laws.specs.TreeModel.State.Values.{LeafValue, DirValue, Node, Nodes, leaf_node, dir_node, no_nodes, more_nodes}
use Rattle.order_laws.specs.TreeModel.State.Place.{Spot, spot_path, spot_in}
use Rattle.order_laws.specs.TreeRules.Order.Moments.{is_under}
use Rattle.order_laws.specs.TreeRules.Order.Claims.{child_is_exclusive, claim, first_claim, claims_in, claims_among}
use Rattle.order_laws.specs.TreeRules.Order.Places.{LeafAt, leaf_path, DirAt, leaves_in, placed_leaves, dirs_in, placed_dirs}
use Rattle.order_laws.proofs.Hart.LeafTurned.{EntryTurned, hold_turned}
use Rattle.order_laws.proofs.Hart.TreeTurned.{AtLeaf, NodeTurned, AmongTurned}
use Rattle.order_laws.specs.Pairs.{Pairs}
use Rattle.order_laws.proofs.Pairs.{pairs-append}

module _ (items : ItemTable) (x : ℕ) (effect : Effect) (at : List ℕ) (Takes : AtLeaf) (takes : (c : Spot) (v w : LeafValue) → Takes c v w → EntryTurned items effect x v w) where
  exclusive_same : (c : Spot) (n m : Node) → NodeTurned at Takes c n m → child_is_exclusive x m ≡ child_is_exclusive x n
  exclusive_same c (leaf_node v) (leaf_node w) (inl h) = ap (λ (u : LeafValue). child_is_exclusive x (leaf_node u)) h.0
  exclusive_same c (leaf_node v) (leaf_node w) (inr h) = ap is_exclusive (hold_turned items effect x v w (takes c v w h.1))
  exclusive_same c (leaf_node v) (dir_node e ms) h = absurd h
  exclusive_same c (dir_node d ns) (leaf_node w) h = absurd h
  exclusive_same c (dir_node d ns) (dir_node e ms) h = ap (λ (u : DirValue). child_is_exclusive x (dir_node u ms)) h.0

  dir_claim : (c : Spot) (d : DirValue) (ns ms : Nodes) → first_claim x (spot_path c) d 0 ms ≡ first_claim x (spot_path c) d 0 ns → claim x c (dir_node d ms) ≡ claim x c (dir_node d ns)
  dir_claim c d ns ms e = rw e refl

  mutual
    claim_same : (c : Spot) (n m : Node) → NodeTurned at Takes c n m → claim x c m ≡ claim x c n
    claim_same c (leaf_node v) (leaf_node w) h = refl
    claim_same c (leaf_node v) (dir_node e ms) h = absurd h
    claim_same c (dir_node d ns) (leaf_node w) h = absurd h
    claim_same c (dir_node d ns) (dir_node e ms) h = ap (λ (u : DirValue). claim x c (dir_node u ms)) h.0 ∙ dir_claim c d ns ms (first_same (spot_path c) d 0 ns ms h.2)

    first_same : (path : List ℕ) (d : DirValue) (i : ℕ) (ns ms : Nodes) → AmongTurned at Takes path d i ns ms → first_claim x path d i ms ≡ first_claim x path d i ns
    first_same path d i no_nodes no_nodes h = refl
    first_same path d i no_nodes (more_nodes m ms) h = absurd h
    first_same path d i (more_nodes n ns) no_nodes h = absurd h
    first_same path d i (more_nodes n ns) (more_nodes m ms) h = rw (exclusive_same (spot_in path d i) n m h.0, claim_same (spot_in path d i) n m h.0, first_same path d (i + 1) ns ms h.1) refl

  leaf_claims : (c : Spot) (v w : LeafValue) → child_is_exclusive x (leaf_node w) ≡ child_is_exclusive x (leaf_node v) → claims_in x c (leaf_node w) ≡ claims_in x c (leaf_node v)
  leaf_claims c v w e = rw e refl

  dir_claims : (c : Spot) (d : DirValue) (ns ms : Nodes) → claim x c (dir_node d ms) ≡ claim x c (dir_node d ns) → claims_among x (spot_path c) d 0 ms ≡ claims_among x (spot_path c) d 0 ns → claims_in x c (dir_node d ms) ≡ claims_in x c (dir_node d ns)
  dir_claims c d ns ms e f = rw (e, f) refl

  mutual
    pub claims_same : (c : Spot) (n m : Node) → NodeTurned at Takes c n m → claims_in x c m ≡ claims_in x c n
    claims_same c (leaf_node v) (leaf_node w) h = leaf_claims c v w (exclusive_same c (leaf_node v) (leaf_node w) h)
    claims_same c (leaf_node v) (dir_node e ms) h = absurd h
    claims_same c (dir_node d ns) (leaf_node w) h = absurd h
    claims_same c (dir_node d ns) (dir_node e ms) h = ap (λ (u : DirValue). claims_in x c (dir_node u ms)) h.0 ∙ dir_claims c d ns ms (dir_claim c d ns ms (first_same (spot_path c) d 0 ns ms h.2)) (among_claims (spot_path c) d 0 ns ms h.2)

    pub among_claims : (path : List ℕ) (d : DirValue) (i : ℕ) (ns ms : Nodes) → AmongTurned at Takes path d i ns ms → claims_among x path d i ms ≡ claims_among x path d i ns
    among_claims path d i no_nodes no_nodes h = refl
    among_claims path d i no_nodes (more_nodes m ms) h = absurd h
    among_claims path d i (more_nodes n ns) no_nodes h = absurd h
    among_claims path d i (more_nodes n ns) (more_nodes m ms) h = ap (λ l. l ++ claims_among x path d (i + 1) ms) (claims_same (spot_in path d i) n m h.0) ∙ ap (λ l. claims_in x (spot_in path d i) n ++ l) (among_claims path d (i + 1) ns ms h.1)

-- the directories are the same
module _ (at : List ℕ) (Takes : AtLeaf) where
  mutual
    pub dirs_same : (c : Spot) (n m : Node) → NodeTurned at Takes c n m → dirs_in c m ≡ dirs_in c n
    dirs_same c (leaf_node v) (leaf_node w) h = refl
    dirs_same c (leaf_node v) (dir_node e ms) h = absurd h
    dirs_same c (dir_node d ns) (leaf_node w) h = absurd h
    dirs_same c (dir_node d ns) (dir_node e ms) h = ap (λ (u : DirValue). dirs_in c (dir_node u ms)) h.0 ∙ ap (λ l. let k : DirAt = record { spot = c; dir = d } in k ∷ l) (placed_same (spot_path c) d 0 ns ms h.2)

    pub placed_same : (path : List ℕ) (d : DirValue) (i : ℕ) (ns ms : Nodes) → AmongTurned at Takes path d i ns ms → placed_dirs path d i ms ≡ placed_dirs path d i ns
    placed_same path d i no_nodes no_nodes h = refl
    placed_same path d i no_nodes (more_nodes m ms) h = absurd h
    placed_same path d i (more_nodes n ns) no_nodes h = absurd h
    placed_same path d i (more_nodes n ns) (more_nodes m ms) h = ap (λ l. l ++ placed_dirs path d (i + 1) ms) (dirs_same (spot_in path d i) n m h.0) ∙ ap (λ l. dirs_in (spot_in path d i) n ++ l) (placed_same path d (i + 1) ns ms h.1)

-- the leaves: each the same and elsewhere, or the one that took its turn
module _ (at : List ℕ) (Takes : AtLeaf) where
  pub record LeafTook (a b : LeafAt) : Type 0 where
    pub spot : b.spot ≡ a.spot
    pub path : leaf_path a ≡ at
    pub takes : Takes a.spot a.leaf b.leaf

  abbrev pub LeafMoved : LeafAt → LeafAt → Type 0
  LeafMoved a b = ((b ≡ a) × (is_under at (leaf_path a) ≡ false)) ⊎ LeafTook a b

  one_moved : (c : Spot) (v w : LeafValue) → NodeTurned at Takes c (leaf_node v) (leaf_node w) → LeafMoved (record { spot = c; leaf = v }) (record { spot = c; leaf = w })
  one_moved c v w (inl h) = inl (ap (λ (u : LeafValue). let a : LeafAt = record { spot = c; leaf = u } in a) h.0, h.1)
  one_moved c v w (inr h) = inr (record { spot = refl; path = h.0; takes = h.1 })

  mutual
    pub leaves_moved : (c : Spot) (n m : Node) → NodeTurned at Takes c n m → Pairs LeafMoved (leaves_in c n) (leaves_in c m)
    leaves_moved c (leaf_node v) (leaf_node w) h = (one_moved c v w h, tt)
    leaves_moved c (leaf_node v) (dir_node e ms) h = absurd h
    leaves_moved c (dir_node d ns) (leaf_node w) h = absurd h
    leaves_moved c (dir_node d ns) (dir_node e ms) h = subst (λ (u : DirValue). Pairs LeafMoved (leaves_in c (dir_node d ns)) (leaves_in c (dir_node u ms))) (sym h.0) (placed_moved (spot_path c) d 0 ns ms h.2)

    pub placed_moved : (path : List ℕ) (d : DirValue) (i : ℕ) (ns ms : Nodes) → AmongTurned at Takes path d i ns ms → Pairs LeafMoved (placed_leaves path d i ns) (placed_leaves path d i ms)
    placed_moved path d i no_nodes no_nodes h = tt
    placed_moved path d i no_nodes (more_nodes m ms) h = absurd h
    placed_moved path d i (more_nodes n ns) no_nodes h = absurd h
    placed_moved path d i (more_nodes n ns) (more_nodes m ms) h = pairs-append LeafMoved (leaves_in (spot_in path d i) n) (leaves_in (spot_in path d i) m) _ _ (leaves_moved (spot_in path d i) n m h.0) (placed_moved path d (i + 1) ns ms h.1)
