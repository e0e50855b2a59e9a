-- What the rules say of a tree they say of the node at a path below its root, and of each of that node's children.
-- Letters: p is the path, r the node above, d and ns the directory at the path and its children.
use Rattle.std.proofs.Common.{◌≡◌, ℕ, zero, suc, ◌+◌, ◌<◌, List, [], ◌∷◌, ◌++◌, length, refl, sym, ap, subst, ◌∙◌, arith, append_assoc}
use Rattle.std.specs.List.{AllByRecursion}
use Rattle.order_laws.specs.TreeModel.State.Blank.{no_leaf}
use Rattle.order_laws.specs.TreeModel.State.Values.{LeafValue, DirValue, Node, Nodes, leaf_node, dir_node, no_nodes, more_nodes, children, MachineValue, root_of}
use Rattle.order_laws.specs.TreeModel.State.Place.{Spot, spot_path, spot_in}
use Rattle.order_laws.specs.TreeModel.State.Shape.{skeleton, skeletons, bone_count}
use Rattle.order_laws.specs.TreeModel.Turns.Children.{child_at}
use Rattle.order_laws.specs.TreeRules.Bus.Rules.{IsTreeOk, AreTreesOk}
use Rattle.order_laws.specs.TreeRules.Order.Places.{DirAt, dirs_in, placed_dirs, dirs_at}
use Rattle.order_lists.proofs.Filters.{each-left, each-right}
use Rattle.order_laws.specs.Moves.Carries.{node_at}
use Rattle.order_laws.proofs.Moves.Leaves.{back}

-- no directory stands below a leaf
pub leaf-below : (p : List ℕ) (v : LeafValue) (d : DirValue) (ns : Nodes) → node_at p (leaf_node v) ≡ dir_node d ns → ⊥
leaf-below [] v d ns is = cc
leaf-below (i ∷ p) v d ns is = cc

-- ---- the rules of each bus

module _ (n : ℕ) where
  mutual
    pub ok-below : (d : DirValue) (ns : Nodes) (p : List ℕ) (r : Node) → node_at p r ≡ dir_node d ns → IsTreeOk n r → IsTreeOk n (dir_node d ns)
    ok-below d ns [] r is ok = subst (IsTreeOk n) is ok
    ok-below d ns (i ∷ p) (leaf_node v) is ok = absurd (leaf-below (i ∷ p) v d ns is)
    ok-below d ns (i ∷ p) (dir_node e ks) is ok = ok-among d ns p i ks is ok.1

    ok-among : (d : DirValue) (ns : Nodes) (p : List ℕ) (i : ℕ) (ks : Nodes) → node_at p (child_at i (children ks)) ≡ dir_node d ns → AreTreesOk n ks → IsTreeOk n (dir_node d ns)
    ok-among d ns p i no_nodes is ok = absurd (leaf-below p no_leaf d ns is)
    ok-among d ns p zero (more_nodes k ks) is ok = ok-below d ns p k is ok.0
    ok-among d ns p (suc i) (more_nodes k ks) is ok = ok-among d ns p i ks is ok.1

-- ---- what holds of each directory

module _ (P : DirAt → Type 0) where
  mutual
    dirs-below : (d : DirValue) (ns : Nodes) (p : List ℕ) (c : Spot) (r : Node) → node_at p r ≡ dir_node d ns → AllByRecursion P (dirs_in c r) → AllByRecursion P (placed_dirs (spot_path c ++ p) d 0 ns)
    dirs-below d ns [] c r is h =
        let there : AllByRecursion P (dirs_in c (dir_node d ns)) = subst (λ k. AllByRecursion P (dirs_in c k)) is h in
        subst (λ q. AllByRecursion P (placed_dirs q d 0 ns)) (sym (back (spot_path c))) there.1
    dirs-below d ns (i ∷ p) c (leaf_node v) is h = absurd (leaf-below (i ∷ p) v d ns is)
    dirs-below d ns (i ∷ p) c (dir_node e ks) is h = subst (λ j. AllByRecursion P (placed_dirs (spot_path c ++ j ∷ p) d 0 ns)) (let none : i + 0 ≡ i = omega arith in none) (dirs-among d ns p (spot_path c) e i 0 ks is h.1)

    dirs-among : (d : DirValue) (ns : Nodes) (p above : List ℕ) (e : DirValue) (i j : ℕ) (ks : Nodes) → node_at p (child_at i (children ks)) ≡ dir_node d ns → AllByRecursion P (placed_dirs above e j ks) → AllByRecursion P (placed_dirs (above ++ (i + j) ∷ p) d 0 ns)
    dirs-among d ns p above e i j no_nodes is h = absurd (leaf-below p no_leaf d ns is)
    dirs-among d ns p above e zero j (more_nodes k ks) is h = subst (λ q. AllByRecursion P (placed_dirs q d 0 ns)) (append_assoc above (j ∷ []) p ∙ ap (λ l. above ++ l ∷ p) (let none : j ≡ 0 + j = omega arith in none)) (dirs-below d ns p (spot_in above e j) k is (each-left P (dirs_in (spot_in above e j) k) (placed_dirs above e (j + 1) ks) h))
    dirs-among d ns p above e (suc i) j (more_nodes k ks) is h = subst (λ l. AllByRecursion P (placed_dirs (above ++ l ∷ p) d 0 ns)) (let more : i + (j + 1) ≡ suc i + j = omega arith in more) (dirs-among d ns p above e i (j + 1) ks is (each-right P (dirs_in (spot_in above e j) k) (placed_dirs above e (j + 1) ks) h))

  pub dirs-at : (m : MachineValue) (d : DirValue) (ns : Nodes) (p : List ℕ) → node_at p (root_of m) ≡ dir_node d ns → AllByRecursion P (dirs_at m) → AllByRecursion P (placed_dirs p d 0 ns)
  unfolding dirs_at
  dirs-at m d ns [] is h =
      let top : m.top ≡ d = cc in
      let kids : m.kids ≡ ns = cc in
      subst (λ e. AllByRecursion P (placed_dirs [] e 0 ns)) top (subst (λ ks. AllByRecursion P (placed_dirs [] m.top 0 ks)) kids h)
  dirs-at m d ns (i ∷ p) is h = subst (λ j. AllByRecursion P (placed_dirs (j ∷ p) d 0 ns)) (let none : i + 0 ≡ i = omega arith in none) (dirs-among d ns p [] m.top i 0 m.kids is h)

  dirs-of_child_from : (path : List ℕ) (d : DirValue) (i j : ℕ) (ns : Nodes) → i < length (children ns) → AllByRecursion P (placed_dirs path d j ns) → AllByRecursion P (dirs_in (spot_in path d (i + j)) (child_at i (children ns)))
  dirs-of_child_from path d i j no_nodes l h = absurd (omega (arith, l))
  dirs-of_child_from path d zero j (more_nodes k ks) l h = subst (λ u. AllByRecursion P (dirs_in (spot_in path d u) k)) (let none : j ≡ 0 + j = omega arith in none) (each-left P (dirs_in (spot_in path d j) k) (placed_dirs path d (j + 1) ks) h)
  dirs-of_child_from path d (suc i) j (more_nodes k ks) l h = subst (λ u. AllByRecursion P (dirs_in (spot_in path d u) (child_at i (children ks)))) (let more : i + (j + 1) ≡ suc i + j = omega arith in more) (dirs-of_child_from path d i (j + 1) ks (omega (arith, l)) (each-right P (dirs_in (spot_in path d j) k) (placed_dirs path d (j + 1) ks) h))

  -- and so of those inside a child
  pub dirs-of_child : (path : List ℕ) (d : DirValue) (i : ℕ) (ns : Nodes) → i < length (children ns) → AllByRecursion P (placed_dirs path d 0 ns) → AllByRecursion P (dirs_in (spot_in path d i) (child_at i (children ns)))
  dirs-of_child path d i ns l h = subst (λ j. AllByRecursion P (dirs_in (spot_in path d j) (child_at i (children ns)))) (let none : i + 0 ≡ i = omega arith in none) (dirs-of_child_from path d i 0 ns l h)

-- ---- how many children

bones-many : (ns : Nodes) → bone_count (skeletons ns) ≡ length (children ns)
bones-many no_nodes = refl
bones-many (more_nodes n ns) = let rest : bone_count (skeletons ns) ≡ length (children ns) = bones-many ns in omega (arith, rest)

same-many : (ns ks : Nodes) → skeletons ks ≡ skeletons ns → length (children ks) ≡ length (children ns)
same-many ns ks same = sym (bones-many ks) ∙ (ap bone_count same ∙ bones-many ns)

-- trees of one skeleton have at a path directories of as many children
module _ (d : DirValue) (ns : Nodes) (e : DirValue) (ks : Nodes) where
  mutual
    pub many-below : (p : List ℕ) (r s : Node) → skeleton s ≡ skeleton r → node_at p r ≡ dir_node d ns → node_at p s ≡ dir_node e ks → length (children ks) ≡ length (children ns)
    many-below [] r s same is at =
        let bones : skeleton (dir_node e ks) ≡ skeleton (dir_node d ns) = subst (λ u. skeleton (dir_node e ks) ≡ skeleton u) is (subst (λ u. skeleton u ≡ skeleton r) at same) in
        same-many ns ks (let below : skeletons ks ≡ skeletons ns = cc in below)
    many-below (i ∷ p) (leaf_node v) s same is at = absurd (leaf-below (i ∷ p) v d ns is)
    many-below (i ∷ p) (dir_node f js) (leaf_node w) same is at = absurd (leaf-below (i ∷ p) w e ks at)
    many-below (i ∷ p) (dir_node f js) (dir_node g hs) same is at = many-among p i js hs (let below : skeletons hs ≡ skeletons js = cc in below) is at

    many-among : (p : List ℕ) (i : ℕ) (js hs : Nodes) → skeletons hs ≡ skeletons js → node_at p (child_at i (children js)) ≡ dir_node d ns → node_at p (child_at i (children hs)) ≡ dir_node e ks → length (children ks) ≡ length (children ns)
    many-among p i no_nodes hs same is at = absurd (leaf-below p no_leaf d ns is)
    many-among p i (more_nodes j js) no_nodes same is at = absurd (leaf-below p no_leaf e ks at)
    many-among p zero (more_nodes j js) (more_nodes h hs) same is at = many-below p j h (let first : skeleton h ≡ skeleton j = cc in first) is at
    many-among p (suc i) (more_nodes j js) (more_nodes h hs) same is at = many-among p i js hs (let rest : skeletons hs ≡ skeletons js = cc in rest) is at
