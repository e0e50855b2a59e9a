-- A quiet turn of a hart goes with a change of another node of the tree.
-- Letters: n is a node, ns are nodes, v a leaf, d a directory, w is where a node stands, p a node with its place.
use Rattle.std.proofs.Common.{◌≡◌, ℕ, ◌+◌, Bool, true, false, List, Option, Some, None, option_map, ◌||◌, nat_eq, refl, sym, ap, subst, ◌∙◌, inl, inr, if◌then◌else◌}
use Rattle.search_model.specs.FlatModel.Hart.{HartValue, Action}
use Rattle.tree_model.specs.State.Place.{Where, at_child, spot_in, where_path}
use Rattle.tree_model.specs.State.Values.{LeafValue, DirValue, Node, Nodes, leaf_node, dir_node, no_nodes, more_nodes}
use Rattle.tree_model.specs.Turns.Tree.{Name, leaf_of_number, is_named, has_node, has_among, read_in, read_among, changed_in, changed_among}
use Rattle.time_laws.specs.Forget.{forget_dir, forget_node, forget_nodes}
use Rattle.search_model.proofs.Named.{Placed, place_here, find, find_among}
use Rattle.search_model.proofs.Quieted.{leaf-named, dir-named, CalmLeaf, leaf_then, quieted, quieted_among, Ready, ReadyAmong, quieted-first, quieted-later}

-- ---- where a node is changed and read

module _ (name : Name) (change : Where → Node → Node) where
  changed-here : (w : Where) (d : DirValue) (ns : Nodes) → is_named name (dir_node d ns) ≡ true → changed_in name change w (dir_node d ns) ≡ change w (dir_node d ns)
  changed-here w d ns is = ap (λ b. if b then change w (dir_node d ns) else dir_node d (changed_among name change (where_path w) d 0 ns)) is

  changed-below : (w : Where) (d : DirValue) (ns : Nodes) → is_named name (dir_node d ns) ≡ false → changed_in name change w (dir_node d ns) ≡ dir_node d (changed_among name change (where_path w) d 0 ns)
  changed-below w d ns is = ap (λ b. if b then change w (dir_node d ns) else dir_node d (changed_among name change (where_path w) d 0 ns)) is

  module _ (path : List ℕ) (d : DirValue) (i : ℕ) (n : Node) (ns : Nodes) where
    abbrev changed_by : Bool → Nodes
    changed_by b = if b then more_nodes (changed_in name change (at_child (spot_in path d i)) n) ns else more_nodes n (changed_among name change path d (i + 1) ns)

    changed-first : has_node name n ≡ true → changed_among name change path d i (more_nodes n ns) ≡ more_nodes (changed_in name change (at_child (spot_in path d i)) n) ns
    changed-first is = ap changed_by is

    changed-later : has_node name n ≡ false → changed_among name change path d i (more_nodes n ns) ≡ more_nodes n (changed_among name change path d (i + 1) ns)
    changed-later is = ap changed_by is

  -- a change that keeps the names in a node keeps those in the tree
  module _ (by : Name) (keeps : (w : Where) (n : Node) → has_node by (change w n) ≡ has_node by n) where
    mutual
      has-changed : (w : Where) (n : Node) → has_node by (changed_in name change w n) ≡ has_node by n
      has-changed w (leaf_node v) = elim (is_named name (leaf_node v)) as (λ b. has_node by (if b then change w (leaf_node v) else leaf_node v) ≡ has_node by (leaf_node v)) [ true ↦ keeps w (leaf_node v) | false ↦ refl ]
      has-changed w (dir_node d ns) = elim (is_named name (dir_node d ns)) as (λ b. has_node by (if b then change w (dir_node d ns) else dir_node d (changed_among name change (where_path w) d 0 ns)) ≡ has_node by (dir_node d ns)) [
        | true ↦ keeps w (dir_node d ns)
        | false ↦
            let ms = changed_among name change (where_path w) d 0 ns in
            ap (λ b. b || has_among by ms) (dir-named by d d ms ns refl) ∙ ap (λ b. is_named by (dir_node d ns) || b) (among-changed (where_path w) d 0 ns)
      ]

      among-changed : (path : List ℕ) (d : DirValue) (i : ℕ) (ns : Nodes) → has_among by (changed_among name change path d i ns) ≡ has_among by ns
      among-changed path d i no_nodes = refl
      among-changed path d i (more_nodes n ns) = elim (has_node name n) as (λ b. has_among by (changed_by path d i n ns b) ≡ has_among by (more_nodes n ns)) [
        | true ↦ ap (λ b. b || has_among by ns) (has-changed (at_child (spot_in path d i)) n)
        | false ↦ ap (λ b. has_node by n || b) (among-changed path d (i + 1) ns)
      ]

module _ (name : Name) {A : Type 0} (read : Where → Node → A) where
  read-here : (w : Where) (d : DirValue) (ns : Nodes) → is_named name (dir_node d ns) ≡ true → read_in name read w (dir_node d ns) ≡ Some (read w (dir_node d ns))
  read-here w d ns is = ap (λ b. if b then Some (read w (dir_node d ns)) else read_among name read (where_path w) d 0 ns) is

  read-below : (w : Where) (d : DirValue) (ns : Nodes) → is_named name (dir_node d ns) ≡ false → read_in name read w (dir_node d ns) ≡ read_among name read (where_path w) d 0 ns
  read-below w d ns is = ap (λ b. if b then Some (read w (dir_node d ns)) else read_among name read (where_path w) d 0 ns) is

  module _ (path : List ℕ) (d : DirValue) (i : ℕ) (n : Node) (ns : Nodes) where
    abbrev read_by : Bool → Option A
    read_by b = if b then read_in name read (at_child (spot_in path d i)) n else read_among name read path d (i + 1) ns

    read-first : has_node name n ≡ true → read_among name read path d i (more_nodes n ns) ≡ read_in name read (at_child (spot_in path d i)) n
    read-first is = ap read_by is

    read-later : has_node name n ≡ false → read_among name read path d i (more_nodes n ns) ≡ read_among name read path d (i + 1) ns
    read-later is = ap read_by is

module _ (number : ℕ) (action : Action) (hart : HartValue) (done : ℕ) where
  abbrev here : Name
  here = leaf_of_number number

  abbrev goes : Node → Node
  goes n = quieted number action hart done n

  abbrev goes_among : Nodes → Nodes
  goes_among ns = quieted_among number action hart done ns

  abbrev IsReady : Node → Type 0
  IsReady n = Ready number action hart done n

  abbrev AreReady : Nodes → Type 0
  AreReady ns = ReadyAmong number action hart done ns

  abbrev IsCalm : LeafValue → Type 0
  IsCalm v = CalmLeaf number action hart done v

  goes-first : (n : Node) (ns : Nodes) → has_node here n ≡ true → goes_among (more_nodes n ns) ≡ more_nodes (goes n) ns
  goes-first = quieted-first number action hart done

  goes-later : (n : Node) (ns : Nodes) → has_node here n ≡ false → goes_among (more_nodes n ns) ≡ more_nodes n (goes_among ns)
  goes-later = quieted-later number action hart done

  -- ---- the quiet turn keeps the names

  module _ (by : Name) where
    mutual
      has-quieted : (n : Node) → has_node by (goes n) ≡ has_node by n
      has-quieted (leaf_node v) = leaf-named by (leaf_then number action hart done v) v refl
      has-quieted (dir_node d ns) = ap (λ b. b || has_among by (goes_among ns)) (dir-named by d d (goes_among ns) ns refl) ∙ ap (λ b. is_named by (dir_node d ns) || b) (among-quieted ns)

      among-quieted : (ns : Nodes) → has_among by (goes_among ns) ≡ has_among by ns
      among-quieted no_nodes = refl
      among-quieted (more_nodes n ns) = elim (has_node here n) as (λ b. has_among by (if b then more_nodes (goes n) ns else more_nodes n (goes_among ns)) ≡ has_among by (more_nodes n ns)) [
        | true ↦ ap (λ b. b || has_among by ns) (has-quieted n)
        | false ↦ ap (λ b. has_node by n || b) (among-quieted ns)
      ]

  -- ---- what is read and changed at the leaf itself

  module _ {A B : Type 0} (read : Where → Node → A) (of : A → B) (told : B) (tells : (w : Where) (v : LeafValue) → IsCalm v → of (read w (leaf_node v)) ≡ told) where
    mutual
      pub read-ready : (w : Where) (n : Node) → IsReady n → option_map of (read_in here read w n) ≡ Some told
      read-ready w (leaf_node v) r = ap (λ b. option_map of (if b then Some (read w (leaf_node v)) else None)) r.named ∙ ap Some (tells w v r)
      read-ready w (dir_node d ns) r = read_among-ready (where_path w) d 0 ns r

      read_among-ready : (path : List ℕ) (d : DirValue) (i : ℕ) (ns : Nodes) → AreReady ns → option_map of (read_among here read path d i ns) ≡ Some told
      read_among-ready path d i no_nodes r = absurd r
      read_among-ready path d i (more_nodes n ns) (inl p) = ap (option_map of) (read-first here read path d i n ns p.0) ∙ read-ready (at_child (spot_in path d i)) n p.1
      read_among-ready path d i (more_nodes n ns) (inr q) = ap (option_map of) (read-later here read path d i n ns q.0) ∙ read_among-ready path d (i + 1) ns q.1

  module _ (change : Where → Node → Node) (does : (w : Where) (v : LeafValue) → IsCalm v → change w (leaf_node v) ≡ goes (leaf_node v)) where
    mutual
      pub changed-ready : (w : Where) (n : Node) → IsReady n → changed_in here change w n ≡ goes n
      changed-ready w (leaf_node v) r = ap (λ b. if b then change w (leaf_node v) else leaf_node v) r.named ∙ does w v r
      changed-ready w (dir_node d ns) r = ap (dir_node d) (changed_among-ready (where_path w) d 0 ns r)

      changed_among-ready : (path : List ℕ) (d : DirValue) (i : ℕ) (ns : Nodes) → AreReady ns → changed_among here change path d i ns ≡ goes_among ns
      changed_among-ready path d i no_nodes r = absurd r
      changed_among-ready path d i (more_nodes n ns) (inl p) =
          changed-first here change path d i n ns p.0 ∙ ap (λ k. more_nodes k ns) (changed-ready (at_child (spot_in path d i)) n p.1) ∙ sym (goes-first n ns p.0)
      changed_among-ready path d i (more_nodes n ns) (inr q) =
          changed-later here change path d i n ns q.0 ∙ ap (more_nodes n) (changed_among-ready path d (i + 1) ns q.1) ∙ sym (goes-later n ns q.0)

  -- ---- it is ready where the found leaf is

  module _ (p : Placed) (v : LeafValue) (is : p.node ≡ leaf_node v) (calm : IsCalm v) where
    mutual
      pub find-ready : (w : Where) (n : Node) → find here w n ≡ Some p → IsReady n
      find-ready w (leaf_node k) found = elim (nat_eq k.number number) as (λ b. (if b then Some (place_here w (leaf_node k)) else None) ≡ Some p → IsCalm k) [
        | true ↦ λ e.
            let same : place_here w (leaf_node k) ≡ p = cc in
            let leaf : leaf_node v ≡ leaf_node k = sym is ∙ sym (ap (λ (q : Placed). q.node) same) in
            let one : v ≡ k = cc in
            subst IsCalm one calm
        | false ↦ λ e. cc
      ] found
      find-ready w (dir_node d ns) found = find_among-ready (where_path w) d 0 ns found

      find_among-ready : (path : List ℕ) (d : DirValue) (i : ℕ) (ns : Nodes) → find_among here path d i ns ≡ Some p → AreReady ns
      find_among-ready path d i no_nodes found = cc
      find_among-ready path d i (more_nodes n ns) found =
          elim (has_node here n) as (λ b. has_node here n ≡ b → (if b then find here (at_child (spot_in path d i)) n else find_among here path d (i + 1) ns) ≡ Some p → AreReady (more_nodes n ns)) [
            | true ↦ λ has e. inl (has, find-ready (at_child (spot_in path d i)) n e)
            | false ↦ λ has e. inr (has, find_among-ready path d (i + 1) ns e)
          ] refl found

  -- ---- a change of another node

  module _ (name : Name) {A : Type 0} (read : Where → Node → A) (change : Where → Node → Node) where
    -- the two orders leave the same but for time, and what is read is the same
    pub record SwapsAt (w : Where) (n : Node) : Type 0 where
      pub ready : IsReady (change w n)
      pub same : forget_node (change w (goes n)) ≡ forget_node (goes (change w n))
      pub reads : read w (goes n) ≡ read w n

    pub record Swaps (w : Where) (n : Node) : Type 0 where
      pub ready : IsReady (changed_in name change w n)
      pub same : forget_node (changed_in name change w (goes n)) ≡ forget_node (goes (changed_in name change w n))
      pub reads : read_in name read w (goes n) ≡ read_in name read w n

    record SwapsAmong (path : List ℕ) (d : DirValue) (i : ℕ) (ns : Nodes) : Type 0 where
      ready : AreReady (changed_among name change path d i ns)
      same : forget_nodes (changed_among name change path d i (goes_among ns)) ≡ forget_nodes (goes_among (changed_among name change path d i ns))
      reads : read_among name read path d i (goes_among ns) ≡ read_among name read path d i ns

    module _
        (keeps : (w : Where) (n : Node) → has_node here (change w n) ≡ has_node here n) (other : (v : LeafValue) → nat_eq v.number number ≡ true → is_named name (leaf_node v) ≡ false)
        (at_dir : (w : Where) (d : DirValue) (ns : Nodes) → AreReady ns → SwapsAt w (dir_node d ns)) where
      mutual
        pub swaps : (w : Where) (n : Node) → IsReady n → Swaps w n
        swaps w (leaf_node v) r =
            let u = leaf_then number action hart done v in
            let off : is_named name (leaf_node v) ≡ false = other v r.named in
            let still : is_named name (leaf_node u) ≡ false = other u r.named in
            record {
              ready = subst (λ b. IsReady (if b then change w (leaf_node v) else leaf_node v)) (sym off) r;
              same = ap (λ b. forget_node (if b then change w (leaf_node u) else leaf_node u)) still ∙ sym (ap (λ b. forget_node (goes (if b then change w (leaf_node v) else leaf_node v))) off);
              reads = ap (λ b. if b then Some (read w (leaf_node u)) else None) still ∙ sym (ap (λ b. if b then Some (read w (leaf_node v)) else None) off);
            }
        swaps w (dir_node d ns) r = elim (is_named name (dir_node d ns)) as (λ b. is_named name (dir_node d ns) ≡ b → Swaps w (dir_node d ns)) [
          | true ↦ λ is.
              let still : is_named name (dir_node d (goes_among ns)) ≡ true = dir-named name d d (goes_among ns) ns refl ∙ is in
              let s = at_dir w d ns r in
              record {
                ready = subst IsReady (sym (changed-here name change w d ns is)) s.ready;
                same = ap forget_node (changed-here name change w d (goes_among ns) still) ∙ s.same ∙ ap (λ k. forget_node (goes k)) (sym (changed-here name change w d ns is));
                reads = read-here name read w d (goes_among ns) still ∙ ap Some s.reads ∙ sym (read-here name read w d ns is);
              }
          | false ↦ λ is.
              let still : is_named name (dir_node d (goes_among ns)) ≡ false = dir-named name d d (goes_among ns) ns refl ∙ is in
              let s = swaps_among (where_path w) d 0 ns r in
              record {
                ready = subst IsReady (sym (changed-below name change w d ns is)) s.ready;
                same = ap forget_node (changed-below name change w d (goes_among ns) still) ∙ ap (dir_node (forget_dir d)) s.same ∙ ap (λ k. forget_node (goes k)) (sym (changed-below name change w d ns is));
                reads = read-below name read w d (goes_among ns) still ∙ s.reads ∙ sym (read-below name read w d ns is);
              }
        ] refl

        swaps_among : (path : List ℕ) (d : DirValue) (i : ℕ) (ns : Nodes) → AreReady ns → SwapsAmong path d i ns
        swaps_among path d i no_nodes r = absurd r
        swaps_among path d i (more_nodes n ns) (inl p) =
            let w = at_child (spot_in path d i) in
            let first = goes-first n ns p.0 in
            elim (has_node name n) as (λ b. has_node name n ≡ b → SwapsAmong path d i (more_nodes n ns)) [
              | true ↦ λ is.
                  let s = swaps w n p.1 in
                  let k = changed_in name change w n in
                  let still : has_node name (goes n) ≡ true = has-quieted name n ∙ is in
                  let there : has_node here k ≡ true = has-changed name change here keeps w n ∙ p.0 in
                  let changed = changed-first name change path d i n ns is in
                  record {
                    ready = subst AreReady (sym changed) (inl (there, s.ready));
                    same =
                        ap (λ l. forget_nodes (changed_among name change path d i l)) first ∙ ap forget_nodes (changed-first name change path d i (goes n) ns still) ∙ ap (λ a. more_nodes a (forget_nodes ns)) s.same
                        ∙ ap forget_nodes (sym (goes-first k ns there)) ∙ ap (λ l. forget_nodes (goes_among l)) (sym changed);
                    reads = ap (read_among name read path d i) first ∙ read-first name read path d i (goes n) ns still ∙ s.reads ∙ sym (read-first name read path d i n ns is);
                  }
              | false ↦ λ is.
                  let later = changed_among name change path d (i + 1) ns in
                  let still : has_node name (goes n) ≡ false = has-quieted name n ∙ is in
                  let changed = changed-later name change path d i n ns is in
                  record {
                    ready = subst AreReady (sym changed) (inl (p.0, p.1));
                    same =
                        ap (λ l. forget_nodes (changed_among name change path d i l)) first ∙ ap forget_nodes (changed-later name change path d i (goes n) ns still)
                        ∙ ap forget_nodes (sym (goes-first n later p.0)) ∙ ap (λ l. forget_nodes (goes_among l)) (sym changed);
                    reads = ap (read_among name read path d i) first ∙ read-later name read path d i (goes n) ns still ∙ sym (read-later name read path d i n ns is);
                  }
            ] refl
        swaps_among path d i (more_nodes n ns) (inr q) =
            let w = at_child (spot_in path d i) in
            let after = goes-later n ns q.0 in
            elim (has_node name n) as (λ b. has_node name n ≡ b → SwapsAmong path d i (more_nodes n ns)) [
              | true ↦ λ is.
                  let k = changed_in name change w n in
                  let absent : has_node here k ≡ false = has-changed name change here keeps w n ∙ q.0 in
                  let changed = changed-first name change path d i n ns is in
                  record {
                    ready = subst AreReady (sym changed) (inr (absent, q.1));
                    same =
                        ap (λ l. forget_nodes (changed_among name change path d i l)) after ∙ ap forget_nodes (changed-first name change path d i n (goes_among ns) is)
                        ∙ ap forget_nodes (sym (goes-later k ns absent)) ∙ ap (λ l. forget_nodes (goes_among l)) (sym changed);
                    reads = ap (read_among name read path d i) after ∙ read-first name read path d i n (goes_among ns) is ∙ sym (read-first name read path d i n ns is);
                  }
              | false ↦ λ is.
                  let s = swaps_among path d (i + 1) ns q.1 in
                  let later = changed_among name change path d (i + 1) ns in
                  let changed = changed-later name change path d i n ns is in
                  record {
                    ready = subst AreReady (sym changed) (inr (q.0, s.ready));
                    same =
                        ap (λ l. forget_nodes (changed_among name change path d i l)) after ∙ ap forget_nodes (changed-later name change path d i n (goes_among ns) is) ∙ ap (more_nodes (forget_node n)) s.same
                        ∙ ap forget_nodes (sym (goes-later n later q.0)) ∙ ap (λ l. forget_nodes (goes_among l)) (sym changed);
                    reads = ap (read_among name read path d i) after ∙ read-later name read path d i n (goes_among ns) is ∙ s.reads ∙ sym (read-later name read path d i n ns is);
                  }
            ] refl
