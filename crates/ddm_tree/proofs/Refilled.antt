-- A tree of which leaves and directories were replaced, each by its number; one more of them is replaced where it stands at the end of
-- the path to it.
-- Letters: f and g say what becomes of leaves and of directories, f' and g' what becomes of them with one more replaced.
use Rattle.std.proofs.Common.{◌≡◌, ◌<◌, ℕ, zero, suc, ◌+◌, Bool, true, false, List, [], ◌∷◌, length, map, refl, sym, ap, ◌∙◌, arith, true≢false}
use Rattle.std.specs.Prelude.{is_some, slice_index_or, ◌||◌, if◌then◌else◌}
use Rattle.ddm_tree.specs.TreeModel.State.Values.{LeafValue, DirValue, Node, Nodes, leaf_node, dir_node, no_nodes, more_nodes, children}
use Rattle.ddm_tree.specs.TreeModel.State.Place.{Where, at_top, at_child, where_path, spot_in}
use Rattle.ddm_tree.specs.TreeModel.State.Shape.{skeleton, skeletons}
use Rattle.ddm_tree.specs.TreeModel.Turns.Children.{child_at}
use Rattle.ddm_tree.specs.TreeModel.Turns.Tree.{Name, is_named, has_node, has_among, changed_in, changed_among}
use Rattle.ddm_tree.specs.StateReading.Machine.{refilled, refilled_among}
use Rattle.ddm_tree.specs.Path.{is_bone, path_to, node_at, put_at}
use Rattle.ddm_tree.specs.Ready.{Leads}
use Rattle.ddm_tree.proofs.Along.{along, bone-named, path_to-there, some_if-same}
use Rattle.ddm_tree.proofs.Descend.{leads-child}
use Rattle.ddm_tree.proofs.NamedOnce.{Once, OnceAmong}

-- ---- a tree in which each leaf and each directory was changed

module _ (f : LeafValue → LeafValue) (g : DirValue → DirValue) where
  abbrev mutual
    pub mapped : Node → Node
    mapped (leaf_node v) = leaf_node (f v)
    mapped (dir_node d ns) = dir_node (g d) (mapped_among ns)

    pub mapped_among : Nodes → Nodes
    mapped_among no_nodes = no_nodes
    mapped_among (more_nodes n ns) = more_nodes (mapped n) (mapped_among ns)

  mapped-children : (ns : Nodes) → children (mapped_among ns) ≡ map mapped (children ns)
  mapped-children no_nodes = refl
  mapped-children (more_nodes n ns) = ap (λ ms. mapped n ∷ ms) (mapped-children ns)

  pub mapped-child : (ns : Nodes) (i : ℕ) → i < length (children ns) → child_at i (children (mapped_among ns)) ≡ mapped (child_at i (children ns))
  mapped-child no_nodes i l = absurd (omega (arith, l))
  mapped-child (more_nodes n ns) zero l = refl
  mapped-child (more_nodes n ns) (suc i) l = mapped-child ns i (omega (arith, l))

  pub mapped-at : (name : Name) (path : List ℕ) (n : Node) → Leads name path n → node_at path (mapped n) ≡ mapped (node_at path n)
  mapped-at name [] n leads = refl
  mapped-at name (i ∷ path) (leaf_node v) leads =
      let none = some_if-same _ (i ∷ path) leads in
      cc
  mapped-at name (i ∷ path) (dir_node d ns) leads =
      let next = leads-child name d ns i path leads in
      ap (node_at path) (mapped-child ns i next.there) ∙ mapped-at name path (child_at i (children ns)) next.leads

or-first : (a b : Bool) → (a || b) ≡ false → a ≡ false
or-first true b e = absurd (true≢false e)
or-first false b e = refl

or-second : (a b : Bool) → (a || b) ≡ false → b ≡ false
or-second true b e = absurd (true≢false e)
or-second false b e = e

-- ---- one more of them, that of this name

module _ (name : Name) (f f' : LeafValue → LeafValue) (g g' : DirValue → DirValue)
    (leaves_same : (v : LeafValue) → is_named name (leaf_node v) ≡ false → f v ≡ f' v) (dirs_same : (d : DirValue) (ns : Nodes) → is_named name (dir_node d ns) ≡ false → g d ≡ g' d) where
  -- where it isn't, both are the same
  mutual
    elsewhere : (n : Node) → has_node name n ≡ false → mapped f g n ≡ mapped f' g' n
    elsewhere (leaf_node v) none = ap leaf_node (leaves_same v none)
    elsewhere (dir_node d ns) none =
        let own = dirs_same d ns (or-first (is_named name (dir_node d ns)) (has_among name ns) none) in
        let kids = elsewhere-among ns (or-second (is_named name (dir_node d ns)) (has_among name ns) none) in
        rw (own, kids) refl

    elsewhere-among : (ns : Nodes) → has_among name ns ≡ false → mapped_among f g ns ≡ mapped_among f' g' ns
    elsewhere-among no_nodes none = refl
    elsewhere-among (more_nodes n ns) none =
        let first = elsewhere n (or-first (has_node name n) (has_among name ns) none) in
        let rest = elsewhere-among ns (or-second (has_node name n) (has_among name ns) none) in
        rw (first, rest) refl

  -- a node of this name becomes this leaf, or its directory this one
  module _ (v : LeafValue) (d : DirValue) (leaf_is : (u : LeafValue) → is_named name (leaf_node u) ≡ true → f' u ≡ v) (dir_is : (e : DirValue) (ns : Nodes) → is_named name (dir_node e ns) ≡ true → g' e ≡ d) where
    abbrev pub swapped : Node → Node
    swapped (leaf_node u) = leaf_node v
    swapped (dir_node e ns) = dir_node d ns

    abbrev swap : Where → Node → Node
    swap w n = swapped n

    same-named : (n m : Node) → skeleton n ≡ skeleton m → is_named name n ≡ is_named name m
    same-named n m e = sym (bone-named name n) ∙ ap (is_bone name) e ∙ bone-named name m

    same-there : (n m : Node) → skeleton n ≡ skeleton m → has_node name n ≡ has_node name m
    same-there n m e = sym (path_to-there name n) ∙ ap (λ b. is_some (path_to name b)) e ∙ path_to-there name m

    mutual
      changed : (w : Where) (n : Node) → Once name n → skeleton (mapped f g n) ≡ skeleton n → changed_in name swap w (mapped f g n) ≡ mapped f' g' n
      changed w (leaf_node u) once bones =
          let here = same-named (leaf_node (f u)) (leaf_node u) bones in
          elim (is_named name (leaf_node u)) as (λ b. is_named name (leaf_node u) ≡ b → (if is_named name (leaf_node (f u)) then leaf_node v else leaf_node (f u)) ≡ leaf_node (f' u)) [
            | true ↦ λ is. rw (here, is) (ap leaf_node (sym (leaf_is u is)))
            | false ↦ λ is. rw (here, is) (ap leaf_node (leaves_same u is))
          ] refl
      changed w (dir_node e ns) once bones =
          let here = same-named (dir_node (g e) (mapped_among f g ns)) (dir_node e ns) bones in
          let kids : skeletons (mapped_among f g ns) ≡ skeletons ns = cc in
          elim (is_named name (dir_node e ns)) as (λ b. is_named name (dir_node e ns) ≡ b → (if is_named name (dir_node (g e) (mapped_among f g ns)) then dir_node d (mapped_among f g ns) else dir_node (g e) (changed_among name swap (where_path w) (g e) 0 (mapped_among f g ns))) ≡ dir_node (g' e) (mapped_among f' g' ns)) [
            | true ↦ λ is. rw (here, is, dir_is e ns is) (ap (dir_node d) (elsewhere-among ns (once.0 is)))
            | false ↦ λ is. rw (here, is, sym (dirs_same e ns is)) (ap (dir_node (g e)) (changed-among (where_path w) (g e) 0 ns once.1 kids))
          ] refl

      changed-among : (path : List ℕ) (e : DirValue) (i : ℕ) (ns : Nodes) → OnceAmong name ns → skeletons (mapped_among f g ns) ≡ skeletons ns → changed_among name swap path e i (mapped_among f g ns) ≡ mapped_among f' g' ns
      changed-among path e i no_nodes once bones = refl
      changed-among path e i (more_nodes n ns) once bones =
          let first : skeleton (mapped f g n) ≡ skeleton n = cc in
          let rest : skeletons (mapped_among f g ns) ≡ skeletons ns = cc in
          let here = same-there (mapped f g n) n first in
          elim (has_node name n) as (λ b. has_node name n ≡ b → (if has_node name (mapped f g n) then more_nodes (changed_in name swap (at_child (spot_in path e i)) (mapped f g n)) (mapped_among f g ns) else more_nodes (mapped f g n) (changed_among name swap path e (i + 1) (mapped_among f g ns))) ≡ more_nodes (mapped f' g' n) (mapped_among f' g' ns)) [
            | true ↦ λ is. rw (here, is, changed (at_child (spot_in path e i)) n once.1 first, elsewhere-among ns (once.0 is)) refl
            | false ↦ λ is. rw (here, is, elsewhere n is, changed-among path e (i + 1) ns once.2 rest) refl
          ] refl

    -- the swapped node is put at the path's end
    pub put-mapped : (path : List ℕ) (n : Node) → Once name n → skeleton (mapped f g n) ≡ skeleton n → Leads name path (mapped f g n) → put_at path (swapped (node_at path (mapped f g n))) (mapped f g n) ≡ mapped f' g' n
    put-mapped path n once bones leads = sym (along name swap swap at_top path (mapped f g n) leads).changes ∙ changed at_top n once bones

-- ---- leaves and directories by their numbers

module _ (leaves : List LeafValue) (dirs : List DirValue) where
  abbrev pub leaf_by_number : LeafValue → LeafValue
  leaf_by_number v = slice_index_or leaves v.number v

  abbrev pub dir_by_bus : DirValue → DirValue
  dir_by_bus d = slice_index_or dirs d.bus d

  mutual
    pub refilled-mapped : (n : Node) → refilled leaves dirs n ≡ mapped leaf_by_number dir_by_bus n
    refilled-mapped (leaf_node v) = refl
    refilled-mapped (dir_node d ns) = ap (dir_node (dir_by_bus d)) (refilled-mapped-among ns)

    refilled-mapped-among : (ns : Nodes) → refilled_among leaves dirs ns ≡ mapped_among leaf_by_number dir_by_bus ns
    refilled-mapped-among no_nodes = refl
    refilled-mapped-among (more_nodes n ns) = rw (refilled-mapped n, refilled-mapped-among ns) refl
