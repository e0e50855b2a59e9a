-- The node that a name names: where it is in a part of the tree, it is read and changed there; elsewhere nothing is.
use Rattle.std.proofs.Common.{◌≡◌, ℕ, ◌+◌, true, false, List, [], ◌∷◌, Some, None, refl, ap, ◌∙◌}
use Rattle.std.specs.Prelude.{is_some}
use Rattle.tree_model.specs.State.Values.{DirValue, Node, Nodes, leaf_node, dir_node, no_nodes, more_nodes}
use Rattle.tree_model.specs.State.Place.{Where, at_child, where_path, spot_in}
use Rattle.tree_model.specs.Turns.Tree.{Name, is_named, has_node, has_among, read_in, read_among, changed_in, changed_among, ChangedAt, ChangedAmong, changed_here, changed_below, changed_first, changed_later}
use Rattle.tree_model.specs.Laws.{ReadAndChanged}
use Rattle.tree_model.proofs.Tests.{or-false_first, or-false_second}

module _ (name : Name) where
  -- ---- where it isn't

  module _ {A : Type 0} (read : Where → Node → A) where
    mutual
      pub read_in-absent : (w : Where) (n : Node) → has_node name n ≡ false → read_in name read w n ≡ None
      read_in-absent w (leaf_node v) absent = rw absent refl
      read_in-absent w (dir_node d ns) absent =
          let here : is_named name (dir_node d ns) ≡ false = or-false_first _ _ absent in
          rw here (read_among-absent (where_path w) d 0 ns (or-false_second _ _ absent))

      pub read_among-absent : (path : List ℕ) (d : DirValue) (i : ℕ) (ns : Nodes) → has_among name ns ≡ false → read_among name read path d i ns ≡ None
      read_among-absent path d i no_nodes absent = refl
      read_among-absent path d i (more_nodes n ns) absent =
          let here : has_node name n ≡ false = or-false_first _ _ absent in
          rw here (read_among-absent path d (i + 1) ns (or-false_second _ _ absent))

  module _ (change : Where → Node → Node) where
    mutual
      pub changed_in-absent : (w : Where) (n : Node) → has_node name n ≡ false → changed_in name change w n ≡ n
      changed_in-absent w (leaf_node v) absent = rw absent refl
      changed_in-absent w (dir_node d ns) absent =
          let here : is_named name (dir_node d ns) ≡ false = or-false_first _ _ absent in
          rw here (ap (dir_node d) (changed_among-absent (where_path w) d 0 ns (or-false_second _ _ absent)))

      pub changed_among-absent : (path : List ℕ) (d : DirValue) (i : ℕ) (ns : Nodes) → has_among name ns ≡ false → changed_among name change path d i ns ≡ ns
      changed_among-absent path d i no_nodes absent = refl
      changed_among-absent path d i (more_nodes n ns) absent =
          let here : has_node name n ≡ false = or-false_first _ _ absent in
          rw here (ap (more_nodes n) (changed_among-absent path d (i + 1) ns (or-false_second _ _ absent)))

  -- ---- where it is

  module _ {A : Type 0} (read : Where → Node → A) where
    mutual
      pub read_in-is_some : (w : Where) (n : Node) → is_some (read_in name read w n) ≡ has_node name n
      read_in-is_some w (leaf_node v) =
          elim (is_named name (leaf_node v)) as (λ b. is_named name (leaf_node v) ≡ b → is_some (read_in name read w (leaf_node v)) ≡ has_node name (leaf_node v)) [ true ↦ λ e. rw e refl | false ↦ λ e. rw e refl ] refl
      read_in-is_some w (dir_node d ns) =
          elim (is_named name (dir_node d ns)) as (λ b. is_named name (dir_node d ns) ≡ b → is_some (read_in name read w (dir_node d ns)) ≡ has_node name (dir_node d ns)) [
            | true ↦ λ e. rw e refl
            | false ↦ λ e. rw e (read_among-is_some (where_path w) d 0 ns)
          ] refl

      pub read_among-is_some : (path : List ℕ) (d : DirValue) (i : ℕ) (ns : Nodes) → is_some (read_among name read path d i ns) ≡ has_among name ns
      read_among-is_some path d i no_nodes = refl
      read_among-is_some path d i (more_nodes n ns) =
          elim (has_node name n) as (λ b. has_node name n ≡ b → is_some (read_among name read path d i (more_nodes n ns)) ≡ has_among name (more_nodes n ns)) [
            | true ↦ λ e. rw e (read_in-is_some (at_child (spot_in path d i)) n ∙ e)
            | false ↦ λ e. rw e (read_among-is_some path d (i + 1) ns)
          ] refl

  -- ---- what was read there, it was changed there

  module _ {A : Type 0} (read : Where → Node → A) (change : Where → Node → Node) (a : A) where
    mutual
      pub turned : (w : Where) (n : Node) → read_in name read w n ≡ Some a → (path : List ℕ) × ChangedAt (ReadAndChanged name read change a) w path n (changed_in name change w n)
      turned w (leaf_node v) e =
          elim (is_named name (leaf_node v)) as (λ b. is_named name (leaf_node v) ≡ b → (path : List ℕ) × ChangedAt (ReadAndChanged name read change a) w path (leaf_node v) (changed_in name change w (leaf_node v))) [
            | true ↦ λ here.
                let found : Some (read w (leaf_node v)) ≡ Some a = rw here at e in
                let same : read w (leaf_node v) ≡ a = cc in
                rw here ([], changed_here (record { named = here; reads = same; becomes = refl }))
            | false ↦ λ here.
                let none : None ≡ Some a = rw here at e in
                cc
          ] refl
      turned w (dir_node d ns) e =
          elim (is_named name (dir_node d ns)) as (λ b. is_named name (dir_node d ns) ≡ b → (path : List ℕ) × ChangedAt (ReadAndChanged name read change a) w path (dir_node d ns) (changed_in name change w (dir_node d ns))) [
            | true ↦ λ here.
                let found : Some (read w (dir_node d ns)) ≡ Some a = rw here at e in
                let same : read w (dir_node d ns) ≡ a = cc in
                rw here ([], changed_here (record { named = here; reads = same; becomes = refl }))
            | false ↦ λ here.
                let found : read_among name read (where_path w) d 0 ns ≡ Some a = rw here at e in
                let below = turned_among (where_path w) d 0 ns found in
                rw here (below.0 ∷ below.1, changed_below below.2)
          ] refl

      pub turned_among : (path : List ℕ) (d : DirValue) (k : ℕ) (ns : Nodes) → read_among name read path d k ns ≡ Some a → (i : ℕ) × (below : List ℕ) × ChangedAmong (ReadAndChanged name read change a) path d k i below ns (changed_among name change path d k ns)
      turned_among path d k no_nodes e = cc
      turned_among path d k (more_nodes n ns) e =
          elim (has_node name n) as (λ b. has_node name n ≡ b → (i : ℕ) × (below : List ℕ) × ChangedAmong (ReadAndChanged name read change a) path d k i below (more_nodes n ns) (changed_among name change path d k (more_nodes n ns))) [
            | true ↦ λ here.
                let found : read_in name read (at_child (spot_in path d k)) n ≡ Some a = rw here at e in
                let first = turned (at_child (spot_in path d k)) n found in
                rw here (k, first.0, changed_first first.1)
            | false ↦ λ here.
                let found : read_among name read path d (k + 1) ns ≡ Some a = rw here at e in
                let later = turned_among path d (k + 1) ns found in
                rw here (later.0, later.1, changed_later later.2)
          ] refl
