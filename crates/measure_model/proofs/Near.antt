-- A turn changes what is read of the node that it names and of its children, and of no other node.
-- Letters: c is the name of a leaf or a bus, n a node, v a leaf, d a directory over the nodes ns, k what is kept of a child, w where a node
-- is, t a turn, m a machine.
use Rattle.std.proofs.Common.{◌≡◌, ◌∙◌, ℕ, Bool, true, false, ◌||◌, nat_eq, ◌+◌, List, [], ◌∷◌, map, Option, Some, None, refl, sym, ap, subst, if◌then◌else◌}
use Rattle.std.specs.Prelude.{is_some, unwrap_or}
use Rattle.std.specs.List.{list_any}
use Rattle.ddm_types.specs.declared.answers.TurnAnswer.{TurnAnswer}
use Rattle.ddm_types.specs.declared.turns.Turn.{Turn}
use Rattle.tree_model.specs.declared.DirLengths.{DirLengths}
use Rattle.tree_model.specs.declared.LeafLengths.{LeafLengths}
use Rattle.tree_model.specs.State.Lengths.{dir_lengths, leaf_lengths, no_dir_lengths, no_leaf_lengths}
use Rattle.tree_model.specs.State.Place.{Where, at_child, at_top, key_at_leaf, spot_in, stamp_above, where_path}
use Rattle.tree_model.specs.State.Values.{DirValue, LeafValue, MachineValue, Node, Nodes, children, dir_node, leaf_node, more_nodes, no_nodes, nodes, root_of}
use Rattle.tree_model.specs.Turns.Bus.{bus_step}
use Rattle.tree_model.specs.Turns.HartTurn.{leaf_step}
use Rattle.tree_model.specs.Turns.Machine.{answer_here, bus_turn_of, named_by, node_after, turn_answer, turn_of, turn_root, victim_of}
use Rattle.tree_model.specs.Turns.Tree.{Name, bus_of_number, has_among, has_node, is_named, leaf_of_number, of_dir, of_leaf, read_among, read_in}
use Rattle.tree_model.specs.Laws.{Kept, ReadAndChanged, dir_kept, kept_of, leaf_kept}
use Rattle.tree_model.proofs.BusKeeps.{bus_step-keeps}
use Rattle.tree_model.proofs.Changed.{changed-keeps}
use Rattle.tree_model.proofs.Children.{nodes-children}
use Rattle.tree_model.proofs.HartKeeps.{leaf_step-keeps}
use Rattle.tree_model.proofs.NamedNode.{read_in-is_some, turned}
use Rattle.tree_model.proofs.Tests.{or-false_first, or-false_second}
use Rattle.tree_model.proofs.TurnChanges.{turn-root, turn-unanswered}
use Rattle.measure_model.specs.Laws.{StaysElsewhere}
use Rattle.measure_model.specs.Near.{is_near, names_near}

-- ---- names, from what is kept of a child

kept_named : Name → Kept → Bool
kept_named (leaf_of_number j) (leaf_kept number sizes hart done) = nat_eq number j
kept_named (leaf_of_number j) (dir_kept bus level sizes count epoch ns) = false
kept_named (bus_of_number j) (leaf_kept number sizes hart done) = false
kept_named (bus_of_number j) (dir_kept bus level sizes count epoch ns) = nat_eq bus j

named-kept : (c : Name) (n : Node) → is_named c n ≡ kept_named c (kept_of n)
unfolding kept_named
named-kept (leaf_of_number j) (leaf_node v) = refl
named-kept (leaf_of_number j) (dir_node d ns) = refl
named-kept (bus_of_number j) (leaf_node v) = refl
named-kept (bus_of_number j) (dir_node d ns) = refl

any-kept : (c : Name) (ns : List Node) → list_any (is_named c) ns ≡ list_any (kept_named c) (map kept_of ns)
any-kept c [] = refl
any-kept c (n ∷ ns) = ap (λ b. b || list_any (is_named c) ns) (named-kept c n) ∙ ap (λ b. kept_named c (kept_of n) || b) (any-kept c ns)

dir-named : (c : Name) (d e : DirValue) (ns ms : Nodes) → e.bus ≡ d.bus → is_named c (dir_node e ms) ≡ is_named c (dir_node d ns)
dir-named (leaf_of_number j) d e ns ms same = refl
dir-named (bus_of_number j) d e ns ms same = ap (λ b. nat_eq b j) same

leaf-named : (c : Name) (v u : LeafValue) → u.number ≡ v.number → is_named c (leaf_node u) ≡ is_named c (leaf_node v)
leaf-named (leaf_of_number j) v u same = ap (λ b. nat_eq b j) same
leaf-named (bus_of_number j) v u same = refl

-- ---- what is read of a node, wherever it is

module _ {A : Type 0} (c : Name) (f : Node → A) where
  abbrev mutual
    found_in : Node → Option A
    found_in (leaf_node v) = if is_named c (leaf_node v) then Some (f (leaf_node v)) else None
    found_in (dir_node d ns) = if is_named c (dir_node d ns) then Some (f (dir_node d ns)) else found_among ns

    found_among : Nodes → Option A
    found_among no_nodes = None
    found_among (more_nodes n ns) = if has_node c n then found_in n else found_among ns

  module _ (read : Where → Node → A) (free : (w : Where) (n : Node) → read w n ≡ f n) where
    mutual
      read-found : (w : Where) (n : Node) → read_in c read w n ≡ found_in n
      read-found w (leaf_node v) = ap (λ x. if is_named c (leaf_node v) then Some x else None) (free w (leaf_node v))
      read-found w (dir_node d ns) =
          ap (λ x. if is_named c (dir_node d ns) then Some x else read_among c read (where_path w) d 0 ns) (free w (dir_node d ns))
          ∙ ap (λ x. if is_named c (dir_node d ns) then Some (f (dir_node d ns)) else x) (read-found_among (where_path w) d 0 ns)

      read-found_among : (path : List ℕ) (d : DirValue) (i : ℕ) (ns : Nodes) → read_among c read path d i ns ≡ found_among ns
      read-found_among path d i no_nodes = refl
      read-found_among path d i (more_nodes n ns) =
          ap (λ x. if has_node c n then x else read_among c read path d (i + 1) ns) (read-found (at_child (spot_in path d i)) n)
          ∙ ap (λ x. if has_node c n then found_in n else x) (read-found_among path d (i + 1) ns)

  -- ---- of children without the name, from what is kept of them

  abbrev kept_found : Kept → Option A
  kept_found (leaf_kept number sizes hart done) = None
  kept_found (dir_kept bus level sizes count epoch ns) = found_among ns

  abbrev kept_has : Kept → Bool
  kept_has (leaf_kept number sizes hart done) = false
  kept_has (dir_kept bus level sizes count epoch ns) = has_among c ns

  abbrev kept_found_among : List Kept → Option A
  kept_found_among [] = None
  kept_found_among (k ∷ ks) = if kept_has k then kept_found k else kept_found_among ks

  abbrev kept_has_among : List Kept → Bool
  kept_has_among [] = false
  kept_has_among (k ∷ ks) = kept_has k || kept_has_among ks

  found-kept : (n : Node) → is_named c n ≡ false → found_in n ≡ kept_found (kept_of n)
  found-kept (leaf_node v) other = rw other refl
  found-kept (dir_node d ns) other = rw other refl

  has-kept : (n : Node) → is_named c n ≡ false → has_node c n ≡ kept_has (kept_of n)
  has-kept (leaf_node v) other = other
  has-kept (dir_node d ns) other = ap (λ b. b || has_among c ns) other

  found_among-kept : (ns : List Node) → list_any (is_named c) ns ≡ false → found_among (nodes ns) ≡ kept_found_among (map kept_of ns)
  found_among-kept [] none = refl
  found_among-kept (n ∷ ns) none =
      let first = or-false_first _ _ none in
      ap (λ b. if b then found_in n else found_among (nodes ns)) (has-kept n first) ∙ ap (λ x. if kept_has (kept_of n) then x else found_among (nodes ns)) (found-kept n first)
      ∙ ap (λ x. if kept_has (kept_of n) then kept_found (kept_of n) else x) (found_among-kept ns (or-false_second _ _ none))

  has_among-kept : (ns : List Node) → list_any (is_named c) ns ≡ false → has_among c (nodes ns) ≡ kept_has_among (map kept_of ns)
  has_among-kept [] none = refl
  has_among-kept (n ∷ ns) none = ap (λ b. b || has_among c (nodes ns)) (has-kept n (or-false_first _ _ none)) ∙ ap (λ b. kept_has (kept_of n) || b) (has_among-kept ns (or-false_second _ _ none))

  -- ---- a part of the tree before and after a turn

  record Stays (n k : Node) : Type 0 where
    found : found_in k ≡ found_in n
    has : has_node c k ≡ has_node c n

  record StaysAmong (ns ms : Nodes) : Type 0 where
    found : found_among ms ≡ found_among ns
    has : has_among c ms ≡ has_among c ns

  leaf-stays : (v u : LeafValue) → u.number ≡ v.number → is_named c (leaf_node v) ≡ false → Stays (leaf_node v) (leaf_node u)
  leaf-stays v u same other = let now = leaf-named c v u same ∙ other in record { found = rw (now, other) refl; has = now ∙ sym other }

  dir-stays : (d e : DirValue) (ns : Nodes) (ks : List Node) → e.bus ≡ d.bus → map kept_of ks ≡ map kept_of (children ns) → is_named c (dir_node d ns) ≡ false → list_any (is_named c) (children ns) ≡ false
      → Stays (dir_node d ns) (dir_node e (nodes ks))
  dir-stays d e ns ks bus kept other none =
      let now = dir-named c d e ns (nodes ks) bus ∙ other in
      let none_now = any-kept c ks ∙ ap (list_any (kept_named c)) kept ∙ sym (any-kept c (children ns)) ∙ none in
      let whole = nodes-children ns in
      let found : found_among (nodes ks) ≡ found_among ns = found_among-kept ks none_now ∙ ap kept_found_among kept ∙ sym (found_among-kept (children ns) none) ∙ ap found_among whole in
      let has : has_among c (nodes ks) ≡ has_among c ns = has_among-kept ks none_now ∙ ap kept_has_among kept ∙ sym (has_among-kept (children ns) none) ∙ ap (has_among c) whole in
      record { found = rw (now, other) found; has = rw (now, other) has }

  module _ (t : Turn) (m : MachineValue) where
    abbrev Changed : Where → Node → Node → Type 0
    Changed = ReadAndChanged (named_by t) (λ w n. names_near c n) (node_after m.code m.items t) false

    here-stays : (w : Where) (n k : Node) → Changed w n k → Stays n k
    here-stays w (leaf_node v) k r =
        let keeps = leaf_step-keeps m.code m.items (key_at_leaf w v.done) (victim_of t) v in
        subst (Stays (leaf_node v)) (sym r.becomes) (leaf-stays v (leaf_step m.code m.items (key_at_leaf w v.done) (victim_of t) v).leaf keeps.number r.reads)
    here-stays w (dir_node d ns) k r =
        let keeps = bus_step-keeps (stamp_above w) d (children ns) (bus_turn_of t) in
        let after = bus_step (stamp_above w) (bus_turn_of t) d (children ns) in
        subst (Stays (dir_node d ns)) (sym r.becomes) (dir-stays d after.parent ns after.kids keeps.bus keeps.kids (or-false_first _ _ r.reads) (or-false_second _ _ r.reads))

    below-stays : (f-same : (d : DirValue) (ns ms : Nodes) → f (dir_node d ms) ≡ f (dir_node d ns)) (d : DirValue) (ns ms : Nodes) → StaysAmong ns ms → Stays (dir_node d ns) (dir_node d ms)
    below-stays f-same d ns ms same =
        let named = dir-named c d d ns ms refl in
        record {
          found = ap (λ b. if b then Some (f (dir_node d ms)) else found_among ms) named ∙ ap (λ x. if is_named c (dir_node d ns) then Some x else found_among ms) (f-same d ns ms) ∙ ap (λ x. if is_named c (dir_node d ns) then Some (f (dir_node d ns)) else x) same.found;
          has = ap (λ b. b || has_among c ms) named ∙ ap (λ b. is_named c (dir_node d ns) || b) same.has;
        }

    first-stays : (n k : Node) (ns : Nodes) → Stays n k → StaysAmong (more_nodes n ns) (more_nodes k ns)
    first-stays n k ns same = record {
      found = ap (λ b. if b then found_in k else found_among ns) same.has ∙ ap (λ x. if has_node c n then x else found_among ns) same.found;
      has = ap (λ b. b || has_among c ns) same.has;
    }

    later-stays : (n : Node) (ns ms : Nodes) → StaysAmong ns ms → StaysAmong (more_nodes n ns) (more_nodes n ms)
    later-stays n ns ms same = record { found = ap (λ x. if has_node c n then found_in n else x) same.found; has = ap (λ b. has_node c n || b) same.has }

    root-stays : (f-same : (d : DirValue) (ns ms : Nodes) → f (dir_node d ms) ≡ f (dir_node d ns)) (a : TurnAnswer) → turn_answer t m ≡ Some a → read_in (named_by t) (λ w n. names_near c n) at_top (root_of m) ≡ Some false
        → Stays (root_of m) (root_of (turn_of t m).machine)
    root-stays f-same a some near =
        let at = turned (named_by t) (λ w n. names_near c n) (node_after m.code m.items t) false at_top (root_of m) near in
        subst (Stays (root_of m)) (sym (turn-root t m a some)) (changed-keeps Changed Stays StaysAmong here-stays (below-stays f-same) first-stays later-stays at_top at.0 (root_of m) (turn_root t m) at.1)

    by-near : (f-same : (d : DirValue) (ns ms : Nodes) → f (dir_node d ms) ≡ f (dir_node d ns)) (a : TurnAnswer) → turn_answer t m ≡ Some a → (o : Option Bool) → read_in (named_by t) (λ w n. names_near c n) at_top (root_of m) ≡ o
        → unwrap_or o false ≡ false → Stays (root_of m) (root_of (turn_of t m).machine)
    by-near f-same a some None is near =
        let there = read_in-is_some (named_by t) (answer_here m.code m.items t) at_top (root_of m) in
        let absent = read_in-is_some (named_by t) (λ w n. names_near c n) at_top (root_of m) in
        let wrong : true ≡ false = sym (ap is_some some) ∙ there ∙ sym absent ∙ ap is_some is in
        cc
    by-near f-same a some (Some true) is near = cc
    by-near f-same a some (Some false) is near = root-stays f-same a some is

    by-answer : (f-same : (d : DirValue) (ns ms : Nodes) → f (dir_node d ms) ≡ f (dir_node d ns)) (o : Option TurnAnswer) → turn_answer t m ≡ o → is_near c t m ≡ false → Stays (root_of m) (root_of (turn_of t m).machine)
    by-answer f-same None none near = subst (λ k. Stays (root_of m) (root_of k)) (sym (ap (λ o. o.machine) (turn-unanswered t m none))) (record { found = refl; has = refl })
    by-answer f-same (Some a) some near = by-near f-same a some (read_in (named_by t) (λ w n. names_near c n) at_top (root_of m)) refl near

    -- what is read of a node that isn't near
    pub read-stays : (read : Where → Node → A) → ((w : Where) (n : Node) → read w n ≡ f n) → ((d : DirValue) (ns ms : Nodes) → f (dir_node d ms) ≡ f (dir_node d ns)) → is_near c t m ≡ false
        → read_in c read at_top (root_of (turn_of t m).machine) ≡ read_in c read at_top (root_of m)
    read-stays read free f-same near = read-found read free at_top (root_of (turn_of t m).machine) ∙ (by-answer f-same (turn_answer t m) refl near).found ∙ sym (read-found read free at_top (root_of m))

-- ---- lengths of lists

dir_read : Node → DirLengths
dir_read (leaf_node v) = no_dir_lengths
dir_read (dir_node d ns) = dir_lengths d

leaf_read : Node → LeafLengths
leaf_read (leaf_node v) = leaf_lengths v
leaf_read (dir_node d ns) = no_leaf_lengths

dir-free : (w : Where) (n : Node) → of_dir (λ w d ns. dir_lengths d) no_dir_lengths w n ≡ dir_read n
unfolding dir_read
dir-free w (leaf_node v) = refl
dir-free w (dir_node d ns) = refl

leaf-free : (w : Where) (n : Node) → of_leaf (λ w v. leaf_lengths v) no_leaf_lengths w n ≡ leaf_read n
unfolding leaf_read
leaf-free w (leaf_node v) = refl
leaf-free w (dir_node d ns) = refl

dir-same : (d : DirValue) (ns ms : Nodes) → dir_read (dir_node d ms) ≡ dir_read (dir_node d ns)
unfolding dir_read
dir-same d ns ms = refl

leaf-same : (d : DirValue) (ns ms : Nodes) → leaf_read (dir_node d ms) ≡ leaf_read (dir_node d ns)
unfolding leaf_read
leaf-same d ns ms = refl

pub changes-near : (t : Turn) (m : MachineValue) → StaysElsewhere t m
changes-near t m = record {
  over = λ b other. ap (λ o. unwrap_or o no_dir_lengths) (read-stays (bus_of_number b) dir_read t m (of_dir (λ w d ns. dir_lengths d) no_dir_lengths) dir-free dir-same other);
  inside = λ leaf other. ap (λ o. unwrap_or o no_leaf_lengths) (read-stays (leaf_of_number leaf) leaf_read t m (of_leaf (λ w v. leaf_lengths v) no_leaf_lengths) leaf-free leaf-same other);
}
