-- The tests of the rules of a bus tell just what the facts say.
use Rattle.std.specs.Prelude.{◌≡◌, ℕ, nat_eq, true, ◌&&◌, List, length, refl}
use Rattle.std.specs.List.{list_all, range_with_len}
use Rattle.std.proofs.lemmas.Bool.{eqb-true, eq-eqb, and_parts}
use Rattle.std.specs.Cmp.Derive.{both_true}
use Rattle.tree_model.specs.State.Values.{LeafValue, DirValue, Node, Nodes, leaf_node, dir_node, no_nodes, more_nodes, children, MachineValue, root_of}
use Rattle.tree_rules.specs.Bus.Faces.{ChildFace, ParentFace, parent_face, faces_of}
use Rattle.tree_rules.specs.Bus.Own.{LeafRule, has_ways, leaf_lists, ways_fit, ways_alone, buffer_fit, buffered_once, one_waiting, slot_fits, leaf_replies, reservation_fits, leaf_test, leaf_rules, leaf_holds, IsLeafOk, DirRule, dir_lists, notes_fit, down_entries, dir_requests, dir_replies, parked_fit, parked_once, dir_test, dir_rules, dir_holds, IsDirOk, TopRule, top_bus, top_level, top_items, no_requests, no_replies, none_parked, no_places, no_epoch, no_stamps, top_test, top_rules, top_is_ok, IsTopOk}
use Rattle.tree_rules.specs.Bus.Item.{Bits, bits_of, ItemRule, answering_held, exclusive_alone, parked_alone, exclusive_covered, queue_in_order, queue_start, inject_covered, erased_shared, hold_follows, local_noted, up_read_noted, data_read, up_erase_noted, erase_end, reads_noted, erases_noted, granted_held, exclusive_noted, giver, givers_held, read_answered, asked_alone, one_request, request_open, request_noted, item_test, item_rules, item_holds, ItemRules}
use Rattle.tree_rules.specs.Bus.Rules.{IsBusOk, item_holds_at, bus_holds, IsTreeOk, AreTreesOk, tree_holds, trees_hold, IsMachineOk, items_of_machine, kept_places, held_at_top, machine_holds}
use Rattle.tree_rules.proofs.Lists.{passes-at, all-pass, each-from_range, range-from_each}

-- ---- each rule of a list

pub item-at : (r : ItemRule) (p : ParentFace) (k : Bits) → list_all (λ q. item_test q p k) item_rules ≡ true → item_test r p k ≡ true
item-at answering_held p k h = passes-at (λ q. item_test q p k) item_rules 0 h
item-at exclusive_alone p k h = passes-at (λ q. item_test q p k) item_rules 1 h
item-at parked_alone p k h = passes-at (λ q. item_test q p k) item_rules 2 h
item-at exclusive_covered p k h = passes-at (λ q. item_test q p k) item_rules 3 h
item-at queue_in_order p k h = passes-at (λ q. item_test q p k) item_rules 4 h
item-at queue_start p k h = passes-at (λ q. item_test q p k) item_rules 5 h
item-at inject_covered p k h = passes-at (λ q. item_test q p k) item_rules 6 h
item-at erased_shared p k h = passes-at (λ q. item_test q p k) item_rules 7 h
item-at hold_follows p k h = passes-at (λ q. item_test q p k) item_rules 8 h
item-at local_noted p k h = passes-at (λ q. item_test q p k) item_rules 9 h
item-at up_read_noted p k h = passes-at (λ q. item_test q p k) item_rules 10 h
item-at data_read p k h = passes-at (λ q. item_test q p k) item_rules 11 h
item-at up_erase_noted p k h = passes-at (λ q. item_test q p k) item_rules 12 h
item-at erase_end p k h = passes-at (λ q. item_test q p k) item_rules 13 h
item-at reads_noted p k h = passes-at (λ q. item_test q p k) item_rules 14 h
item-at erases_noted p k h = passes-at (λ q. item_test q p k) item_rules 15 h
item-at granted_held p k h = passes-at (λ q. item_test q p k) item_rules 16 h
item-at exclusive_noted p k h = passes-at (λ q. item_test q p k) item_rules 17 h
item-at giver p k h = passes-at (λ q. item_test q p k) item_rules 18 h
item-at givers_held p k h = passes-at (λ q. item_test q p k) item_rules 19 h
item-at read_answered p k h = passes-at (λ q. item_test q p k) item_rules 20 h
item-at asked_alone p k h = passes-at (λ q. item_test q p k) item_rules 21 h
item-at one_request p k h = passes-at (λ q. item_test q p k) item_rules 22 h
item-at request_open p k h = passes-at (λ q. item_test q p k) item_rules 23 h
item-at request_noted p k h = passes-at (λ q. item_test q p k) item_rules 24 h

pub leaf-at : (r : LeafRule) (n : ℕ) (v : LeafValue) → list_all (λ q. leaf_test q n v) leaf_rules ≡ true → leaf_test r n v ≡ true
leaf-at has_ways n v h = passes-at (λ q. leaf_test q n v) leaf_rules 0 h
leaf-at leaf_lists n v h = passes-at (λ q. leaf_test q n v) leaf_rules 1 h
leaf-at ways_fit n v h = passes-at (λ q. leaf_test q n v) leaf_rules 2 h
leaf-at ways_alone n v h = passes-at (λ q. leaf_test q n v) leaf_rules 3 h
leaf-at buffer_fit n v h = passes-at (λ q. leaf_test q n v) leaf_rules 4 h
leaf-at buffered_once n v h = passes-at (λ q. leaf_test q n v) leaf_rules 5 h
leaf-at one_waiting n v h = passes-at (λ q. leaf_test q n v) leaf_rules 6 h
leaf-at slot_fits n v h = passes-at (λ q. leaf_test q n v) leaf_rules 7 h
leaf-at leaf_replies n v h = passes-at (λ q. leaf_test q n v) leaf_rules 8 h
leaf-at reservation_fits n v h = passes-at (λ q. leaf_test q n v) leaf_rules 9 h

pub dir-at : (r : DirRule) (n kids : ℕ) (d : DirValue) → list_all (λ q. dir_test q n kids d) dir_rules ≡ true → dir_test r n kids d ≡ true
dir-at dir_lists n kids d h = passes-at (λ q. dir_test q n kids d) dir_rules 0 h
dir-at notes_fit n kids d h = passes-at (λ q. dir_test q n kids d) dir_rules 1 h
dir-at down_entries n kids d h = passes-at (λ q. dir_test q n kids d) dir_rules 2 h
dir-at dir_requests n kids d h = passes-at (λ q. dir_test q n kids d) dir_rules 3 h
dir-at dir_replies n kids d h = passes-at (λ q. dir_test q n kids d) dir_rules 4 h
dir-at parked_fit n kids d h = passes-at (λ q. dir_test q n kids d) dir_rules 5 h
dir-at parked_once n kids d h = passes-at (λ q. dir_test q n kids d) dir_rules 6 h

pub top-at : (r : TopRule) (d : DirValue) → list_all (λ q. top_test q d) top_rules ≡ true → top_test r d ≡ true
top-at top_bus d h = passes-at (λ q. top_test q d) top_rules 0 h
top-at top_level d h = passes-at (λ q. top_test q d) top_rules 1 h
top-at top_items d h = passes-at (λ q. top_test q d) top_rules 2 h
top-at no_requests d h = passes-at (λ q. top_test q d) top_rules 3 h
top-at no_replies d h = passes-at (λ q. top_test q d) top_rules 4 h
top-at none_parked d h = passes-at (λ q. top_test q d) top_rules 5 h
top-at no_places d h = passes-at (λ q. top_test q d) top_rules 6 h
top-at no_epoch d h = passes-at (λ q. top_test q d) top_rules 7 h
top-at no_stamps d h = passes-at (λ q. top_test q d) top_rules 8 h

-- ---- one item, one leaf, one directory

pub ItemRules-from_test : (p : ParentFace) (cs : List ChildFace) → item_holds p (bits_of p cs) ≡ true → ItemRules p cs
ItemRules-from_test p cs h = record { each = λ r. item-at r p (bits_of p cs) h }

pub test-from_ItemRules : (p : ParentFace) (cs : List ChildFace) → ItemRules p cs → item_holds p (bits_of p cs) ≡ true
test-from_ItemRules p cs r = all-pass (λ q. item_test q p (bits_of p cs)) item_rules r.each

pub IsLeafOk-from_test : (n : ℕ) (v : LeafValue) → leaf_holds n v ≡ true → IsLeafOk n v
IsLeafOk-from_test n v h = record { each = λ r. leaf-at r n v h }

pub test-from_IsLeafOk : (n : ℕ) (v : LeafValue) → IsLeafOk n v → leaf_holds n v ≡ true
test-from_IsLeafOk n v r = all-pass (λ q. leaf_test q n v) leaf_rules r.each

pub IsDirOk-from_test : (n kids : ℕ) (d : DirValue) → dir_holds n kids d ≡ true → IsDirOk n kids d
IsDirOk-from_test n kids d h = record { each = λ r. dir-at r n kids d h }

pub test-from_IsDirOk : (n kids : ℕ) (d : DirValue) → IsDirOk n kids d → dir_holds n kids d ≡ true
test-from_IsDirOk n kids d r = all-pass (λ q. dir_test q n kids d) dir_rules r.each

pub IsTopOk-from_test : (d : DirValue) → top_is_ok d ≡ true → IsTopOk d
IsTopOk-from_test d h = record { each = λ r. top-at r d h }

pub test-from_IsTopOk : (d : DirValue) → IsTopOk d → top_is_ok d ≡ true
test-from_IsTopOk d r = all-pass (λ q. top_test q d) top_rules r.each

-- ---- buses, trees, machines

pub IsBusOk-from_test : (n : ℕ) (p : DirValue) (ns : List Node) → bus_holds n p ns ≡ true → IsBusOk n p ns
IsBusOk-from_test n p ns h =
    let parts : (dir_holds n (length ns) p ≡ true) × ((list_all (item_holds_at p ns) (range_with_len 0 n) && nat_eq p.reserved (kept_places p (range_with_len 0 n))) ≡ true) = and_parts _ _ h in
    let rest : (list_all (item_holds_at p ns) (range_with_len 0 n) ≡ true) × (nat_eq p.reserved (kept_places p (range_with_len 0 n)) ≡ true) = and_parts _ _ parts.1 in
    record {
      own = IsDirOk-from_test n (length ns) p parts.0;
      rules = λ x high. ItemRules-from_test (parent_face x p) (faces_of x ns) (each-from_range (item_holds_at p ns) n rest.0 x high);
      reserved = eqb-true _ _ rest.1;
    }

pub test-from_IsBusOk : (n : ℕ) (p : DirValue) (ns : List Node) → IsBusOk n p ns → bus_holds n p ns ≡ true
test-from_IsBusOk n p ns r =
    both_true (test-from_IsDirOk n (length ns) p r.own) (both_true (range-from_each (item_holds_at p ns) n (λ x high. test-from_ItemRules (parent_face x p) (faces_of x ns) (r.rules x high))) (eq-eqb _ _ r.reserved))

mutual
  pub IsTreeOk-from_test : (n : ℕ) (m : Node) → tree_holds n m ≡ true → IsTreeOk n m
  IsTreeOk-from_test n (leaf_node v) h = IsLeafOk-from_test n v h
  IsTreeOk-from_test n (dir_node d ns) h = (IsBusOk-from_test n d (children ns) (and_parts (bus_holds n d (children ns)) (trees_hold n ns) h).0, AreTreesOk-from_test n ns (and_parts (bus_holds n d (children ns)) (trees_hold n ns) h).1)

  pub AreTreesOk-from_test : (n : ℕ) (ns : Nodes) → trees_hold n ns ≡ true → AreTreesOk n ns
  AreTreesOk-from_test n no_nodes h = tt
  AreTreesOk-from_test n (more_nodes m ns) h = (IsTreeOk-from_test n m (and_parts (tree_holds n m) (trees_hold n ns) h).0, AreTreesOk-from_test n ns (and_parts (tree_holds n m) (trees_hold n ns) h).1)

mutual
  pub test-from_IsTreeOk : (n : ℕ) (m : Node) → IsTreeOk n m → tree_holds n m ≡ true
  test-from_IsTreeOk n (leaf_node v) r = test-from_IsLeafOk n v r
  test-from_IsTreeOk n (dir_node d ns) r = both_true (test-from_IsBusOk n d (children ns) r.0) (test-from_AreTreesOk n ns r.1)

  pub test-from_AreTreesOk : (n : ℕ) (ns : Nodes) → AreTreesOk n ns → trees_hold n ns ≡ true
  test-from_AreTreesOk n no_nodes r = refl
  test-from_AreTreesOk n (more_nodes m ns) r = both_true (test-from_IsTreeOk n m r.0) (test-from_AreTreesOk n ns r.1)

pub IsMachineOk-from_test : (m : MachineValue) → machine_holds m ≡ true → IsMachineOk m
IsMachineOk-from_test m h =
    let parts : (tree_holds (items_of_machine m) (root_of m) ≡ true) × ((top_is_ok m.top && list_all (held_at_top m) (range_with_len 0 (items_of_machine m))) ≡ true) = and_parts _ _ h in
    let rest : (top_is_ok m.top ≡ true) × (list_all (held_at_top m) (range_with_len 0 (items_of_machine m)) ≡ true) = and_parts _ _ parts.1 in
    record {
      tree = IsTreeOk-from_test (items_of_machine m) (root_of m) parts.0;
      top = IsTopOk-from_test m.top rest.0;
      held = each-from_range (held_at_top m) (items_of_machine m) rest.1;
    }

pub test-from_IsMachineOk : (m : MachineValue) → IsMachineOk m → machine_holds m ≡ true
test-from_IsMachineOk m r =
    both_true (test-from_IsTreeOk (items_of_machine m) (root_of m) r.tree) (both_true (test-from_IsTopOk m.top r.top) (range-from_each (held_at_top m) (items_of_machine m) r.held))
