-- The words of a machine that is spelled, and of its checkpoint, are numbers of 32 bits.
-- Letters: m is a machine, n a node, ns are nodes in a row.
use Rattle.std.specs.Prelude.{◌≡◌, ℕ, zero, suc, ◌+◌, ◌<◌, ◌≤◌, true, nat_lt, nat_le, ◌&&◌, List, [], ◌∷◌, ◌++◌, length, option_map, slice_index_or}
use Rattle.std.specs.List.{AllByRecursion, flat_map, range_with_len}
use Rattle.std.proofs.Common.{ap, sym, ◌∙◌, subst, arith}
use Rattle.std.proofs.lemmas.Bool.{ltb-true, leb-true, and_parts}
use Rattle.spelling_laws.specs.TreeModel.State.Values.{LeafValue, Node, Nodes, leaf_node, dir_node, no_nodes, more_nodes, MachineValue, root_of}
use Rattle.spelling_laws.specs.TreeModel.State.Place.{at_top}
use Rattle.spelling_laws.specs.TreeModel.State.Shape.{IsShaped, skeleton, skeletons, bone_count, widths_fit, widths_fit_among, widths_bounded}
use Rattle.spelling_laws.specs.TreeModel.Turns.Machine.{no_traffic, machine_leaves}
use Rattle.spelling_laws.specs.TreeRules.Bus.Rules.{items_of_machine}
use Rattle.spelling_laws.specs.StateWords.Parts.{counted, hart_words, leaf_words, dir_words, traffic_words, op_words}
use Rattle.spelling_laws.specs.StateWords.Machine.{words_or_none, bus_words, state_words, way_count_of, first_way_count, head_words, checkpoint_words}
use Rattle.spelling_laws.specs.StateReading.Parts.{most_counted}
use Rattle.value_laws.specs.Values.{IsWord}
use Rattle.spelling_laws.specs.Spelled.{IsSpelled}
use Rattle.spelling_laws.specs.Small.{is_word, rooms_small, rooms_small_among, IsSmall}
use Rattle.spelling_laws.proofs.ByNumber.{AllParts, AllPartsAmong, asked-has}
use Rattle.spelling_laws.proofs.Frames.{kids-counted}
use Rattle.spelling_laws.proofs.LeafTaken.{LeafSpelled}
use Rattle.spelling_laws.proofs.MachineTaken.{dir-asked, traffic-form}
use Rattle.spelling_laws.proofs.Refilled.{DirOver, bus-there}
use Rattle.spelling_laws.proofs.SmallParts.{AreSmall, LeafRooms, DirRooms, both-small, all-small, counted-small, hart-small, leaf-small, dir-small, traffic-small, ops-small}
use Rattle.spelling_laws.proofs.SpelledTree.{DirOf, all-spelled, leaves-spelled}

-- ---- rooms and widths

abbrev RoomsOf : DirOver → Type 0
RoomsOf o = DirRooms o.0

abbrev FewKids : DirOver → Type 0
FewKids o = o.1 ≤ 16

abbrev AnyLeaf : LeafValue → Type 0
AnyLeaf v = Unit {0}

word-is : (n : ℕ) → is_word n ≡ true → IsWord n
word-is n e = ltb-true n 4294967296 e

mutual
  rooms-in : (n : Node) → rooms_small (skeleton n) ≡ true → AllParts LeafRooms RoomsOf n
  rooms-in (leaf_node v) e =
      let p = and_parts (is_word v.sizes.way_count) (is_word v.sizes.buffer_room && is_word v.sizes.reply_room) e in
      let q = and_parts (is_word v.sizes.buffer_room) (is_word v.sizes.reply_room) p.1 in
      record { ways = word-is v.sizes.way_count p.0; buffer = word-is v.sizes.buffer_room q.0; replies = word-is v.sizes.reply_room q.1 }
  rooms-in (dir_node d ns) e =
      let p = and_parts (is_word d.sizes.down_room && (is_word d.sizes.request_room && (is_word d.sizes.reply_room && is_word d.sizes.parking_room))) (rooms_small_among (skeletons ns)) e in
      let q = and_parts (is_word d.sizes.down_room) (is_word d.sizes.request_room && (is_word d.sizes.reply_room && is_word d.sizes.parking_room)) p.0 in
      let r = and_parts (is_word d.sizes.request_room) (is_word d.sizes.reply_room && is_word d.sizes.parking_room) q.1 in
      let s = and_parts (is_word d.sizes.reply_room) (is_word d.sizes.parking_room) r.1 in
      (record { down = word-is d.sizes.down_room q.0; requests = word-is d.sizes.request_room r.0; replies = word-is d.sizes.reply_room s.0; parking = word-is d.sizes.parking_room s.1 }, rooms-among ns p.1)

  rooms-among : (ns : Nodes) → rooms_small_among (skeletons ns) ≡ true → AllPartsAmong LeafRooms RoomsOf ns
  rooms-among no_nodes e = tt
  rooms-among (more_nodes n ns) e = let p = and_parts (rooms_small (skeleton n)) (rooms_small_among (skeletons ns)) e in (rooms-in n p.0, rooms-among ns p.1)

mutual
  widths-in : (n : Node) → widths_fit (skeleton n) ≡ true → AllParts AnyLeaf FewKids n
  widths-in (leaf_node v) e = tt
  widths-in (dir_node d ns) e =
      let p = and_parts (nat_lt 0 (bone_count (skeletons ns))) (nat_le (bone_count (skeletons ns)) 16 && widths_fit_among (skeletons ns)) e in
      let q = and_parts (nat_le (bone_count (skeletons ns)) 16) (widths_fit_among (skeletons ns)) p.1 in
      let few : bone_count (skeletons ns) ≤ 16 = leb-true _ _ q.0 in
      (omega (arith, few, kids-counted 0 ns), widths-among ns q.1)

  widths-among : (ns : Nodes) → widths_fit_among (skeletons ns) ≡ true → AllPartsAmong AnyLeaf FewKids ns
  widths-among no_nodes e = tt
  widths-among (more_nodes n ns) e = let p = and_parts (widths_fit (skeleton n)) (widths_fit_among (skeletons ns)) e in (widths-in n p.0, widths-among ns p.1)

mutual
  ways-small : (n : Node) → rooms_small (skeleton n) ≡ true → IsWord (way_count_of n)
  ways-small (leaf_node v) e = word-is v.sizes.way_count ((and_parts (is_word v.sizes.way_count) (is_word v.sizes.buffer_room && is_word v.sizes.reply_room) e).0)
  ways-small (dir_node d ns) e = first-small ns ((and_parts (is_word d.sizes.down_room && (is_word d.sizes.request_room && (is_word d.sizes.reply_room && is_word d.sizes.parking_room))) (rooms_small_among (skeletons ns)) e).1)

  first-small : (ns : Nodes) → rooms_small_among (skeletons ns) ≡ true → IsWord (first_way_count ns)
  first-small no_nodes e = omega arith
  first-small (more_nodes n ns) e = ways-small n ((and_parts (rooms_small (skeleton n)) (rooms_small_among (skeletons ns)) e).0)

-- ---- leaves and buses

harts-small : (n : ℕ) (vs : List LeafValue) → AllByRecursion (LeafSpelled n) vs → AllByRecursion (λ v. AreSmall (hart_words v)) vs
harts-small n [] all = tt
harts-small n (v ∷ vs) all = (hart-small v all.0.form.hart all.0.form.done, harts-small n vs all.1)

leaves-small : (n : ℕ) → IsWord n → (vs : List LeafValue) → AllByRecursion (LeafSpelled n) vs → AllByRecursion LeafRooms vs → AllByRecursion (λ v. AreSmall (leaf_words v)) vs
leaves-small n few [] all rooms = tt
leaves-small n few (v ∷ vs) all rooms = (leaf-small n few v all.0 rooms.0, leaves-small n few vs all.1 rooms.1)

range-small : (F : ℕ → List ℕ) (start count bound : ℕ) → start + count ≡ bound → ((w : ℕ) → w < bound → AreSmall (F w)) → AreSmall (flat_map F (range_with_len start count))
range-small F start zero bound size each = tt
range-small F start (suc count) bound size each = both-small (F start) (flat_map F (range_with_len (start + 1) count)) (each start (omega (arith, size))) (range-small F (start + 1) count bound (omega (arith, size)) each)

module _ (m : MachineValue) (shaped : IsShaped m) (spelled : IsSpelled m) (small : IsSmall m) where
  abbrev parts_spelled : AllParts (LeafSpelled (items_of_machine m)) (DirOf (items_of_machine m)) (root_of m)
  parts_spelled = all-spelled m shaped spelled

  bus-small : (bus : ℕ) → bus < length m.traffic → AreSmall (bus_words m bus)
  unfolding bus_words
  bus-small bus inside =
      let n = items_of_machine m in
      let there = bus-there m bus shaped inside in
      let dir = asked-has (LeafSpelled n) (DirOf n) bus (m.top, 0) at_top (root_of m) there.over parts_spelled there.asked in
      let rooms = asked-has LeafRooms RoomsOf bus (m.top, 0) at_top (root_of m) there.over (rooms-in (root_of m) small.rooms) there.asked in
      let kids = asked-has AnyLeaf FewKids bus (m.top, 0) at_top (root_of m) there.over (widths-in (root_of m) (shaped.each widths_bounded)) there.asked in
      let t = slice_index_or m.traffic bus no_traffic in
      let words : bus_words m bus ≡ dir_words there.over.0 ++ traffic_words t = ap (λ o. words_or_none o ++ traffic_words t) (dir-asked m bus dir_words ∙ ap (option_map (λ o. dir_words o.0)) there.asked) in
      subst AreSmall (sym words) (both-small (dir_words there.over.0) (traffic_words t) (dir-small n small.items there.over.1 kids there.over.0 dir rooms) (traffic-small t (traffic-form most_counted m.traffic bus spelled.form.traffic inside)))

  pub words-small : AreSmall (state_words m)
  unfolding state_words
  words-small =
      let n = items_of_machine m in
      let vs = machine_leaves m in
      let leaves = leaves-spelled (LeafSpelled n) (DirOf n) (root_of m) [] parts_spelled tt in
      let rooms = leaves-spelled LeafRooms RoomsOf (root_of m) [] (rooms-in (root_of m) small.rooms) tt in
      let a = flat_map hart_words vs in
      let b = flat_map (bus_words m) (range_with_len 0 (length m.traffic)) in
      let c = flat_map leaf_words vs in
      let d = counted op_words m.ops in
      both-small (a ++ b ++ c ++ d) (0x454d4444 ∷ [])
      (both-small (a ++ b ++ c) d (both-small (a ++ b) c (both-small a b (all-small hart_words vs (harts-small n vs leaves)) (range-small (bus_words m) 0 (length m.traffic) (length m.traffic) (omega arith) bus-small))
      (all-small leaf_words vs (leaves-small n small.items vs leaves rooms))) (counted-small op_words m.ops small.ops (ops-small m.ops spelled.form.ops)))
      (omega arith, tt)

  pub checkpoint-small : (turns retired granted busy : ℕ) → turns ≤ most_counted → retired ≤ most_counted → granted ≤ most_counted → busy ≤ most_counted → AreSmall (checkpoint_words m turns retired granted busy)
  unfolding checkpoint_words head_words
  checkpoint-small turns retired granted busy t r g b =
      (omega arith, (omega arith, (small.leaves, (small.buses, (small.items, (small.item_words, (ways-small (root_of m) small.rooms, (omega (arith, t), (omega (arith, r), (omega (arith, g), (omega (arith, b), words-small)))))))))))
