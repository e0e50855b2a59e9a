-- A checkpoint of a run has at most 405 MiB and 60 bytes for each turn, where the tree is that of an accepted file.
-- Letters: t is a tree, i an image, m a machine, n a node, ns are nodes in a row.
use Rattle.std.proofs.Common.{◌≡◌, ℕ, zero, suc, ◌+◌, ◌*◌, ◌<◌, ◌≤◌, Bool, true, false, ◌⊎◌, inl, inr, List, [], ◌∷◌, ◌++◌, map, length, take, drop, Option, Some, None, Ok, refl, sym, ap, subst, ◌∙◌, arith, length-append}
use Rattle.std.specs.Prelude.{◌/◌, ◌&&◌, ◌||◌, nat_eq, nat_le, nat_lt, option_map, slice_index_or, sum, if◌then◌else◌, ⊤}
use Rattle.std.specs.List.{AllByRecursion, flat_map, range_with_len}
use Rattle.std.proofs.lemmas.Bool.{and_parts, eqb-true, leb-true, ltb-false}
use Rattle.std.proofs.lemmas.List.{length-map}
use Rattle.std.proofs.lemmas.List.Concat.{flat_map-cons}
use Rattle.std.proofs.lemmas.List.FromFn.{length-range_with_len}
use Rattle.file_laws.specs.DdmTypes.ItemTable.{item_count}
use Rattle.file_laws.specs.DdmTypes.declared.answers.TurnAnswer.{TurnAnswer}
use Rattle.file_laws.specs.DdmTypes.declared.turns.Turn.{Turn}
use Rattle.file_laws.specs.TreeModel.State.Lists.{map_from}
use Rattle.file_laws.specs.TreeModel.State.Values.{DirSizes, LeafValue, MachineValue, Node, Nodes, dir_node, leaf_node, more_nodes, no_nodes, nodes, root_of}
use Rattle.file_laws.specs.TreeModel.State.Rooms.{dir_within, leaf_within}
use Rattle.file_laws.specs.TreeModel.State.Shape.{Frame, IsShaped, Skeleton, Skeletons, dir_bone, frame_of, leaf_bone, leaf_numbers_of, more_bones, no_bones, skeleton, skeletons}
use Rattle.file_laws.specs.TreeModel.State.Place.{at_top}
use Rattle.file_laws.specs.TreeModel.Start.Sources.{ImageValue, TreeValue, bus_widths, leaf_count, width_of}
use Rattle.file_laws.specs.TreeModel.Start.Memory.{start_items, start_words}
use Rattle.file_laws.specs.TreeModel.Start.Nodes.{cut_in, dir_sizes, dirs_over, leaf_for, placed, placed_at, placed_in, placed_items, under_levels}
use Rattle.file_laws.specs.TreeModel.Start.Machine.{StartRefusal, start_leaf, start_leaves, start_machine, start_of, start_or, start_refusal, too_many_items}
use Rattle.file_laws.specs.TreeModel.Turns.Machine.{machine_leaves, no_traffic, recorded, run_of, turn_answer, turn_of, turn_root, turned_by, with_root}
use Rattle.file_laws.specs.TreeRules.Bus.Own.{dir_lists, leaf_lists}
use Rattle.file_laws.specs.TreeRules.Bus.Rules.{AreTreesOk, IsMachineOk, IsTreeOk, items_of_machine}
use Rattle.file_laws.specs.StateWords.Machine.{bus_words, checkpoint_bytes, checkpoint_words, head_words, state_words, words_or_none}
use Rattle.file_laws.specs.StateWords.Parts.{dir_words, hart_words, leaf_words, op_words, traffic_words}
use Rattle.tree_config.specs.Levels.{AreUnder, IsShape, is_width}
use Rattle.tree_config.specs.Ranges.{IsInRange}
use Rattle.value_laws.specs.Values.{DirHasForm, LeafHasForm, PartsHaveForm, PartsHaveFormAmong}
use Rattle.file_laws.specs.CheckpointSizes.{CheckpointsAreBounded}
use Rattle.file_laws.specs.Trees.{IsFileTree}
use Rattle.bus_laws.proofs.StartKept.{start-kept, start-numbered}
use Rattle.bus_laws.proofs.StartLevels.{each-drop, each-take}
use Rattle.bus_laws.proofs.TreeKept.{run-keeps_rules}
use Rattle.value_laws.proofs.RunForm.{every-run-form}
use Rattle.spelling_laws.proofs.ByNumber.{AllParts, AllPartsAmong, asked-has}
use Rattle.spelling_laws.proofs.MachineTaken.{dir-asked}
use Rattle.spelling_laws.proofs.Refilled.{DirOver, bus-there, number_of, numbers-in}
use Rattle.spelling_laws.proofs.SpelledTree.{leaves-spelled}
use Rattle.file_laws.proofs.TreeModel.FrameKept.{run-frame, run-shape}
use Rattle.file_laws.proofs.Schedules.{AreWide, first-wide, flat, leaves-last, leaves_under, most-under, width-bounds}
use Rattle.file_laws.proofs.Trees.{accepted_tree}
use Rattle.file_laws.proofs.WordCounts.{DirRooms, LeafRooms, all-few, bytes-count, dir-few, hart-few, leaf-few, ops-count}

-- ---- how many buses: one, at most 16 under it, and at most 64 in each level below

level-few : (n : ℕ) (l : List ℕ) (ls : List (List ℕ)) → AreUnder n (l ∷ ls) → AreWide (flat (l ∷ ls)) → leaves_under n (l ∷ ls) ≤ 64 → n ≤ 64
level-few n l ls under wide few = omega (arith, most-under n (l ∷ ls) under wide, few)

below-few : (n : ℕ) (ls : List (List ℕ)) → AreUnder n ls → AreWide (flat ls) → leaves_under n ls ≤ 64 → length (flat ls) ≤ length ls * 64
below-few n [] under wide few = omega arith
below-few n (l ∷ ls) under wide few =
    let parts = first-wide l ls wide in
    let here = level-few n l ls under wide few in
    let rest = below-few (sum l) ls under.1 parts.1 few in
    let size : length (flat (l ∷ ls)) ≡ length l + length (flat ls) = ap length (flat_map-cons (λ (l : List ℕ). l) l ls) ∙ length-append l (flat ls) in
    let longer : length (l ∷ ls) * 64 ≡ 64 + length ls * 64 = omega arith in
    omega (arith, here, rest, size, longer, under.0)

-- a level of one bus has at most 16 children
one-wide : (l : List ℕ) → length l ≡ 1 → AreWide l → sum l ≤ 16
one-wide [] one wide = absurd (omega (arith, one))
one-wide (k ∷ []) one wide = let parts = and_parts (is_width k) true wide in omega (arith, (width-bounds k parts.0).1)
one-wide (k ∷ j ∷ l) one wide = absurd (omega (arith, one))

buses-few : (levels : List (List ℕ)) → IsShape levels → length (flat levels) ≤ 145
buses-few [] shape = omega arith
buses-few (l ∷ []) shape = omega (arith, ap length (flat_map-cons (λ (l : List ℕ). l) l []), length-append l [], shape.under.0)
buses-few (l ∷ k ∷ ls) shape =
    let first = first-wide l (k ∷ ls) shape.widths in
    let second = first-wide k ls first.1 in
    let children = one-wide l shape.under.0 first.0 in
    let leaves : leaves_under 1 (l ∷ k ∷ ls) ≤ 64 = subst (λ n. n ≤ 64) (leaves-last l (k ∷ ls)) shape.leaves in
    let rest = below-few (sum k) ls shape.under.1.1 second.1 leaves in
    let outer : length (flat (l ∷ k ∷ ls)) ≡ length l + length (flat (k ∷ ls)) = ap length (flat_map-cons (λ (l : List ℕ). l) l (k ∷ ls)) ∙ length-append l (flat (k ∷ ls)) in
    let inner : length (flat (k ∷ ls)) ≡ length k + length (flat ls) = ap length (flat_map-cons (λ (l : List ℕ). l) k ls) ∙ length-append k (flat ls) in
    omega (arith, children, rest, outer, inner, shape.under.0, shape.under.1.0, shape.depth)

-- ---- the sizes of leaves and directories at the start

abbrev mutual
  RoomsFit : Skeleton → Type 0
  RoomsFit (leaf_bone number sizes) = LeafRooms sizes
  RoomsFit (dir_bone bus level sizes bones) = DirRooms sizes × RoomsFitAmong bones

  RoomsFitAmong : Skeletons → Type 0
  RoomsFitAmong no_bones = ⊤
  RoomsFitAmong (more_bones b bs) = RoomsFit b × RoomsFitAmong bs

abbrev NodeFits : Node → Type 0
NodeFits n = RoomsFit (skeleton n)

each-fits : (ns : List Node) → AllByRecursion NodeFits ns → RoomsFitAmong (skeletons (nodes ns))
each-fits [] h = tt
each-fits (n ∷ ns) h = (h.0, each-fits ns h.1)

module _ (sizes : DirSizes) (rooms : DirRooms sizes) where
  dirs-fit : (level bus : ℕ) (l : List ℕ) (ns : List Node) → AllByRecursion NodeFits ns → AllByRecursion NodeFits (dirs_over sizes level bus (cut_in l ns))
  dirs-fit level bus [] ns h = tt
  dirs-fit level bus (k ∷ l) ns h = ((rooms, each-fits (take k ns) (each-take NodeFits k ns h)), dirs-fit level (bus + 1) l (drop k ns) (each-drop NodeFits k ns h))

  levels-fit : (level bus : ℕ) (ls : List (List ℕ)) (leaves : List Node) → AllByRecursion NodeFits leaves → AllByRecursion NodeFits (under_levels sizes level bus ls leaves)
  levels-fit level bus [] leaves h = h
  levels-fit level bus (l ∷ ls) leaves h = dirs-fit level bus l (under_levels sizes (level + 1) (bus + length l) ls leaves) (levels-fit (level + 1) (bus + length l) ls leaves h)

abbrev LeafFits : LeafValue → Type 0
LeafFits v = LeafRooms v.sizes

leaf-nodes_fit : (vs : List LeafValue) → AllByRecursion LeafFits vs → AllByRecursion NodeFits (map leaf_node vs)
leaf-nodes_fit [] h = tt
leaf-nodes_fit (v ∷ vs) h = (h.0, leaf-nodes_fit vs h.1)

new-fit : (f : ℕ → LeafValue) (a n : ℕ) → ((j : ℕ) → LeafFits (f j)) → AllByRecursion LeafFits (map f (range_with_len a n))
new-fit f a zero h = tt
new-fit f a (suc n) h = (h a, new-fit f (a + 1) n h)

placed-fits : (b : Bool) (x : ℕ) (words : List ℕ) (v : LeafValue) → LeafFits v → LeafFits (if b then placed x words v else v)
placed-fits true x words v h = h
placed-fits false x words v h = h

placed_from-fit : (leaf x : ℕ) (words : List ℕ) (i : ℕ) (vs : List LeafValue) → AllByRecursion LeafFits vs → AllByRecursion LeafFits (map_from (placed_at leaf x words) i vs)
placed_from-fit leaf x words i [] h = tt
placed_from-fit leaf x words i (v ∷ vs) h = (placed-fits (nat_eq i leaf) x words v h.0, placed_from-fit leaf x words (i + 1) vs h.1)

placed_in-fit : (x : ℕ) (words : List ℕ) (vs : List LeafValue) (o : Option ℕ) → AllByRecursion LeafFits vs → AllByRecursion LeafFits (placed_in x words vs o)
placed_in-fit x words vs None h = h
placed_in-fit x words vs (Some leaf) h = placed_from-fit leaf x words 0 vs h

placed-fit : (x : ℕ) (ws : List (List ℕ)) (vs : List LeafValue) → AllByRecursion LeafFits vs → AllByRecursion LeafFits (placed_items x ws vs)
unfolding placed_items
placed-fit x [] vs h = h
placed-fit x (w ∷ ws) vs h = placed-fit (x + 1) ws (placed_in x w vs (leaf_for vs x)) (placed_in-fit x w vs (leaf_for vs x) h)

-- ---- the numbers of a tree file

ways-most : (n : ℕ) → (nat_eq n 1 || (nat_eq n 2 || nat_eq n 4)) ≡ true → n ≤ 4
ways-most n = by_one (nat_eq n 1) refl where
  by_four : (two : Bool) → nat_eq n 2 ≡ two → (two || nat_eq n 4) ≡ true → n ≤ 4
  by_four true is e = omega (arith, eqb-true n 2 is)
  by_four false is e = omega (arith, eqb-true n 4 e)

  by_one : (one : Bool) → nat_eq n 1 ≡ one → (one || (nat_eq n 2 || nat_eq n 4)) ≡ true → n ≤ 4
  by_one true is e = omega (arith, eqb-true n 1 is)
  by_one false is e = by_four (nat_eq n 2) refl e

most-of : (high n : ℕ) → (nat_le 1 n && nat_le n high) ≡ true → n ≤ high
most-of high n h = leb-true n high ((and_parts (nat_le 1 n) (nat_le n high) h).1)

module _ (t : TreeValue) (tree : IsFileTree t) where
  range : IsInRange t
  range = tree.range

  narrow : width_of t ≤ 16
  narrow = by tree.tree.item_bytes where
    by : (t.item_bytes ≡ 16) ⊎ (t.item_bytes ≡ 64) → t.item_bytes / 4 ≤ 16
    by (inl e) = omega (arith, e)
    by (inr e) = omega (arith, e)

  leaves-fit : (i : ImageValue) → AllByRecursion LeafFits (start_leaves t i)
  leaves-fit i = placed-fit 0 (start_words t i) (map (start_leaf t i) (range_with_len 0 (leaf_count t))) (new-fit (start_leaf t i) 0 (leaf_count t) (λ j. record {
    sets = most-of 4096 t.sizes.sets range.sizes.sets;
    ways = ways-most t.way_count range.ways;
    buffer = most-of 16 t.sizes.buffer range.sizes.buffer;
    replies = most-of 4096 t.sizes.replies range.sizes.replies;
  }))

  dirs-rooms : DirRooms (dir_sizes t.sizes (width_of t))
  dirs-rooms = record {
    down = most-of 4096 t.sizes.down range.sizes.down;
    requests = most-of 4096 t.sizes.requests range.sizes.requests;
    replies = most-of 4096 t.sizes.replies range.sizes.replies;
    parking = most-of 64 t.sizes.parking range.sizes.parking;
    width = narrow;
  }

  start-fits : (i : ImageValue) → NodeFits (root_of (start_machine t i))
  unfolding start_machine
  start-fits i = (
    record { down = most-of 4096 t.sizes.down range.sizes.down; requests = omega arith; replies = omega arith; parking = omega arith; width = narrow },
    each-fits (under_levels (dir_sizes t.sizes (width_of t)) 1 1 (drop 1 t.levels) (map leaf_node (start_leaves t i)))
        (levels-fit (dir_sizes t.sizes (width_of t)) dirs-rooms 1 1 (drop 1 t.levels) (map leaf_node (start_leaves t i)) (leaf-nodes_fit (start_leaves t i) (leaves-fit i))),
  )

  start-buses : (i : ImageValue) → length (start_machine t i).traffic ≤ 145
  unfolding start_machine
  start-buses i = omega (arith, length-map (bus_widths t) (λ w. no_traffic), buses-few t.levels tree.shape)

-- ---- what a machine before its first turn is

none-if : (b : Bool) (r : StartRefusal) (o : Option StartRefusal) → (if b then Some r else o) ≡ None → b ≡ false
none-if true r o e = cc
none-if false r o e = refl

record IsFewAtStart (m : MachineValue) : Type 0 where
  items : item_count m.items ≤ 65536
  rooms : NodeFits (root_of m)
  buses : length m.traffic ≤ 145
  leaves : length (leaf_numbers_of (skeleton (root_of m)) []) ≤ 64
  ops : length m.ops ≡ 0

start-few : (t : TreeValue) (i : ImageValue) (m : MachineValue) → IsFileTree t → start_of t i ≡ Ok m → IsFewAtStart m
unfolding start_of start_machine start_refusal
start-few t i m tree built =
    elim (start_refusal t i) as (λ o. start_refusal t i ≡ o → start_or o t i ≡ Ok m → IsFewAtStart m) [
      | Some r ↦ λ none built. cc
      | None ↦ λ none made.
          let same : start_machine t i ≡ m = cc in
          let few = ltb-false 65536 (item_count (start_items t i)) (none-if (nat_lt 65536 (item_count (start_items t i))) (too_many_items (item_count (start_items t i))) _ none) in
          let numbers = start-numbered t i m tree.tree built in record {
            items = subst (λ (m : MachineValue). item_count m.items ≤ 65536) same few;
            rooms = subst (λ m. NodeFits (root_of m)) same (start-fits t tree i);
            buses = subst (λ (m : MachineValue). length m.traffic ≤ 145) same (start-buses t tree i);
            leaves = omega (arith, ap length numbers, length-range_with_len 0 (leaf_count t), tree.shape.leaves);
            ops = subst (λ (m : MachineValue). length m.ops ≡ 0) same refl;
          }
    ] refl built

-- ---- a run completes at most an operation a turn

recorded-few : (a : TurnAnswer) (m : MachineValue) → length (recorded a m).ops ≤ length m.ops + 1
recorded-few (TurnAnswer.Retired op) m = omega (arith, length-append m.ops (op ∷ []))
recorded-few (TurnAnswer.Issued kind x) m = omega arith
recorded-few (TurnAnswer.Waiting x) m = omega arith
recorded-few (TurnAnswer.Halted cause) m = omega arith
recorded-few (TurnAnswer.Granted e) m = omega arith
recorded-few TurnAnswer.Empty m = omega arith
recorded-few (TurnAnswer.Busy cause) m = omega arith

rooted-few : (a : TurnAnswer) (n : Node) (m : MachineValue) → length (recorded a (with_root n m)).ops ≤ length m.ops + 1
rooted-few a (leaf_node v) m = recorded-few a m
rooted-few a (dir_node d ns) m = recorded-few a (record m { top = d; kids = ns })

turned-few : (o : Option TurnAnswer) (root : Node) (m : MachineValue) → length (turned_by o root m).machine.ops ≤ length m.ops + 1
turned-few None root m = omega arith
turned-few (Some a) root m = rooted-few a root m

run-few : (ts : List Turn) (m : MachineValue) → length (run_of ts m).machine.ops ≤ length m.ops + length ts
unfolding run_of turn_of
run-few [] m = omega arith
run-few (t ∷ ts) m = omega (arith, run-few ts (turn_of t m).machine, turned-few (turn_answer t m) (turn_root t m) m)

-- ---- the parts of a machine that keeps the rules

module _ (items width most : ℕ) where
  record LeafCounts (v : LeafValue) : Type 0 where
    within : leaf_within items v ≡ true
    form : LeafHasForm width most v
    rooms : LeafRooms v.sizes

  record DirCounts (o : DirOver) : Type 0 where
    within : dir_within items o.0 ≡ true
    form : DirHasForm width most o.0
    rooms : DirRooms o.0.sizes

  mutual
    parts-in : (n : Node) → IsTreeOk items n → PartsHaveForm width most n → NodeFits n → AllParts LeafCounts DirCounts n
    parts-in (leaf_node v) ok form rooms = record { within = ok.each leaf_lists; form = form; rooms = rooms }
    parts-in (dir_node d ns) ok form rooms = (record { within = ok.0.own.each dir_lists; form = form.0; rooms = rooms.0 }, parts-among ns ok.1 form.1 rooms.1)

    parts-among : (ns : Nodes) → AreTreesOk items ns → PartsHaveFormAmong width most ns → RoomsFitAmong (skeletons ns) → AllPartsAmong LeafCounts DirCounts ns
    parts-among no_nodes ok form rooms = tt
    parts-among (more_nodes n ns) ok form rooms = (parts-in n ok.0 form.0 rooms.0, parts-among ns ok.1 form.1 rooms.1)

range-few : (F : ℕ → List ℕ) (most start count bound : ℕ) → start + count ≡ bound → ((k : ℕ) → k < bound → length (F k) ≤ most) → length (flat_map F (range_with_len start count)) ≤ count * most
range-few F most start zero bound size each = omega arith
range-few F most start (suc count) bound size each =
    let here = each start (omega (arith, size)) in
    let more = range-few F most (start + 1) count bound (omega (arith, size)) each in
    let product : suc count * most ≡ most + count * most = omega arith in
    omega (arith, length-append (F start) (flat_map F (range_with_len (start + 1) count)), here, more, product)

-- ---- the whole

record IsFew (most turns : ℕ) (m : MachineValue) : Type 0 where
  shaped : IsShaped m
  items : items_of_machine m ≤ 65536
  parts : AllParts (LeafCounts (items_of_machine m) m.top.sizes.width most) (DirCounts (items_of_machine m) m.top.sizes.width most) (root_of m)
  narrow : m.top.sizes.width ≤ 16
  buses : length m.traffic ≤ 145
  leaves : length (machine_leaves m) ≤ 64
  ops : length m.ops ≤ turns

module _ (most turns : ℕ) (m : MachineValue) (few : IsFew most turns m) where
  abbrev LeafOf : LeafValue → Type 0
  LeafOf = LeafCounts (items_of_machine m) m.top.sizes.width most

  abbrev DirOf : DirOver → Type 0
  DirOf = DirCounts (items_of_machine m) m.top.sizes.width most

  bus-few : (bus : ℕ) → bus < length m.traffic → length (bus_words m bus) ≤ 562257
  unfolding bus_words
  bus-few bus inside =
      let there = bus-there m bus few.shaped inside in
      let dir = asked-has LeafOf DirOf bus (m.top, 0) at_top (root_of m) there.over few.parts there.asked in
      let t = slice_index_or m.traffic bus no_traffic in
      let words : bus_words m bus ≡ dir_words there.over.0 ++ traffic_words t = ap (λ o. words_or_none o ++ traffic_words t) (dir-asked m bus dir_words ∙ ap (option_map (λ o. dir_words o.0)) there.asked) in
      omega (arith, ap length words, length-append (dir_words there.over.0) (traffic_words t), dir-few m.top.sizes.width most few.narrow (items_of_machine m) there.over.0 few.items dir.within dir.form dir.rooms)

  state-few : length (state_words m) ≤ 105927779 + 15 * turns
  unfolding state_words
  state-few =
      let vs = machine_leaves m in
      let leaves = leaves-spelled LeafOf DirOf (root_of m) [] few.parts tt in
      let a = flat_map hart_words vs in
      let b = flat_map (bus_words m) (range_with_len 0 (length m.traffic)) in
      let c = flat_map leaf_words vs in
      let d = flat_map op_words m.ops in
      omega (
        arith,
        length-append (a ++ b ++ c ++ length m.ops ∷ d) (0x454d4444 ∷ []),
        length-append (a ++ b ++ c) (length m.ops ∷ d),
        length-append (a ++ b) c,
        length-append a b,
        all-few hart_words LeafOf 36 (λ v h. hart-few m.top.sizes.width most v h.form) vs leaves,
        all-few leaf_words LeafOf 381222 (λ v h. leaf-few m.top.sizes.width few.narrow (items_of_machine m) most v h.within h.form h.rooms) vs leaves,
        range-few (bus_words m) 562257 0 (length m.traffic) (length m.traffic) (omega arith) bus-few,
        ops-count m.ops,
        few.leaves,
        few.buses,
        few.ops,
      )

pub checkpoints-bounded : CheckpointsAreBounded
unfolding checkpoint_bytes checkpoint_words head_words
checkpoints-bounded file t i m turns made retired granted busy is of_bytes built =
    let tree = accepted_tree file t is in
    let start = start-few t i m tree built in
    let kept = start-kept t i m tree.tree built in
    let after = (run_of turns m).machine in
    let frame : frame_of m ≡ frame_of after = sym (run-frame turns m) in
    let ok : IsMachineOk after = run-keeps_rules turns m kept.1 in
    let form = every-run-form t i m tree.tree of_bytes built turns in
    let rooms : NodeFits (root_of after) = subst (λ (f : Frame). RoomsFit f.bones) frame start.rooms in
    let numbers : length (leaf_numbers_of (skeleton (root_of after)) []) ≤ 64 = subst (λ (f : Frame). length (leaf_numbers_of f.bones []) ≤ 64) frame start.leaves in
    let words = state-few (length turns) (length turns) after (record {
      shaped = run-shape turns m kept.0;
      items = subst (λ (f : Frame). item_count f.items ≤ 65536) frame start.items;
      parts = parts-in (items_of_machine after) after.top.sizes.width (length turns) (root_of after) ok.tree form.parts rooms;
      narrow = rooms.0.width;
      buses = subst (λ (f : Frame). f.counted ≤ 145) frame start.buses;
      leaves = omega (arith, numbers, ap length (numbers-in (root_of after) []), length-map (machine_leaves after) number_of);
      ops = omega (arith, run-few turns m, start.ops);
    }) in
    omega (arith, bytes-count (checkpoint_words after made retired granted busy), words)
