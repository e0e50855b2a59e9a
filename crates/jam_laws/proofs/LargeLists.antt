-- The lists of a machine are large where those of its tree are, at the start and after every turn.
-- Letters: t is a tree, i an image, k a number of places.
use Rattle.std.proofs.Common.{◌≡◌, ℕ, zero, suc, ◌+◌, ◌*◌, Bool, true, false, List, [], ◌∷◌, map, length, take, drop, Option, Some, None, Ok, refl, sym, ap, subst, ◌∙◌}
use Rattle.std.specs.Prelude.{◌&&◌, nat_eq, nat_le, if◌then◌else◌}
use Rattle.std.specs.List.{list_all, range_with_len}
use Rattle.std.specs.Cmp.Derive.{both_true}
use Rattle.std.proofs.lemmas.Bool.{and_parts}
use Rattle.jam_laws.specs.DdmTypes.declared.turns.Turn.{Turn}
use Rattle.jam_laws.specs.DdmTypes.ItemTable.{item_count}
use Rattle.jam_laws.specs.TreeModel.State.Lists.{map_from}
use Rattle.jam_laws.specs.TreeModel.State.Values.{LeafValue, DirSizes, Node, leaf_node, nodes, MachineValue}
use Rattle.jam_laws.specs.TreeModel.State.Shape.{Skeleton, leaf_bone, dir_bone, skeleton, skeletons, Frame}
use Rattle.jam_laws.specs.TreeModel.Turns.Machine.{turn_of, run_of}
use Rattle.jam_laws.specs.TreeModel.Start.Sources.{TreeValue, ImageValue, width_of, leaf_count}
use Rattle.jam_laws.specs.TreeModel.Start.Memory.{start_items, start_words}
use Rattle.jam_laws.specs.TreeModel.Start.Nodes.{dir_sizes, leaf_for, placed, placed_at, placed_in, placed_items, cut_in, dir_over, dirs_over, under_levels}
use Rattle.jam_laws.specs.TreeModel.Start.Machine.{StartRefusal, start_leaf, start_leaves, start_machine, start_refusal, start_or, start_of}
use Rattle.jam_laws.proofs.TreeModel.FrameKept.{turn-frame, run-frame}
use Rattle.jam_laws.specs.TreeRules.Bus.Rules.{items_of_machine}
use Rattle.jam_laws.specs.GoesOn.{lists_have, lists_have_among, has_large_lists, sizes_are_large}

-- ---- the lists are what no turn changes

abbrev root_large : ℕ → Skeleton → Bool
root_large k (leaf_bone number sizes) = true
root_large k (dir_bone bus level sizes bones) = nat_le k sizes.down_room && lists_have_among k bones

abbrev frame_large : Frame → Bool
frame_large f = root_large (8 * item_count f.items) f.bones

pub run-large : (ts : List Turn) (m : MachineValue) → has_large_lists (run_of ts m).machine ≡ has_large_lists m
run-large ts m = ap frame_large (run-frame ts m)

pub turn-large : (t : Turn) (m : MachineValue) → has_large_lists (turn_of t m).machine ≡ has_large_lists m
turn-large t m = ap frame_large (turn-frame t m)

-- ---- at the start

module _ (k : ℕ) where
  abbrev has_room : Node → Bool
  has_room m = lists_have k (skeleton m)

  each-room : (ms : List Node) → lists_have_among k (skeletons (nodes ms)) ≡ list_all has_room ms
  each-room [] = refl
  each-room (m ∷ ms) = ap (λ b. has_room m && b) (each-room ms)

  room-take : (j : ℕ) (ms : List Node) → list_all has_room ms ≡ true → list_all has_room (take j ms) ≡ true
  room-take j [] h = by j where
    by : (j : ℕ) → list_all has_room (take j []) ≡ true
    by zero = refl
    by (suc j) = refl
  room-take zero (m ∷ ms) h = refl
  room-take (suc j) (m ∷ ms) h =
      let parts = and_parts (has_room m) (list_all has_room ms) h in
      both_true parts.0 (room-take j ms parts.1)

  room-drop : (j : ℕ) (ms : List Node) → list_all has_room ms ≡ true → list_all has_room (drop j ms) ≡ true
  room-drop j [] h = by j where
    by : (j : ℕ) → list_all has_room (drop j []) ≡ true
    by zero = refl
    by (suc j) = refl
  room-drop zero (m ∷ ms) h = h
  room-drop (suc j) (m ∷ ms) h = room-drop j ms (and_parts (has_room m) (list_all has_room ms) h).1

  module _ (sizes : DirSizes) (large : (nat_le k sizes.down_room && (nat_le k sizes.request_room && nat_le k sizes.reply_room)) ≡ true) where
    over-room : (level bus : ℕ) (ms : List Node) → list_all has_room ms ≡ true → has_room (dir_over sizes level bus ms) ≡ true
    over-room level bus ms h =
        let a = and_parts (nat_le k sizes.down_room) _ large in
        let b = and_parts (nat_le k sizes.request_room) _ a.1 in
        both_true a.0 (both_true b.0 (both_true b.1 (each-room ms ∙ h)))

    dirs-room : (level bus : ℕ) (l : List ℕ) (ms : List Node) → list_all has_room ms ≡ true → list_all has_room (dirs_over sizes level bus (cut_in l ms)) ≡ true
    dirs-room level bus [] ms h = refl
    dirs-room level bus (j ∷ l) ms h = both_true (over-room level bus (take j ms) (room-take j ms h)) (dirs-room level (bus + 1) l (drop j ms) (room-drop j ms h))

    levels-room : (level bus : ℕ) (ls : List (List ℕ)) (leaves : List Node) → list_all has_room leaves ≡ true → list_all has_room (under_levels sizes level bus ls leaves) ≡ true
    levels-room level bus [] leaves h = h
    levels-room level bus (l ∷ ls) leaves h = dirs-room level bus l (under_levels sizes (level + 1) (bus + length l) ls leaves) (levels-room (level + 1) (bus + length l) ls leaves h)

  -- ---- leaves

  abbrev leaf_has_room : LeafValue → Bool
  leaf_has_room v = nat_le k v.sizes.reply_room

  leaves-room : (vs : List LeafValue) → list_all leaf_has_room vs ≡ true → list_all has_room (map leaf_node vs) ≡ true
  leaves-room [] h = refl
  leaves-room (v ∷ vs) h =
      let parts = and_parts (leaf_has_room v) (list_all leaf_has_room vs) h in
      both_true parts.0 (leaves-room vs parts.1)

  new-room : (f : ℕ → LeafValue) (a n : ℕ) → ((j : ℕ) → leaf_has_room (f j) ≡ true) → list_all leaf_has_room (map f (range_with_len a n)) ≡ true
  new-room f a zero h = refl
  new-room f a (suc n) h = both_true (h a) (new-room f (a + 1) n h)

  placed_at-room : (leaf x : ℕ) (words : List ℕ) (i : ℕ) (v : LeafValue) → leaf_has_room (placed_at leaf x words i v) ≡ leaf_has_room v
  placed_at-room leaf x words i v = by (nat_eq i leaf) where
    by : (b : Bool) → leaf_has_room (if b then placed x words v else v) ≡ leaf_has_room v
    by true = refl
    by false = refl

  placed_from-room : (leaf x : ℕ) (words : List ℕ) (i : ℕ) (vs : List LeafValue) → list_all leaf_has_room (map_from (placed_at leaf x words) i vs) ≡ list_all leaf_has_room vs
  placed_from-room leaf x words i [] = refl
  placed_from-room leaf x words i (v ∷ vs) = rw (placed_at-room leaf x words i v, placed_from-room leaf x words (i + 1) vs) refl

  placed_in-room : (x : ℕ) (words : List ℕ) (vs : List LeafValue) (o : Option ℕ) → list_all leaf_has_room (placed_in x words vs o) ≡ list_all leaf_has_room vs
  placed_in-room x words vs None = refl
  placed_in-room x words vs (Some leaf) = placed_from-room leaf x words 0 vs

  placed-room : (x : ℕ) (ws : List (List ℕ)) (vs : List LeafValue) → list_all leaf_has_room (placed_items x ws vs) ≡ list_all leaf_has_room vs
  unfolding placed_items
  placed-room x [] vs = refl
  placed-room x (w ∷ ws) vs = placed-room (x + 1) ws (placed_in x w vs (leaf_for vs x)) ∙ placed_in-room x w vs (leaf_for vs x)

start-large : (t : TreeValue) (i : ImageValue) → sizes_are_large t.sizes (item_count (start_items t i)) ≡ true → has_large_lists (start_machine t i) ≡ true
unfolding start_machine
start-large t i large =
    let k : ℕ = 8 * item_count (start_items t i) in
    let a = and_parts (nat_le k t.sizes.down) _ large in
    let b = and_parts (nat_le k t.sizes.requests) (nat_le k t.sizes.replies) a.1 in
    let new = new-room k (start_leaf t i) 0 (leaf_count t) (λ j. b.1) in
    let leaves = placed-room k 0 (start_words t i) (map (start_leaf t i) (range_with_len 0 (leaf_count t))) ∙ new in
    let ms : List Node = under_levels (dir_sizes t.sizes (width_of t)) 1 1 (drop 1 t.levels) (map leaf_node (start_leaves t i)) in
    both_true a.0 (each-room k ms ∙ levels-room k (dir_sizes t.sizes (width_of t)) large 1 1 (drop 1 t.levels) (map leaf_node (start_leaves t i)) (leaves-room k (start_leaves t i) leaves))

pub made-large : (t : TreeValue) (i : ImageValue) (m : MachineValue) → start_of t i ≡ Ok m → sizes_are_large t.sizes (items_of_machine m) ≡ true → has_large_lists m ≡ true
unfolding start_of start_machine
made-large t i m made large = by (start_refusal t i) made where
  by : (o : Option StartRefusal) → start_or o t i ≡ Ok m → has_large_lists m ≡ true
  by None e =
      let same : start_machine t i ≡ m = cc in
      subst (λ k. has_large_lists k ≡ true) same (start-large t i (subst (λ k. sizes_are_large t.sizes (items_of_machine k) ≡ true) (sym same) large))
  by (Some r) e = cc
