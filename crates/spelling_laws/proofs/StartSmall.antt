-- A machine of a tree whose sizes are words has so few items, leaves, buses and places that their numbers are.
-- Letters: t is a tree, i an image, b a bone of the skeleton, bs are bones.
use Rattle.std.specs.Prelude.{◌≡◌, ◌⊎◌, ℕ, zero, suc, ◌+◌, ◌*◌, ◌/◌, ◌<◌, ◌≤◌, Bool, true, false, nat_eq, nat_lt, nat_le, ◌&&◌, List, [], ◌∷◌, map, length, take, drop, Option, Some, None, Ok, refl, if◌then◌else◌}
use Rattle.std.specs.List.{list_all, range_with_len}
use Rattle.std.proofs.Common.{ap, ◌∙◌, subst, arith, inl, inr}
use Rattle.std.proofs.Math.Nat.{mul-le-mul_right}
use Rattle.std.proofs.lemmas.Bool.{leb-true, ltb-false, lt-ltb, and_parts, and_from}
use Rattle.spelling_laws.specs.DdmTypes.ItemTable.{item_count, items_of}
use Rattle.spelling_laws.specs.TreeModel.State.Lists.{map_from}
use Rattle.spelling_laws.specs.TreeModel.State.Values.{LeafValue, DirSizes, Node, leaf_node, nodes, MachineValue, root_of}
use Rattle.spelling_laws.specs.TreeModel.State.Shape.{Skeleton, Skeletons, leaf_bone, dir_bone, no_bones, more_bones, skeleton, skeletons, IsShaped, levels_of, levels_fit, levels_fit_among, levels_known, bone_count, widths_fit, widths_fit_among, widths_bounded, leaf_numbers_of, leaf_numbers_among, buses_of, buses_among}
use Rattle.spelling_laws.specs.TreeModel.Start.Sources.{TreeValue, ImageValue, width_of, leaf_count}
use Rattle.spelling_laws.specs.TreeModel.Start.Memory.{start_items, start_words}
use Rattle.spelling_laws.specs.TreeModel.Start.Nodes.{dir_sizes, leaf_for, placed, placed_at, placed_in, placed_items, cut_in, dir_over, dirs_over, under_levels}
use Rattle.spelling_laws.specs.TreeModel.Start.Machine.{StartRefusal, too_many_items, start_leaf, start_leaves, start_machine, start_refusal, start_or, start_of}
use Rattle.spelling_laws.specs.BusLaws.IsTree.{IsTree}
use Rattle.spelling_laws.proofs.BusLaws.StartKept.{start-kept}
use Rattle.value_laws.specs.Values.{IsWord}
use Rattle.spelling_laws.specs.Small.{is_word, rooms_small, rooms_small_among, IsSmall, HasSmallSizes}

-- ---- how many leaves and buses there can be, by how many buses are above

abbrev most_leaves : ℕ → ℕ
most_leaves zero = 65536
most_leaves (suc zero) = 4096
most_leaves (suc (suc zero)) = 256
most_leaves (suc (suc (suc zero))) = 16
most_leaves (suc (suc (suc (suc above)))) = 1

abbrev most_buses : ℕ → ℕ
most_buses zero = 4369
most_buses (suc zero) = 273
most_buses (suc (suc zero)) = 17
most_buses (suc (suc (suc zero))) = 1
most_buses (suc (suc (suc (suc above)))) = 0

one-leaf : (above : ℕ) → 1 ≤ most_leaves above
one-leaf zero = omega arith
one-leaf (suc zero) = omega arith
one-leaf (suc (suc zero)) = omega arith
one-leaf (suc (suc (suc zero))) = omega arith
one-leaf (suc (suc (suc (suc above)))) = omega arith

leaves-below : (above : ℕ) → above ≤ 3 → 16 * most_leaves (suc above) ≤ most_leaves above
leaves-below zero le = omega arith
leaves-below (suc zero) le = omega arith
leaves-below (suc (suc zero)) le = omega arith
leaves-below (suc (suc (suc zero))) le = omega arith
leaves-below (suc (suc (suc (suc above)))) le = absurd (omega (arith, le))

buses-below : (above : ℕ) → above ≤ 3 → 1 + 16 * most_buses (suc above) ≤ most_buses above
buses-below zero le = omega arith
buses-below (suc zero) le = omega arith
buses-below (suc (suc zero)) le = omega arith
buses-below (suc (suc (suc zero))) le = omega arith
buses-below (suc (suc (suc (suc above)))) le = absurd (omega (arith, le))

record BoneFits (depth above : ℕ) (bones : Skeletons) : Type 0 where
  deep : above ≤ 3
  wide : bone_count bones ≤ 16
  levels : levels_fit_among depth (suc above) bones ≡ true
  widths : widths_fit_among bones ≡ true

bone-fits : (depth above bus level : ℕ) (sizes : DirSizes) (bones : Skeletons) → levels_fit depth above (dir_bone bus level sizes bones) ≡ true → widths_fit (dir_bone bus level sizes bones) ≡ true → BoneFits depth above bones
bone-fits depth above bus level sizes bones levels widths =
    let l = and_parts (nat_eq level above) (nat_le above 3 && levels_fit_among depth (above + 1) bones) levels in
    let m = and_parts (nat_le above 3) (levels_fit_among depth (above + 1) bones) l.1 in
    let w = and_parts (nat_lt 0 (bone_count bones)) (nat_le (bone_count bones) 16 && widths_fit_among bones) widths in
    let x = and_parts (nat_le (bone_count bones) 16) (widths_fit_among bones) w.1 in
    let next : above + 1 ≡ suc above = omega arith in
    record { deep = leb-true above 3 m.0; wide = leb-true (bone_count bones) 16 x.0; levels = subst (λ a. levels_fit_among depth a bones ≡ true) next m.1; widths = x.1 }

module _ (depth : ℕ) where
  mutual
    leaves-few : (above : ℕ) (b : Skeleton) (rest : List ℕ) → levels_fit depth above b ≡ true → widths_fit b ≡ true → length (leaf_numbers_of b rest) ≤ most_leaves above + length rest
    leaves-few above (leaf_bone number sizes) rest levels widths = let one = one-leaf above in omega (arith, one)
    leaves-few above (dir_bone bus level sizes bones) rest levels widths =
        let f = bone-fits depth above bus level sizes bones levels widths in
        let more = leaves-few_among (suc above) bones rest f.levels f.widths in
        let product = mul-le-mul_right (most_leaves (suc above)) f.wide in
        let below = leaves-below above f.deep in
        omega (arith, more, product, below)

    leaves-few_among : (above : ℕ) (bs : Skeletons) (rest : List ℕ) → levels_fit_among depth above bs ≡ true → widths_fit_among bs ≡ true → length (leaf_numbers_among bs rest) ≤ bone_count bs * most_leaves above + length rest
    leaves-few_among above no_bones rest levels widths = omega arith
    leaves-few_among above (more_bones b bs) rest levels widths =
        let l = and_parts (levels_fit depth above b) (levels_fit_among depth above bs) levels in
        let w = and_parts (widths_fit b) (widths_fit_among bs) widths in
        let first = leaves-few above b (leaf_numbers_among bs rest) l.0 w.0 in
        let more = leaves-few_among above bs rest l.1 w.1 in
        let product : (bone_count bs + 1) * most_leaves above ≡ bone_count bs * most_leaves above + most_leaves above = omega arith in
        omega (arith, first, more, product)

  mutual
    buses-few : (above : ℕ) (b : Skeleton) (rest : List ℕ) → levels_fit depth above b ≡ true → widths_fit b ≡ true → length (buses_of b rest) ≤ most_buses above + length rest
    buses-few above (leaf_bone number sizes) rest levels widths = omega arith
    buses-few above (dir_bone bus level sizes bones) rest levels widths =
        let f = bone-fits depth above bus level sizes bones levels widths in
        let more = buses-few_among (suc above) bones rest f.levels f.widths in
        let product = mul-le-mul_right (most_buses (suc above)) f.wide in
        let below = buses-below above f.deep in
        omega (arith, more, product, below)

    buses-few_among : (above : ℕ) (bs : Skeletons) (rest : List ℕ) → levels_fit_among depth above bs ≡ true → widths_fit_among bs ≡ true → length (buses_among bs rest) ≤ bone_count bs * most_buses above + length rest
    buses-few_among above no_bones rest levels widths = omega arith
    buses-few_among above (more_bones b bs) rest levels widths =
        let l = and_parts (levels_fit depth above b) (levels_fit_among depth above bs) levels in
        let w = and_parts (widths_fit b) (widths_fit_among bs) widths in
        let first = buses-few above b (buses_among bs rest) l.0 w.0 in
        let more = buses-few_among above bs rest l.1 w.1 in
        let product : (bone_count bs + 1) * most_buses above ≡ bone_count bs * most_buses above + most_buses above = omega arith in
        omega (arith, first, more, product)

-- ---- rooms at the start

abbrev has_rooms : Node → Bool
has_rooms m = rooms_small (skeleton m)

each-rooms : (ms : List Node) → rooms_small_among (skeletons (nodes ms)) ≡ list_all has_rooms ms
each-rooms [] = refl
each-rooms (m ∷ ms) = ap (λ b. has_rooms m && b) (each-rooms ms)

rooms-take : (j : ℕ) (ms : List Node) → list_all has_rooms ms ≡ true → list_all has_rooms (take j ms) ≡ true
rooms-take zero [] h = refl
rooms-take (suc j) [] h = refl
rooms-take zero (m ∷ ms) h = refl
rooms-take (suc j) (m ∷ ms) h = let p = and_parts (has_rooms m) (list_all has_rooms ms) h in and_from _ _ p.0 (rooms-take j ms p.1)

rooms-drop : (j : ℕ) (ms : List Node) → list_all has_rooms ms ≡ true → list_all has_rooms (drop j ms) ≡ true
rooms-drop zero [] h = refl
rooms-drop (suc j) [] h = refl
rooms-drop zero (m ∷ ms) h = h
rooms-drop (suc j) (m ∷ ms) h = rooms-drop j ms ((and_parts (has_rooms m) (list_all has_rooms ms) h).1)

abbrev dir_rooms : DirSizes → Bool
dir_rooms s = is_word s.down_room && (is_word s.request_room && (is_word s.reply_room && is_word s.parking_room))

module _ (sizes : DirSizes) (small : dir_rooms sizes ≡ true) where
  over-rooms : (level bus : ℕ) (ms : List Node) → list_all has_rooms ms ≡ true → has_rooms (dir_over sizes level bus ms) ≡ true
  over-rooms level bus ms h = and_from _ _ small (each-rooms ms ∙ h)

  dirs-rooms : (level bus : ℕ) (l : List ℕ) (ms : List Node) → list_all has_rooms ms ≡ true → list_all has_rooms (dirs_over sizes level bus (cut_in l ms)) ≡ true
  dirs-rooms level bus [] ms h = refl
  dirs-rooms level bus (j ∷ l) ms h = and_from _ _ (over-rooms level bus (take j ms) (rooms-take j ms h)) (dirs-rooms level (bus + 1) l (drop j ms) (rooms-drop j ms h))

  levels-rooms : (level bus : ℕ) (ls : List (List ℕ)) (leaves : List Node) → list_all has_rooms leaves ≡ true → list_all has_rooms (under_levels sizes level bus ls leaves) ≡ true
  levels-rooms level bus [] leaves h = h
  levels-rooms level bus (l ∷ ls) leaves h = dirs-rooms level bus l (under_levels sizes (level + 1) (bus + length l) ls leaves) (levels-rooms (level + 1) (bus + length l) ls leaves h)

abbrev leaf_rooms : LeafValue → Bool
leaf_rooms v = is_word v.sizes.way_count && (is_word v.sizes.buffer_room && is_word v.sizes.reply_room)

leaves-rooms : (vs : List LeafValue) → list_all leaf_rooms vs ≡ true → list_all has_rooms (map leaf_node vs) ≡ true
leaves-rooms [] h = refl
leaves-rooms (v ∷ vs) h = let p = and_parts (leaf_rooms v) (list_all leaf_rooms vs) h in and_from _ _ p.0 (leaves-rooms vs p.1)

new-rooms : (f : ℕ → LeafValue) (a n : ℕ) → ((j : ℕ) → leaf_rooms (f j) ≡ true) → list_all leaf_rooms (map f (range_with_len a n)) ≡ true
new-rooms f a zero h = refl
new-rooms f a (suc n) h = and_from _ _ (h a) (new-rooms f (a + 1) n h)

placed_at-rooms : (leaf x : ℕ) (words : List ℕ) (i : ℕ) (v : LeafValue) → leaf_rooms (placed_at leaf x words i v) ≡ leaf_rooms v
placed_at-rooms leaf x words i v = by (nat_eq i leaf) where
  by : (b : Bool) → leaf_rooms (if b then placed x words v else v) ≡ leaf_rooms v
  by true = refl
  by false = refl

placed_from-rooms : (leaf x : ℕ) (words : List ℕ) (i : ℕ) (vs : List LeafValue) → list_all leaf_rooms (map_from (placed_at leaf x words) i vs) ≡ list_all leaf_rooms vs
placed_from-rooms leaf x words i [] = refl
placed_from-rooms leaf x words i (v ∷ vs) = rw (placed_at-rooms leaf x words i v, placed_from-rooms leaf x words (i + 1) vs) refl

placed_in-rooms : (x : ℕ) (words : List ℕ) (vs : List LeafValue) (o : Option ℕ) → list_all leaf_rooms (placed_in x words vs o) ≡ list_all leaf_rooms vs
placed_in-rooms x words vs None = refl
placed_in-rooms x words vs (Some leaf) = placed_from-rooms leaf x words 0 vs

placed-rooms : (x : ℕ) (ws : List (List ℕ)) (vs : List LeafValue) → list_all leaf_rooms (placed_items x ws vs) ≡ list_all leaf_rooms vs
unfolding placed_items
placed-rooms x [] vs = refl
placed-rooms x (w ∷ ws) vs = placed-rooms (x + 1) ws (placed_in x w vs (leaf_for vs x)) ∙ placed_in-rooms x w vs (leaf_for vs x)

word-so : (n : ℕ) → IsWord n → is_word n ≡ true
word-so n small = lt-ltb n 4294967296 small

start-rooms : (t : TreeValue) (i : ImageValue) → HasSmallSizes t → rooms_small (skeleton (root_of (start_machine t i))) ≡ true
unfolding start_machine
start-rooms t i small =
    let new = new-rooms (start_leaf t i) 0 (leaf_count t) (λ j. and_from _ _ (word-so t.way_count small.ways) (and_from _ _ (word-so t.sizes.buffer small.buffer) (word-so t.sizes.replies small.replies))) in
    let leaves = placed-rooms 0 (start_words t i) (map (start_leaf t i) (range_with_len 0 (leaf_count t))) ∙ new in
    let ms : List Node = under_levels (dir_sizes t.sizes (width_of t)) 1 1 (drop 1 t.levels) (map leaf_node (start_leaves t i)) in
    let down = word-so t.sizes.down small.down in
    let dirs : dir_rooms (dir_sizes t.sizes (width_of t)) ≡ true = and_from _ _ down (and_from _ _ (word-so t.sizes.requests small.requests) (and_from _ _ (word-so t.sizes.replies small.replies) (word-so t.sizes.parking small.parking))) in
    and_from _ _ (and_from _ _ down refl) (each-rooms ms ∙ levels-rooms (dir_sizes t.sizes (width_of t)) dirs 1 1 (drop 1 t.levels) (map leaf_node (start_leaves t i)) (leaves-rooms (start_leaves t i) leaves))

-- ---- the machine

none-if : (b : Bool) (r : StartRefusal) (o : Option StartRefusal) → (if b then Some r else o) ≡ None → b ≡ false
none-if true r o e = cc
none-if false r o e = refl

items-few : (t : TreeValue) (i : ImageValue) → start_refusal t i ≡ None → item_count (start_items t i) ≤ 65536
unfolding start_refusal
items-few t i e = ltb-false 65536 (item_count (start_items t i)) (none-if (nat_lt 65536 (item_count (start_items t i))) (too_many_items (item_count (start_items t i))) _ e)

width-small : (t : TreeValue) (i : ImageValue) → IsTree t → IsWord ((start_items t i).size / 4)
unfolding start_items items_of
width-small t i tree = by tree.item_bytes
  where
    by : (t.item_bytes ≡ 16) ⊎ (t.item_bytes ≡ 64) → t.item_bytes / 4 < 4294967296
    by (inl e) = omega (arith, e)
    by (inr e) = omega (arith, e)

pub started-small : (t : TreeValue) (i : ImageValue) (m : MachineValue) → IsTree t → HasSmallSizes t → start_of t i ≡ Ok m → IsSmall m
unfolding start_of start_machine
started-small t i m tree small built =
    elim (start_refusal t i) as (λ o. start_refusal t i ≡ o → start_or o t i ≡ Ok m → IsSmall m) [
      | Some r ↦ λ none built. cc
      | None ↦ λ none built.
          let same : start_machine t i ≡ m = cc in
          let b = skeleton (root_of m) in
          let few = items-few t i none in
          let leaves = leaves-few (levels_of b) 0 b [] (shaped.each levels_known) (shaped.each widths_bounded) in
          let buses = buses-few (levels_of b) 0 b [] (shaped.each levels_known) (shaped.each widths_bounded) in
          let start_few : IsWord (item_count (start_items t i)) = omega (arith, few) in
          record {
            items = subst (λ (m : MachineValue). IsWord (item_count m.items)) same start_few;
            item_words = subst (λ (m : MachineValue). IsWord (m.items.size / 4)) same (width-small t i tree);
            leaves = omega (arith, leaves);
            buses = omega (arith, buses);
            rooms = subst (λ m. rooms_small (skeleton (root_of m)) ≡ true) same (start-rooms t i small);
            ops = subst (λ (m : MachineValue). IsWord (length m.ops)) same (omega arith);
          }
    ] refl built
  where
    shaped : IsShaped m
    shaped = (start-kept t i m tree built).0
