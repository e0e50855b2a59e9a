-- The keys of a still come of the shape of the tree and the number of items alone: so no turn changes them.
-- Letters: p is a part, v a leaf, d a directory, k a node, n a number of items, m a machine, t a turn.
use Rattle.std.proofs.Common.{◌≡◌, ℕ, suc, ◌+◌, Bool, true, false, cond, ◌&&◌, ◌||◌, nat_eq, nat_le, List, [], ◌∷◌, ◌++◌, drop, length, map, replicate, Option, Some, None, refl, sym, ap, ap₂, ◌∙◌, arith}
use Rattle.std.specs.Prelude.{codes, flat_map}
use Rattle.std.specs.List.{range_with_len}
use Rattle.std.proofs.lemmas.Bool.{eqb-true}
use Rattle.std.proofs.lemmas.List.{length-replicate}
use Rattle.film_model.specs.DdmTypes.ItemTable.{item_count}
use Rattle.film_model.specs.DdmTypes.Keys.{stamp_zero}
use Rattle.film_model.specs.DdmTypes.declared.turns.Turn.{Turn}
use Rattle.film_model.specs.TreeModel.State.Place.{Where, at_top, where_path, at_child, spot_in}
use Rattle.film_model.specs.TreeModel.State.Rooms.{dir_within, all_within, all_within_among}
use Rattle.film_model.specs.TreeModel.State.Shape.{Skeleton, Skeletons, leaf_bone, dir_bone, no_bones, more_bones, skeleton, skeletons, Frame, frame_of, leaf_numbers_of, leaf_numbers_among}
use Rattle.film_model.specs.TreeModel.State.Values.{LeafValue, DirValue, absent_item, Node, Nodes, leaf_node, dir_node, no_nodes, more_nodes, children, MachineValue, root_of}
use Rattle.film_model.specs.TreeModel.Turns.Machine.{leaves_of, leaves_among, machine_leaves, turn_of}
use Rattle.film_model.specs.TreeModel.Turns.Tree.{bus_of_number, has_node, has_among, read_in, read_among, of_dir}
use Rattle.tree_model.proofs.FrameKept.{turn-frame}
use Rattle.tree_model.proofs.RoomsKept.{turn-within}
use Rattle.tree_model.proofs.Tests.{and-first, and-second}
use Rattle.film_model.specs.Part.{Part, key_of, numbered}
use Rattle.film_model.specs.Leaf.{register_part, entry_part, hart_parts, entry_parts, leaf_list_parts, leaf_parts}
use Rattle.film_model.specs.Directory.{dir_part, kept_parts, dir_list_parts, dir_parts}
use Rattle.film_model.specs.Still.{parts_or_none, bus_parts, place_part, still}
use Rattle.film_model.specs.Replay.{part_key, have_registers, have_registers_among}
use Rattle.film_model.proofs.RegistersKept.{turn_registers}

abbrev keys : List Part → List (List ℕ)
keys ps = map part_key ps

-- ---- lists of parts

keys_append : (ps qs : List Part) → keys (ps ++ qs) ≡ keys ps ++ keys qs
keys_append [] qs = refl
keys_append (p ∷ ps) qs = ap (λ ks. p.key ∷ ks) (keys_append ps qs)

both_same : (ps qs ps' qs' : List Part) → keys ps ≡ keys ps' → keys qs ≡ keys qs' → keys (ps ++ qs) ≡ keys (ps' ++ qs')
both_same ps qs ps' qs' same same' = keys_append ps qs ∙ ap₂ (λ x y. x ++ y) same same' ∙ sym (keys_append ps' qs')

one_less : (i j : ℕ) → suc i ≡ suc j → i ≡ j
one_less i j same = omega arith

numbered_same : {X : Type 0} (part part' : ℕ → X → Part) → ((i : ℕ) (e f : X) → part_key (part i e) ≡ part_key (part' i f)) → (i : ℕ) (es fs : List X) → length es ≡ length fs → keys (numbered part i es) ≡ keys (numbered part' i fs)
unfolding numbered
numbered_same part part' key i [] [] same = refl
numbered_same part part' key i [] (f ∷ fs) same = absurd (omega arith)
numbered_same part part' key i (e ∷ es) [] same = absurd (omega arith)
numbered_same part part' key i (e ∷ es) (f ∷ fs) same =
    ap₂ (λ (k : List ℕ) (ks : List (List ℕ)). k ∷ ks) (key i e f) (numbered_same part part' key (i + 1) es fs (one_less (length es) (length fs) same))

rest_same : {X : Type 0} (es fs : List X) → length es ≡ length fs → length (drop 1 es) ≡ length (drop 1 fs)
rest_same [] [] same = refl
rest_same [] (f ∷ fs) same = absurd (omega arith)
rest_same (e ∷ es) [] same = absurd (omega arith)
rest_same (e ∷ es) (f ∷ fs) same = one_less (length es) (length fs) same

flat_keys : {X : Type 0} (parts : X → List Part) (own : X → List (List ℕ)) → ((x : X) → keys (parts x) ≡ own x) → (xs : List X) → keys (flat_map parts xs) ≡ flat_map own xs
flat_keys parts own same [] = refl
flat_keys parts own same (x ∷ xs) = keys_append (parts x) (flat_map parts xs) ∙ ap₂ (λ ks ls. ks ++ ls) (same x) (flat_keys parts own same xs)

-- ---- a leaf with this number

abbrev plain_leaf : ℕ → ℕ → LeafValue
plain_leaf n number = record {
  number = number;
  sizes = record { sets = 0; way_count = 0; buffer_room = 0; reply_room = 0; width = 0 };
  hart = record { registers = replicate 32 0; pc = 0; halt = None };
  done = 0;
  ways = replicate n None;
  buffer = [];
  slot = None;
  replies = [];
  reservation = None;
}

unfoldable leaf_keys : ℕ → ℕ → List (List ℕ)
leaf_keys n number = keys (leaf_parts (plain_leaf n number))

leaf_same : (n : ℕ) (v : LeafValue) → length v.hart.registers ≡ 32 → length v.ways ≡ n → keys (leaf_parts v) ≡ leaf_keys n v.number
unfolding leaf_keys leaf_parts
leaf_same n v registers ways =
    let like = plain_leaf n v.number in
    let registers' : length v.hart.registers ≡ length like.hart.registers = registers ∙ sym (length-replicate {A = ℕ} 32 0) in
    let harts : keys (hart_parts v) ≡ keys (hart_parts like) =
    ap (λ ks. key_of (codes "pc") v.number ∷ key_of (codes "halt") v.number ∷ ks)
    (numbered_same (register_part v.number) (register_part v.number) (λ i e f. refl) 1 (drop 1 v.hart.registers) (drop 1 like.hart.registers) (rest_same v.hart.registers like.hart.registers registers')) in
    let entries : keys (entry_parts v) ≡ keys (entry_parts like) =
    numbered_same (entry_part v.number) (entry_part v.number) (λ i e f. refl) 0 v.ways like.ways (ways ∙ sym (length-replicate n None)) in
    both_same (hart_parts v ++ entry_parts v) (leaf_list_parts v) (hart_parts like ++ entry_parts like) (leaf_list_parts like)
    (both_same (hart_parts v) (entry_parts v) (hart_parts like) (entry_parts like) harts entries) refl

mutual
  leaves_same : (n : ℕ) (k : Node) (rest : List LeafValue) (after : List ℕ) → all_within n k ≡ true → have_registers 32 k ≡ true → keys (flat_map leaf_parts rest) ≡ flat_map (leaf_keys n) after → keys (flat_map leaf_parts (leaves_of k rest)) ≡ flat_map (leaf_keys n) (leaf_numbers_of (skeleton k) after)
  leaves_same n (leaf_node v) rest after within registers same =
      keys_append (leaf_parts v) (flat_map leaf_parts rest)
      ∙ ap₂ (λ ks ls. ks ++ ls) (leaf_same n v (eqb-true (length v.hart.registers) 32 registers)
      (eqb-true (length v.ways) n (and-first (nat_eq (length v.ways) n) (nat_le (length v.buffer) v.sizes.buffer_room && nat_le (length v.replies) v.sizes.reply_room) within))) same
  leaves_same n (dir_node d ns) rest after within registers same =
      leaves_same_among n ns rest after (and-second (dir_within n d) (all_within_among n ns) within) registers same

  leaves_same_among : (n : ℕ) (ns : Nodes) (rest : List LeafValue) (after : List ℕ) → all_within_among n ns ≡ true → have_registers_among 32 ns ≡ true → keys (flat_map leaf_parts rest) ≡ flat_map (leaf_keys n) after → keys (flat_map leaf_parts (leaves_among ns rest)) ≡ flat_map (leaf_keys n) (leaf_numbers_among (skeletons ns) after)
  leaves_same_among n no_nodes rest after within registers same = same
  leaves_same_among n (more_nodes k ks) rest after within registers same =
      leaves_same n k (leaves_among ks rest) (leaf_numbers_among (skeletons ks) after)
      (and-first (all_within n k) (all_within_among n ks) within) (and-first (have_registers 32 k) (have_registers_among 32 ks) registers)
      (leaves_same_among n ks rest after (and-second (all_within n k) (all_within_among n ks) within)
      (and-second (have_registers 32 k) (have_registers_among 32 ks) registers) same)

-- ---- a directory over the bus of this number

abbrev plain_directory : ℕ → ℕ → DirValue
plain_directory n bus = record {
  bus = bus;
  level = 0;
  sizes = record { down_room = 0; request_room = 0; reply_room = 0; parking_room = 0; width = 0 };
  items = replicate n absent_item;
  down = [];
  requests = [];
  replies = [];
  parked = [];
  reserved = 0;
  count = 0;
  epoch = stamp_zero;
}

unfoldable bus_keys : ℕ → ℕ → List (List ℕ)
bus_keys n bus = keys (dir_parts 0 (plain_directory n bus))

directory_same : (n count : ℕ) (d : DirValue) → length d.items ≡ n → keys (dir_parts count d) ≡ bus_keys n d.bus
unfolding bus_keys dir_parts
directory_same n count d items =
    let like = plain_directory n d.bus in
    let kept : keys (kept_parts count d) ≡ keys (kept_parts 0 like) =
    ap (λ ks. key_of (codes "time") d.bus ∷ ks)
    (numbered_same (dir_part d.bus count) (dir_part d.bus 0) (λ i e f. refl) 0 d.items like.items (items ∙ sym (length-replicate n absent_item))) in
    both_same (kept_parts count d) (dir_list_parts d) (kept_parts 0 like) (dir_list_parts like) kept refl

abbrev mutual
  has_bone : ℕ → Skeleton → Bool
  has_bone bus (leaf_bone number sizes) = false
  has_bone bus (dir_bone own level sizes bones) = nat_eq own bus || has_bone_among bus bones

  has_bone_among : ℕ → Skeletons → Bool
  has_bone_among bus no_bones = false
  has_bone_among bus (more_bones b bs) = has_bone bus b || has_bone_among bus bs

abbrev mutual
  keys_below : ℕ → ℕ → Skeleton → List (List ℕ)
  keys_below n bus (leaf_bone number sizes) = []
  keys_below n bus (dir_bone own level sizes bones) = cond (nat_eq own bus) (bus_keys n own) (keys_among n bus bones)

  keys_among : ℕ → ℕ → Skeletons → List (List ℕ)
  keys_among n bus no_bones = []
  keys_among n bus (more_bones b bs) = cond (has_bone bus b) (keys_below n bus b) (keys_among n bus bs)

mutual
  bone_there : (bus : ℕ) (k : Node) → has_node (bus_of_number bus) k ≡ has_bone bus (skeleton k)
  bone_there bus (leaf_node v) = refl
  bone_there bus (dir_node d ns) = ap (λ b. nat_eq d.bus bus || b) (bone_there_among bus ns)

  bone_there_among : (bus : ℕ) (ns : Nodes) → has_among (bus_of_number bus) ns ≡ has_bone_among bus (skeletons ns)
  bone_there_among bus no_nodes = refl
  bone_there_among bus (more_nodes k ks) = ap₂ (λ a b. a || b) (bone_there bus k) (bone_there_among bus ks)

abbrev told_keys : Option (List Part) → List (List ℕ)
told_keys parts = keys (parts_or_none parts)

here_or_below : (b : Bool) (ps : List Part) (other : Option (List Part)) (ks ls : List (List ℕ)) → keys ps ≡ ks → told_keys other ≡ ls → told_keys (cond b (Some ps) other) ≡ cond b ks ls
here_or_below true ps other ks ls here below = here
here_or_below false ps other ks ls here below = below

first_or_later : (b : Bool) (first later : Option (List Part)) (ks ls : List (List ℕ)) → told_keys first ≡ ks → told_keys later ≡ ls → told_keys (cond b first later) ≡ cond b ks ls
first_or_later true first later ks ls here below = here
first_or_later false first later ks ls here below = below

abbrev parts_at : Where → Node → List Part
parts_at w k = of_dir (λ w d ns. dir_parts (length ns) d) [] w k

mutual
  bus_same : (n bus : ℕ) (w : Where) (k : Node) → all_within n k ≡ true → told_keys (read_in (bus_of_number bus) parts_at w k) ≡ keys_below n bus (skeleton k)
  bus_same n bus w (leaf_node v) within = refl
  bus_same n bus w (dir_node d ns) within =
      let own = and-first (dir_within n d) (all_within_among n ns) within in
      here_or_below (nat_eq d.bus bus) (dir_parts (length (children ns)) d) (read_among (bus_of_number bus) parts_at (where_path w) d 0 ns)
      (bus_keys n d.bus) (keys_among n bus (skeletons ns))
      (directory_same n (length (children ns)) d (eqb-true (length d.items) n (and-first (nat_eq (length d.items) n) _ own)))
      (bus_same_among n bus (where_path w) d 0 ns (and-second (dir_within n d) (all_within_among n ns) within))

  bus_same_among : (n bus : ℕ) (path : List ℕ) (d : DirValue) (i : ℕ) (ns : Nodes) → all_within_among n ns ≡ true → told_keys (read_among (bus_of_number bus) parts_at path d i ns) ≡ keys_among n bus (skeletons ns)
  bus_same_among n bus path d i no_nodes within = refl
  bus_same_among n bus path d i (more_nodes k ks) within =
      let first = read_in (bus_of_number bus) parts_at (at_child (spot_in path d i)) k in
      let later = read_among (bus_of_number bus) parts_at path d (i + 1) ks in
      ap (λ b. told_keys (cond b first later)) (bone_there bus k)
      ∙ first_or_later (has_bone bus (skeleton k)) first later (keys_below n bus (skeleton k)) (keys_among n bus (skeletons ks))
      (bus_same n bus (at_child (spot_in path d i)) k (and-first (all_within n k) (all_within_among n ks) within))
      (bus_same_among n bus path d (i + 1) ks (and-second (all_within n k) (all_within_among n ks) within))

machine_bus_same : (n : ℕ) (m : MachineValue) (bus : ℕ) → all_within n (root_of m) ≡ true → keys (bus_parts m bus) ≡ keys_below n bus (skeleton (root_of m))
unfolding bus_parts
machine_bus_same n m bus within = bus_same n bus at_top (root_of m) within

-- ---- a machine

copy_keys : (m : MachineValue) (xs : List ℕ) → keys (map (place_part m) xs) ≡ map (key_of (codes "copy")) xs
unfolding place_part
copy_keys m [] = refl
copy_keys m (x ∷ xs) = ap (λ ks. key_of (codes "copy") x ∷ ks) (copy_keys m xs)

abbrev keys_by : ℕ → Frame → List (List ℕ)
keys_by n f =
    flat_map (leaf_keys n) (leaf_numbers_of f.bones []) ++ flat_map (λ bus. keys_below n bus f.bones) (range_with_len 0 f.counted)
    ++ map (key_of (codes "copy")) (range_with_len 0 (item_count f.items))

still_keys : (n : ℕ) (m : MachineValue) → all_within n (root_of m) ≡ true → have_registers 32 (root_of m) ≡ true → keys (still m) ≡ keys_by n (frame_of m)
unfolding still
still_keys n m within registers =
    let leaves = flat_map leaf_parts (machine_leaves m) in
    let buses = flat_map (bus_parts m) (range_with_len 0 (length m.traffic)) in
    let copies = map (place_part m) (range_with_len 0 (item_count m.items)) in
    keys_append (leaves ++ buses) copies
    ∙ ap₂ (λ ks ls. ks ++ ls) (keys_append leaves buses
    ∙ ap₂ (λ ks ls. ks ++ ls) (leaves_same n (root_of m) [] [] within registers refl)
    (flat_keys (bus_parts m) (λ bus. keys_below n bus (skeleton (root_of m))) (λ bus. machine_bus_same n m bus within) (range_with_len 0 (length m.traffic))))
    (copy_keys m (range_with_len 0 (item_count m.items)))

-- No turn changes the keys.
pub turn_keys : (n : ℕ) (t : Turn) (m : MachineValue) → all_within n (root_of m) ≡ true → have_registers 32 (root_of m) ≡ true → map part_key (still m) ≡ map part_key (still (turn_of t m).machine)
turn_keys n t m within registers =
    still_keys n m within registers ∙ ap (keys_by n) (sym (turn-frame t m))
    ∙ sym (still_keys n (turn_of t m).machine (turn-within n t m within) (turn_registers t m registers))
