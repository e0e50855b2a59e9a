-- A machine of a tree and an image of bytes begins with the form, before any count.
use Rattle.std.proofs.Common.{◌≡◌, ℕ, zero, suc, ◌+◌, ◌-◌, ◌*◌, ◌%◌, ◌^◌, ◌<◌, ◌≤◌, Bool, true, false, cond, List, [], ◌∷◌, ◌++◌, length, map, replicate, sum, take, drop, Option, Some, None, Ok, Err, refl, sym, ap, subst, ◌∙◌, arith}
use Rattle.std.specs.Prelude.{IfSome, find, nat_eq, nat_lt, slice_index_or, slice_set}
use Rattle.std.specs.List.{AllByRecursion, flat_map, fold, list_all, range_with_len}
use Rattle.std.proofs.lemmas.List.Concat.{flat_map-cons}
use Rattle.std.proofs.lemmas.List.FromFn.{length-map-range_with_len}
use Rattle.value_laws.specs.DdmTypes.declared.sizes.LeafState.{LeafState}
use Rattle.value_laws.specs.DdmTypes.declared.sizes.Start.{Start}
use Rattle.value_laws.specs.DdmTypes.ItemTable.{ItemRow, item_count}
use Rattle.value_laws.specs.DdmTypes.CodeMap.{words_from}
use Rattle.value_laws.specs.FlatModel.Hart.{hart_start}
use Rattle.value_laws.specs.TreeModel.State.Values.{LeafValue, DirItem, DirSizes, Node, leaf_node, MachineValue}
use Rattle.value_laws.specs.TreeModel.State.Leaf.{free_way, enters_free}
use Rattle.value_laws.specs.TreeModel.Turns.Machine.{no_traffic}
use Rattle.value_laws.specs.TreeModel.Start.Sources.{ImageValue, SegmentValue, TreeValue, bus_widths, is_executable, last_level, leaf_count, start_of_harts, width_of}
use Rattle.value_laws.specs.TreeModel.Start.Memory.{byte_at, byte_of, has_byte, first_word, past_word, item_words, memory_word, put_segment, segment_code, start_code, start_items, start_words}
use Rattle.value_laws.specs.TreeModel.Start.Nodes.{cut_in, dir_sizes, dirs_over, held_below, held_if, leaf_for, new_dir, placed, placed_at, placed_in, placed_items, under_levels}
use Rattle.value_laws.specs.TreeModel.Start.Machine.{start_leaf, start_leaves, start_machine, start_of, start_refusal}
use Rattle.value_laws.proofs.TreeModel.Tests.{and-first, and-second}
use Rattle.bus_laws.specs.IsTree.{AreUnder, IsTree, is_width}
use Rattle.bus_laws.proofs.StartLevels.{each-drop, each-take, sum-more, width-parts}
use Rattle.value_laws.specs.Values.{IsWord, AreWords, CodeHasForm, HartHasForm, WayHasForm, LeafHasForm, DirHasForm, PartsHaveForm, TrafficHasForm, HasForm}
use Rattle.value_laws.specs.Images.{IsOfBytes}
use Rattle.value_laws.proofs.Lists.{all-joined, all-map_from, all-replicate}
use Rattle.value_laws.proofs.Words.{blank-words, words-set, wraps}
use Rattle.value_laws.proofs.LeafForm.{entering, ways-fated, buffer-fated}
use Rattle.value_laws.proofs.DirForm.{zero-form}
use Rattle.value_laws.proofs.ChildForm.{among-nodes}
use Rattle.value_laws.proofs.TurnForm.{no-traffic-form}

-- ---- how many leaves a tree has

abbrev AreNarrow : List ℕ → Type 0
AreNarrow l = AllByRecursion (λ n. n ≤ 16) l

narrow_parts : (l more : List ℕ) → list_all is_width (l ++ more) ≡ true → AreNarrow l × (list_all is_width more ≡ true)
narrow_parts [] more wide = (tt, wide)
narrow_parts (n ∷ l) more wide = let rest = narrow_parts l more (and-second (is_width n) _ wide) in (((width-parts n (and-first _ (list_all is_width (l ++ more)) wide)).1, rest.0), rest.1)

narrow_levels : (ls : List (List ℕ)) → list_all is_width (flat_map (λ l. l) ls) ≡ true → AllByRecursion AreNarrow ls
narrow_levels [] wide = tt
narrow_levels (l ∷ ls) wide = let parts = narrow_parts l (flat_map (λ l. l) ls) (ap (list_all is_width) (sym (flat_map-cons (λ (k : List ℕ). k) l ls)) ∙ wide) in (parts.0, narrow_levels ls parts.1)

narrow_sum : (l : List ℕ) → AreNarrow l → sum l ≤ 16 * length l
narrow_sum [] narrow = omega arith
narrow_sum (n ∷ l) narrow = let rest = narrow_sum l narrow.1 in omega (arith, sum-more n l, narrow.0, rest)

few_leaves : (ls : List (List ℕ)) → length ls ≤ 4 → AreUnder 1 ls → AllByRecursion AreNarrow ls → sum (last_level ls) ≤ 65536
few_leaves [] short under narrow = omega arith
few_leaves (a ∷ []) short under narrow = let one = narrow_sum a narrow.0 in omega (arith, one, under.0)
few_leaves (a ∷ b ∷ []) short under narrow =
    let one = narrow_sum a narrow.0 in
    let two = narrow_sum b narrow.1.0 in
    omega (arith, one, two, under.0, under.1.0)
few_leaves (a ∷ b ∷ c ∷ []) short under narrow =
    let one = narrow_sum a narrow.0 in
    let two = narrow_sum b narrow.1.0 in
    let three = narrow_sum c narrow.1.1.0 in
    omega (arith, one, two, three, under.0, under.1.0, under.1.1.0)
few_leaves (a ∷ b ∷ c ∷ d ∷ []) short under narrow =
    let one = narrow_sum a narrow.0 in
    let two = narrow_sum b narrow.1.0 in
    let three = narrow_sum c narrow.1.1.0 in
    let four = narrow_sum d narrow.1.1.1.0 in
    omega (arith, one, two, three, four, under.0, under.1.0, under.1.1.0, under.1.1.1.0)
few_leaves (a ∷ b ∷ c ∷ d ∷ e ∷ ls) short under narrow = absurd (omega (arith, short))

pub leaves_few : (t : TreeValue) → IsTree t → leaf_count t ≤ 65536
leaves_few t tree = few_leaves t.levels tree.depth tree.under (narrow_levels t.levels tree.widths)

-- ---- harts

hart-form : (start : Start) (h : ℕ) → IsWord start.entry → IsWord start.harts → IsWord h → HartHasForm (hart_start start h)
unfolding hart_start
hart-form start h entry harts number = record {
  registers =
      let end = (start.stack_base + (h + 1) * start.stack_bytes) % 2 ^ 32 in
      let first = slice_set (replicate 32 0) 2 end in
      words-set 32 (slice_set first 10 h) 11 start.harts (words-set 32 first 10 h (words-set 32 (replicate 32 0) 2 end (blank-words 32) (wraps (start.stack_base + (h + 1) * start.stack_bytes))) number) harts;
  zero = refl;
  pc = entry;
  halt = tt;
}

-- ---- memory

small_byte : (bs : List ℕ) (k : ℕ) → AllByRecursion (λ byte. byte < 256) bs → slice_index_or bs k 0 < 256
small_byte [] k all = omega arith
small_byte (b ∷ bs) zero all = all.0
small_byte (b ∷ bs) (suc k) all = small_byte bs k all.1

abbrev IsSegmentOfBytes : SegmentValue → Type 0
IsSegmentOfBytes s = AllByRecursion (λ byte. byte < 256) s.bytes

abbrev AreOfBytes : List SegmentValue → Type 0
AreOfBytes segments = AllByRecursion (λ (s : SegmentValue). AllByRecursion (λ byte. byte < 256) s.bytes) segments

found_bytes : (a : ℕ) (segments : List SegmentValue) → AreOfBytes segments → IfSome (find (has_byte a) segments) IsSegmentOfBytes
found_bytes a [] all = tt
found_bytes a (s ∷ segments) all = by (has_byte a s) (found_bytes a segments all.1) where
  by : (b : Bool) → IfSome (find (has_byte a) segments) IsSegmentOfBytes → IfSome (cond b (Some s) (find (has_byte a) segments)) IsSegmentOfBytes
  by true rest = all.0
  by false rest = rest

module _ (segments : List SegmentValue) (all : AreOfBytes segments) where
  byte_small : (a : ℕ) → byte_at segments a < 256
  unfolding byte_at
  byte_small a = by (find (has_byte a) segments) (found_bytes a segments all) where
    by : (o : Option SegmentValue) → IfSome o IsSegmentOfBytes → byte_of a o < 256
    by None bytes = omega arith
    by (Some s) bytes = small_byte s.bytes _ bytes

  word_small : (a : ℕ) → IsWord (memory_word segments a)
  unfolding memory_word
  word_small a =
      let b0 = byte_small a in
      let b1 = byte_small (a + 1) in
      let b2 = byte_small (a + 2) in
      let b3 = byte_small (a + 3) in
      omega (arith, b0, b1, b2, b3)

  each-word : (a : ℕ) (ks : List ℕ) → AllByRecursion IsWord (map (λ k. memory_word segments (a + 4 * k)) ks)
  each-word a [] = tt
  each-word a (k ∷ ks) = (word_small (a + 4 * k), each-word a ks)

  rows-words : (width : ℕ) (rows : List ItemRow) → AllByRecursion (AreWords width) (map (λ (r : ItemRow). item_words width segments r.address) rows)
  rows-words width [] = tt
  rows-words width (row ∷ rows) = (record { count = length-map-range_with_len (λ k. memory_word segments (row.address + 4 * k)) 0 width; each = each-word row.address (range_with_len 0 width) }, rows-words width rows)

-- ---- code

segment-words : (s : SegmentValue) → IsSegmentOfBytes s → (ks : List ℕ) → AllByRecursion IsWord (map (λ n. memory_word (s ∷ []) (4 * n)) ks)
segment-words s bytes [] = tt
segment-words s bytes (k ∷ ks) = (word_small (s ∷ []) (bytes, tt) (4 * k), segment-words s bytes ks)

words-code : (start : ℕ) (ws : List ℕ) → AllByRecursion IsWord ws → AllByRecursion CodeHasForm (words_from start ws)
unfolding words_from
words-code start [] all = tt
words-code start (w ∷ ws) all = (all.0, words-code (start + 4) ws all.1)

segment-form : (s : SegmentValue) → IsSegmentOfBytes s → AllByRecursion CodeHasForm (segment_code s)
segment-form s bytes = by (is_executable s) where
  by : (b : Bool) → AllByRecursion CodeHasForm (cond b (words_from (4 * first_word s) (map (λ n. memory_word (s ∷ []) (4 * n)) (range_with_len (first_word s) (past_word s - first_word s)))) [])
  by true = words-code (4 * first_word s) _ (segment-words s bytes (range_with_len (first_word s) (past_word s - first_word s)))
  by false = tt

put-bytes : (rs : List SegmentValue) (s : SegmentValue) → AreOfBytes rs → IsSegmentOfBytes s → AreOfBytes (put_segment rs s)
put-bytes [] s all is = (is, tt)
put-bytes (r ∷ rs) s all is = by (nat_lt s.vaddr r.vaddr) (put-bytes rs s all.1 is) where
  by : (b : Bool) → AreOfBytes (put_segment rs s) → AreOfBytes (cond b (s ∷ r ∷ rs) (r ∷ put_segment rs s))
  by true rest = (is, all)
  by false rest = (all.0, rest)

sorted-bytes : (ss rs : List SegmentValue) → AreOfBytes rs → AreOfBytes ss → AreOfBytes (fold put_segment rs ss)
sorted-bytes [] rs all more = all
sorted-bytes (s ∷ ss) rs all more = sorted-bytes ss (put_segment rs s) (put-bytes rs s all more.0) more.1

segments-code : (ss : List SegmentValue) → AreOfBytes ss → AllByRecursion CodeHasForm (flat_map segment_code ss)
segments-code [] all = tt
segments-code (s ∷ ss) all = subst (AllByRecursion CodeHasForm) (sym (flat_map-cons segment_code s ss)) (all-joined CodeHasForm (segment_code s) (flat_map segment_code ss) (segment-form s all.0) (segments-code ss all.1))

code-form : (i : ImageValue) → IsOfBytes i → AllByRecursion CodeHasForm (start_code i)
unfolding start_code
code-form i of_bytes = segments-code (fold put_segment [] i.segments) (sorted-bytes i.segments [] tt of_bytes.bytes)

-- ---- the leaves

module _ (width : ℕ) where
  abbrev LeavesHaveForm : List LeafValue → Type 0
  LeavesHaveForm ls = AllByRecursion (LeafHasForm width 0) ls

  placed-form : (x : ℕ) (words : List ℕ) → AreWords width words → (v : LeafValue) → LeafHasForm width 0 v → LeafHasForm width 0 (placed x words v)
  placed-form x words are v has =
      let fate = enters_free LeafState.Exclusive words (free_way v.sizes x v.ways) in
      let is = entering width words (free_way v.sizes x v.ways) are in
      record {
        number = has.number;
        sizes = has.sizes;
        hart = has.hart;
        done = has.done;
        ways = ways-fated width x fate v.ways is has.ways;
        buffer = buffer-fated width x fate v.ways v.buffer is has.buffer;
        slot = has.slot;
        replies = has.replies;
      }

  placed-in-form : (x : ℕ) (words : List ℕ) → AreWords width words → (ls : List LeafValue) (o : Option ℕ) → LeavesHaveForm ls → LeavesHaveForm (placed_in x words ls o)
  placed-in-form x words are ls None all = all
  placed-in-form x words are ls (Some leaf) all = all-map_from (LeafHasForm width 0) (LeafHasForm width 0) (placed_at leaf x words) (λ i v has. by i v has (nat_eq i leaf)) 0 ls all where
    by : (i : ℕ) (v : LeafValue) → LeafHasForm width 0 v → (b : Bool) → LeafHasForm width 0 (cond b (placed x words v) v)
    by i v has true = placed-form x words are v has
    by i v has false = has

  items-form : (x : ℕ) (wss : List (List ℕ)) (ls : List LeafValue) → AllByRecursion (AreWords width) wss → LeavesHaveForm ls → LeavesHaveForm (placed_items x wss ls)
  unfolding placed_items
  items-form x [] ls are all = all
  items-form x (words ∷ rest) ls are all = items-form (x + 1) rest (placed_in x words ls (leaf_for ls x)) are.1 (placed-in-form x words are.0 ls (leaf_for ls x) all)

  -- ---- the levels above

  leaves-form : (ls : List LeafValue) → LeavesHaveForm ls → AllByRecursion (PartsHaveForm width 0) (map leaf_node ls)
  leaves-form [] all = tt
  leaves-form (v ∷ ls) all = (all.0, leaves-form ls all.1)

  module _ (sizes : DirSizes) (is : sizes.width ≡ width) where
    new-dir-form : (level bus : ℕ) (items : List DirItem) → DirHasForm width 0 (new_dir sizes level bus items)
    new-dir-form level bus items = record { sizes = is; count = omega arith; epoch = zero-form 0; down = tt; requests = tt; replies = tt; parked = tt }

    dirs-form : (level bus : ℕ) (l : List ℕ) (ns : List Node) → AllByRecursion (PartsHaveForm width 0) ns → AllByRecursion (PartsHaveForm width 0) (dirs_over sizes level bus (cut_in l ns))
    dirs-form level bus [] ns all = tt
    dirs-form level bus (k ∷ l) ns all = (
      (new-dir-form level bus (map held_if (held_below (take k ns))), among-nodes width 0 (take k ns) (each-take (PartsHaveForm width 0) k ns all)),
      dirs-form level (bus + 1) l (drop k ns) (each-drop (PartsHaveForm width 0) k ns all),
    )

    levels-form : (level bus : ℕ) (ls : List (List ℕ)) (leaves : List Node) → AllByRecursion (PartsHaveForm width 0) leaves → AllByRecursion (PartsHaveForm width 0) (under_levels sizes level bus ls leaves)
    levels-form level bus [] leaves all = all
    levels-form level bus (l ∷ ls) leaves all = dirs-form level bus l (under_levels sizes (level + 1) (bus + length l) ls leaves) (levels-form (level + 1) (bus + length l) ls leaves all)

-- ---- the machine

module _ (t : TreeValue) (i : ImageValue) (tree : IsTree t) (of_bytes : IsOfBytes i) where
  new-leaf-form : (j : ℕ) → j < leaf_count t → LeafHasForm (width_of t) 0 (start_leaf t i j)
  new-leaf-form j few =
      let leaves = leaves_few t tree in
      let number : IsWord j = omega (arith, few, leaves) in
      record {
        number = number;
        sizes = refl;
        hart = hart-form (start_of_harts t i) j of_bytes.entry (omega (arith, leaves)) number;
        done = omega arith;
        ways = all-replicate (WayHasForm (width_of t)) (item_count (start_items t i)) None tt;
        buffer = tt;
        slot = tt;
        replies = tt;
      }

  new-leaves-form : (first n : ℕ) → first + n ≤ leaf_count t → AllByRecursion (LeafHasForm (width_of t) 0) (map (start_leaf t i) (range_with_len first n))
  new-leaves-form first zero few = tt
  new-leaves-form first (suc n) few = (new-leaf-form first (omega (arith, few)), new-leaves-form (first + 1) n (omega (arith, few)))

  start-words-form : AllByRecursion (AreWords (width_of t)) (start_words t i)
  unfolding start_words
  start-words-form = rows-words i.segments of_bytes.bytes (width_of t) (start_items t i).rows

  start-leaves-form : AllByRecursion (LeafHasForm (width_of t) 0) (start_leaves t i)
  start-leaves-form = items-form (width_of t) 0 (start_words t i) (map (start_leaf t i) (range_with_len 0 (leaf_count t))) start-words-form (new-leaves-form 0 (leaf_count t) (omega arith))

  traffic-form : (ns : List ℕ) → AllByRecursion (TrafficHasForm 0) (map (λ _. no_traffic) ns)
  traffic-form [] = tt
  traffic-form (n ∷ ns) = (no-traffic-form 0, traffic-form ns)

  start-machine-form : HasForm 0 (start_machine t i)
  unfolding start_machine
  start-machine-form =
      let kids = under_levels (dir_sizes t.sizes (width_of t)) 1 1 (drop 1 t.levels) (map leaf_node (start_leaves t i)) in
      record {
        code = code-form i of_bytes;
        parts = (
          record { sizes = refl; count = omega arith; epoch = zero-form 0; down = tt; requests = tt; replies = tt; parked = tt },
          among-nodes (width_of t) 0 kids (levels-form (width_of t) (dir_sizes t.sizes (width_of t)) refl 1 1 (drop 1 t.levels) (map leaf_node (start_leaves t i)) (leaves-form (width_of t) (start_leaves t i) start-leaves-form)),
        );
        ops = tt;
        traffic = traffic-form (bus_widths t);
      }

pub start-form : (t : TreeValue) (i : ImageValue) (m : MachineValue) → IsTree t → IsOfBytes i → start_of t i ≡ Ok m → HasForm 0 m
unfolding start_of
start-form t i m tree of_bytes built =
    elim (start_refusal t i) as (λ o. start_refusal t i ≡ o → HasForm 0 m) [
      | Some r ↦ λ is.
          let refused : Err r ≡ Ok m = rw is at built in
          cc
      | None ↦ λ none.
          let made : Ok (start_machine t i) ≡ Ok m = rw none at built in
          let same : start_machine t i ≡ m = cc in
          subst (HasForm 0) same (start-machine-form t i tree of_bytes)
    ] refl
