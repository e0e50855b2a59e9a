-- How many words of a checkpoint the parts of a machine have at most, where its sizes are those of an accepted tree.
-- Letters: v is a leaf, d a directory, n how many items there are.
use Rattle.std.proofs.Common.{◌≡◌, ℕ, zero, suc, ◌+◌, ◌*◌, ◌≤◌, Bool, true, false, List, [], ◌∷◌, ◌++◌, length, drop, Option, Some, None, refl, subst, arith, length-append, mul-le-mul_right}
use Rattle.std.specs.Prelude.{◌&&◌, nat_eq, nat_le, filter_map, option_map, if◌then◌else◌, ⊤}
use Rattle.std.specs.List.{AllByRecursion, cons_option, flat_map, range_with_len}
use Rattle.std.specs.Int.{w32, to_le_bytes}
use Rattle.std.proofs.lemmas.Bool.{and_parts, eqb-true, leb-true}
use Rattle.std.proofs.lemmas.List.Concat.{flat_map-append}
use Rattle.std.proofs.lemmas.List.FromFn.{length-range_with_len}
use Rattle.file_laws.specs.DdmTypes.declared.operations.Effect.{Effect}
use Rattle.file_laws.specs.DdmTypes.declared.operations.HaltCause.{HaltCause}
use Rattle.file_laws.specs.DdmTypes.declared.operations.Op.{Op}
use Rattle.file_laws.specs.TreeModel.State.Values.{RequestValue, CopyValue, DownValue, WayValue, BufferValue, LeafSizes, LeafValue, Note, no_note, local, up_read, up_erase, DirItem, DirSizes, DirValue}
use Rattle.file_laws.specs.TreeModel.State.Leaf.{item_in_way, way_at}
use Rattle.file_laws.specs.TreeModel.State.Directory.{is_top}
use Rattle.file_laws.specs.TreeModel.State.Rooms.{dir_within, leaf_within}
use Rattle.file_laws.specs.StateWords.Numbers.{effect_words, flag_number, halt_words, note_words, slot_words, stamp_words}
use Rattle.file_laws.specs.StateWords.Parts.{StandingValue, buffer_words, counted, dir_words, down_words, hart_words, is_recorded, item_and_words, leaf_words, op_words, record_of, record_words, records, records_from, request_words, standing, standing_at, standing_in, standing_of, standing_words}
use Rattle.value_laws.specs.Values.{BufferHasForm, CopyHasForm, DirHasForm, DownHasForm, LeafHasForm, WayHasForm}
use Rattle.spelling_laws.proofs.LeafTaken.{way-form}

-- ---- lists

pub bytes-count : (ws : List ℕ) → length (flat_map (to_le_bytes w32) ws) ≡ 4 * length ws
bytes-count [] = refl
bytes-count (w ∷ ws) = let more = bytes-count ws in omega (arith, more)

module _ {X : Type 0} (words : X → List ℕ) (P : X → Type 0) (most : ℕ) (few : (x : X) → P x → length (words x) ≤ most) where
  pub all-few : (xs : List X) → AllByRecursion P xs → length (flat_map words xs) ≤ length xs * most
  all-few [] all = omega arith
  all-few (x ∷ xs) all =
      let more = all-few xs all.1 in
      let here = few x all.0 in
      let product : length (x ∷ xs) * most ≡ length xs * most + most = omega arith in
      omega (arith, length-append (words x) (flat_map words xs), here, more, product)

  pub counted-few : (xs : List X) (room : ℕ) → AllByRecursion P xs → length xs ≤ room → length (counted words xs) ≤ 1 + room * most
  counted-few xs room all within =
      let sum = all-few xs all in
      let product = mul-le-mul_right most within in
      omega (arith, sum, product)

-- ---- a hart

halt-count : (h : Option HaltCause) → length (halt_words h) ≡ 2
halt-count None = refl
halt-count (Some (HaltCause.Exit value)) = refl
halt-count (Some (HaltCause.Illegal word)) = refl
halt-count (Some HaltCause.Breakpoint) = refl
halt-count (Some (HaltCause.UnknownCall number)) = refl
halt-count (Some (HaltCause.MisalignedTarget address)) = refl
halt-count (Some (HaltCause.FetchOutside address)) = refl
halt-count (Some (HaltCause.MisalignedAccess address)) = refl
halt-count (Some (HaltCause.LoadOutside address)) = refl
halt-count (Some (HaltCause.StoreOutside address)) = refl

drop-count : (k : ℕ) (xs : List ℕ) → length (drop k xs) ≤ length xs
drop-count zero xs = omega arith
drop-count (suc k) [] = omega arith
drop-count (suc k) (x ∷ xs) = omega (arith, drop-count k xs)

pub hart-few : (width most : ℕ) (v : LeafValue) → LeafHasForm width most v → length (hart_words v) ≤ 36
hart-few width most v form =
    omega (
      arith,
      length-append (drop 1 v.hart.registers) (v.hart.pc ∷ v.done ∷ halt_words v.hart.halt),
      drop-count 1 v.hart.registers,
      form.hart.registers.count,
      halt-count v.hart.halt,
    )

-- ---- a leaf

-- a leaf of an accepted tree
pub record LeafRooms (s : LeafSizes) : Type 0 where
  pub sets : s.sets ≤ 4096
  pub ways : s.way_count ≤ 4
  pub buffer : s.buffer_room ≤ 16
  pub replies : s.reply_room ≤ 4096

slot-count : (slot : Option RequestValue) → length (slot_words slot) ≡ 2
slot-count None = refl
slot-count (Some r) = refl

module _ (width : ℕ) (narrow : width ≤ 16) where
  buffer-few : (e : BufferValue) → BufferHasForm width e → length (buffer_words e) ≤ 18
  buffer-few e form = omega (arith, form.count, narrow)

  copy-few : (c : CopyValue) → CopyHasForm width c → length (item_and_words c) ≤ 17
  copy-few c form = omega (arith, form.count, narrow)

  module _ (sets : ℕ) (ways : List (Option WayValue)) (forms : AllByRecursion (WayHasForm width) ways) where
    entry-few : (x : Option ℕ) (s : StandingValue) → standing_of sets ways x ≡ Some s → length (standing_words s) ≤ 19
    entry-few None s is = cc
    entry-few (Some x) s is =
        elim (way_at x ways) as (λ (o : Option WayValue). way_at x ways ≡ o → option_map (λ e. record { item = x; entry = e }) o ≡ Some s → length (standing_words s) ≤ 19) [
          | None ↦ λ there is. cc
          | Some e ↦ λ there is.
              let form = way-form width x e ways forms there in
              let made : StandingValue = record { item = x; entry = e } in
              let same : made ≡ s = cc in
              subst (λ s. length (standing_words s) ≤ 19) same (omega (arith, form.count, narrow))
        ] refl is

    put-few : (o : Option StandingValue) (rest : List StandingValue) → ((s : StandingValue) → o ≡ Some s → length (standing_words s) ≤ 19) → length (flat_map standing_words (cons_option o rest)) ≤ 19 + length (flat_map standing_words rest)
    put-few None rest few = omega arith
    put-few (Some s) rest few = omega (arith, length-append (standing_words s) (flat_map standing_words rest), few s refl)

    at-place : (set way : ℕ) (s : StandingValue) → standing_at sets ways set way ≡ Some s → length (standing_words s) ≤ 19
    unfolding standing_at
    at-place set way s is = entry-few (item_in_way sets set way ways) s is

    in-set : (set : ℕ) (places : List ℕ) → length (flat_map standing_words (filter_map (standing_at sets ways set) places)) ≤ length places * 19
    in-set set [] = omega arith
    in-set set (way ∷ places) =
        let more = in-set set places in
        let here = put-few (standing_at sets ways set way) (filter_map (standing_at sets ways set) places) (at-place set way) in
        omega (arith, more, here)

    in-sets : (way_count : ℕ) (numbers : List ℕ) → way_count ≤ 4 → length (flat_map standing_words (flat_map (standing_in sets ways way_count) numbers)) ≤ length numbers * 76
    unfolding standing_in
    in-sets way_count [] few = omega arith
    in-sets way_count (set ∷ numbers) few =
        let here = in-set set (range_with_len 0 way_count) in
        let more = in-sets way_count numbers few in
        let joined = flat_map-append standing_words (standing_in sets ways way_count set) (flat_map (standing_in sets ways way_count) numbers) in
        let size = length-append (flat_map standing_words (standing_in sets ways way_count set)) (flat_map standing_words (flat_map (standing_in sets ways way_count) numbers)) in
        let whole : length (flat_map standing_words (flat_map (standing_in sets ways way_count) (set ∷ numbers))) ≡ length (flat_map standing_words (standing_in sets ways way_count set)) + length (flat_map standing_words (flat_map (standing_in sets ways way_count) numbers)) = rw joined size in
        omega (arith, whole, here, more, few, length-range_with_len 0 way_count)

  pub leaf-few : (n most : ℕ) (v : LeafValue) → leaf_within n v ≡ true → LeafHasForm width most v → LeafRooms v.sizes → length (leaf_words v) ≤ 381222
  unfolding leaf_words standing
  leaf-few n most v within form rooms =
      let lists = and_parts (nat_eq (length v.ways) n) (nat_le (length v.buffer) v.sizes.buffer_room && nat_le (length v.replies) v.sizes.reply_room) within in
      let held = and_parts (nat_le (length v.buffer) v.sizes.buffer_room) (nat_le (length v.replies) v.sizes.reply_room) lists.1 in
      let buffered : length v.buffer ≤ v.sizes.buffer_room = leb-true _ _ held.0 in
      let replied : length v.replies ≤ v.sizes.reply_room = leb-true _ _ held.1 in
      let a = slot_words v.slot in
      let b = counted standing_words (standing v.sizes.sets v.ways v.sizes.way_count) in
      let c = counted buffer_words v.buffer in
      let d = counted item_and_words v.replies in
      let entries = in-sets v.sizes.sets v.ways form.ways v.sizes.way_count (range_with_len 0 v.sizes.sets) rooms.ways in
      let buffer = counted-few buffer_words (BufferHasForm width) 18 buffer-few v.buffer 16 form.buffer (omega (arith, buffered, rooms.buffer)) in
      let replies = counted-few item_and_words (CopyHasForm width) 17 copy-few v.replies 4096 form.replies (omega (arith, replied, rooms.replies)) in
      omega (
        arith,
        length-append (a ++ b ++ c) d,
        length-append (a ++ b) c,
        length-append a b,
        slot-count v.slot,
        entries,
        length-range_with_len 0 v.sizes.sets,
        rooms.sets,
        buffer,
        replies,
      )

-- ---- a directory

-- a directory of an accepted tree
pub record DirRooms (s : DirSizes) : Type 0 where
  pub down : s.down_room ≤ 4096
  pub requests : s.request_room ≤ 4096
  pub replies : s.reply_room ≤ 4096
  pub parking : s.parking_room ≤ 64
  pub width : s.width ≤ 16

note-count : (note : Note) → length (note_words note) ≡ 3
note-count no_note = refl
note-count (local first joined) = refl
note-count (up_read first joined) = refl
note-count (up_erase child) = refl

module _ (top : Bool) where
  record-few : (x : ℕ) (i : DirItem) → length (record_of top x i) ≤ 6
  record-few x i =
      elim (is_recorded top i) as (λ b. length (if b then record_words x i else []) ≤ 6) [
        | true ↦ omega (arith, length-append (note_words i.note) (flag_number i.answering ∷ []), note-count i.note)
        | false ↦ omega arith
      ]

  records-few : (x : ℕ) (items : List DirItem) → length (records_from top x items) ≤ length items * 6
  unfolding records_from
  records-few x [] = omega arith
  records-few x (i ∷ items) = omega (arith, length-append (record_of top x i) (records_from top (x + 1) items), record-few x i, records-few (x + 1) items)

any-request : (rs : List RequestValue) → AllByRecursion (λ r. ⊤) rs
any-request [] = tt
any-request (r ∷ rs) = (tt, any-request rs)

module _ (width most : ℕ) (narrow : width ≤ 16) where
  down-few : (e : DownValue) → DownHasForm width most e → length (down_words e) ≤ 22
  down-few e form = omega (arith, length-append (stamp_words e.stamp) e.words, form.words.count, narrow)

  pub dir-few : (n : ℕ) (d : DirValue) → n ≤ 65536 → dir_within n d ≡ true → DirHasForm width most d → DirRooms d.sizes → length (dir_words d) ≤ 562251
  unfolding dir_words records
  dir-few n d few within form rooms =
      let lists = and_parts (nat_eq (length d.items) n) _ within in
      let l1 = and_parts (nat_le (length d.down) d.sizes.down_room) _ lists.1 in
      let l2 = and_parts (nat_le (length d.requests) d.sizes.request_room) _ l1.1 in
      let l3 = and_parts (nat_le (length d.replies) d.sizes.reply_room) (nat_le (length d.parked + d.reserved) d.sizes.parking_room) l2.1 in
      let size : length d.items ≡ n = eqb-true _ _ lists.0 in
      let down : length d.down ≤ d.sizes.down_room = leb-true _ _ l1.0 in
      let asked : length d.requests ≤ d.sizes.request_room = leb-true _ _ l2.0 in
      let replied : length d.replies ≤ d.sizes.reply_room = leb-true _ _ l3.0 in
      let parked : length d.parked + d.reserved ≤ d.sizes.parking_room = leb-true _ _ l3.1 in
      let a = stamp_words d.epoch in
      let b = records (is_top d) d.items in
      let c = counted down_words d.down in
      let e = counted request_words d.requests in
      let f = counted item_and_words d.replies in
      let g = counted item_and_words d.parked in
      omega (
        arith,
        length-append (a ++ b ++ c ++ e ++ f ++ g) (d.reserved ∷ []),
        length-append (a ++ b ++ c ++ e ++ f) g,
        length-append (a ++ b ++ c ++ e) f,
        length-append (a ++ b ++ c) e,
        length-append (a ++ b) c,
        length-append a b,
        few,
        size,
        records-few (is_top d) 0 d.items,
        counted-few down_words (DownHasForm width most) 22 down-few d.down 4096 form.down (omega (arith, down, rooms.down)),
        counted-few request_words (λ r. ⊤) 2 (λ r any. omega arith) d.requests 4096 (any-request d.requests) (omega (arith, asked, rooms.requests)),
        counted-few item_and_words (CopyHasForm width) 17 (copy-few width narrow) d.replies 4096 form.replies (omega (arith, replied, rooms.replies)),
        counted-few item_and_words (CopyHasForm width) 17 (copy-few width narrow) d.parked 64 form.parked (omega (arith, parked, rooms.parking)),
      )

-- ---- an operation

effect-count : (e : Effect) → length (effect_words e) ≡ 4
effect-count Effect.Plain = refl
effect-count (Effect.Put byte) = refl
effect-count (Effect.Load address word) = refl
effect-count (Effect.Store address before after) = refl
effect-count (Effect.Lr address word) = refl
effect-count (Effect.ScOk address before after) = refl
effect-count (Effect.ScFail address) = refl
effect-count (Effect.Amo address before after) = refl

pub ops-count : (ops : List Op) → length (flat_map op_words ops) ≡ 15 * length ops
ops-count [] = refl
ops-count (op ∷ ops) = let more = ops-count ops in omega (arith, length-append (op_words op) (flat_map op_words ops), effect-count op.effect, more)
