-- The words of each part of a machine are numbers of 32 bits.
-- Letters: v is a leaf, d a directory, n how many items there are.
use Rattle.std.specs.Prelude.{◌≡◌, ℕ, zero, suc, ◌+◌, ◌^◌, ◌<◌, ◌≤◌, Bool, true, false, not, nat_eq, nat_lt, nat_le, ◌&&◌, ◌||◌, List, [], ◌∷◌, ◌++◌, length, map, drop, count_by, Option, Some, None, is_none, refl, if◌then◌else◌}
use Rattle.std.specs.List.{AllByRecursion, flat_map, list_all, list_any}
use Rattle.std.proofs.Common.{sym, arith}
use Rattle.std.proofs.lemmas.Bool.{eqb-true, ltb-true, leb-true, and_parts, true≢false}
use Rattle.std.proofs.lemmas.List.{length-map}
use Rattle.std.proofs.lemmas.List.Sums.{count_by-le-length}
use Rattle.std.proofs.lemmas.Map.Steps.{length-le_from_distinct_below}
use Rattle.std.proofs.lemmas.Nat.{pow_below}
use Rattle.spelling_laws.specs.DdmTypes.declared.answers.TxKind.{TxKind}
use Rattle.spelling_laws.specs.DdmTypes.declared.sizes.Hold.{Hold}
use Rattle.spelling_laws.specs.DdmTypes.declared.sizes.LeafState.{LeafState}
use Rattle.spelling_laws.specs.DdmTypes.declared.operations.HaltCause.{HaltCause}
use Rattle.spelling_laws.specs.DdmTypes.declared.operations.Effect.{Effect}
use Rattle.spelling_laws.specs.DdmTypes.declared.operations.Op.{Op}
use Rattle.spelling_laws.specs.DdmTypes.declared.keys.Stamp.{Stamp}
use Rattle.spelling_laws.specs.DdmTypes.declared.keys.Key.{Key}
use Rattle.spelling_laws.specs.TreeModel.declared.Traffic.{Traffic}
use Rattle.spelling_laws.specs.TreeModel.State.Kinds.{kind_number}
use Rattle.spelling_laws.specs.TreeModel.State.Values.{RequestValue, CopyValue, DownValue, BufferValue, LeafValue, Note, no_note, local, up_read, up_erase, DirItem, DirValue}
use Rattle.spelling_laws.specs.TreeModel.State.Leaf.{way_at}
use Rattle.spelling_laws.specs.TreeModel.State.Directory.{is_top, in_set}
use Rattle.spelling_laws.specs.TreeRules.Bus.Own.{words_suit, buffer_fits, copy_fits, down_fits, request_fits, item_fits, note_fits, reserves_below, leaf_lists, buffer_fit, leaf_replies, reservation_fits, dir_lists, notes_fit, down_entries, dir_requests, dir_replies, parked_fit}
use Rattle.spelling_laws.specs.StateWords.Numbers.{hold_number, note_words, flag_number, state_number, slot_number, slot_words, reserved_word, halt_words, effect_words, stamp_words, key_words}
use Rattle.spelling_laws.specs.StateWords.Parts.{StandingValue, counted, hart_words, standing, standing_words, buffer_words, item_and_words, leaf_words, is_recorded, record_words, record_of, records_from, records, down_words, request_words, dir_words, traffic_words, op_words}
use Rattle.spelling_laws.specs.StateReading.Parts.{most_counted, standing_item}
use Rattle.value_laws.specs.Values.{IsWord, HaltHasForm, HartHasForm, BufferHasForm, CopyHasForm, StampHasForm, DownHasForm, KeyHasForm, EffectHasForm, OpHasForm, TrafficHasForm}
use Rattle.state_judging.proofs.BusNumbers.{all-differ}
use Rattle.spelling_laws.proofs.DirTaken.{DirSpelled}
use Rattle.spelling_laws.proofs.LeafTaken.{LeafSpelled, way-form}
use Rattle.spelling_laws.proofs.LeafWhole.{ways-long, slot-inside}
use Rattle.spelling_laws.proofs.Listed.{onto, onto-many, place_of, Ascending, Descending, onto-descends, listed-ascend, items-differ}

abbrev pub AreSmall : List ℕ → Type 0
AreSmall ws = AllByRecursion IsWord ws

pub both-small : (xs ys : List ℕ) → AreSmall xs → AreSmall ys → AreSmall (xs ++ ys)
both-small [] ys first second = second
both-small (x ∷ xs) ys first second = (first.0, both-small xs ys first.1 second)

drop-small : (k : ℕ) (xs : List ℕ) → AreSmall xs → AreSmall (drop k xs)
drop-small zero xs small = small
drop-small (suc k) [] small = tt
drop-small (suc k) (x ∷ xs) small = drop-small k xs small.1

-- ---- one of several

halt-small : (h : Option HaltCause) → HaltHasForm h → AreSmall (halt_words h)
halt-small None form = (omega arith, (omega arith, tt))
halt-small (Some (HaltCause.Exit value)) form = (omega arith, (form, tt))
halt-small (Some (HaltCause.Illegal word)) form = (omega arith, (form, tt))
halt-small (Some HaltCause.Breakpoint) form = (omega arith, (omega arith, tt))
halt-small (Some (HaltCause.UnknownCall number)) form = (omega arith, (form, tt))
halt-small (Some (HaltCause.MisalignedTarget address)) form = (omega arith, (form, tt))
halt-small (Some (HaltCause.FetchOutside address)) form = (omega arith, (form, tt))
halt-small (Some (HaltCause.MisalignedAccess address)) form = (omega arith, (form, tt))
halt-small (Some (HaltCause.LoadOutside address)) form = (omega arith, (form, tt))
halt-small (Some (HaltCause.StoreOutside address)) form = (omega arith, (form, tt))

state-small : (s : LeafState) → IsWord (state_number s)
state-small LeafState.Shared = omega arith
state-small LeafState.Exclusive = omega arith
state-small LeafState.Waiting = omega arith
state-small LeafState.Reading = omega arith
state-small LeafState.ReadingWaiting = omega arith

slot-kind-small : (kind : TxKind) → IsWord (slot_number kind)
slot-kind-small TxKind.ReadTx = omega arith
slot-kind-small TxKind.DataTx = omega arith
slot-kind-small TxKind.EraseTx = omega arith
slot-kind-small TxKind.ExclusiveTx = omega arith
slot-kind-small TxKind.InjectTx = omega arith
slot-kind-small TxKind.OutTx = omega arith

kind-small : (kind : TxKind) → IsWord (kind_number kind)
kind-small TxKind.ReadTx = omega arith
kind-small TxKind.DataTx = omega arith
kind-small TxKind.EraseTx = omega arith
kind-small TxKind.ExclusiveTx = omega arith
kind-small TxKind.InjectTx = omega arith
kind-small TxKind.OutTx = omega arith

hold-small : (h : Hold) → IsWord (hold_number h)
hold-small Hold.Invalid = omega arith
hold-small Hold.Shared = omega arith
hold-small Hold.Exclusive = omega arith

flag-small : (b : Bool) → IsWord (flag_number b)
flag-small true = omega arith
flag-small false = omega arith

effect-small : (e : Effect) → EffectHasForm e → AreSmall (effect_words e)
effect-small Effect.Plain form = (omega arith, (omega arith, (omega arith, (omega arith, tt))))
effect-small (Effect.Put byte) form = (omega arith, (omega (arith, form), (omega arith, (omega arith, tt))))
effect-small (Effect.Load address word) form = (omega arith, (form.0, (form.1, (omega arith, tt))))
effect-small (Effect.Store address before after) form = (omega arith, (form.0, (form.1, (form.2, tt))))
effect-small (Effect.Lr address word) form = (omega arith, (form.0, (form.1, (omega arith, tt))))
effect-small (Effect.ScOk address before after) form = (omega arith, (form.0, (form.1, (form.2, tt))))
effect-small (Effect.ScFail address) form = (omega arith, (form, (omega arith, (omega arith, tt))))
effect-small (Effect.Amo address before after) form = (omega arith, (form.0, (form.1, (form.2, tt))))

few-small : (n : ℕ) → n ≤ most_counted → IsWord n
few-small n few = omega (arith, few)

stamp-small : (s : Stamp) → StampHasForm most_counted s → AreSmall (stamp_words s)
stamp-small s form = (few-small s.s0 form.s0, (few-small s.s1 form.s1, (few-small s.s2 form.s2, (few-small s.s3 form.s3, tt))))

-- ---- lists

module _ {X : Type 0} (words : X → List ℕ) where
  pub all-small : (xs : List X) → AllByRecursion (λ x. AreSmall (words x)) xs → AreSmall (flat_map words xs)
  all-small [] all = tt
  all-small (x ∷ xs) all = both-small (words x) (flat_map words xs) all.0 (all-small xs all.1)

  pub counted-small : (xs : List X) → IsWord (length xs) → AllByRecursion (λ x. AreSmall (words x)) xs → AreSmall (counted words xs)
  counted-small xs few all = (few, all-small xs all)

within-small : (a b : ℕ) → nat_le a b ≡ true → IsWord b → IsWord a
within-small a b le small = let l : a ≤ b = leb-true a b le in omega (arith, l, small)

below-small : (a b : ℕ) → nat_lt a b ≡ true → IsWord b → IsWord a
below-small a b lt small = let l : a < b = ltb-true a b lt in omega (arith, l, small)

module _ (n : ℕ) (few_items : IsWord n) (width : ℕ) where
  copies-small : (cs : List CopyValue) → list_all (copy_fits n) cs ≡ true → AllByRecursion (CopyHasForm width) cs → AllByRecursion (λ c. AreSmall (item_and_words c)) cs
  copies-small [] fit form = tt
  copies-small (c ∷ cs) fit form =
      let p = and_parts (copy_fits n c) (list_all (copy_fits n) cs) fit in
      ((below-small c.item n p.0 few_items, form.0.each), copies-small cs p.1 form.1)

  requests-small : (rs : List RequestValue) → list_all (request_fits n) rs ≡ true → AllByRecursion (λ r. AreSmall (request_words r)) rs
  requests-small [] fit = tt
  requests-small (r ∷ rs) fit =
      let p = and_parts (request_fits n r) (list_all (request_fits n) rs) fit in
      ((kind-small r.kind, (below-small r.item n p.0 few_items, tt)), requests-small rs p.1)

  downs-small : (ds : List DownValue) → list_all (down_fits n) ds ≡ true → AllByRecursion (DownHasForm width most_counted) ds → AllByRecursion (λ e. AreSmall (down_words e)) ds
  downs-small [] fit form = tt
  downs-small (e ∷ ds) fit form =
      let p = and_parts (down_fits n e) (list_all (down_fits n) ds) fit in
      let q = and_parts (nat_lt e.item n) _ p.0 in
      ((kind-small e.kind, (below-small e.item n q.0 few_items, both-small (stamp_words e.stamp) e.words (stamp-small e.stamp form.0.stamp) form.0.words.each)), downs-small ds p.1 form.1)

-- ---- a hart

pub hart-small : (v : LeafValue) → HartHasForm v.hart → v.done ≤ most_counted → AreSmall (hart_words v)
hart-small v form few = both-small (drop 1 v.hart.registers) (v.hart.pc ∷ v.done ∷ halt_words v.hart.halt) (drop-small 1 v.hart.registers form.registers.each) (form.pc, (few-small v.done few, halt-small v.hart.halt form.halt))

-- ---- a leaf

-- how many ways a set has and how many places its lists have are words
pub record LeafRooms (v : LeafValue) : Type 0 where
  pub ways : IsWord v.sizes.way_count
  pub buffer : IsWord v.sizes.buffer_room
  pub replies : IsWord v.sizes.reply_room

module _ (n : ℕ) (few_items : IsWord n) (v : LeafValue) (spelled : LeafSpelled n v) (rooms : LeafRooms v) where
  buffer-small : (bs : List BufferValue) → list_all (buffer_fits n v) bs ≡ true → AllByRecursion (BufferHasForm v.sizes.width) bs → AllByRecursion (λ b. AreSmall (buffer_words b)) bs
  buffer-small [] fit form = tt
  buffer-small (b ∷ bs) fit form =
      let p = and_parts (buffer_fits n v b) (list_all (buffer_fits n v) bs) fit in
      let q = and_parts (nat_lt b.item n) (is_none (way_at b.item v.ways) && words_suit b.state b.words) p.0 in
      ((below-small b.item n q.0 few_items, (state-small b.state, form.0.each)), buffer-small bs p.1 form.1)

  standing-small : (least : ℕ) (st : List StandingValue) → Ascending v.sizes.sets v.sizes.way_count v.ways least st → AllByRecursion (λ s. AreSmall (standing_words s)) st
  standing-small least [] order = tt
  standing-small least (s ∷ st) order =
      let stands = order.0 in
      let form = way-form v.sizes.width s.item s.entry v.ways spelled.form.ways stands.there in
      let item : IsWord s.item = omega (arith, stands.inside, ways-long n v spelled.ok, few_items) in
      let way : IsWord s.entry.way = omega (arith, stands.way, rooms.ways) in
      ((item, (way, (state-small s.entry.state, form.each))), standing-small (place_of v.sizes.sets v.sizes.way_count v.ways s + 1) st order.2)

  items-below : (ss : List StandingValue) → Descending v.sizes.sets v.sizes.way_count v.ways ss → (q : ℕ) → list_any (nat_eq q) (map standing_item ss) ≡ true → q < length v.ways
  items-below [] descends q there = absurd (true≢false (sym there))
  items-below (s ∷ ss) descends q there =
      elim (nat_eq q s.item) as (λ b. nat_eq q s.item ≡ b → (b || list_any (nat_eq q) (map standing_item ss)) ≡ true → q < length v.ways) [
        | true ↦ λ e there. let same : q ≡ s.item = eqb-true q s.item e in omega (arith, same, descends.0.inside)
        | false ↦ λ e there. items-below ss descends.2 q there
      ] refl there

  abbrev listed : List StandingValue
  listed = standing v.sizes.sets v.ways v.sizes.way_count

  few-listed : IsWord (length listed)
  few-listed =
      let ss = onto [] listed in
      let descends = onto-descends v.sizes.sets v.sizes.way_count v.ways 0 [] listed (listed-ascend v.sizes.sets v.sizes.way_count v.ways) tt tt in
      let items = map standing_item ss in
      let most = length-le_from_distinct_below items (length v.ways) (all-differ items (items-differ v.sizes.sets v.sizes.way_count v.ways ss descends)) (items-below ss descends) in
      omega (arith, most, length-map ss standing_item, onto-many [] listed, ways-long n v spelled.ok, few_items)

  slot-small : (slot : Option RequestValue) → v.slot ≡ slot → AreSmall (slot_words slot)
  slot-small None is = (omega arith, (omega arith, tt))
  slot-small (Some r) is = (slot-kind-small r.kind, (below-small r.item n (slot-inside n v spelled.ok r is) few_items, tt))

  reserved-small : (o : Option ℕ) → reserves_below n o ≡ true → IsWord (reserved_word o)
  reserved-small None below = omega arith
  reserved-small (Some x) below = let less : x < n = ltb-true x n below in omega (arith, less, few_items)

  pub leaf-small : AreSmall (leaf_words v)
  unfolding leaf_words
  leaf-small =
      let ok = spelled.ok in
      let form = spelled.form in
      let lists = and_parts (nat_eq (length v.ways) n) _ (ok.each leaf_lists) in
      let within = and_parts (nat_le (length v.buffer) v.sizes.buffer_room) (nat_le (length v.replies) v.sizes.reply_room) lists.1 in (
        reserved-small v.reservation (ok.each reservation_fits),
        both-small (slot_words v.slot ++ counted standing_words listed ++ counted buffer_words v.buffer) (counted item_and_words v.replies)
            (both-small (slot_words v.slot ++ counted standing_words listed) (counted buffer_words v.buffer)
            (both-small (slot_words v.slot) (counted standing_words listed) (slot-small v.slot refl) (counted-small standing_words listed few-listed (standing-small 0 listed (listed-ascend v.sizes.sets v.sizes.way_count v.ways))))
            (counted-small buffer_words v.buffer (within-small _ _ within.0 rooms.buffer) (buffer-small v.buffer (ok.each buffer_fit) form.buffer)))
            (counted-small item_and_words v.replies (within-small _ _ within.1 rooms.replies) (copies-small n few_items v.sizes.width v.replies (ok.each leaf_replies) form.replies)),
      )

-- ---- a directory

pub record DirRooms (d : DirValue) : Type 0 where
  pub down : IsWord d.sizes.down_room
  pub requests : IsWord d.sizes.request_room
  pub replies : IsWord d.sizes.reply_room
  pub parking : IsWord d.sizes.parking_room

readers-small : (kids first joined : ℕ) → kids ≤ 16 → (nat_lt first kids && (nat_lt joined (2 ^ kids) && not (in_set first joined))) ≡ true → IsWord first × IsWord joined
readers-small kids first joined few fits =
    let p = and_parts (nat_lt first kids) (nat_lt joined (2 ^ kids) && not (in_set first joined)) fits in
    let q = and_parts (nat_lt joined (2 ^ kids)) (not (in_set first joined)) p.1 in
    let child : first < kids = ltb-true first kids p.0 in
    let set : joined < 2 ^ kids = ltb-true joined (2 ^ kids) q.0 in
    let power : 2 ^ kids < 2 ^ 17 = pow_below kids 17 (omega (arith, few)) in
    (omega (arith, child, few), omega (arith, set, power))

note-small : (kids : ℕ) (note : Note) → kids ≤ 16 → note_fits kids note ≡ true → AreSmall (note_words note)
note-small kids no_note few fits = (omega arith, (omega arith, (omega arith, tt)))
note-small kids (local first joined) few fits = let s = readers-small kids first joined few fits in (omega arith, (s.0, (s.1, tt)))
note-small kids (up_read first joined) few fits = let s = readers-small kids first joined few fits in (omega arith, (s.0, (s.1, tt)))
note-small kids (up_erase child) few fits = let l : child < kids = ltb-true child kids fits in (omega arith, (omega (arith, l, few), (omega arith, tt)))

module _ (n : ℕ) (few_items : IsWord n) (kids : ℕ) (few_kids : kids ≤ 16) where
  record-small : (top : Bool) (x : ℕ) (i : DirItem) → IsWord x → item_fits kids i ≡ true → AreSmall (record_of top x i)
  record-small top x i small fits =
      elim (is_recorded top i) as (λ b. AreSmall (if b then record_words x i else [])) [
        | true ↦ (small, (hold-small i.hold, both-small (note_words i.note) (flag_number i.answering ∷ []) (note-small kids i.note few_kids fits) (flag-small i.answering, tt)))
        | false ↦ tt
      ]

  records-small : (top : Bool) (x : ℕ) (items : List DirItem) → x + length items ≤ n → list_all (item_fits kids) items ≡ true → AreSmall (records_from top x items)
  unfolding records_from
  records-small top x [] size fit = tt
  records-small top x (i ∷ items) size fit =
      let p = and_parts (item_fits kids i) (list_all (item_fits kids) items) fit in
      both-small (record_of top x i) (records_from top (x + 1) items) (record-small top x i (omega (arith, size, few_items)) p.0) (records-small top (x + 1) items (omega (arith, size)) p.1)

  pub dir-small : (d : DirValue) → DirSpelled n kids d → DirRooms d → AreSmall (dir_words d)
  unfolding dir_words records
  dir-small d spelled rooms =
      let ok = spelled.ok in
      let form = spelled.form in
      let lists = and_parts (nat_eq (length d.items) n) _ (ok.each dir_lists) in
      let l1 = and_parts (nat_le (length d.down) d.sizes.down_room) _ lists.1 in
      let l2 = and_parts (nat_le (length d.requests) d.sizes.request_room) _ l1.1 in
      let l3 = and_parts (nat_le (length d.replies) d.sizes.reply_room) (nat_le (length d.parked + d.reserved) d.sizes.parking_room) l2.1 in
      let room : length d.parked + d.reserved ≤ d.sizes.parking_room = leb-true _ _ l3.1 in
      let size : length d.items ≡ n = eqb-true _ _ lists.0 in
      let few : count_by (is_recorded (is_top d)) d.items ≤ length d.items = count_by-le-length (is_recorded (is_top d)) d.items in
      let items : AreSmall (records (is_top d) d.items) = (omega (arith, few, size, few_items), records-small (is_top d) 0 d.items (omega (arith, size)) (ok.each notes_fit)) in
      let downs = counted-small down_words d.down (within-small _ _ l1.0 rooms.down) (downs-small n few_items d.sizes.width d.down (ok.each down_entries) form.down) in
      let requests = counted-small request_words d.requests (within-small _ _ l2.0 rooms.requests) (requests-small n few_items d.sizes.width d.requests (ok.each dir_requests)) in
      let replies = counted-small item_and_words d.replies (within-small _ _ l3.0 rooms.replies) (copies-small n few_items d.sizes.width d.replies (ok.each dir_replies) form.replies) in
      let parked = counted-small item_and_words d.parked (omega (arith, room, rooms.parking)) (copies-small n few_items d.sizes.width d.parked (ok.each parked_fit) form.parked) in
      let a = stamp_words d.epoch in
      let b = records (is_top d) d.items in
      let c = counted down_words d.down in
      let e = counted request_words d.requests in
      let f = counted item_and_words d.replies in
      let g = counted item_and_words d.parked in
      let reserved : IsWord d.reserved = omega (arith, room, rooms.parking) in (
        few-small d.count form.count,
        both-small (a ++ b ++ c ++ e ++ f ++ g) (d.reserved ∷ [])
            (both-small (a ++ b ++ c ++ e ++ f) g (both-small (a ++ b ++ c ++ e) f (both-small (a ++ b ++ c) e (both-small (a ++ b) c (both-small a b (stamp-small d.epoch form.epoch) items) downs) requests) replies) parked)
            (reserved, tt),
      )

-- ---- traffic and operations

pub traffic-small : (t : Traffic) → TrafficHasForm most_counted t → AreSmall (traffic_words t)
traffic-small t form =
    (few-small t.reads form.reads, (few-small t.copies form.copies, (few-small t.erases form.erases, (few-small t.exclusives form.exclusives, (few-small t.outs form.outs, (few-small t.injects form.injects, tt))))))

child-small : (c : ℕ) → c < 16 → IsWord c
child-small c few = omega (arith, few)

key-small : (key : Key) → KeyHasForm most_counted key → AreSmall (key_words key)
key-small key form = (
  few-small key.s0 form.s0,
  (
    child-small key.c0 form.c0,
    (
      few-small key.s1 form.s1,
      (
        child-small key.c1 form.c1,
        (
          few-small key.s2 form.s2,
          (
            child-small key.c2 form.c2,
            (few-small key.s3 form.s3, (child-small key.c3 form.c3, (few-small key.i form.i, tt))),
          ),
        ),
      ),
    ),
  ),
)

pub ops-small : (ops : List Op) → AllByRecursion (OpHasForm most_counted) ops → AllByRecursion (λ o. AreSmall (op_words o)) ops
ops-small [] form = tt
ops-small (o ∷ ops) form =
    (both-small (key_words o.key) (o.hart ∷ o.pc ∷ effect_words o.effect) (key-small o.key form.0.key) (form.0.hart, (form.0.pc, effect-small o.effect form.0.effect)), ops-small ops form.1)
