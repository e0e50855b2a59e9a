-- The items that the definition computes from spans keep the rule of items.
use Rattle.std.proofs.Common.{◌≡◌, ◌↔◌, ℕ, zero, suc, ◌+◌, ◌*◌, ◌/◌, ◌%◌, ◌<◌, ◌≤◌, true, ◌&&◌, List, [], ◌∷◌, length, map, get_or, max, refl, sym, ◌∙◌, ap, inl, inr, arith, AllPairs, Any, IsTrue, eqb, ltb}
use Rattle.std.specs.List.{list_any}
use Rattle.std.proofs.lemmas.Bool.{ltb-true, lt-ltb, and_parts, and_from, or_cases, or_right, eqb-true, eq-eqb}
use Rattle.std.proofs.lemmas.List.{get_or-map, length-map}
use Rattle.std.proofs.lemmas.List.Elements.{All-map}
use Rattle.std.proofs.lemmas.List.Folds.{Any-from_list_any, list_any-from_Any}
use Rattle.ddm_types.specs.declared.sizes.Span.{Span}
use Rattle.ddm_types.specs.ItemTable.{ItemRow, IsItemSize, span_end, overlaps, writes, item_numbers, item_row, items_of}
use Rattle.ddm_types.specs.ItemRule.{Overlaps, AreItemsOf}
use Rattle.ddm_types.proofs.Ascending.{has}
use Rattle.ddm_types.proofs.Runs.{item_numbers-overlap, item_numbers-ascending}
use Rattle.ddm_types.proofs.Rows.{ascending-pairs, items_of-is}

-- ---- the test of overlap and what it means

common_byte : (size address : ℕ) (s : Span) → IsItemSize size → overlaps size address s ≡ true → Overlaps size address s
common_byte size address s sized h =
    let outer = and_parts (ltb 0 s.bytes) (ltb s.start (address + size) && ltb address (span_end s)) h in
    let inner = and_parts (ltb s.start (address + size)) (ltb address (span_end s)) outer.1 in
    let some : 0 < s.bytes = ltb-true 0 s.bytes outer.0 in
    let low : s.start < address + size = ltb-true s.start (address + size) inner.0 in
    let high : address < span_end s = ltb-true address (span_end s) inner.1 in
    let positive : 0 < size = positive_size size sized in
    (max address s.start, record { in_item = (omega arith, omega arith); in_span = (omega arith, omega arith) }) where
      positive_size : (n : ℕ) → IsItemSize n → 0 < n
      positive_size n (inl e) = omega arith
      positive_size n (inr e) = omega arith

test_passes : (size address : ℕ) (s : Span) → Overlaps size address s → overlaps size address s ≡ true
test_passes size address s o =
    let both = o.1 in
    and_from (ltb 0 s.bytes) (ltb s.start (address + size) && ltb address (span_end s))
    (lt-ltb 0 s.bytes (omega (arith, both.in_span.0, both.in_span.1)))
    (and_from (ltb s.start (address + size)) (ltb address (span_end s))
    (lt-ltb s.start (address + size) (omega (arith, both.in_span.0, both.in_item.1)))
    (lt-ltb address (span_end s) (omega (arith, both.in_item.0, both.in_span.1))))

any-map : {X : Type 0} (P Q : X → Type 0) → ((x : X) → P x → Q x) → (xs : List X) → Any P xs → Any Q xs
any-map P Q f xs h = (h.0, h.1, h.2, h.3, f h.1 h.4)

overlapped : (size address : ℕ) (spans : List Span) → IsItemSize size → list_any (overlaps size address) spans ≡ true → Any (Overlaps size address) spans
overlapped size address spans sized h =
    any-map (λ s. overlaps size address s ≡ true) (Overlaps size address) (λ s. common_byte size address s sized) spans (Any-from_list_any (overlaps size address) spans h)

test_overlapped : (size address : ℕ) (spans : List Span) → Any (Overlaps size address) spans → list_any (overlaps size address) spans ≡ true
test_overlapped size address spans h =
    list_any-from_Any (overlaps size address) spans (any-map (Overlaps size address) (λ s. overlaps size address s ≡ true) (test_passes size address) spans h)

writable-is : (size address : ℕ) (spans : List Span) → IsItemSize size → IsTrue (list_any (writes size address) spans) ↔ Any (λ s. IsTrue s.writable × Overlaps size address s) spans
writable-is size address spans sized =
    let W : Span → Type 0 = λ (s : Span). IsTrue s.writable × Overlaps size address s in (
      λ h.
          any-map (λ s. writes size address s ≡ true) W
          (λ s w.
          let parts = and_parts s.writable (overlaps size address s) w in
          (parts.0, common_byte size address s sized parts.1))
          spans (Any-from_list_any (writes size address) spans h),
      λ h.
          list_any-from_Any (writes size address) spans
          (any-map W (λ s. writes size address s ≡ true) (λ s w. and_from s.writable (overlaps size address s) w.0 (test_passes size address s w.1)) spans h),
    )

-- ---- where a number stands

has-at : (ns : List ℕ) (k : ℕ) → k < length ns → has (get_or ns k 0) ns ≡ true
has-at [] k h = absurd (omega arith)
has-at (n ∷ ns) zero h = rw (eq-eqb n n refl) refl
has-at (n ∷ ns) (suc k) h = or_right (eqb (get_or ns k 0) n) (has (get_or ns k 0) ns) (has-at ns k (omega arith))

has-place : (n : ℕ) (ns : List ℕ) → has n ns ≡ true → (k : ℕ) × (k < length ns) × (get_or ns k 0 ≡ n)
has-place n [] h = cc
has-place n (m ∷ ns) h =
    elim (or_cases (eqb n m) (has n ns) h) [
      | inl e ↦ (zero, omega arith, sym (eqb-true n m e))
      | inr r ↦
          let f = has-place n ns r in
          (suc f.0, omega (arith, f.1), f.2)
    ]

-- ---- the rule

multiple : (size n : ℕ) → IsItemSize size → n * size % size ≡ 0
multiple size n (inl e) = rw e (omega arith)
multiple size n (inr e) = rw e (omega arith)

whole : (size a : ℕ) → IsItemSize size → a % size ≡ 0 → a / size * size ≡ a
whole size a (inl e) h = let h' = rw e at h in rw e (omega arith)
whole size a (inr e) h = let h' = rw e at h in rw e (omega arith)

above : (size m n : ℕ) → IsItemSize size → m + 1 ≤ n → m * size < n * size
above size m n (inl e) h = rw e (omega arith)
above size m n (inr e) h = rw e (omega arith)

module _ (size : ℕ) (spans : List Span) (sized : IsItemSize size) where
  row_overlapped : (address : ℕ) → Any (λ row. row.address ≡ address) (map (item_row size spans) (item_numbers size spans)) → Any (Overlaps size address) spans
  row_overlapped address r =
      let ns = item_numbers size spans in
      let k : r.0 < length ns = rw length-map at r.2 in
      let value : get_or (map (item_row size spans) ns) r.0 r.1 ≡ item_row size spans (get_or ns r.0 0) = get_or-map (item_row size spans) ns r.0 0 r.1 k in
      let place : get_or ns r.0 0 * size ≡ address = ap (λ (row : ItemRow). row.address) (sym value ∙ r.3) ∙ r.4 in
      let test : list_any (overlaps size (get_or ns r.0 0 * size)) spans ≡ true = sym (item_numbers-overlap size (get_or ns r.0 0) spans sized) ∙ has-at ns r.0 k in
      overlapped size address spans sized (rw place at test)

  overlapped_row : (address : ℕ) → address % size ≡ 0 → Any (Overlaps size address) spans → Any (λ row. row.address ≡ address) (map (item_row size spans) (item_numbers size spans))
  overlapped_row address h o =
      let ns = item_numbers size spans in
      let n = address / size in
      let place : n * size ≡ address = whole size address sized h in
      let test : list_any (overlaps size (n * size)) spans ≡ true = rw place (test_overlapped size address spans o) in
      let f = has-place n ns (item_numbers-overlap size n spans sized ∙ test) in
      let value : get_or (map (item_row size spans) ns) f.0 (item_row size spans n) ≡ item_row size spans n =
      get_or-map (item_row size spans) ns f.0 0 (item_row size spans n) f.1 ∙ ap (item_row size spans) f.2 in
      (f.0, item_row size spans n, rw length-map f.1, value, place)

  rows_in_order : AllPairs (λ row next. row.address < next.address) (map (item_row size spans) (item_numbers size spans))
  rows_in_order i j d h l =
      let ns = item_numbers size spans in
      let l' : j < length ns = rw length-map at l in
      let up = ascending-pairs ns (item_numbers-ascending size spans) i j h l' in
      rw (get_or-map (item_row size spans) ns i 0 d (omega arith), get_or-map (item_row size spans) ns j 0 d l') (above size (get_or ns i 0) (get_or ns j 0) sized up)

  pub items_of-rule : AreItemsOf size spans (items_of size spans)
  items_of-rule = rw (items_of-is size spans) (record {
    sized = refl;
    at_multiples = All-map (λ row. row.address % size ≡ 0) (item_row size spans) (item_numbers size spans) (λ k d h. multiple size (get_or (item_numbers size spans) k d) sized);
    exist = λ address h. (row_overlapped address, overlapped_row address h);
    writable = All-map (λ row. IsTrue row.writable ↔ Any (λ s. IsTrue s.writable × Overlaps size row.address s) spans) (item_row size spans) (item_numbers size spans) (λ k d h. writable-is size (get_or (item_numbers size spans) k d * size) spans sized);
    in_order = rows_in_order;
  })
