-- Rows of items in order: which of them has a byte.
use Rattle.std.proofs.Common.{◌≡◌, ℕ, zero, suc, ◌+◌, ◌-◌, ◌*◌, ◌<◌, ◌≤◌, Bool, true, false, ◌&&◌, leb, ltb, List, [], ◌∷◌, ◌++◌, length, map, get_or, Some, None, refl, sym, ◌∙◌, ap, inl, inr, arith, AllPairs, subst}
use Rattle.std.specs.Prelude.{position}
use Rattle.std.specs.List.{position_or_len, list_any, range_with_len}
use Rattle.std.specs.List.Sorted.{IsNonDecreasingBy, IsPartitionPoint}
use Rattle.std.proofs.lemmas.Bool.{cases_lt, cond-true, cond-false, lt-ltb, le-ltb, leb-true, leb-false}
use Rattle.std.proofs.lemmas.Bool.Decides.{nat_tests}
use Rattle.std.proofs.lemmas.List.{get_or-map, length-map, map_push, append_assoc}
use Rattle.std.proofs.lemmas.List.FromFn.{map-range_with_len_more}
use Rattle.std.proofs.lemmas.List.Sums.{position_or_len_is}
use Rattle.ddm_types.specs.declared.item_table.Row.{Row}
use Rattle.ddm_types.specs.declared.sizes.Span.{Span}
use Rattle.ddm_types.specs.declared.item_table.TheConstants.{MOST_ITEMS}
use Rattle.ddm_types.specs.ItemTable.{ItemRow, no_row, row_has, IsItemSize, item_count, item_numbers, item_row, items_of, writes}
use Rattle.ddm_types.specs.ItemRows.{row_of, AreRows}
use Rattle.ddm_types.proofs.Ascending.{AreFrom, IsAscending}
use Rattle.ddm_types.proofs.Runs.{item_numbers-ascending, item_count-items_of}

-- the first place that passes is the answer of `position`
position-Some : {X : Type 0} (p : X → Bool) (xs : List X) (i : ℕ) (d : X) → i < length xs → ((k : ℕ) → k < i → p (get_or xs k d) ≡ false) → p (get_or xs i d) ≡ true → position p xs ≡ Some i
position-Some p xs i d h before here =
    let place : position_or_len p xs ≡ i = position_or_len_is p xs i d (omega arith) before (λ l. here) in
    rw place (cond-true (ltb i (length xs)) (Some i) None (lt-ltb i (length xs) h))

position-None : {X : Type 0} (p : X → Bool) (xs : List X) (d : X) → ((k : ℕ) → k < length xs → p (get_or xs k d) ≡ false) → position p xs ≡ None
position-None p xs d all =
    let place : position_or_len p xs ≡ length xs = position_or_len_is p xs (length xs) d (omega arith) all (λ l. absurd (omega arith)) in
    rw place (cond-false (ltb (length xs) (length xs)) (Some (length xs)) None (le-ltb (length xs) (length xs) (omega arith)))

has_not_above : (size a b : ℕ) → a < b → (leb b a && ltb a (b + size)) ≡ false
has_not_above size a b h = grind (arith, nat_tests)

has_not_below : (size a b : ℕ) → b + size ≤ a → (leb b a && ltb a (b + size)) ≡ false
has_not_below size a b h = grind (arith, nat_tests)

has_it : (size a b : ℕ) → b ≤ a → a < b + size → (leb b a && ltb a (b + size)) ≡ true
has_it size a b h l = grind (arith, nat_tests)

pub rows-rise : (size : ℕ) (rows : List Row) → AllPairs (λ r q. r.address + size ≤ q.address) rows → IsNonDecreasingBy (λ r. r.address) rows
rows-rise size rows o i j d h l =
    elim (cases_lt i j) [
      | inl near ↦
          let up = o i j d near l in
          omega (arith, up)
      | inr far ↦
          let same : i ≡ j = omega arith in
          let P : ℕ → Type 0 = λ (k : ℕ). (get_or rows i d).address ≤ (get_or rows k d).address in
          subst P same (omega arith)
    ]

-- the rows up to place `at` are those that start at the address or before it
module _ (size : ℕ) (rows : List Row) (address at : ℕ) (order : AllPairs (λ r q. r.address + size ≤ q.address) rows) (point : IsPartitionPoint (λ r. leb r.address address ≡ true) (λ r. leb r.address address ≡ false) rows at) where
  behind : (k : ℕ) (d : Row) → at ≤ k → k < length rows → row_has size address (row_of (get_or rows k d)) ≡ false
  behind k d h l = has_not_above size address (get_or rows k d).address (leb-false (get_or rows k d).address address (point.1 k d h l))

  pub started : (r : Row) → 0 < at → at ≤ length rows → r ≡ get_or rows (at - 1) r → r.address ≤ address
  started r h l e = rw e (leb-true (get_or rows (at - 1) r).address address (point.0 (at - 1) r (omega arith) (omega arith)))

  before : (r : Row) (k : ℕ) → k < at - 1 → at ≤ length rows → r ≡ get_or rows (at - 1) r → row_has size address (row_of (get_or rows k r)) ≡ false
  before r k h l e =
      let near = order k (at - 1) r h (omega arith) in
      let here : (get_or rows (at - 1) r).address ≤ address = leb-true (get_or rows (at - 1) r).address address (point.0 (at - 1) r (omega arith) (omega arith)) in
      has_not_below size address (get_or rows k r).address (omega (arith, near, here))

  seen : (r : Row) (k : ℕ) (b : Bool) → k < length rows → row_has size address (row_of (get_or rows k r)) ≡ b → row_has size address (get_or (map row_of rows) k no_row) ≡ b
  seen r k b h e = rw (get_or-map row_of rows k r no_row h) e

  pub none_started : at ≡ 0 → position (row_has size address) (map row_of rows) ≡ None
  none_started e =
      let r : Row = record { address = 0; writable = false } in
      position-None (row_has size address) (map row_of rows) no_row
      (λ k h.
      let h' : k < length rows = rw length-map at h in
      seen r k false h' (behind k r (omega arith) h'))

  pub found : (r : Row) → 0 < at → at ≤ length rows → r ≡ get_or rows (at - 1) r → address - r.address < size → position (row_has size address) (map row_of rows) ≡ Some (at - 1)
  found r h l e near =
      let low = started r h l e in
      let here : row_has size address (row_of (get_or rows (at - 1) r)) ≡ true = rw (sym e) (has_it size address r.address low (omega arith)) in
      position-Some (row_has size address) (map row_of rows) (at - 1) no_row (rw length-map (omega arith))
      (λ k b. seen r k false (omega arith) (before r k b l e))
      (seen r (at - 1) true (omega arith) here)

  pub missed : (r : Row) → 0 < at → at ≤ length rows → r ≡ get_or rows (at - 1) r → size ≤ address - r.address → position (row_has size address) (map row_of rows) ≡ None
  missed r h l e far =
      let low = started r h l e in
      let here : row_has size address (row_of (get_or rows (at - 1) r)) ≡ false = rw (sym e) (has_not_below size address r.address (omega arith)) in
      position-None (row_has size address) (map row_of rows) no_row
      (λ k b.
      let b' : k < length rows = rw length-map at b in
      seen r k false b'
      (elim (cases_lt k (at - 1)) [
        | inl less ↦ before r k less l e
        | inr more ↦
            elim (cases_lt (at - 1) k) [
              | inl past ↦ behind k r (omega arith) b'
              | inr equal ↦
                  let same : at - 1 ≡ k = omega arith in
                  let P : ℕ → Type 0 = λ (i : ℕ). row_has size address (row_of (get_or rows i r)) ≡ false in
                  subst P same here
            ]
      ]))

-- the row that has the byte is the only one
module _ (size : ℕ) (rows : List Row) (address number : ℕ) (order : AllPairs (λ r q. r.address + size ≤ q.address) rows) (r : Row) (inside : number < length rows) (there : r ≡ get_or rows number r) where
  not_before : (k : ℕ) → k < number → r.address ≤ address → row_has size address (get_or (map row_of rows) k no_row) ≡ false
  not_before k b low =
      let near = order k number r b inside in
      let here : (get_or rows number r).address ≤ address = rw (sym there) low in
      rw (get_or-map row_of rows k r no_row (omega (arith, inside))) (has_not_below size address (get_or rows k r).address (omega (arith, near, here)))

  pub only : r.address ≤ address → address - r.address < size → position (row_has size address) (map row_of rows) ≡ Some number
  only low near =
      let here : row_has size address (row_of (get_or rows number r)) ≡ true = rw (sym there) (has_it size address r.address low (omega arith)) in
      position-Some (row_has size address) (map row_of rows) number no_row (rw length-map (omega (arith, inside))) (λ k b. not_before k b low) (rw (get_or-map row_of rows number r no_row inside) here)

-- ---- the rows that were made

from-at : (m : ℕ) (ks : List ℕ) (j : ℕ) → AreFrom m ks → j < length ks → m ≤ get_or ks j 0
from-at m [] j f l = absurd (omega arith)
from-at m (k ∷ ks) zero f l = f.0
from-at m (k ∷ ks) (suc j) f l = from-at m ks j f.1 (omega arith)

pub ascending-pairs : (ns : List ℕ) → IsAscending ns → (i j : ℕ) → i < j → j < length ns → get_or ns i 0 + 1 ≤ get_or ns j 0
ascending-pairs [] a i j h l = absurd (omega arith)
ascending-pairs (n ∷ ns) a zero zero h l = absurd (omega arith)
ascending-pairs (n ∷ ns) a zero (suc j) h l = from-at (n + 1) ns j a.0 (omega arith)
ascending-pairs (n ∷ ns) a (suc i) zero h l = absurd (omega arith)
ascending-pairs (n ∷ ns) a (suc i) (suc j) h l = ascending-pairs ns a.1 i j (omega arith) (omega arith)

apart : (size m n : ℕ) → IsItemSize size → m + 1 ≤ n → m * size + size ≤ n * size
apart size m n (inl e) h = rw e (omega arith)
apart size m n (inr e) h = rw e (omega arith)

pub items_of-is : (size : ℕ) (spans : List Span) → items_of size spans ≡ record { size = size; rows = map (item_row size spans) (item_numbers size spans) }
unfolding items_of
items_of-is size spans = refl

-- rows that show the items of some spans are rows of a table
module _ (size : ℕ) (spans : List Span) (rows : List Row) (sized : IsItemSize size) (same : map row_of rows ≡ map (item_row size spans) (item_numbers size spans)) where
  same_length : length rows ≡ length (item_numbers size spans)
  same_length = sym (length-map rows row_of) ∙ ap (λ (rs : List ItemRow). length rs) same ∙ length-map (item_numbers size spans) (item_row size spans)

  address_at : (i : ℕ) (d : Row) → i < length rows → (get_or rows i d).address ≡ get_or (item_numbers size spans) i 0 * size
  address_at i d h =
      let h' : i < length (item_numbers size spans) = omega (arith, same_length) in
      ap (λ (r : ItemRow). r.address) (sym (get_or-map row_of rows i d no_row h) ∙ ap (λ (rs : List ItemRow). get_or rs i no_row) same ∙ get_or-map (item_row size spans) (item_numbers size spans) i 0 no_row h')

  pub made_rows : item_count (items_of size spans) ≤ MOST_ITEMS → AreRows size rows
  made_rows few = record {
    in_order = λ i j d h l.
        let up = ascending-pairs (item_numbers size spans) (item_numbers-ascending size spans) i j h (omega (arith, same_length)) in
        rw (address_at i d (omega arith), address_at j d l) (apart size (get_or (item_numbers size spans) i 0) (get_or (item_numbers size spans) j 0) sized up);
    few = rw (same_length, sym (item_count-items_of size spans)) few;
  }

-- a loop's step: one more row
pub made_more : (size first number : ℕ) (spans : List Span) (old rows new : List Row) (writable : Bool) → new ≡ rows ++ record { address = number * size; writable = writable } ∷ [] → writable ≡ list_any (writes size (number * size)) spans → first ≤ number → map row_of rows ≡ map row_of old ++ map (item_row size spans) (range_with_len first (number - first)) → map row_of new ≡ map row_of old ++ map (item_row size spans) (range_with_len first (number + 1 - first))
made_more size first number spans old rows new writable pushed decided up made =
    let row : Row = record { address = number * size; writable = writable } in
    let count : number + 1 - first ≡ number - first + 1 = omega arith in
    let more = map-range_with_len_more (item_row size spans) first (number - first) number (omega arith) in
    let same : row_of row ≡ item_row size spans number = ap (λ (w : Bool). shown (number * size) w) decided in
    rw (pushed, map_push row_of rows row, made, count, more, same)
    (append_assoc (map row_of old) (map (item_row size spans) (range_with_len first (number - first))) (item_row size spans number ∷ [])) where
      shown : ℕ → Bool → ItemRow
      shown a w = record { address = a; writable = w }
