-- Spans make no more items than they overlap, counted span by span.
use Rattle.std.proofs.Common.{ℕ, ◌+◌, ◌-◌, ◌/◌, ◌<◌, ◌≤◌, List, [], ◌∷◌, ◌++◌, length, arith, length-append}
use Rattle.std.specs.Prelude.{Bool, true, false, nat_eq, nat_lt, if◌then◌else◌}
use Rattle.std.specs.List.{fold, range_with_len}
use Rattle.std.proofs.Math.Nat.{div-mul-le_self}
use Rattle.std.proofs.lemmas.Nat.{le-div}
use Rattle.std.proofs.lemmas.List.{length-map}
use Rattle.std.proofs.lemmas.List.FromFn.{length-range_with_len}
use Rattle.made_image.specs.DdmTypes.declared.sizes.Span.{Span}
use Rattle.made_image.specs.DdmTypes.ItemTable.{item_count, item_numbers, items_of, item_row, span_numbers, with_number}

with-at_most : (ms : List ℕ) (n : ℕ) → length (with_number ms n) ≤ length ms + 1
unfolding with_number
with-at_most [] n = omega arith
with-at_most (m ∷ ms) n = by_tests (nat_eq n m) (nat_lt n m) (with-at_most ms n) where
  by_tests : (same below : Bool) → length (with_number ms n) ≤ length ms + 1 → length (if same then m ∷ ms else (if below then n ∷ m ∷ ms else m ∷ with_number ms n)) ≤ length (m ∷ ms) + 1
  by_tests true below rest = omega arith
  by_tests false true rest = omega arith
  by_tests false false rest = omega (arith, rest)

fold-at_most : (ms ns : List ℕ) → length (fold with_number ms ns) ≤ length ms + length ns
fold-at_most ms [] = omega arith
fold-at_most ms (n ∷ ns) =
    let first = with-at_most ms n in
    let rest = fold-at_most (with_number ms n) ns in
    omega (arith, first, rest)

-- no more than the items from the one of the span's first byte to the one of the byte behind it
abbrev pub most_items : ℕ → Span → ℕ
most_items size s = (s.start + s.bytes) / size + 1 - s.start / size

numbers_in : (size : ℕ) (s : Span) → 0 < size → length (span_numbers size s) ≤ most_items size s
unfolding span_numbers
numbers_in size s some = by_bytes (nat_eq s.bytes 0) where
  past : ℕ
  past = s.start + s.bytes

  count : ℕ
  count = (past - 1) / size + 1 - s.start / size

  few : count ≤ most_items size s
  few =
      let below = div-mul-le_self (past - 1) size in
      let last : (past - 1) / size ≤ past / size = le-div ((past - 1) / size) past size some (omega (arith, below)) in
      omega (arith, last)

  by_bytes : (none : Bool) → length (if none then [] else range_with_len (s.start / size) count) ≤ most_items size s
  by_bytes true = omega arith
  by_bytes false = let all = length-range_with_len (s.start / size) count in omega (arith, all, few)

-- the items of two spans
pub items_in_two : (size : ℕ) (s t : Span) → 0 < size → item_count (items_of size (s ∷ t ∷ [])) ≤ most_items size s + most_items size t
unfolding items_of item_numbers
items_in_two size s t some =
    let spans = s ∷ t ∷ [] in
    let numbers = span_numbers size s ++ (span_numbers size t ++ []) in
    let rows = length-map (fold with_number [] numbers) (item_row size spans) in
    let once = fold-at_most [] numbers in
    let all = length-append (span_numbers size s) (span_numbers size t ++ []) in
    let others = length-append (span_numbers size t) [] in
    let first = numbers_in size s some in
    let second = numbers_in size t some in
    omega (arith, rows, once, all, others, first, second)
