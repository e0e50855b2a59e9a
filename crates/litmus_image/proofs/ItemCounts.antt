-- Spans make no more items than they overlap, counted span by span.
use Rattle.std.proofs.Common.{ℕ, ◌+◌, ◌-◌, ◌/◌, ◌<◌, ◌≤◌, List, [], ◌∷◌, length, arith, length-append}
use Rattle.std.specs.Prelude.{Bool, true, false, nat_eq, nat_lt, if◌then◌else◌}
use Rattle.std.specs.List.{flat_map, fold, range_with_len}
use Rattle.std.proofs.Math.Nat.{div-mul-le_self}
use Rattle.std.proofs.lemmas.Nat.{le-div}
use Rattle.std.proofs.lemmas.List.{length-map}
use Rattle.std.proofs.lemmas.List.FromFn.{length-range_with_len}
use Rattle.elf_load.specs.DdmTypes.declared.sizes.Span.{Span}
use Rattle.elf_load.specs.DdmTypes.ItemTable.{item_count, item_numbers, items_of, item_row, span_numbers, with_number}

with-at_most : (ms : List ℕ) (n : ℕ) → length (with_number ms n) ≤ length ms + 1
unfolding with_number
with-at_most [] n = omega arith
with-at_most (m ∷ ms) n = by_tests (nat_eq n m) (nat_lt n m) (with-at_most ms n) where
  by_tests : (same below : Bool) → length (with_number ms n) ≤ length ms + 1 → length (if same then m ∷ ms else (if below then n ∷ m ∷ ms else m ∷ with_number ms n)) ≤ length (m ∷ ms) + 1
  by_tests true below rest = omega arith
  by_tests false true rest = omega arith
  by_tests false false rest = omega (arith, rest)

fold-at_most : (ms ns : List ℕ) → length (fold with_number ms ns) ≤ length ms + length ns
fold-at_most ms [] = omega arith
fold-at_most ms (n ∷ ns) =
    let first = with-at_most ms n in
    let rest = fold-at_most (with_number ms n) ns in
    omega (arith, first, rest)

-- no more than the items from the one of the span's first byte to the one of the byte behind it
abbrev pub most_items : ℕ → Span → ℕ
most_items size s = (s.start + s.bytes) / size + 1 - s.start / size

numbers_in : (size : ℕ) (s : Span) → 0 < size → length (span_numbers size s) ≤ most_items size s
unfolding span_numbers
numbers_in size s some = by_bytes (nat_eq s.bytes 0) where
  past : ℕ
  past = s.start + s.bytes

  count : ℕ
  count = (past - 1) / size + 1 - s.start / size

  few : count ≤ most_items size s
  few =
      let below = div-mul-le_self (past - 1) size in
      let last : (past - 1) / size ≤ past / size = le-div ((past - 1) / size) past size some (omega (arith, below)) in
      omega (arith, last)

  by_bytes : (none : Bool) → length (if none then [] else range_with_len (s.start / size) count) ≤ most_items size s
  by_bytes true = omega arith
  by_bytes false = let all = length-range_with_len (s.start / size) count in omega (arith, all, few)

-- the same of several spans
abbrev pub all_items : ℕ → List Span → ℕ
all_items size [] = 0
all_items size (s ∷ ss) = most_items size s + all_items size ss

all_numbers : (size : ℕ) (spans : List Span) → 0 < size → length (flat_map (span_numbers size) spans) ≤ all_items size spans
all_numbers size [] some = omega arith
all_numbers size (s ∷ ss) some =
    let first = numbers_in size s some in
    let rest = all_numbers size ss some in
    rw (length-append (span_numbers size s) (flat_map (span_numbers size) ss)) (omega (arith, first, rest))

-- the items of spans
pub items_at_most : (size : ℕ) (spans : List Span) → 0 < size → item_count (items_of size spans) ≤ all_items size spans
unfolding items_of item_numbers
items_at_most size spans some =
    let numbers = flat_map (span_numbers size) spans in
    let rows = length-map (fold with_number [] numbers) (item_row size spans) in
    let once = fold-at_most [] numbers in
    let all = all_numbers size spans some in
    omega (arith, rows, once, all)
