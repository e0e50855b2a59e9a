-- The table of items, and which items a list of spans makes.
use Rattle.std.specs.Prelude.{◌≡◌, ◌⊎◌, ℕ, ◌+◌, ◌-◌, ◌*◌, ◌/◌, Bool, false, ◌&&◌, nat_eq, nat_lt, nat_le, List, []}
use Rattle.std.specs.Prelude.{◌∷◌, map, length, Option, position, slice_index_or, if◌then◌else◌}
use Rattle.std.specs.List.{list_any, fold, flat_map, range_with_len}
use Rattle.ddm_types.specs.declared.sizes.Span.{Span}

pub record ItemRow : Type 0 where
  pub address : ℕ
  pub writable : Bool

-- the items in order of address, each of this many bytes
pub record ItemTable : Type 0 where
  pub size : ℕ
  pub rows : List ItemRow

abbrev pub no_row : ItemRow
no_row = record { address = 0; writable = false }

abbrev pub item_count : ItemTable → ℕ
item_count t = length t.rows

abbrev pub row_at : ItemTable → ℕ → ItemRow
row_at t x = slice_index_or t.rows x no_row

-- the row's item has the byte at this address
abbrev pub row_has : ℕ → ℕ → ItemRow → Bool
row_has size address row = nat_le row.address address && nat_lt address (row.address + size)

-- the number of the item that has the byte at this address
unfoldable pub item_at : ItemTable → ℕ → Option ℕ
item_at t address = position (row_has t.size address) t.rows

-- an item has 16 or 64 bytes
abbrev pub IsItemSize : ℕ → Type 0
IsItemSize size = (size ≡ 16) ⊎ (size ≡ 64)

-- ---- the items of spans

-- the address behind the last byte of a span
abbrev pub span_end : Span → ℕ
span_end s = s.start + s.bytes

-- the span and the item of this many bytes have a byte in common
abbrev pub overlaps : ℕ → ℕ → Span → Bool
overlaps size address s = nat_lt 0 s.bytes && (nat_lt s.start (address + size) && nat_lt address (span_end s))

-- the span lets the item be written
abbrev pub writes : ℕ → ℕ → Span → Bool
writes size address s = s.writable && overlaps size address s

-- the items that a span overlaps, each as its address divided by the size: those from the item of its first byte to
-- the item of its last one
unfoldable pub span_numbers : ℕ → Span → List ℕ
span_numbers size s =
    if nat_eq s.bytes 0 then []
    else range_with_len (s.start / size) ((span_end s - 1) / size + 1 - s.start / size)

-- a number put into an ascending list, once
unfoldable pub with_number : List ℕ → ℕ → List ℕ
with_number [] n = n ∷ []
with_number (m ∷ ms) n = if nat_eq n m then m ∷ ms else (if nat_lt n m then n ∷ m ∷ ms else m ∷ with_number ms n)

-- the items that some span overlaps, in order, each as its address divided by the size
unfoldable pub item_numbers : ℕ → List Span → List ℕ
item_numbers size spans = fold with_number [] (flat_map (span_numbers size) spans)

-- the item with this number, which is writable where a writable span overlaps it
abbrev pub item_row : ℕ → List Span → ℕ → ItemRow
item_row size spans n = record { address = n * size; writable = list_any (writes size (n * size)) spans }

-- An item of this many bytes at a multiple of them exists where a span overlaps it, and is writable where a writable
-- span overlaps it; items are in order of address.
unfoldable pub items_of : ℕ → List Span → ItemTable
items_of size spans = record { size = size; rows = map (item_row size spans) (item_numbers size spans) }
