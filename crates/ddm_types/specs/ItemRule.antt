-- The rule by which spans make items, in the words of bytes and addresses.
use Rattle.std.specs.Prelude.{◌≡◌, ◌↔◌, ℕ, ◌+◌, ◌%◌, ◌<◌, ◌≤◌, List, All, AllPairs, Any, IsTrue}
use Rattle.ddm_types.specs.declared.sizes.Span.{Span}
use Rattle.ddm_types.specs.ItemTable.{ItemTable, span_end}

-- the span and the item of this many bytes at this address have this byte
pub record IsByteOfBoth (size address : ℕ) (s : Span) (byte : ℕ) : Type 0 where
  pub in_item : (address ≤ byte) × (byte < address + size)
  pub in_span : (s.start ≤ byte) × (byte < span_end s)

-- they have some byte in common
abbrev pub Overlaps : ℕ → ℕ → Span → Type 0
Overlaps size address s = (byte : ℕ) × IsByteOfBoth size address s byte

-- An item of `size` bytes at a multiple of `size` exists where a span overlaps it, and is writable where a writable
-- span overlaps it; items are in order of address.
pub record AreItemsOf (size : ℕ) (spans : List Span) (t : ItemTable) : Type 0 where
  pub sized : t.size ≡ size
  pub at_multiples : All (λ row. row.address % size ≡ 0) t.rows
  pub exist : (address : ℕ) → address % size ≡ 0 → Any (λ row. row.address ≡ address) t.rows ↔ Any (Overlaps size address) spans
  pub writable : All (λ row. IsTrue row.writable ↔ Any (λ s. IsTrue s.writable × Overlaps size row.address s) spans) t.rows
  pub in_order : AllPairs (λ row next. row.address < next.address) t.rows
