-- A span without bytes has no part in any item.
-- Letters: size is that of an item, s a span, ss spans, a an address, n a number of an item.
use Rattle.std.proofs.Common.{◌≡◌, ℕ, ◌+◌, ◌*◌, Bool, true, false, List, [], ◌∷◌, ◌++◌, map, filter, refl, sym, ap, ◌∙◌, arith}
use Rattle.std.specs.Prelude.{◌||◌, ◌&&◌, nat_lt, if◌then◌else◌}
use Rattle.std.proofs.lemmas.Bool.{ltb-false}
use Rattle.std.specs.List.{flat_map, fold, list_any}
use Rattle.run_engine.specs.DdmTypes.declared.sizes.Span.{Span}
use Rattle.run_engine.specs.DdmTypes.ItemTable.{ItemRow, item_numbers, item_row, items_of, overlaps, span_end, span_numbers, with_number, writes}
use Rattle.run_engine.specs.Build.{has_bytes}

module _ (size : ℕ) where
  no-numbers : (s : Span) → has_bytes s ≡ false → span_numbers size s ≡ []
  unfolding span_numbers
  no-numbers s e =
      let none : s.bytes ≡ 0 = omega (arith, ltb-false 0 s.bytes e) in
      rw none refl

  numbers-kept : (s : Span) (ss : List Span) (b : Bool) → has_bytes s ≡ b → flat_map (span_numbers size) (filter has_bytes ss) ≡ flat_map (span_numbers size) ss → flat_map (span_numbers size) (filter has_bytes (s ∷ ss)) ≡ flat_map (span_numbers size) (s ∷ ss)
  numbers-kept s ss true e rest = rw e (ap (λ ns. span_numbers size s ++ ns) rest)
  numbers-kept s ss false e rest = rw (e, no-numbers s e) rest

  filled-numbers : (ss : List Span) → flat_map (span_numbers size) (filter has_bytes ss) ≡ flat_map (span_numbers size) ss
  filled-numbers [] = refl
  filled-numbers (s ∷ ss) = numbers-kept s ss (has_bytes s) refl (filled-numbers ss)

  writes-none : (a : ℕ) (s : Span) → has_bytes s ≡ false → writes size a s ≡ false
  writes-none a s e = by s.writable (ap (λ b. b && (nat_lt s.start (a + size) && nat_lt a (span_end s))) e)
    where
      by : (w : Bool) → overlaps size a s ≡ false → (w && overlaps size a s) ≡ false
      by true none = none
      by false none = refl

  writes-kept : (a : ℕ) (s : Span) (ss : List Span) (b : Bool) → has_bytes s ≡ b → list_any (writes size a) (filter has_bytes ss) ≡ list_any (writes size a) ss → list_any (writes size a) (filter has_bytes (s ∷ ss)) ≡ list_any (writes size a) (s ∷ ss)
  writes-kept a s ss true e rest =
      let left : list_any (writes size a) (filter has_bytes (s ∷ ss)) ≡ list_any (writes size a) (s ∷ filter has_bytes ss) = ap (λ (b : Bool). list_any (writes size a) (if b then s ∷ filter has_bytes ss else filter has_bytes ss)) e in
      left ∙ ap (λ b. writes size a s || b) rest
  writes-kept a s ss false e rest =
      let left : list_any (writes size a) (filter has_bytes (s ∷ ss)) ≡ list_any (writes size a) (filter has_bytes ss) = rw e refl in
      let right : list_any (writes size a) (s ∷ ss) ≡ list_any (writes size a) ss = ap (λ b. b || list_any (writes size a) ss) (writes-none a s e) in
      left ∙ rest ∙ sym right

  filled-writes : (a : ℕ) (ss : List Span) → list_any (writes size a) (filter has_bytes ss) ≡ list_any (writes size a) ss
  filled-writes a [] = refl
  filled-writes a (s ∷ ss) = writes-kept a s ss (has_bytes s) refl (filled-writes a ss)

  row-kept : (ss : List Span) (n : ℕ) → item_row size (filter has_bytes ss) n ≡ item_row size ss n
  row-kept ss n = ap (λ (w : Bool). record { address = n * size; writable = w }) (filled-writes (n * size) ss)

  rows-kept : (ss : List Span) (ns : List ℕ) → map (item_row size (filter has_bytes ss)) ns ≡ map (item_row size ss) ns
  rows-kept ss [] = refl
  rows-kept ss (n ∷ ns) = ap (λ (r : ItemRow). r ∷ map (item_row size (filter has_bytes ss)) ns) (row-kept ss n) ∙ ap (λ rs. item_row size ss n ∷ rs) (rows-kept ss ns)

  pub filled-items : (ss : List Span) → items_of size (filter has_bytes ss) ≡ items_of size ss
  unfolding items_of item_numbers
  filled-items ss = ap (λ (rows : List ItemRow). record { size = size; rows = rows }) (ap (λ ns. map (item_row size (filter has_bytes ss)) (fold with_number [] ns)) (filled-numbers ss) ∙ rows-kept ss (fold with_number [] (flat_map (span_numbers size) ss)))
