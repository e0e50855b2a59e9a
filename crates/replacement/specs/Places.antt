-- How entries in order of arrival are kept: each in a place of its own, and the numbers of their places in order.
use Rattle.std.specs.Prelude.{◌≡◌, ℕ, ◌+◌, ◌≤◌, List, length, count_by, filter_map, nat_eq, nat_lt, slice_get, if◌then◌else◌, refl}
use Rattle.std.specs.Coded.{Coded, code_by, coded×, coded_list, coded_ℕ}

-- the entries from the first that arrived on, and how many there may be
pub record ArrivedList (X : Type 0) : Type 0 where
  pub list : List X
  pub capacity : ℕ

module _ {X : Type 0} where
  abbrev pub arrived_code : Coded X → Coded (ArrivedList X)
  arrived_code c =
      code_by (List X × ℕ) (coded× (coded_list c) coded_ℕ) (λ a. (a.list, a.capacity))
      (λ p. record { list = p.0; capacity = p.1 }) (λ _. refl)

  -- the entries of the places with these numbers
  abbrev pub in_order : List X → List ℕ → List X
  in_order places order = filter_map (slice_get places) order

-- how often the number stands in the list
abbrev pub times : ℕ → List ℕ → ℕ
times p list = count_by (nat_eq p) list

-- Each place is either taken or free: its number stands once, in the order or among the free ones, and no other number
-- does. Each of the two lists has memory for all places.
pub record IsPlaced (places : ℕ) (order free : List ℕ) (order_memory free_memory : ℕ) : Type 0 where
  pub once : (p : ℕ) → times p order + times p free ≡ (if nat_lt p places then 1 else 0)
  pub each : length order + length free ≡ places
  pub order_fits : places ≤ order_memory
  pub free_fits : places ≤ free_memory
