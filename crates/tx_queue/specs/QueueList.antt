-- What a list of transactions is seen as, and what its table of counts says.
use Rattle.std.specs.Prelude.{◌≡◌, ℕ, ◌<◌, ◌≤◌, ◌^◌, List, [], ◌∷◌, length, count_by, slice_index_or, refl}
use Rattle.tx_queue.specs.TreeModel.State.Lists.{names_item}
use Rattle.std.specs.Coded.{Coded, code_by, coded×, coded_list, coded_ℕ}

-- the entries from the first to the last, how many there may be, and the items that they may name: those below `items`
pub record QueueList (X : Type 0) : Type 0 where
  pub list : List X
  pub capacity : ℕ
  pub items : ℕ

module _ {X : Type 0} where
  abbrev pub queue_code : Coded X → Coded (QueueList X)
  queue_code c =
      code_by (List X × (ℕ × ℕ)) (coded× (coded_list c) (coded× coded_ℕ coded_ℕ))
      (λ q. (q.list, (q.capacity, q.items))) (λ p. record { list = p.0; capacity = p.1.0; items = p.1.1 })
      (λ _. refl)

  -- how many entries name the item
  abbrev pub count_naming : (X → ℕ) → ℕ → List X → ℕ
  count_naming named x list = count_by (names_item named x) list

  -- each entry names an item below n
  abbrev pub AllBelow : (X → ℕ) → ℕ → List X → Type 0
  AllBelow named n [] = Unit {0}
  AllBelow named n (e ∷ es) = (named e < n) × AllBelow named n es

-- the table has for each item the number of entries that name it, and each entry names an item of the table
pub record IsCounted {X : Type 0} (named : X → ℕ) (counts : List ℕ) (list : List X) (capacity : ℕ) : Type 0 where
  pub small : capacity < 2 ^ 32
  pub within : length list ≤ capacity
  pub below : AllBelow named (length counts) list
  pub counted : (x : ℕ) → x < length counts → slice_index_or counts x 0 ≡ count_naming named x list
