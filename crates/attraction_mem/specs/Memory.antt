-- What an attraction memory is seen as: the number of its sets, and a map from item to entry.
use Rattle.std.specs.Prelude.{◌≡◌, ℕ, zero, suc, ◌+◌, ◌*◌, ◌%◌, ◌<◌, List, Option, Some, None, IsSomeAnd, option_map, refl}
use Rattle.std.specs.Ordering.{nat_cmp}
use Rattle.std.specs.FinMap.{FinMap}
use Rattle.std.specs.FinMap as map
use Rattle.std.specs.Coded.{Coded, code_by, coded×, coded_ℕ, coded_list}
use Rattle.ddm_types.specs.declared.sizes.LeafState.{LeafState}
use Rattle.ddm_types.specs.declared.sizes.LeafState.TheVariants.{Shared, Exclusive, Waiting, Reading, ReadingWaiting}

-- an entry of an item: the way in which it stands, its state and its words
pub record EntryValue : Type 0 where
  pub way : ℕ
  pub state : LeafState
  pub words : List ℕ

-- the entries stand in the sets of their items: item x in set `x % sets`
pub record MemoryValue : Type 0 where
  pub sets : ℕ
  pub entries : FinMap nat_cmp EntryValue

-- a state as a number
abbrev pub state_number : LeafState → ℕ
state_number Shared = 0
state_number Exclusive = 1
state_number Waiting = 2
state_number Reading = 3
state_number ReadingWaiting = 4

-- the state of a number
abbrev pub numbered_state : ℕ → LeafState
numbered_state zero = Shared
numbered_state (suc zero) = Exclusive
numbered_state (suc (suc zero)) = Waiting
numbered_state (suc (suc (suc zero))) = Reading
numbered_state (suc (suc (suc (suc n)))) = ReadingWaiting

-- a number gives its state back
abbrev pub numbered_back : (s : LeafState) → numbered_state (state_number s) ≡ s
numbered_back Shared = refl
numbered_back Exclusive = refl
numbered_back Waiting = refl
numbered_back Reading = refl
numbered_back ReadingWaiting = refl

-- an entry is stored as its way, the number of its state, and its words
abbrev pub entry_code : Coded EntryValue
entry_code = code_by (ℕ × (ℕ × List ℕ)) (coded× coded_ℕ (coded× coded_ℕ (coded_list coded_ℕ)))
    (λ e. (e.way, (state_number e.state, e.words)))
    (λ p. record { way = p.0; state = numbered_state p.1.0; words = p.1.1 })
    (λ e. λ i. record { way = e.way; state = numbered_back e.state i; words = e.words })

-- a memory is stored as the number of its sets and its entries
abbrev pub memory_code : Coded MemoryValue
memory_code = code_by (ℕ × FinMap nat_cmp EntryValue) (coded× coded_ℕ (map.code coded_ℕ entry_code))
    (λ m. (m.sets, m.entries)) (λ p. record { sets = p.0; entries = p.1 }) (λ _. refl)

-- the entry of an item, if it has one
abbrev pub entry_of : MemoryValue → ℕ → Option EntryValue
entry_of m item = map.get m.entries item

-- the place of an item's entry, if it has one: the ways of a set stand behind those of the sets before it
abbrev pub place_of : ℕ → MemoryValue → ℕ → Option ℕ
place_of ways m item = option_map (λ e. item % m.sets * ways + e.way) (entry_of m item)

-- no item has an entry
abbrev pub empty_memory : ℕ → MemoryValue
empty_memory sets = record { sets = sets; entries = map.empty }

-- the item stands in this way of this set
abbrev pub StandsIn : MemoryValue → ℕ → ℕ → ℕ → Type 0
StandsIn m set way item = (item % m.sets ≡ set) × IsSomeAnd (entry_of m item) (λ e. e.way ≡ way)

-- the item stands in this way of this set, in this state
abbrev pub StandsAs : MemoryValue → ℕ → ℕ → ℕ → LeafState → Type 0
StandsAs m set way item state =
    (item % m.sets ≡ set) × IsSomeAnd (entry_of m item) (λ e. (e.way ≡ way) × (e.state ≡ state))

-- no item stands in this way of this set
abbrev pub IsFree : MemoryValue → ℕ → ℕ → Type 0
IsFree m set way = (item : ℕ) → ¬ StandsIn m set way item

-- an item stands in this way of this set
abbrev pub IsTaken : MemoryValue → ℕ → ℕ → Type 0
IsTaken m set way = (item : ℕ) × StandsIn m set way item

-- the way is free, and each lower one is taken
pub record IsLowestFree (ways : ℕ) (m : MemoryValue) (set way : ℕ) : Type 0 where
  pub exists : way < ways
  pub free : IsFree m set way
  pub lower_taken : (lower : ℕ) → lower < way → IsTaken m set lower

-- all ways of this set are taken
abbrev pub IsFull : ℕ → MemoryValue → ℕ → Type 0
IsFull ways m set = (way : ℕ) → way < ways → IsTaken m set way

-- the memory with this entry of the item, and the other entries as they were
abbrev pub with_entry : MemoryValue → ℕ → ℕ → LeafState → List ℕ → MemoryValue
with_entry m item way state words =
    record m { entries = map.insert m.entries item (record { way = way; state = state; words = words }) }

-- the memory with no entry of the item, and the other entries as they were
abbrev pub without_entry : MemoryValue → ℕ → MemoryValue
without_entry m item = record m { entries = map.remove m.entries item }

-- the memory in which the item's entry, if it has one, is in this state
abbrev pub changed_state : MemoryValue → ℕ → LeafState → Option EntryValue → MemoryValue
changed_state m item state None = m
changed_state m item state (Some e) = with_entry m item e.way state e.words

-- the item's entry is in this state, and all else is as it was
abbrev pub with_state : MemoryValue → ℕ → LeafState → MemoryValue
with_state m item state = changed_state m item state (entry_of m item)

-- the memory in which the item's entry, if it has one, has these words
abbrev pub changed_words : MemoryValue → ℕ → List ℕ → Option EntryValue → MemoryValue
changed_words m item words None = m
changed_words m item words (Some e) = with_entry m item e.way e.state words

-- the item's entry has these words, and all else is as it was
abbrev pub with_words : MemoryValue → ℕ → List ℕ → MemoryValue
with_words m item words = changed_words m item words (entry_of m item)

-- the way and the state of an entry
abbrev pub way_and_state : EntryValue → ℕ × LeafState
way_and_state e = (e.way, e.state)

-- the state and the words of an entry
abbrev pub state_and_words : EntryValue → LeafState × List ℕ
state_and_words e = (e.state, e.words)
