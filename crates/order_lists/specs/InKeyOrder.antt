-- What is said of the operations in the order of their keys.
-- To be believed with the laws: it is what they speak of.
use Rattle.std.specs.Prelude.{◌≡◌, ◌≢◌, ℕ, true, List, [], ◌∷◌, ◌++◌, filter, Some}
use Rattle.std.specs.List.Sorted.{IsPermutation}
use Rattle.order_lists.specs.DdmTypes.declared.operations.Op.{Op}
use Rattle.order_lists.specs.DdmTypes.Keys.{key_less}
use Rattle.order_lists.specs.DdmTypes.CodeMap.{CodeWord}
use Rattle.order_lists.specs.DdmTypes.ItemTable.{ItemTable}
use Rattle.order_lists.specs.FlatModel.Flat.{FlatMachine, flat_hart, item_words}
use Rattle.order_lists.specs.FlatModel.Legal.{is_of, changed_item, effect_item, legal_step, legal_run}
use Rattle.order_lists.specs.TreeModel.Turns.Witness.{sorted_ops}
use Rattle.tree_rules.specs.Statements.{Statement, Holds, is_so, each_pair}

-- ---- the sorted list

abbrev pub is_before : Op → Op → Statement
is_before o p = is_so (key_less o.key p.key)

-- the sorted list has the same operations, and an operation's key is less than that of each behind it
pub record InKeyOrder (ops sorted : List Op) : Type 0 where
  pub rises : Holds (each_pair is_before sorted)
  pub same : IsPermutation ops sorted

-- one more operation stands behind the lesser ones and before the greater ones
abbrev pub StandsInOrder : List Op → Op → Type 0
StandsInOrder ops o =
    sorted_ops (ops ++ o ∷ [])
    ≡ filter (λ p. key_less p.key o.key) (sorted_ops ops) ++ o
    ∷ filter (λ p. key_less o.key p.key) (sorted_ops ops)

-- ---- one more operation, in its place among those of a legal list

-- it comes after those of its hart, and after those on the item that it changes
pub record ComesAfter (items : ItemTable) (o p : Op) : Type 0 where
  pub hart : is_of o.hart p ≡ true → key_less p.key o.key ≡ true
  pub item : (y : ℕ) → changed_item items o.effect ≡ Some y → effect_item items p.effect ≡ Some y → key_less p.key o.key ≡ true

-- its hart ends as after its step, and so do the words of the item that it changes; other harts and words end as without it
pub record EndsWith (items : ItemTable) (o : Op) (without stepped end : FlatMachine) : Type 0 where
  pub own : (flat_hart end o.hart).hart ≡ (flat_hart stepped o.hart).hart
  pub others : (g : ℕ) → g ≢ o.hart → (flat_hart end g).hart ≡ (flat_hart without g).hart
  pub stored : (y : ℕ) → changed_item items o.effect ≡ Some y → item_words end y ≡ item_words stepped y
  pub kept : (y : ℕ) → Some y ≢ changed_item items o.effect → item_words end y ≡ item_words without y

-- where it is legal behind the lesser ones the sorted list with it is legal
pub record StaysLegal (code : List CodeWord) (items : ItemTable) (s without : FlatMachine) (ops : List Op) (o : Op) : Type 0 where
  -- the machine behind the lesser ones, where its hart is as at the end
  pub behind : FlatMachine
  pub lesser : legal_run code items s (filter (λ p. key_less p.key o.key) (sorted_ops ops)) ≡ Some behind
  pub hart : (flat_hart without o.hart).hart ≡ (flat_hart behind o.hart).hart
  pub legal :
      (stepped : FlatMachine) → legal_step code items behind o ≡ Some stepped →
      (end : FlatMachine)
      × (legal_run code items s (sorted_ops (ops ++ o ∷ [])) ≡ Some end)
      × EndsWith items o without stepped end
