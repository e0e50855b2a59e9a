-- What is said of the copies of an item in one state of a machine.
-- To be believed with the laws: it is what they speak of.
use Rattle.std.specs.Prelude.{◌≡◌, ℕ, Bool, true, not, ◌⊎◌, None, IfSome}
use Rattle.std.specs.List.{AllByRecursion}
use Rattle.order_lists.specs.DdmTypes.declared.operations.Op.{Op}
use Rattle.order_lists.specs.FlatModel.Flat.{FlatMachine}
use Rattle.order_lists.specs.FlatModel.Legal.{on_item, changes_item}
use Rattle.order_lists.specs.TreeModel.State.Values.{MachineValue}
use Rattle.order_lists.specs.TreeModel.State.Shape.{depth_of}
use Rattle.order_lists.specs.TreeModel.State.States.{is_exclusive}
use Rattle.order_lists.specs.TreeModel.State.Leaf.{leaf_hold}
use Rattle.tree_rules.specs.Statements.{Holds, test_of}
use Rattle.tree_rules.specs.Order.Moments.{less, before}
use Rattle.tree_rules.specs.Order.Ops.{op_key, words_where}
use Rattle.tree_rules.specs.Order.Copies.{CopyAt, copies_of}
use Rattle.tree_rules.specs.Order.Places.{LeafAt, leaf_path, leaf_now}
use Rattle.tree_rules.specs.Order.Core.{ended_before}

-- the copy has ended when the operation completes
abbrev pub ends_before_op : MachineValue → CopyAt → Op → Bool
ends_before_op m k o = test_of (ended_before k (op_key (depth_of m) o))

-- the copy's words are those after any set of operations that has each change of the item but those after the copy's end
abbrev pub HasChangesToItsEnd : FlatMachine → MachineValue → ℕ → CopyAt → Type 0
HasChangesToItsEnd s m x k =
    (chosen : Op → Bool) →
    AllByRecursion (λ o. changes_item m.items x o.effect ≡ true → chosen o ≡ not (ends_before_op m k o)) m.ops →
    k.words ≡ words_where s m.items m.ops x chosen

-- the copy's end comes after its clock
abbrev pub EndsAfterItsClock : CopyAt → Type 0
EndsAfterItsClock k = IfSome k.end (λ e. before k.clock e ≡ true)

-- a copy is the leaf's own entry, which has no end, or ended before the leaf's present key
abbrev pub IsOwnOrEnded : LeafAt → CopyAt → Type 0
IsOwnOrEnded a k = ((k.place ≡ leaf_path a) × (k.end ≡ None)) ⊎ Holds (ended_before k (leaf_now a))

-- what follows where a leaf holds an item Exclusive: each operation on it is less than the leaf's present key, and the leaf's
-- entry is the only copy that goes on
pub record IsAloneWith (m : MachineValue) (x : ℕ) (a : LeafAt) : Type 0 where
  pub ops : AllByRecursion (λ o. on_item m.items x o.effect ≡ true → less (op_key (depth_of m) o) (leaf_now a) ≡ true) m.ops
  pub copies : AllByRecursion (IsOwnOrEnded a) (copies_of x m)

abbrev pub IsAloneWhereExclusive : MachineValue → ℕ → LeafAt → Type 0
IsAloneWhereExclusive m x a = is_exclusive (leaf_hold x a.leaf) ≡ true → IsAloneWith m x a
