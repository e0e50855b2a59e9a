-- What the rules before a turn say of an item's copies: their words, their ends, and what a leaf that has it Exclusive knows.
use Rattle.std.proofs.Common.{◌≡◌, ℕ, ◌≤◌, true, false, length, None, IfSome}
use Rattle.std.specs.List.{AllByRecursion}
use Rattle.order_laws.specs.DdmTypes.declared.operations.Op.{Op}
use Rattle.order_laws.specs.DdmTypes.ItemTable.{ItemTable}
use Rattle.order_laws.specs.FlatModel.Flat.{FlatMachine}
use Rattle.order_laws.specs.FlatModel.Legal.{on_item}
use Rattle.order_laws.specs.TreeModel.State.Values.{MachineValue}
use Rattle.order_laws.specs.TreeModel.State.Shape.{depth_of}
use Rattle.order_laws.specs.TreeRules.Statements.{Holds}
use Rattle.order_laws.specs.TreeRules.Order.Moments.{less, before, is_under}
use Rattle.order_laws.specs.TreeRules.Order.Places.{LeafAt, leaf_path, leaf_now, leaves_at}
use Rattle.order_laws.specs.TreeRules.Order.Copies.{CopyAt, copies_of}
use Rattle.order_laws.specs.TreeRules.Order.Ops.{op_key}
use Rattle.order_laws.specs.TreeRules.Order.Core.{ended_before}
use Rattle.order_lists.proofs.CopyWords.{HasWordsOfChanges}
use Rattle.order_lists.proofs.ExclusiveClaims.{IsExclusiveAt}

-- an end comes after the copy's clock, and is no longer
abbrev pub EndsLater : CopyAt → Type 0
EndsLater k = IfSome k.end (λ e. (before k.clock e ≡ true) × (length e ≤ length k.clock))

-- a copy, as a leaf that has the item Exclusive knows it: it ended before the leaf's `now`, or it is the leaf's own and has no end
pub record IsBesideExclusive (x : ℕ) (a : LeafAt) (k : CopyAt) : Type 0 where
  pub past_end : IsExclusiveAt x a → is_under (leaf_path a) k.place ≡ false → is_under k.place (leaf_path a) ≡ false → Holds (ended_before k (leaf_now a))
  pub own : IsExclusiveAt x a → is_under k.place (leaf_path a) ≡ true → (k.place ≡ leaf_path a) × (k.end ≡ None)

-- an operation on the item is less than the `now` of a leaf that has it Exclusive
abbrev pub IsLessThanNow : ℕ → ItemTable → ℕ → LeafAt → Op → Type 0
IsLessThanNow depth items x a o = IsExclusiveAt x a → on_item items x o.effect ≡ true → less (op_key depth o) (leaf_now a) ≡ true

pub record ItemFacts (s : FlatMachine) (m : MachineValue) (x : ℕ) : Type 0 where
  pub words : AllByRecursion (HasWordsOfChanges s m x) (copies_of x m)
  pub late : AllByRecursion EndsLater (copies_of x m)
  pub beside : AllByRecursion (λ a. AllByRecursion (IsBesideExclusive x a) (copies_of x m)) (leaves_at m)
  pub latest : AllByRecursion (λ a. AllByRecursion (IsLessThanNow (depth_of m) m.items x a) m.ops) (leaves_at m)
