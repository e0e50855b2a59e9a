-- The facts of an item's copies, from the rules of a machine.
use Rattle.std.proofs.Common.{◌≡◌, ℕ, ◌≤◌, ◌<◌, true, List, [], length, Option, Some, None, IfSome}
use Rattle.std.specs.List.{AllByRecursion}
use Rattle.order_laws.specs.FlatModel.Flat.{FlatMachine}
use Rattle.order_laws.specs.FlatModel.Legal.{on_item}
use Rattle.order_laws.specs.TreeModel.State.Values.{MachineValue}
use Rattle.order_laws.specs.TreeModel.State.Shape.{depth_of, IsShaped}
use Rattle.order_laws.specs.TreeRules.Bus.Rules.{items_of_machine, IsMachineOk}
use Rattle.order_laws.specs.TreeRules.Order.Moments.{less, before}
use Rattle.order_laws.specs.TreeRules.Order.Places.{LeafAt, leaf_now, leaves_at}
use Rattle.order_laws.specs.TreeRules.Order.Ops.{op_key}
use Rattle.order_laws.specs.TreeRules.Order.Copies.{CopyAt, copies_of}
use Rattle.order_laws.specs.TreeRules.Order.Rules.{commands_past_taken, words_right, claims_after_ops, claims_after_copies, clocks_know, IsTimed, IsCore}
use Rattle.order_lists.proofs.Filters.{each-both, each-weaker, each-swap, each-under}
use Rattle.order_lists.proofs.Ends.{IsTimely}
use Rattle.order_lists.proofs.State.{copies_timely}
use Rattle.order_lists.proofs.CopyWords.{words_of_copies}
use Rattle.order_lists.proofs.ExclusiveClaims.{IsExclusiveAt}
use Rattle.order_lists.proofs.OwnEntry.{IsOwn, own_of_machine}
use Rattle.order_lists.proofs.Latest.{IsPastAllOps, writer_is_past_ops, IsPastEnd, ends_are_past}
use Rattle.order_laws.proofs.Hart.EndsShort.{IsLong, ends_short}
use Rattle.order_laws.proofs.Hart.Facts.{EndsLater, IsBesideExclusive, IsLessThanNow, ItemFacts}

module _ (s : FlatMachine) (m : MachineValue) (shaped : IsShaped m) (ok : IsMachineOk m) (timed : IsTimed m) (order : IsCore s m) where
  late : (x : ℕ) → AllByRecursion EndsLater (copies_of x m)
  late x = each-both (IsTimely []) (IsLong 0) EndsLater one (copies_of x m) (copies_timely m shaped timed (order.each commands_past_taken) x) (ends_short m shaped x) where
    one : (k : CopyAt) → IsTimely [] k → IsLong 0 k → EndsLater k
    one k t l = go k.end t.end l.end where
      go : (o : Option (List ℕ)) → IfSome o (λ e. before k.clock e ≡ true) → IfSome o (λ e. length e ≤ length k.clock) → IfSome o (λ e. (before k.clock e ≡ true) × (length e ≤ length k.clock))
      go None i j = tt
      go (Some e) i j = (i, j)

  -- ---- an item that a leaf has Exclusive

  module _ (x : ℕ) (l : x < items_of_machine m) where
    latest : AllByRecursion (λ a. AllByRecursion (IsLessThanNow (depth_of m) m.items x a) m.ops) (leaves_at m)
    latest = each-weaker (λ a. IsExclusiveAt x a → IsPastAllOps s m x l ok a) (λ a. AllByRecursion (IsLessThanNow (depth_of m) m.items x a) m.ops) one (leaves_at m) (writer_is_past_ops s m x l ok shaped timed (order.copies x l claims_after_ops)) where
      one : (a : LeafAt) → (IsExclusiveAt x a → IsPastAllOps s m x l ok a) → AllByRecursion (IsLessThanNow (depth_of m) m.items x a) m.ops
      one a h = each-under (IsExclusiveAt x a) (λ o. on_item m.items x o.effect ≡ true → less (op_key (depth_of m) o) (leaf_now a) ≡ true) m.ops h

    ends_past : AllByRecursion (λ a. AllByRecursion (λ k. IsPastEnd s m x l ok k a) (copies_of x m)) (leaves_at m)
    ends_past = each-swap (IsPastEnd s m x l ok) (copies_of x m) (leaves_at m) (ends_are_past s m x l ok (order.copies x l claims_after_copies))

    beside : AllByRecursion (λ a. AllByRecursion (IsBesideExclusive x a) (copies_of x m)) (leaves_at m)
    beside = each-both (λ a. AllByRecursion (λ k. IsPastEnd s m x l ok k a) (copies_of x m)) (λ a. IsExclusiveAt x a → AllByRecursion (IsOwn a) (copies_of x m)) (λ a. AllByRecursion (IsBesideExclusive x a) (copies_of x m)) one (leaves_at m) ends_past (own_of_machine m x l ok) where
      one : (a : LeafAt) → AllByRecursion (λ k. IsPastEnd s m x l ok k a) (copies_of x m) → (IsExclusiveAt x a → AllByRecursion (IsOwn a) (copies_of x m)) → AllByRecursion (IsBesideExclusive x a) (copies_of x m)
      one a i j = each-both (λ k. IsPastEnd s m x l ok k a) (λ k. IsExclusiveAt x a → IsOwn a k) (IsBesideExclusive x a) (λ k p o. record { past_end = p; own = o }) (copies_of x m) i (each-under (IsExclusiveAt x a) (IsOwn a) (copies_of x m) j)

    pub facts_from_rules : ItemFacts s m x
    facts_from_rules = record { words = words_of_copies s m x shaped timed (order.each commands_past_taken) (order.copies x l clocks_know) (order.copies x l words_right); late = late x; beside = beside; latest = latest }
