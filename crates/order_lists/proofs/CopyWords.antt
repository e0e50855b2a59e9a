-- The words of each copy of a machine are those after any set of its operations that has each change but those that come after
-- the copy's end: from the rules of time, of commands, of words and of clocks.
use Rattle.std.proofs.Common.{◌≡◌, ℕ, Bool, []}
use Rattle.std.specs.List.{AllByRecursion}
use Rattle.order_lists.specs.DdmTypes.declared.operations.Op.{Op}
use Rattle.order_lists.specs.FlatModel.Flat.{FlatMachine}
use Rattle.order_lists.specs.TreeModel.State.Values.{MachineValue}
use Rattle.order_lists.specs.TreeModel.State.Shape.{depth_of, IsShaped}
use Rattle.tree_rules.specs.Statements.{Holds}
use Rattle.tree_rules.specs.Order.Ops.{words_where}
use Rattle.tree_rules.specs.Order.Copies.{CopyAt, copies_of}
use Rattle.tree_rules.specs.Order.Core.{knows_change}
use Rattle.tree_rules.specs.Order.Rules.{IsTimed, copy_rule, words_right, clocks_know}
use Rattle.tree_rules.proofs.Statements.{each-facts}
use Rattle.order_lists.specs.Commands.{CommandsArePastTaken}
use Rattle.order_lists.proofs.Filters.{each-both}
use Rattle.order_lists.proofs.Values.{Agree}
use Rattle.order_lists.proofs.Words.{is_not_after_end, KnowsChanges, words_known}
use Rattle.order_lists.proofs.Ends.{IsTimely}
use Rattle.order_lists.proofs.Late.{IsLate}
use Rattle.order_lists.proofs.State.{copies_timely, copies_late}

module _ (s : FlatMachine) (m : MachineValue) (x : ℕ) where
  abbrev pub HasWordsOfChanges : CopyAt → Type 0
  HasWordsOfChanges k = (p : Op → Bool) → Agree m.items x p (is_not_after_end (depth_of m) m.items x k) m.ops → k.words ≡ words_where s m.items m.ops x p

  -- what each copy knows
  pub copies_know : IsShaped m → IsTimed m → CommandsArePastTaken m → Holds (copy_rule clocks_know s m x) → AllByRecursion (KnowsChanges (depth_of m) m.items x m.ops) (copies_of x m)
  copies_know shaped timed past clocks =
      each-both _ _ _ (λ k c b. record { known = each-facts (knows_change (depth_of m) m.items x k) m.ops c; clock = b.0.end; below = b.1.below }) (copies_of x m) (each-facts _ (copies_of x m) clocks)
      (each-both _ _ (λ k. IsTimely [] k × IsLate (depth_of m) m.ops [] k) (λ k t l. (t, l)) (copies_of x m) (copies_timely m shaped timed past x) (copies_late m shaped timed past x))

  pub words_of_copies : IsShaped m → IsTimed m → CommandsArePastTaken m → Holds (copy_rule clocks_know s m x) → Holds (copy_rule words_right s m x) → AllByRecursion HasWordsOfChanges (copies_of x m)
  words_of_copies shaped timed past clocks right = each-both _ _ _ (λ k r knows p agree. words_known (depth_of m) m.items x s m.ops k p r knows agree) (copies_of x m) (each-facts _ (copies_of x m) right) (copies_know shaped timed past clocks)
