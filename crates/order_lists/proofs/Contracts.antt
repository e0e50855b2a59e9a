-- The crate's theorems as its contracts say them.
use Rattle.std.proofs.Common.{◌≡◌, ℕ, ◌<◌, List, [], ◌∷◌, ◌++◌, Some, sym}
use Rattle.std.specs.List.{AllByRecursion}
use Rattle.order_lists.specs.DdmTypes.declared.operations.Op.{Op}
use Rattle.order_lists.specs.DdmTypes.CodeMap.{CodeWord}
use Rattle.order_lists.specs.DdmTypes.ItemTable.{ItemTable}
use Rattle.order_lists.specs.FlatModel.Flat.{FlatMachine}
use Rattle.order_lists.specs.FlatModel.Legal.{changed_item, HasWholeWords, legal_run}
use Rattle.order_lists.proofs.FlatModel.Insert.{EndsAlike}
use Rattle.order_lists.specs.TreeModel.State.Values.{MachineValue}
use Rattle.order_lists.specs.TreeModel.State.Shape.{IsShaped}
use Rattle.order_lists.specs.TreeModel.Turns.Witness.{sorted_ops}
use Rattle.tree_rules.specs.Statements.{Holds, each_pair}
use Rattle.tree_rules.specs.Bus.Rules.{IsMachineOk, items_of_machine}
use Rattle.tree_rules.specs.Order.Copies.{copies_of}
use Rattle.tree_rules.specs.Order.Places.{leaves_at}
use Rattle.tree_rules.specs.Order.Time.{keys_differ}
use Rattle.tree_rules.specs.Order.Rules.{IsTimed, IsCore, commands_past_taken, words_right, clocks_know, claims_after_ops, claims_after_copies}
use Rattle.tree_rules.proofs.Statements.{facts-each}
use Rattle.order_lists.specs.InKeyOrder.{is_before, InKeyOrder, StandsInOrder, ComesAfter, EndsWith, StaysLegal}
use Rattle.order_lists.specs.Copies.{HasChangesToItsEnd, EndsAfterItsClock, IsAloneWhereExclusive}
use Rattle.order_lists.proofs.Filters.{each-weaker, each-both}
use Rattle.order_lists.proofs.Sorted.{KeysRise, sorted-rise, sorted-permutation, push}
use Rattle.order_lists.proofs.Listed.{IsNew-from_last, KeysDiffer-from_rule, each_pair-before, each_pair-last}
use Rattle.order_lists.proofs.Completing.{StepsFrom, completing}
use Rattle.order_lists.proofs.State.{copies_timely}
use Rattle.order_lists.proofs.CopyWords.{words_of_copies}
use Rattle.order_lists.proofs.Latest.{writer_is_past_ops, writer_is_alone}

rises : (ops : List Op) → KeysRise ops → Holds (each_pair is_before ops)
rises [] h = tt
rises (o ∷ os) h = (facts-each (is_before o) os h.0, rises os h.1)

pub sorted-in_order : (ops : List Op) → Holds (each_pair keys_differ ops) → InKeyOrder ops (sorted_ops ops)
sorted-in_order ops h = record { rises = rises (sorted_ops ops) (sorted-rise ops (KeysDiffer-from_rule ops h)); same = sorted-permutation ops }

pub stands-in_order : (ops : List Op) (o : Op) → Holds (each_pair keys_differ (ops ++ o ∷ [])) → StandsInOrder ops o
stands-in_order ops o h = push ops o (KeysDiffer-from_rule ops (each_pair-before keys_differ ops o h)) (IsNew-from_last ops o (each_pair-last keys_differ ops o h))

pub stays-legal : (code : List CodeWord) (items : ItemTable) (s without : FlatMachine) (ops : List Op) (o : Op) → HasWholeWords items → Holds (each_pair keys_differ (ops ++ o ∷ [])) → AllByRecursion (ComesAfter items o) ops → legal_run code items s (sorted_ops ops) ≡ Some without
    → StaysLegal code items s without ops o
stays-legal code items s without ops o whole differ after run = go (completing code items s without ops o whole (KeysDiffer-from_rule ops (each_pair-before keys_differ ops o differ)) (IsNew-from_last ops o (each_pair-last keys_differ ops o differ)) (each-weaker _ _ (λ p (c : ComesAfter items o p). record { hart = c.hart; item = c.item }) ops after) run) where
  go : StepsFrom code items s without ops o → StaysLegal code items s without ops o
  go f = record {
    behind = f.machine;
    lesser = f.legal;
    hart = f.hart;
    legal = λ stepped step. ends (f.steps stepped step);
  } where
    ends : {stepped : FlatMachine} → EndsAlike code items o.hart (changed_item items o.effect) without stepped s (sorted_ops (ops ++ o ∷ [])) → (end : FlatMachine) × (legal_run code items s (sorted_ops (ops ++ o ∷ [])) ≡ Some end) × EndsWith items o without stepped end
    ends r = (
      r.end,
      r.legal,
      record {
        own = r.joined.hart;
        others = λ g off. sym (r.joined.alike.hart g off);
        stored = λ y at. r.joined.words y at;
        kept = λ y off. sym (r.joined.alike.words y off);
      },
    )

pub copies-known : (s : FlatMachine) (m : MachineValue) (x : ℕ) → IsShaped m → IsTimed m → IsCore s m → x < items_of_machine m → AllByRecursion (HasChangesToItsEnd s m x) (copies_of x m)
copies-known s m x shaped timed core below = words_of_copies s m x shaped timed (core.each commands_past_taken) (core.copies x below clocks_know) (core.copies x below words_right)

pub copies-end_late : (s : FlatMachine) (m : MachineValue) (x : ℕ) → IsShaped m → IsTimed m → IsCore s m → AllByRecursion EndsAfterItsClock (copies_of x m)
copies-end_late s m x shaped timed core = each-weaker _ _ (λ k t. t.end) (copies_of x m) (copies_timely m shaped timed (core.each commands_past_taken) x)

pub exclusive-alone : (s : FlatMachine) (m : MachineValue) (x : ℕ) → IsShaped m → IsMachineOk m → IsTimed m → IsCore s m → x < items_of_machine m → AllByRecursion (IsAloneWhereExclusive m x) (leaves_at m)
exclusive-alone s m x shaped ok timed core below = each-both _ _ _ (λ a ops copies e. record { ops = ops e; copies = copies e }) (leaves_at m) (writer_is_past_ops s m x below ok shaped timed (core.copies x below claims_after_ops)) (writer_is_alone s m x below ok (core.copies x below claims_after_copies))
