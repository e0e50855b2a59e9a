-- An operation that completes in a machine at rest has a greater key than those before it that it conflicts with: one that
-- stores is the latest on its item, and one that reads has a copy without an end, which knows each change.
-- Letters: s is the flat machine at the start, x an item, o an operation before.
use Rattle.std.proofs.Common.{◌≡◌, ℕ, ◌<◌, Bool, true, false, ◌⊎◌, inl, inr, List, [], ◌∷◌, Option, Some, None, refl, sym, ap, subst, ◌∙◌}
use Rattle.std.specs.Prelude.{◌&&◌, ◌||◌, nat_eq}
use Rattle.std.specs.List.{AllByRecursion}
use Rattle.std.proofs.lemmas.Bool.{and_parts, true≢false, eqb-true}
use Rattle.headline.specs.DdmTypes.declared.answers.TurnAnswer.{TurnAnswer}
use Rattle.headline.specs.DdmTypes.declared.operations.Op.{Op}
use Rattle.headline.specs.DdmTypes.declared.turns.Turn.{Turn}
use Rattle.headline.specs.FlatModel.Flat.{FlatMachine, has_reserved}
use Rattle.headline.specs.FlatModel.Legal.{effect_item, on_item, changes_item}
use Rattle.headline.specs.TreeModel.State.Values.{MachineValue, root_of}
use Rattle.headline.specs.TreeModel.State.Shape.{depth_of}
use Rattle.headline.specs.TreeModel.Turns.Tree.{leaf_of_number, has_node}
use Rattle.headline.specs.TreeModel.Turns.Machine.{turn_of}
use Rattle.headline.proofs.TreeModel.TurnChanges.{turn-changes_nothing}
use Rattle.headline.specs.TreeRules.Statements.{Holds, each, there_and, is_so}
use Rattle.headline.proofs.TreeRules.Statements.{each-facts, facts-each}
use Rattle.headline.specs.TreeRules.Bus.Rules.{items_of_machine}
use Rattle.headline.specs.TreeRules.Order.Moments.{less, less_at, moment_length, past, parted, is_under}
use Rattle.headline.specs.TreeRules.Order.Places.{LeafAt, leaf_path, leaf_now, leaves_at}
use Rattle.headline.specs.TreeRules.Order.Copies.{CopyAt, copies_of}
use Rattle.headline.specs.TreeRules.Order.Ops.{op_key, op_path}
use Rattle.headline.specs.TreeRules.Order.Core as core
use Rattle.headline.specs.TreeRules.Order.Rules.{clocks_know}
use Rattle.headline.specs.OrderLaws.EveryTurn.{IsOrderly}
use Rattle.headline.proofs.OrderLists.Filters.{each-weaker, each-both}
use Rattle.headline.proofs.OrderLists.Moments.{less_at-less}
use Rattle.headline.proofs.OrderLaws.Hart.LeafPlaces.{IsOnlyOf}
use Rattle.headline.proofs.OrderLaws.Hart.HartMachine.{Tip, hart_turned}
use Rattle.headline.proofs.OrderLaws.Hart.FromRules.{facts_from_rules}
use Rattle.headline.proofs.OrderLaws.Hart.Ready.{CopyOf, HasItsCopy, entry_copy, less-append}
use Rattle.headline.proofs.OrderLaws.Hart.Seen.{effect_inside, Before, done, now_is, exclusive, OpSeen, ops_seen}
use Rattle.serving_model.specs.Rest.{is_at_rest}
use Rattle.serving_order.specs.Rising.{conflict, has_lesser_key, RestingTurnsRise}
use Rattle.serving_order.proofs.NoEnds.{NoEnd, none-ends}

is-on : (o : Option ℕ) (x : ℕ) → has_reserved o x ≡ true → o ≡ Some x
is-on None x h = absurd (true≢false (sym h))
is-on (Some y) x h = ap Some (eqb-true y x h)

module _ (s : FlatMachine) (hart victim : ℕ) (m : MachineValue) (op : Op) (was : Before s hart victim m op) (rests : is_at_rest m ≡ true) (x : ℕ) (on : on_item m.items x op.effect ≡ true) where
  abbrev place : LeafAt
  place = (done s hart victim m op was).place

  inside : x < items_of_machine m
  unfolding on_item
  inside = effect_inside m.items op.effect x (is-on (effect_item m.items op.effect) x on)

  -- ---- the copy that the leaf reads

  record Resting (k : CopyAt) : Type 0 where
    known : Holds (each (core.knows_change (depth_of m) m.items x k) m.ops)
    none : NoEnd k

  all : AllByRecursion Resting (copies_of x m)
  all =
      each-both (λ k. Holds (each (core.knows_change (depth_of m) m.items x k) m.ops)) NoEnd Resting (λ k known none. record { known = known; none = none }) (copies_of x m)
      (each-facts (λ k. each (core.knows_change (depth_of m) m.items x k) m.ops) (copies_of x m) (was.order.copies x inside clocks_know)) (none-ends x m rests)

  has-copy : HasItsCopy x Resting place
  has-copy = by-tip (was.turned.tip (λ a. HasItsCopy x Resting a × IsOnlyOf place a) (each-both _ _ (λ a. HasItsCopy x Resting a × IsOnlyOf place a) (λ a h k. (h, k)) (leaves_at m) (entry_copy x m Resting all) (done s hart victim m op was).new.only)) where
    by-tip : Tip hart victim m (λ a. HasItsCopy x Resting a × IsOnlyOf place a) was.turned.at → HasItsCopy x Resting place
    by-tip t = subst (HasItsCopy x Resting) (t.fact.1 (t.takes.number ∙ sym (done s hart victim m op was).takes.number)) t.fact.0

  copy : CopyOf Resting place ((done s hart victim m op was).turned.has x on).entry
  copy = has-copy ((done s hart victim m op was).turned.has x on).entry ((done s hart victim m op was).turned.has x on).at ((done s hart victim m op was).turned.has x on).held

  -- ---- one operation before

  module _ (o : Op) (seen : OpSeen s hart victim m op was o) (known : Holds (core.knows_change (depth_of m) m.items x copy.copy o)) where
    abbrev Less : Type 0
    Less = less (op_key (depth_of m) o) (op_key (depth_of m) op) ≡ true

    by-rule : (less_at (moment_length (parted copy.copy.place (op_path (depth_of m) o))) (op_key (depth_of m) o) copy.copy.clock ≡ true) ⊎ Holds (core.ended_before copy.copy (op_key (depth_of m) o)) → Less
    by-rule (inl h) = ap (less (op_key (depth_of m) o)) (now_is s hart victim m op was ∙ copy.now) ∙ less-append (op_key (depth_of m) o) copy.copy.clock copy.tail (less_at-less (moment_length (parted copy.copy.place (op_path (depth_of m) o))) (op_key (depth_of m) o) copy.copy.clock h)
    by-rule (inr h) = absurd (true≢false (sym (subst (λ e. Holds (there_and (λ l. is_so (past l (op_key (depth_of m) o))) e)) copy.fact.none h)))

    by-place : changes_item m.items x o.effect ≡ true → (u : Bool) → is_under copy.copy.place (op_path (depth_of m) o) ≡ u → Less
    by-place changes true u = seen.below (ap (λ p. is_under p (op_path (depth_of m) o)) (sym copy.place) ∙ u)
    by-place changes false u = by-rule (known changes u)

    first-changes : (a b : Bool) → b ≡ false → (a || b) ≡ true → a ≡ true
    first-changes true b other e = refl
    first-changes false b other e = sym other ∙ e

    by-change : (b : Bool) → changes_item m.items x op.effect ≡ b → on_item m.items x o.effect ≡ true → (changes_item m.items x o.effect || changes_item m.items x op.effect) ≡ true → Less
    by-change true c here either = ap (less (op_key (depth_of m) o)) (now_is s hart victim m op was) ∙ seen.latest x inside (exclusive s hart victim m op was x c) here
    by-change false c here either = by-place (first-changes (changes_item m.items x o.effect) (changes_item m.items x op.effect) c either) (is_under copy.copy.place (op_path (depth_of m) o)) refl

    lesser : Holds (has_lesser_key m.items x o op)
    lesser = λ both.
        let first = and_parts (on_item m.items x o.effect) _ both in
        let later = and_parts (on_item m.items x op.effect) _ first.1 in
        seen.same ∙ by-change (changes_item m.items x op.effect) refl first.0 later.1

  lesser-all : AllByRecursion (λ o. Holds (has_lesser_key m.items x o op)) m.ops
  lesser-all = each-both (OpSeen s hart victim m op was) (λ o. Holds (core.knows_change (depth_of m) m.items x copy.copy o)) (λ o. Holds (has_lesser_key m.items x o op)) lesser m.ops (ops_seen s hart victim m op was) (each-facts (core.knows_change (depth_of m) m.items x copy.copy) m.ops copy.fact.known)

-- an operation on another item conflicts with none
off : (m : MachineValue) (op : Op) (x : ℕ) → on_item m.items x op.effect ≡ false → (ops : List Op) → AllByRecursion (λ o. Holds (has_lesser_key m.items x o op)) ops
off m op x none [] = tt
off m op x none (o ∷ ops) = ((λ both. absurd (true≢false (sym (and_parts (on_item m.items x op.effect) _ (and_parts (on_item m.items x o.effect) _ both).1).0 ∙ none))), off m op x none ops)

pub turns-rise : RestingTurnsRise
turns-rise s m hart victim op orderly rests retired x = facts-each (λ o. has_lesser_key m.items x o op) m.ops (by-node (has_node (leaf_of_number hart) (root_of m)) refl) where
  by-item : Before s hart victim m op → (b : Bool) → on_item m.items x op.effect ≡ b → AllByRecursion (λ o. Holds (has_lesser_key m.items x o op)) m.ops
  by-item was true on = lesser-all s hart victim m op was rests x on
  by-item was false none = off m op x none m.ops

  by-node : (b : Bool) → has_node (leaf_of_number hart) (root_of m) ≡ b → AllByRecursion (λ o. Holds (has_lesser_key m.items x o op)) m.ops
  by-node true there =
      by-item (record { shaped = orderly.shaped; ok = orderly.buses; timed = orderly.timed; order = orderly.core; facts = λ y l. facts_from_rules s m orderly.shaped orderly.buses orderly.timed orderly.core y l; turned = hart_turned hart victim m orderly.buses there; retired = retired })
      (on_item m.items x op.effect) refl
  by-node false absent = absurd (let none : TurnAnswer.Empty ≡ TurnAnswer.Retired op = sym (ap (λ o. o.answer) (turn-changes_nothing (Turn.Hart hart victim) m absent)) ∙ retired in let wrong : ⊥ = cc in wrong)
