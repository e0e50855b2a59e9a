-- What a reader is told of a machine that keeps the rules of order: its operations in key order are one run of the flat machine,
-- and harts, counts, halts and found copies are that run's.
use Rattle.std.proofs.Common.{◌≡◌, ℕ, ◌<◌, Bool, true, false, List, [], ◌∷◌, Option, Some, None, Ok, Err, filter, is_some, refl, sym, ap, subst, ◌∙◌, arith}
use Rattle.std.specs.Prelude.{unwrap_or, IfSome}
use Rattle.std.specs.List.{AllByRecursion}
use Rattle.std.proofs.lemmas.Bool.{eqb-true}
use Rattle.headline.specs.DdmTypes.declared.operations.HaltCause.{HaltCause}
use Rattle.headline.specs.DdmTypes.declared.operations.HaltCause.TheVariants.{Exit, Illegal, Breakpoint, UnknownCall, MisalignedTarget, FetchOutside, MisalignedAccess, LoadOutside, StoreOutside}
use Rattle.headline.specs.DdmTypes.declared.operations.Op.{Op}
use Rattle.headline.specs.FlatModel.Flat.{FlatMachine, FlatStepped, item_words, flat_step}
use Rattle.headline.specs.FlatModel.Legal.{words_after, legal_run}
use Rattle.headline.proofs.FlatModel.Storing.{words_is}
use Rattle.headline.specs.TreeModel.declared.CopyPlace.{CopyPlace}
use Rattle.headline.specs.TreeModel.State.Values.{MachineValue}
use Rattle.headline.specs.TreeModel.State.Shape.{IsShaped}
use Rattle.headline.specs.TreeModel.Turns.Found.{found_words, found_place, found_of, found_copy}
use Rattle.headline.specs.TreeModel.Turns.Witness.{sorted_ops}
use Rattle.headline.specs.TreeRules.Statements.{Holds, if_there}
use Rattle.headline.proofs.TreeRules.Statements.{each-facts}
use Rattle.headline.specs.TreeRules.Bus.Rules.{items_of_machine, IsMachineOk}
use Rattle.headline.specs.TreeRules.Order.Ops.{words_where, flat_now}
use Rattle.headline.specs.TreeRules.Order.Places.{LeafAt, leaves_at}
use Rattle.headline.specs.TreeRules.Order.Core.{any_op, same_halt, halts_with, halts_next, has_flat_hart, has_counted, halts_as_flat}
use Rattle.headline.specs.TreeRules.Order.Rules.{IsTimed, keys_differ, IsCore, legal, harts_follow, counts_follow, halts_follow, own_order, words_right}
use Rattle.headline.specs.TreeRules.Witness.{IsHartOf, HasCurrentCopy, IsWitnessed}
use Rattle.headline.proofs.BusLaws.FoundExists.{found_copy-exists}
use Rattle.headline.proofs.OrderLists.Filters.{filter-all, each-both}
use Rattle.headline.proofs.OrderLists.OwnOrder.{own}
use Rattle.headline.proofs.OrderLists.Found.{found_is_current}
use Rattle.order_laws.proofs.Hart.Halting.{flat_is}
use Rattle.order_laws.proofs.Hart.Completed.{whole_words}
use Rattle.headline.proofs.Leaves.{each_leaf}

-- ---- halts

same_halt-is : (a b : HaltCause) → same_halt a b ≡ true → a ≡ b
same_halt-is (Exit a) (Exit b) h = grind arith
same_halt-is (Illegal a) (Illegal b) h = grind arith
same_halt-is Breakpoint Breakpoint h = refl
same_halt-is (UnknownCall a) (UnknownCall b) h = grind arith
same_halt-is (MisalignedTarget a) (MisalignedTarget b) h = grind arith
same_halt-is (FetchOutside a) (FetchOutside b) h = grind arith
same_halt-is (MisalignedAccess a) (MisalignedAccess b) h = grind arith
same_halt-is (LoadOutside a) (LoadOutside b) h = grind arith
same_halt-is (StoreOutside a) (StoreOutside b) h = grind arith
same_halt-is _ _ h = grind arith

halt-is : (cause : HaltCause) (r : FlatStepped) → halts_with cause r ≡ true → r ≡ Err cause
halt-is cause (Ok x) h = absurd (let wrong : ⊥ = cc in wrong)
halt-is cause (Err other) h = ap (λ c. Err c) (same_halt-is other cause h)

-- ---- lists

all-pass : (ops : List Op) → filter any_op ops ≡ ops
all-pass ops = filter-all any_op ops (each ops) where
  each : (os : List Op) → AllByRecursion (λ o. any_op o ≡ true) os
  each [] = tt
  each (o ∷ os) = (refl, each os)

module _ (s : FlatMachine) (m : MachineValue) (shaped : IsShaped m) (ok : IsMachineOk m) (timed : IsTimed m) (core : IsCore s m) where
  -- the witness runs, to this machine
  pub run-is : legal_run m.code m.items s (sorted_ops m.ops) ≡ Some (flat_now s m)
  run-is = go (legal_run m.code m.items s (sorted_ops m.ops)) (core.each legal) where
    go : (o : Option FlatMachine) → is_some o ≡ true → o ≡ Some (unwrap_or o s)
    go None e = absurd (let wrong : ⊥ = cc in wrong)
    go (Some z) e = refl

  -- ---- harts

  hart-is : (a : LeafAt) → Holds (has_flat_hart (flat_now s m) a) → Holds (has_counted m.ops a) → Holds (halts_as_flat m.code m.items (flat_now s m) a) → IsHartOf s m a.leaf
  hart-is a runs counted halts = record { hart = flat_is a.leaf.hart _ runs; done = eqb-true _ _ counted; halt = by_halt a.leaf.hart.halt halts } where
    by_halt : (o : Option HaltCause) → Holds (if_there (halts_next m.code m.items (flat_now s m) a.leaf.number) o) → IfSome o (λ cause. (sc_ok : Bool) → flat_step m.code m.items (flat_now s m) a.leaf.number sc_ok ≡ Err cause)
    by_halt None h = tt
    by_halt (Some cause) h = by_ok where
      by_ok : (sc_ok : Bool) → flat_step m.code m.items (flat_now s m) a.leaf.number sc_ok ≡ Err cause
      by_ok true = halt-is cause _ h.0
      by_ok false = halt-is cause _ h.1

  harts-are : AllByRecursion (λ (a : LeafAt). IsHartOf s m a.leaf) (leaves_at m)
  harts-are =
      each-both _ (λ a. Holds (has_counted m.ops a) × Holds (halts_as_flat m.code m.items (flat_now s m) a)) _ (λ a runs h. hart-is a runs h.0 h.1) (leaves_at m) (each-facts _ (leaves_at m) (core.each harts_follow))
      (each-both _ _ (λ a. Holds (has_counted m.ops a) × Holds (halts_as_flat m.code m.items (flat_now s m) a)) (λ a h k. (h, k)) (leaves_at m) (each-facts _ (leaves_at m) (core.each counts_follow)) (each-facts _ (leaves_at m) (core.each halts_follow)))

  -- ---- found copies

  current : (x : ℕ) → words_where s m.items m.ops x any_op ≡ item_words (flat_now s m) x
  current x = ap (λ ops. words_after m.items x (item_words s x) ops) (all-pass (sorted_ops m.ops)) ∙ sym (words_is m.code m.items s (sorted_ops m.ops) (flat_now s m) x (whole_words m shaped) run-is)

  copy-is : (x : ℕ) → x < items_of_machine m → HasCurrentCopy s m x
  unfolding found_copy
  copy-is x below = go (found_place x m) refl where
    words : found_words x m ≡ Some (item_words (flat_now s m) x)
    words = found_is_current s m x ok below (core.copies x below words_right) ∙ ap (λ ws. Some ws) (current x)

    there : is_some (found_copy x m) ≡ true
    there = found_copy-exists m ok x below

    go : (o : Option CopyPlace) → found_place x m ≡ o → HasCurrentCopy s m x
    go None e = absurd (let some : is_some (found_of (found_place x m) (found_words x m)) ≡ true = there in let none : is_some (found_of None (found_words x m)) ≡ true = subst (λ p. is_some (found_of p (found_words x m)) ≡ true) e some in let wrong : ⊥ = cc in wrong)
    go (Some place) e = record { found = record { place = place; words = item_words (flat_now s m) x }; is = ap (λ p. found_of p (found_words x m)) e ∙ ap (found_of (Some place)) words; words = refl }

  pub witnessed : IsWitnessed s m
  witnessed = record {
    keys = timed.each keys_differ;
    legal = core.each legal;
    own_order = λ h. own h m.ops (core.each own_order);
    harts = each_leaf m (IsHartOf s m) harts-are;
    copies = copy-is;
  }
