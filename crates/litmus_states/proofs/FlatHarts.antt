-- The flat machine keeps its harts: after a legal run there are as many.
-- Letters: s and n are flat machines, h a hart's number, c a change.
use Rattle.std.proofs.Common.{◌≡◌, ℕ, Bool, true, false, cond, nat_eq, List, [], ◌∷◌, length, Option, Some, None, Result, Ok, Err, refl, sym, ap, ◌∙◌}
use Rattle.std.specs.Prelude.{option_and_then, unwrap_or}
use Rattle.std.proofs.lemmas.List.{length-map, length-set}
use Rattle.outcome_model.specs.DdmTypes.CodeMap.{CodeWord}
use Rattle.outcome_model.specs.DdmTypes.ItemTable.{ItemTable}
use Rattle.outcome_model.specs.DdmTypes.declared.operations.Effect.{Effect}
use Rattle.outcome_model.specs.DdmTypes.declared.operations.HaltCause.{HaltCause}
use Rattle.outcome_model.specs.DdmTypes.declared.operations.Op.{Op}
use Rattle.outcome_model.specs.FlatModel.Flat.{Change, FlatMachine, Stored, flat_hart, flat_step, hart_step, item_words, stepped, with_change, with_stored, without_reserved}
use Rattle.outcome_model.specs.FlatModel.Legal.{flat_after, if_effect, is_sc_ok, legal_run, legal_step, same_effect}

stored-harts : (s : FlatMachine) (stored : Option Stored) → length (with_stored s stored).harts ≡ length s.harts
stored-harts s None = refl
stored-harts s (Some x) = length-map s.harts (without_reserved x.item)

change-harts : (s : FlatMachine) (h : ℕ) (c : Change) → length (with_change s h c).harts ≡ length s.harts
change-harts s h c = length-set (with_stored s c.stored).harts h c.after ∙ stored-harts s c.stored

-- what is left of a step, if it is of this effect
step-harts : (s : FlatMachine) (h : ℕ) (effect : Effect) (r : Result Change HaltCause) (n : FlatMachine) → if_effect effect (stepped s h r) ≡ Some n → length n.harts ≡ length s.harts
step-harts s h effect (Err cause) n is = absurd (let wrong : ⊥ = cc in wrong)
step-harts s h effect (Ok c) n is = by_test (same_effect c.effect effect) is where
  by_test : (b : Bool) → (cond b (Some (with_change s h c)) None) ≡ Some n → length n.harts ≡ length s.harts
  by_test true same = let here : with_change s h c ≡ n = cc in ap (λ (k : FlatMachine). length k.harts) (sym here) ∙ change-harts s h c
  by_test false same = absurd (let wrong : ⊥ = cc in wrong)

module _ (code : List CodeWord) (items : ItemTable) where
  op-harts : (s n : FlatMachine) (op : Op) → legal_step code items s op ≡ Some n → length n.harts ≡ length s.harts
  unfolding legal_step flat_step
  op-harts s n op is = by_pc (nat_eq (flat_hart s op.hart).hart.pc op.pc) is where
    by_pc : (b : Bool) → (cond b (if_effect op.effect (stepped s op.hart (hart_step code items (flat_hart s op.hart) (item_words s) (is_sc_ok op.effect)))) None) ≡ Some n → length n.harts ≡ length s.harts
    by_pc true here = step-harts s op.hart op.effect (hart_step code items (flat_hart s op.hart) (item_words s) (is_sc_ok op.effect)) n here
    by_pc false here = absurd (let wrong : ⊥ = cc in wrong)

  run-harts : (s : FlatMachine) (ops : List Op) (n : FlatMachine) → legal_run code items s ops ≡ Some n → length n.harts ≡ length s.harts
  unfolding legal_run
  run-harts s [] n is = let here : s ≡ n = cc in ap (λ (k : FlatMachine). length k.harts) (sym here)
  run-harts s (op ∷ ops) n is = by_step (legal_step code items s op) refl (λ k. run-harts k ops n) is where
    by_step : (o : Option FlatMachine) → legal_step code items s op ≡ o → ((k : FlatMachine) → legal_run code items k ops ≡ Some n → length n.harts ≡ length k.harts)
        → option_and_then (λ next. legal_run code items next ops) o ≡ Some n → length n.harts ≡ length s.harts
    by_step None step later rest = absurd (let wrong : ⊥ = cc in wrong)
    by_step (Some k) step later rest = later k rest ∙ op-harts s k op step

  pub after-harts : (s : FlatMachine) (ops : List Op) → length (flat_after code items s ops).harts ≡ length s.harts
  after-harts s ops = by_run (legal_run code items s ops) refl where
    by_run : (o : Option FlatMachine) → legal_run code items s ops ≡ o → length (unwrap_or o s).harts ≡ length s.harts
    by_run None is = refl
    by_run (Some n) is = run-harts s ops n is
