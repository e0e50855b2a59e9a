-- Halts: the flat machine's next step is a halt just where the hart's instruction asks for it, whatever words, reservation and
-- success of an SC.
use Rattle.std.proofs.Common.{◌≡◌, ℕ, Bool, true, false, nat_eq, is_none, List, Option, Some, None, Err, refl, sym, ap, ◌∙◌}
use Rattle.std.proofs.lemmas.Bool.{eq-eqb, eqb-true}
use Rattle.order_laws.specs.DdmTypes.declared.operations.HaltCause.{HaltCause}
use Rattle.order_laws.specs.DdmTypes.declared.operations.HaltCause.TheVariants.{Exit, Illegal, Breakpoint, UnknownCall, MisalignedTarget, FetchOutside, MisalignedAccess, LoadOutside, StoreOutside}
use Rattle.order_laws.specs.DdmTypes.ItemTable.{ItemTable}
use Rattle.order_laws.specs.DdmTypes.CodeMap.{CodeWord}
use Rattle.order_laws.specs.FlatModel.declared.Ask.{Ask}
use Rattle.order_laws.specs.FlatModel.declared.Ask.TheVariants.{Plain, Put, NeedsShared, NeedsExclusive, Conditional, Halt}
use Rattle.order_laws.specs.FlatModel.Hart.{HartValue, Finished, ask_of, finish_of}
use Rattle.order_laws.specs.FlatModel.Flat.{FlatHart, FlatMachine, flat_hart, item_words, change_by, unless_halted, hart_step, stepped, flat_step}
use Rattle.order_laws.specs.TreeRules.Statements.{Holds}
use Rattle.order_laws.specs.TreeRules.Order.Moments.{same_numbers}
use Rattle.order_laws.specs.TreeRules.Order.Core.{is_running_as, same_halt, halts_with, halts_next}
use Rattle.order_lists.proofs.Moments.{same_numbers-true, same_numbers-itself}

-- ---- a leaf's hart as the flat one

abbrev pub running : HartValue → HartValue
running h = record h { halt = None }

none_is : (o : Option HaltCause) → is_none o ≡ true → o ≡ None
none_is None h = refl
none_is (Some cause) h = absurd (let wrong : ⊥ = cc in wrong)

pub flat_is : (h g : HartValue) → Holds (is_running_as h g) → g ≡ running h
flat_is h g e = λ j. record { registers = same_numbers-true g.registers h.registers e.0 j; pc = eqb-true g.pc h.pc e.1.0 j; halt = none_is g.halt e.1.1 j }

pub is_flat : (h g : HartValue) → g ≡ running h → Holds (is_running_as h g)
is_flat h g e = (ap (λ (u : HartValue). same_numbers u.registers h.registers) e ∙ same_numbers-itself h.registers, (ap (λ (u : HartValue). nat_eq u.pc h.pc) e ∙ eq-eqb h.pc h.pc refl, ap (λ (u : HartValue). is_none u.halt) e))

-- ---- halts

pub same_halt-refl : (c : HaltCause) → same_halt c c ≡ true
same_halt-refl (Exit a) = eq-eqb a a refl
same_halt-refl (Illegal a) = eq-eqb a a refl
same_halt-refl Breakpoint = refl
same_halt-refl (UnknownCall a) = eq-eqb a a refl
same_halt-refl (MisalignedTarget a) = eq-eqb a a refl
same_halt-refl (FetchOutside a) = eq-eqb a a refl
same_halt-refl (MisalignedAccess a) = eq-eqb a a refl
same_halt-refl (LoadOutside a) = eq-eqb a a refl
same_halt-refl (StoreOutside a) = eq-eqb a a refl

module _ (code : List CodeWord) (items : ItemTable) where
  -- the instruction asks for a halt of this cause
  pub record AsksHalt (h : HartValue) (cause : HaltCause) : Type 0 where
    pub other : HaltCause
    pub asks : ask_of code items h ≡ Halt other
    pub same : same_halt other cause ≡ true

  step_halts : (g : FlatHart) (words : ℕ → List ℕ) (sc_ok : Bool) (cause : HaltCause) → g.hart.halt ≡ None → ask_of code items g.hart ≡ Halt cause → hart_step code items g words sc_ok ≡ Err cause
  unfolding hart_step
  step_halts g words sc_ok cause runs asked = ap (λ o. unless_halted o (change_by (ask_of code items g.hart) g.reserved (finish_of code items g.hart) words sc_ok)) runs ∙ ap (λ a. change_by a g.reserved (finish_of code items g.hart) words sc_ok) asked

  pub halts_from_ask : (z : FlatMachine) (n : ℕ) (cause : HaltCause) → (flat_hart z n).hart.halt ≡ None → AsksHalt (flat_hart z n).hart cause → Holds (halts_next code items z n cause)
  unfolding flat_step
  halts_from_ask z n cause runs a = (one true, one false) where
    one : (ok : Bool) → halts_with cause (stepped z n (hart_step code items (flat_hart z n) (item_words z) ok)) ≡ true
    one ok = ap (λ r. halts_with cause (stepped z n r)) (step_halts (flat_hart z n) (item_words z) ok a.other runs a.asks) ∙ a.same

  asked_by : (ask : Ask) (z : FlatMachine) (n : ℕ) (r : Option ℕ) (finish : List ℕ → Bool → Finished) (words : ℕ → List ℕ) (cause : HaltCause) → halts_with cause (stepped z n (change_by ask r finish words true)) ≡ true → (other : HaltCause) × (ask ≡ Halt other) × (same_halt other cause ≡ true)
  asked_by Plain z n r finish words cause e = absurd (let wrong : ⊥ = cc in wrong)
  asked_by (Put byte) z n r finish words cause e = absurd (let wrong : ⊥ = cc in wrong)
  asked_by (NeedsShared x lr) z n r finish words cause e = absurd (let wrong : ⊥ = cc in wrong)
  asked_by (NeedsExclusive x) z n r finish words cause e = absurd (let wrong : ⊥ = cc in wrong)
  asked_by (Conditional x) z n r finish words cause e = absurd (let wrong : ⊥ = cc in wrong)
  asked_by (Halt other) z n r finish words cause e = (other, refl, e)

  pub ask_from_halts : (z : FlatMachine) (n : ℕ) (cause : HaltCause) → (flat_hart z n).hart.halt ≡ None → Holds (halts_next code items z n cause) → AsksHalt (flat_hart z n).hart cause
  unfolding flat_step hart_step
  ask_from_halts z n cause runs h = go (asked_by (ask_of code items (flat_hart z n).hart) z n (flat_hart z n).reserved (finish_of code items (flat_hart z n).hart) (item_words z) cause (sym (ap (λ o. halts_with cause (stepped z n (unless_halted o (change_by (ask_of code items (flat_hart z n).hart) (flat_hart z n).reserved (finish_of code items (flat_hart z n).hart) (item_words z) true)))) runs) ∙ h.0)) where
    go : (other : HaltCause) × (ask_of code items (flat_hart z n).hart ≡ Halt other) × (same_halt other cause ≡ true) → AsksHalt (flat_hart z n).hart cause
    go (other, asks, same) = record { other = other; asks = asks; same = same }
