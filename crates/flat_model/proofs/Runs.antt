-- Legal lists: what a record says of its step, and one list behind another.
use Rattle.std.proofs.Common.{◌≡◌, Bool, true, false, nat_eq, List, [], ◌∷◌, ◌++◌, Option, Some, None, Ok, Err, refl, arith}
use Rattle.std.proofs.lemmas.Bool.{eqb-true, eq-eqb}
use Rattle.std.specs.Prelude.{option_and_then, if◌then◌else◌}
use Rattle.ddm_types.specs.declared.operations.Effect.{Effect}
use Rattle.ddm_types.specs.declared.operations.Effect.TheVariants.{Plain, Put, Load, Store, Lr, ScOk, ScFail, Amo}
use Rattle.ddm_types.specs.declared.operations.Op.{Op}
use Rattle.ddm_types.specs.CodeMap.{CodeWord}
use Rattle.ddm_types.specs.ItemTable.{ItemTable}
use Rattle.flat_model.specs.Flat.{FlatMachine, FlatStepped, flat_hart, flat_step}
use Rattle.flat_model.specs.Legal.{same_effect, is_sc_ok, if_effect, legal_step, legal_run}

-- effects that are the same by the test are equal
pub same_effect_is : (a b : Effect) → same_effect a b ≡ true → a ≡ b
same_effect_is Plain Plain h = refl
same_effect_is (Put a) (Put b) h = grind arith
same_effect_is (Load a w) (Load b v) h = grind arith
same_effect_is (Store a w x) (Store b v y) h = grind arith
same_effect_is (Lr a w) (Lr b v) h = grind arith
same_effect_is (ScOk a w x) (ScOk b v y) h = grind arith
same_effect_is (ScFail a) (ScFail b) h = grind arith
same_effect_is (Amo a w x) (Amo b v y) h = grind arith
same_effect_is _ _ h = grind arith

pub same_effect_refl : (a : Effect) → same_effect a a ≡ true
same_effect_refl Plain = refl
same_effect_refl (Put a) = grind arith
same_effect_refl (Load a w) = grind arith
same_effect_refl (Store a w x) = grind arith
same_effect_refl (Lr a w) = grind arith
same_effect_refl (ScOk a w x) = grind arith
same_effect_refl (ScFail a) = grind arith
same_effect_refl (Amo a w x) = grind arith

-- two lists one behind the other
pub legal_run_append : (code : List CodeWord) (items : ItemTable) (m : FlatMachine) (a b : List Op) → legal_run code items m (a ++ b) ≡ option_and_then (λ n. legal_run code items n b) (legal_run code items m a)
unfolding legal_run
legal_run_append code items m [] b = refl
legal_run_append code items m (op ∷ ops) b = go (legal_step code items m op) (λ n. legal_run_append code items n ops b) where
  go : (o : Option FlatMachine) → ((n : FlatMachine) → legal_run code items n (ops ++ b) ≡ option_and_then (λ k. legal_run code items k b) (legal_run code items n ops)) → option_and_then (λ n. legal_run code items n (ops ++ b)) o ≡ option_and_then (λ n. legal_run code items n b) (option_and_then (λ n. legal_run code items n ops) o)
  go None ih = refl
  go (Some n) ih = ih n

-- a record that is legal is the step of its hart, from its pc
pub legal_step_is : (code : List CodeWord) (items : ItemTable) (m n : FlatMachine) (op : Op) → legal_step code items m op ≡ Some n → ((flat_hart m op.hart).hart.pc ≡ op.pc) × (flat_step code items m op.hart (is_sc_ok op.effect) ≡ Ok (op.effect, n))
unfolding legal_step
legal_step_is code items m n op h = by_pc (nat_eq (flat_hart m op.hart).hart.pc op.pc) refl h where
  by_effect : (e : Effect) (k : FlatMachine) (b : Bool) → same_effect e op.effect ≡ b → (if b then Some k else None) ≡ Some n → let s : FlatStepped = Ok (e, k) in s ≡ Ok (op.effect, n)
  by_effect e k true same g = grind (arith, same_effect_is e op.effect same)
  by_effect e k false same g = grind arith

  by_step : (s : FlatStepped) → if_effect op.effect s ≡ Some n → s ≡ Ok (op.effect, n)
  by_step (Ok x) g = by_effect x.0 x.1 (same_effect x.0 op.effect) refl g
  by_step (Err cause) g = grind arith

  by_pc : (b : Bool) → nat_eq (flat_hart m op.hart).hart.pc op.pc ≡ b → (if b then if_effect op.effect (flat_step code items m op.hart (is_sc_ok op.effect)) else None) ≡ Some n → ((flat_hart m op.hart).hart.pc ≡ op.pc) × (flat_step code items m op.hart (is_sc_ok op.effect) ≡ Ok (op.effect, n))
  by_pc true e g = (eqb-true (flat_hart m op.hart).hart.pc op.pc e, by_step (flat_step code items m op.hart (is_sc_ok op.effect)) g)
  by_pc false e g = grind arith

-- and the other way round
pub legal_step_of : (code : List CodeWord) (items : ItemTable) (m n : FlatMachine) (op : Op) → (flat_hart m op.hart).hart.pc ≡ op.pc → flat_step code items m op.hart (is_sc_ok op.effect) ≡ Ok (op.effect, n) → legal_step code items m op ≡ Some n
unfolding legal_step
legal_step_of code items m n op e step = rw (eq-eqb (flat_hart m op.hart).hart.pc op.pc e) (rw step (rw (same_effect_refl op.effect) refl))
