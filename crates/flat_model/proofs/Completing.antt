-- An instruction that completes, and one that halts.
use Rattle.std.proofs.Common.{◌≡◌, ℕ, Bool, true, false, ◌&&◌, List, [], Option, Ok, Err, refl, ap, subst, arith}
use Rattle.std.specs.Prelude.{Result}
use Rattle.ddm_types.specs.declared.operations.HaltCause.{HaltCause}
use Rattle.ddm_types.specs.CodeMap.{CodeWord}
use Rattle.ddm_types.specs.ItemTable.{ItemTable}
use Rattle.flat_model.specs.declared.Ask.{Ask}
use Rattle.flat_model.specs.declared.Ask.TheVariants.{Plain, Put, NeedsShared, NeedsExclusive, Conditional, Halt}
use Rattle.flat_model.specs.Hart.{HartValue, Finished, Action, Halts, Computes, Puts, Loads, Stores, Reserves, StoresIfReserved, Changes, action_of, ask_by, ask_of, finish_by, finish_of}
use Rattle.flat_model.specs.Flat.{FlatHart, Change, has_reserved, conditional, change_by}
use Rattle.flat_model.specs.Legal.{is_sc_ok}
use Rattle.flat_model.proofs.Steps.{same_change}
use Rattle.flat_model.proofs.Actions.{IsActionOf, action_is}

-- ---- an instruction leaves the halt cause as it is

finish_by-halt : (items : ItemTable) (act : Action) (h : HartValue) (words : List ℕ) (sc_ok : Bool) → IsActionOf items h act → (finish_by act h words sc_ok).hart.halt ≡ h.halt
finish_by-halt items (Halts cause) h words sc_ok is = refl
finish_by-halt items (Computes after) h words sc_ok is = ap (λ (k : HartValue). k.halt) is.is
finish_by-halt items (Puts byte after) h words sc_ok is = ap (λ (k : HartValue). k.halt) is.is
finish_by-halt items (Loads op rd a) h words sc_ok is = refl
finish_by-halt items (Stores op v a) h words sc_ok is = refl
finish_by-halt items (Reserves rd a) h words sc_ok is = refl
finish_by-halt items (StoresIfReserved rd v a) h words true is = refl
finish_by-halt items (StoresIfReserved rd v a) h words false is = refl
finish_by-halt items (Changes op rd v a) h words sc_ok is = refl

pub finish-halt : (code : List CodeWord) (items : ItemTable) (h : HartValue) (words : List ℕ) (sc_ok : Bool) → (finish_of code items h words sc_ok).hart.halt ≡ h.halt
unfolding finish_of
finish-halt code items h words sc_ok = finish_by-halt items (action_of code items h) h words sc_ok (action_is code items h)

-- ---- a step that completes

-- an SC says by its effect whether it stores
sc_says : (act : Action) (x : ℕ) (h : HartValue) (words : List ℕ) → ask_by act ≡ Conditional x → (is_sc_ok (finish_by act h words true).effect ≡ true) × (is_sc_ok (finish_by act h words false).effect ≡ false)
sc_says (Halts cause) x h words e = grind arith
sc_says (Computes after) x h words e = grind arith
sc_says (Puts byte after) x h words e = grind arith
sc_says (Loads op rd a) x h words e = grind arith
sc_says (Stores op v a) x h words e = grind arith
sc_says (Reserves rd a) x h words e = grind arith
sc_says (StoresIfReserved rd v a) x h words e = (refl, refl)
sc_says (Changes op rd v a) x h words e = grind arith

finish_says : (code : List CodeWord) (items : ItemTable) (h : HartValue) (x : ℕ) (words : List ℕ) → ask_of code items h ≡ Conditional x → (is_sc_ok (finish_of code items h words true).effect ≡ true) × (is_sc_ok (finish_of code items h words false).effect ≡ false)
unfolding ask_of finish_of
finish_says code items h x words e = sc_says (action_of code items h) x h words e

-- A completed step leaves its hart's halt cause, and is `again`, the step in which an SC stores exactly where the effect says so.
pub record Completes (g : FlatHart) (c : Change) (again : Result Change HaltCause) : Type 0 where
  pub halt : c.after.hart.halt ≡ g.hart.halt
  pub same : again ≡ Ok c

-- an instruction that isn't an SC
always_completes : (g : FlatHart) (known c : Change) → (let r : Result Change HaltCause = Ok known in r ≡ Ok c) → known.after.hart.halt ≡ g.hart.halt → Completes g c (Ok known)
always_completes g known c e halt = record { halt = subst (λ (k : Change). k.after.hart.halt ≡ g.hart.halt) (same_change known c e) halt; same = e }

sc_completes : (code : List CodeWord) (items : ItemTable) (g : FlatHart) (words : ℕ → List ℕ) (x : ℕ) (reserved sc_ok : Bool) (c : Change) → ask_of code items g.hart ≡ Conditional x
    → (let r : Result Change HaltCause = Ok (conditional (sc_ok && reserved) x (finish_of code items g.hart (words x))) in r ≡ Ok c)
    → Completes g c (Ok (conditional (is_sc_ok c.effect && reserved) x (finish_of code items g.hart (words x))))
sc_completes code items g words x reserved sc_ok c is e = subst P (same_change (by_test (sc_ok && reserved)) c e) (go sc_ok reserved) where
  by_test : Bool → Change
  by_test b = conditional b x (finish_of code items g.hart (words x))

  P : Change → Type 0
  P k = Completes g k (Ok (by_test (is_sc_ok k.effect && reserved)))

  says : (is_sc_ok (finish_of code items g.hart (words x) true).effect ≡ true) × (is_sc_ok (finish_of code items g.hart (words x) false).effect ≡ false)
  says = finish_says code items g.hart x (words x) is

  halt : (b : Bool) → (by_test b).after.hart.halt ≡ g.hart.halt
  halt true = finish-halt code items g.hart (words x) true
  halt false = finish-halt code items g.hart (words x) false

  go : (ok r : Bool) → Completes g (by_test (ok && r)) (Ok (by_test (is_sc_ok (by_test (ok && r)).effect && r)))
  go true true = record { halt = halt true; same = ap (λ b. Ok (by_test (b && true))) says.0 }
  go true false = record { halt = halt false; same = ap (λ b. Ok (by_test (b && false))) says.1 }
  go false r = record { halt = halt false; same = ap (λ b. Ok (by_test (b && r))) says.1 }

pub change_completes : (code : List CodeWord) (items : ItemTable) (g : FlatHart) (words : ℕ → List ℕ) (sc_ok : Bool) (ask : Ask) (c : Change) → ask_of code items g.hart ≡ ask → change_by ask g.reserved (finish_of code items g.hart) words sc_ok ≡ Ok c → Completes g c (change_by ask g.reserved (finish_of code items g.hart) words (is_sc_ok c.effect))
change_completes code items g words sc_ok Plain c is e = always_completes g _ c e (finish-halt code items g.hart [] false)
change_completes code items g words sc_ok (Put byte) c is e = always_completes g _ c e (finish-halt code items g.hart [] false)
change_completes code items g words sc_ok (NeedsShared x lr) c is e = always_completes g _ c e (finish-halt code items g.hart (words x) false)
change_completes code items g words sc_ok (NeedsExclusive x) c is e = always_completes g _ c e (finish-halt code items g.hart (words x) false)
change_completes code items g words sc_ok (Conditional x) c is e = sc_completes code items g words x (has_reserved g.reserved x) sc_ok c is e
change_completes code items g words sc_ok (Halt cause) c is e = grind arith

-- ---- a step that halts

-- whatever an SC would do
pub err_any : (ask : Ask) (reserved : Option ℕ) (finish : List ℕ → Bool → Finished) (words : ℕ → List ℕ) (sc_ok : Bool) (cause : HaltCause) → change_by ask reserved finish words sc_ok ≡ Err cause → (ok : Bool) → change_by ask reserved finish words ok ≡ Err cause
err_any Plain reserved finish words sc_ok cause e ok = grind arith
err_any (Put byte) reserved finish words sc_ok cause e ok = grind arith
err_any (NeedsShared x lr) reserved finish words sc_ok cause e ok = grind arith
err_any (NeedsExclusive x) reserved finish words sc_ok cause e ok = grind arith
err_any (Conditional x) reserved finish words sc_ok cause e ok = grind arith
err_any (Halt other) reserved finish words sc_ok cause e ok = e
