-- Turns that are made one after the other, of which those that name no part are left out.
-- Letters: ts are turns, t the next one, k how many were made, before and now are machines as the code has them.
use Rattle.std.proofs.Common.{◌≡◌, ℕ, ◌+◌, ◌≤◌, false, suc, List, [], ◌∷◌, take, Some, refl, sym, ap, ◌∙◌, arith}
use Rattle.std.specs.Prelude.{slice_get}
use Rattle.ddm_types.specs.declared.turns.Turn.{Turn}
use Rattle.tree_model.specs.Turns.Machine.{names_part, run_of, turn_of}
use Rattle.any_runs.specs.AnyMachine.Any.{machine_state}
use Rattle.any_runs.specs.AnyMachine.Kind.{kind_of}
use Rattle.any_runs.specs.AnyMachine.declared.machine.AnyMachine.{AnyMachine}
use Rattle.any_runs.specs.Run.{ran}
use Rattle.machine_states.proofs.Loops.{take-more}
use Rattle.machine_states.proofs.Nothing.{unnamed-stays}
use Rattle.machine_states.proofs.Runs.{retired-few, run-more, run-none, run-one}

pub record HaveMade (ts : List Turn) (before now : AnyMachine) (k : ℕ) : Type 0 where
  pub ran : (machine_state now).machine ≡ (run_of (take k ts) (machine_state before).machine).machine
  pub turns : (machine_state now).turns ≤ (machine_state before).turns + k
  pub spare : (machine_state before).spare ≤ (machine_state now).spare + k
  pub kind : kind_of now ≡ kind_of before

pub none-made : (ts : List Turn) (m : AnyMachine) → HaveMade ts m m 0
none-made ts m = record { ran = sym (run-none (machine_state m).machine); turns = omega arith; spare = omega arith; kind = refl }

module _ (ts : List Turn) (before now : AnyMachine) (k : ℕ) (is : HaveMade ts before now k) (t : Turn) (there : slice_get ts k ≡ Some t) where
  step : (run_of (take (k + 1) ts) (machine_state before).machine).machine ≡ (turn_of t (run_of (take k ts) (machine_state before).machine).machine).machine
  step =
      let next : k + 1 ≡ suc k = omega arith in
      ap (λ n. (run_of (take n ts) (machine_state before).machine).machine) next ∙ ap (λ us. (run_of us (machine_state before).machine).machine) (take-more ts k t there) ∙ run-more (take k ts) t (machine_state before).machine

  pub one-made : (after : AnyMachine) → machine_state after ≡ ran (t ∷ []) (machine_state now) → kind_of after ≡ kind_of now → HaveMade ts before after (k + 1)
  one-made after came kind =
      let turns = ap (λ s. s.turns) came in
      let spare = ap (λ s. s.spare) came in
      let few = retired-few (t ∷ []) (machine_state now).machine in
      record {
        ran = ap (λ s. s.machine) came ∙ run-one t (machine_state now).machine ∙ ap (λ m. (turn_of t m).machine) is.ran ∙ sym step;
        turns = omega (arith, turns, is.turns);
        spare = omega (arith, spare, few, is.spare);
        kind = kind ∙ is.kind;
      }

  pub one-left_out : names_part t (machine_state now).machine ≡ false → HaveMade ts before now (k + 1)
  one-left_out none = record {
    ran = sym (unnamed-stays (machine_state now).machine t none) ∙ ap (λ m. (turn_of t m).machine) is.ran ∙ sym step;
    turns = omega (arith, is.turns);
    spare = omega (arith, is.spare);
    kind = is.kind;
  }
