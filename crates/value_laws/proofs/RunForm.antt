-- Every machine of a run has the form, and counts no more than the turns; and a greater bound is one, too.
use Rattle.std.proofs.Common.{◌≡◌, ℕ, zero, suc, ◌+◌, ◌-◌, ◌≤◌, List, length, Ok, subst, arith}
use Rattle.value_laws.specs.DdmTypes.declared.turns.Turn.{Turn}
use Rattle.value_laws.specs.TreeModel.State.Values.{MachineValue}
use Rattle.value_laws.specs.TreeModel.Start.Machine.{start_of}
use Rattle.value_laws.specs.TreeModel.Start.Sources.{ImageValue, TreeValue}
use Rattle.value_laws.specs.TreeModel.Turns.Machine.{run_of}
use Rattle.bus_laws.specs.IsTree.{IsTree}
use Rattle.bus_laws.proofs.StartKept.{start-kept}
use Rattle.value_laws.specs.Images.{IsOfBytes}
use Rattle.value_laws.specs.Values.{HasForm}
use Rattle.value_laws.proofs.StartForm.{start-form}
use Rattle.value_laws.proofs.TurnForm.{more-form, run-form}

pub every-run-form : (t : TreeValue) (i : ImageValue) (m : MachineValue) → IsTree t → IsOfBytes i → start_of t i ≡ Ok m → (ts : List Turn) → HasForm (length ts) (run_of ts m).machine
every-run-form t i m tree of_bytes built ts =
    let all = run-form ts 0 m (start-kept t i m tree built).0 (start-form t i m tree of_bytes built) in
    let same : 0 + length ts ≡ length ts = omega arith in
    subst (λ n. HasForm n (run_of ts m).machine) same all

by-more : (k most : ℕ) (m : MachineValue) → HasForm most m → HasForm (most + k) m
by-more zero most m has = let same : most ≡ most + 0 = omega arith in subst (λ n. HasForm n m) same has
by-more (suc k) most m has = let same : most + 1 + k ≡ most + suc k = omega arith in subst (λ n. HasForm n m) same (by-more k (most + 1) m (more-form most m has))

pub greater-form : (most more : ℕ) (m : MachineValue) → most ≤ more → HasForm most m → HasForm more m
greater-form most more m less has = let same : most + (more - most) ≡ more = omega (arith, less) in subst (λ n. HasForm n m) same (by-more (more - most) most m has)
