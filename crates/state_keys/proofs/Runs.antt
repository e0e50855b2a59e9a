-- In the runs of one start the test of machines says what the words do.
-- Letters: t is a tree, i an image, m the machine before its first turn, ts and us are turns.
use Rattle.std.specs.Prelude.{◌≡◌, ℕ, ◌+◌, Bool, true, false, nat_eq, List, [], ◌∷◌, length, Ok, refl}
use Rattle.std.proofs.Common.{ap, sym, ◌∙◌, arith}
use Rattle.std.specs.Cmp.Derive.{both_true}
use Rattle.std.specs.Cmp.Lexicographic.{pointwise}
use Rattle.std.proofs.lemmas.Bool.{and_parts, eqb-true, eq-eqb}
use Rattle.bus_laws.specs.IsTree.{IsTree}
use Rattle.bus_laws.proofs.StartKept.{start-kept}
use Rattle.bus_laws.proofs.TreeKept.{run-keeps_rules}
use Rattle.spelling_laws.proofs.StateJudging.Started.{started_machines_can_be_read}
use Rattle.spelling_laws.proofs.TreeModel.FrameKept.{run-frame}
use Rattle.spelling_laws.proofs.ValueLaws.RunForm.{every-run-form, greater-form}
use Rattle.state_keys.specs.DdmTypes.declared.turns.Turn.{Turn}
use Rattle.state_keys.specs.TreeModel.Start.Machine.{start_of}
use Rattle.state_keys.specs.TreeModel.Start.Sources.{ImageValue, TreeValue}
use Rattle.state_keys.specs.TreeModel.State.Values.{MachineValue}
use Rattle.state_keys.specs.TreeModel.Turns.Machine.{run_of}
use Rattle.value_laws.specs.Images.{IsOfBytes}
use Rattle.value_laws.specs.Values.{HasForm}
use Rattle.state_keys.specs.Key.{state_key}
use Rattle.state_keys.specs.Same.{same_state}
use Rattle.state_keys.proofs.Exact.{key-alike, alike-key}
use Rattle.state_keys.proofs.Told.{same-alike, alike-same}

same-words : (a b : List ℕ) → pointwise nat_eq a b ≡ true → a ≡ b
same-words [] [] e = refl
same-words [] (y ∷ b) e = cc
same-words (x ∷ a) [] e = cc
same-words (x ∷ a) (y ∷ b) e =
    let both = and_parts (nat_eq x y) (pointwise nat_eq a b) e in
    ap (λ n. n ∷ a) (eqb-true x y both.0) ∙ ap (λ l. y ∷ l) (same-words a b both.1)

own-words : (a : List ℕ) → pointwise nat_eq a a ≡ true
own-words [] = refl
own-words (x ∷ a) = both_true (eq-eqb x x refl) (own-words a)

-- tests that pass together are the same
same-test : (a b : Bool) → (a ≡ true → b ≡ true) → (b ≡ true → a ≡ true) → a ≡ b
same-test true true first second = refl
same-test true false first second = sym (first refl)
same-test false true first second = second refl
same-test false false first second = refl

module _ (t : TreeValue) (i : ImageValue) (m : MachineValue) (tree : IsTree t) (of_bytes : IsOfBytes i) (built : start_of t i ≡ Ok m) where
  form-within : (ts us : List Turn) → HasForm (length ts + length us) (run_of ts m).machine
  form-within ts us = greater-form (length ts) (length ts + length us) (run_of ts m).machine (omega arith) (every-run-form t i m tree of_bytes built ts)

  form-beside : (ts us : List Turn) → HasForm (length ts + length us) (run_of us m).machine
  form-beside ts us = greater-form (length us) (length ts + length us) (run_of us m).machine (omega arith) (every-run-form t i m tree of_bytes built us)

  pub runs-told : (ts us : List Turn) → same_state (run_of ts m).machine (run_of us m).machine ≡ pointwise nat_eq (state_key (run_of ts m).machine) (state_key (run_of us m).machine)
  runs-told ts us =
      let a = (run_of ts m).machine in
      let b = (run_of us m).machine in
      let ok = (start-kept t i m tree built).1 in
      same-test (same_state a b) (pointwise nat_eq (state_key a) (state_key b))
      (λ same. ap (pointwise nat_eq (state_key a)) (sym (alike-key a b (same-alike a b same))) ∙ own-words (state_key a))
      (λ same. alike-same a b (key-alike m a b (length ts + length us) (started_machines_can_be_read t i m tree built) (run-frame ts m) (run-frame us m) (run-keeps_rules ts m ok) (run-keeps_rules us m ok) (form-within ts us) (form-beside ts us) (same-words (state_key a) (state_key b) same)))
