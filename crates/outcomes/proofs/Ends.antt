-- The harts of a machine, one more at a time.
-- Letters: m is a machine, v a leaf, e a hart's end.
use Rattle.std.proofs.Common.{◌≡◌, ◌∙◌, ap, sym, refl, ℕ, zero, suc, ◌+◌, ◌≤◌, Bool, true, false, List, [], ◌∷◌, length, map, drop, Some, arith}
use Rattle.std.specs.Prelude.{is_some, slice_get}
use Rattle.std.specs.List.{list_all}
use Rattle.std.proofs.lemmas.List.{drop_all, length-map}
use Rattle.outcomes.specs.RvHart.HartState.{HartState}
use Rattle.outcomes.specs.TreeModel.State.Blank.{no_hart}
use Rattle.outcomes.specs.TreeModel.State.Shape.{IsShaped, tree_counts}
use Rattle.outcomes.specs.TreeModel.State.Values.{LeafValue, MachineValue}
use Rattle.outcomes.specs.TreeModel.Turns.Machine.{machine_leaves}
use Rattle.outcomes.specs.DdmTree.Reads.{counted_hart_of}
use Rattle.outcomes.proofs.DdmTree.LeafList.{leaf-listed, leaf-number, leaves-counted}
use Rattle.outcome_model.specs.Halted.{all_halted}
use Rattle.outcome_model.specs.Outcome.{HartEnd, end_of}
use Rattle.outcome_model.proofs.Halted.{halted-ends}

abbrev pub ends_of : MachineValue → List HartEnd
ends_of m = map end_of (machine_leaves m)

abbrev state_in : LeafValue → HartState
state_in v = record { hart = v.hart; done = v.done }

end-at : (vs : List LeafValue) (k n : ℕ) (h : HartState) → slice_get (map state_in vs) k ≡ Some h → ((v : LeafValue) → slice_get vs k ≡ Some v → v.number ≡ n) → slice_get (map end_of vs) k ≡ Some (record { number = n; halt = h.hart.halt })
end-at [] k n h is numbered = cc
end-at (v ∷ vs) zero n h is numbered =
    let state : state_in v ≡ h = cc in
    let number : v.number ≡ n = numbered v refl in
    rw (number, ← state) refl
end-at (v ∷ vs) (suc k) n h is numbered = end-at vs k n h is numbered

pub end-shown : (m : MachineValue) (k : ℕ) (h : HartState) → IsShaped m → Some h ≡ counted_hart_of k m → slice_get (ends_of m) k ≡ Some (record { number = k; halt = h.hart.halt })
end-shown m k h shaped is = end-at (machine_leaves m) k k h (leaf-listed state_in (record { hart = no_hart; done = 0 }) k m shaped ∙ sym is) (λ v there. leaf-number k m v shaped there)

pub ends-counted : (m : MachineValue) → length (ends_of m) ≡ (tree_counts m).leaves
ends-counted m = length-map (machine_leaves m) end_of ∙ sym (leaves-counted m)

-- ---- whether all have halted

abbrev pub end_halted : HartEnd → Bool
end_halted e = is_some e.halt

pub halted-is : (m : MachineValue) → all_halted m ≡ list_all end_halted (ends_of m)
unfolding all_halted
halted-is m = halted-ends (machine_leaves m)

module _ {X : Type 0} (p : X → Bool) where
  -- the element at k decides, or the rest does
  pub all-here : (k : ℕ) (xs : List X) (x : X) → slice_get xs k ≡ Some x → p x ≡ true → list_all p (drop k xs) ≡ list_all p (drop (k + 1) xs)
  all-here k [] x is passes = cc
  all-here zero (y ∷ ys) x is passes = let same : y ≡ x = cc in rw (same, passes) refl
  all-here (suc k) (y ∷ ys) x is passes = all-here k ys x is passes ∙ shift k ys
    where
      shift : (k : ℕ) (ys : List X) → list_all p (drop (k + 1) ys) ≡ list_all p (drop (suc k + 1) (y ∷ ys))
      shift k ys = let e : suc k + 1 ≡ suc (k + 1) = omega arith in rw e refl

  pub all-failed : (k : ℕ) (xs : List X) (x : X) → slice_get xs k ≡ Some x → p x ≡ false → list_all p (drop k xs) ≡ false
  all-failed k [] x is fails = cc
  all-failed zero (y ∷ ys) x is fails = let same : y ≡ x = cc in rw (same, fails) refl
  all-failed (suc k) (y ∷ ys) x is fails = all-failed k ys x is fails

  pub all-end : (k : ℕ) (xs : List X) → length xs ≤ k → list_all p (drop k xs) ≡ true
  all-end k xs past = ap (list_all p) (drop_all k xs past)
