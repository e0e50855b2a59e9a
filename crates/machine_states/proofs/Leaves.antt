-- The leaf of a number, and what is read of it.
-- Letters: m is a machine, k a number, v a leaf.
use Rattle.std.proofs.Common.{◌≡◌, ℕ, ◌<◌, Some, sym, ◌∙◌, arith}
use Rattle.std.specs.Prelude.{slice_get}
use Rattle.tree_model.specs.State.Shape.{IsShaped, tree_counts}
use Rattle.tree_model.specs.State.Values.{LeafValue, MachineValue}
use Rattle.tree_model.specs.Turns.Machine.{ask_leaf, machine_leaves}
use Rattle.any_runs.proofs.DdmTree.LeafList.{leaf-listed, leaf-number, leaves-counted}
use Rattle.machine_states.proofs.Places.{get-there, got}

module _ (m : MachineValue) (shaped : IsShaped m) where
  -- the leaf at a place
  pub record LeafAt (k : ℕ) : Type 0 where
    pub leaf : LeafValue
    pub at : slice_get (machine_leaves m) k ≡ Some leaf
    pub number : leaf.number ≡ k

  pub leaf-at : (k : ℕ) → k < (tree_counts m).leaves → LeafAt k
  leaf-at k less =
      let there = get-there (machine_leaves m) k (omega (arith, less, leaves-counted m)) in
      record {
        leaf = there.one;
        at = there.at;
        number = leaf-number k m there.one shaped there.at;
      }

  -- what is read of it by its number
  pub leaf-asked : {A : Type 0} (f : LeafValue → A) (other : A) (k : ℕ) (there : LeafAt k) → ask_leaf k (λ w v. f v) other m ≡ Some (f there.leaf)
  leaf-asked f other k there = sym (leaf-listed f other k m shaped) ∙ got f (machine_leaves m) k there.leaf there.at
