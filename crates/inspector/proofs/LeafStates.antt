-- The states of all leaves are read one after the other.
use Rattle.std.proofs.Common.{◌≡◌, ℕ, ◌+◌, List, [], ◌∷◌, ◌++◌, map, length, take, Option, Some, None, sym, ◌∙◌, add-one}
use Rattle.std.proofs.lemmas.List.{length-map}
use Rattle.inspector.specs.DdmTypes.declared.sizes.LeafState.{LeafState}
use Rattle.inspector.specs.TreeModel.State.Values.{MachineValue}
use Rattle.inspector.specs.TreeModel.State.Leaf.{state_at}
use Rattle.inspector.specs.TreeModel.State.Shape.{IsShaped, tree_counts}
use Rattle.inspector.specs.TreeModel.Turns.Found.{states_of}
use Rattle.inspector.specs.TreeModel.Turns.Machine.{machine_leaves}
use Rattle.inspector.specs.DdmTree.Reads.{state_of}
use Rattle.inspector.proofs.DdmTree.LeafList.{leaf-listed, leaves-counted}
use Rattle.inspector.proofs.OneMore.{taken-one}

-- one state more
pub one-more : (m : MachineValue) (leaf x : ℕ) (s : Option LeafState) (states : List (Option LeafState)) → IsShaped m → Some s ≡ state_of leaf x m → states ≡ take leaf (states_of x m) → states ++ s ∷ [] ≡ take (leaf + 1) (states_of x m)
unfolding states_of
one-more m leaf x s states shaped is so_far =
    rw (add-one, so_far) (sym (taken-one (map (state_at x) (machine_leaves m)) leaf s (leaf-listed (state_at x) None leaf m shaped ∙ sym is)))

pub states-counted : (m : MachineValue) (x : ℕ) → length (states_of x m) ≡ (tree_counts m).leaves
unfolding states_of
states-counted m x = length-map (machine_leaves m) (state_at x) ∙ sym (leaves-counted m)
