-- A leaf has the hart that is read by its number.
-- Letters: m is a machine, k the number of a leaf v, h its hart.
use Rattle.std.proofs.Common.{◌≡◌, ◌∙◌, ℕ, Some, sym}
use Rattle.std.specs.Prelude.{slice_get}
use Rattle.recording.specs.DdmTree.Reads.{counted_hart_of}
use Rattle.recording.specs.RvHart.HartState.{HartState}
use Rattle.recording.proofs.DdmTree.LeafList.{leaf-listed, leaf-number}
use Rattle.recording.proofs.InspectorCrate.OneMore.{mapped-at}
use Rattle.recording_model.specs.TreeModel.State.Blank.{no_hart}
use Rattle.recording_model.specs.TreeModel.State.Shape.{IsShaped}
use Rattle.recording_model.specs.TreeModel.State.Values.{LeafValue, MachineValue}
use Rattle.recording_model.specs.TreeModel.Turns.Machine.{machine_leaves}
use Rattle.measuring.specs.Lines.{HasHart}

abbrev state_in : LeafValue → HartState
state_in v = record { hart = v.hart; done = v.done }

pub leaf-has : (m : MachineValue) (k : ℕ) (h : HartState) (v : LeafValue) → IsShaped m → slice_get (machine_leaves m) k ≡ Some v → Some h ≡ counted_hart_of k m → HasHart k h v
leaf-has m k h v shaped there is =
    let some : Some (state_in v) ≡ Some h = sym (mapped-at state_in (machine_leaves m) k v there) ∙ leaf-listed state_in (record { hart = no_hart; done = 0 }) k m shaped ∙ sym is in
    let same : state_in v ≡ h = cc in
    record { number = leaf-number k m v shaped there; hart = cc; done = cc }
