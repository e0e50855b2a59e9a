-- How long the checkpoint of a run is.
-- Letters: t is a tree, i an image, m the machine before its first turn.
-- To be believed: it is what is claimed of every checkpoint.
use Rattle.std.specs.Prelude.{◌≡◌, ℕ, ◌+◌, ◌*◌, ◌≤◌, List, length, Ok}
use Rattle.file_laws.specs.DdmTypes.declared.turns.Turn.{Turn}
use Rattle.file_laws.specs.TreeModel.State.Values.{MachineValue}
use Rattle.file_laws.specs.TreeModel.Start.Sources.{ImageValue, TreeValue}
use Rattle.file_laws.specs.TreeModel.Start.Machine.{start_of}
use Rattle.file_laws.specs.TreeModel.Turns.Machine.{run_of}
use Rattle.file_laws.specs.StateWords.Machine.{checkpoint_bytes}
use Rattle.tree_config.specs.TreeFile.{tree_of}
use Rattle.value_laws.specs.Images.{IsOfBytes}

-- 405 MiB for the tree and what it holds, and 60 bytes for the operation that a turn may complete
abbrev pub most_bytes : ℕ → ℕ
most_bytes turns = 405 * 1048576 + 60 * turns

-- so it is after so many turns of the machine of each tree file that is accepted and each image of bytes
abbrev pub CheckpointsAreBounded : Type 0
CheckpointsAreBounded =
    (file : List ℕ) (t : TreeValue) (i : ImageValue) (m : MachineValue) (turns : List Turn)
    (made retired granted busy : ℕ)
    → tree_of file ≡ Ok t → IsOfBytes i → start_of t i ≡ Ok m
    → length (checkpoint_bytes (run_of turns m).machine made retired granted busy) ≤ most_bytes (length turns)
