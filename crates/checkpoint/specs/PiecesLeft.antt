-- What is left of a checkpoint that is given piece by piece.
use Rattle.std.specs.Prelude.{ℕ, Bool, List, [], ◌∷◌, ◌++◌, drop, length, if◌then◌else◌}
use Rattle.std.specs.List.{flat_map}
use Rattle.std.specs.Int.{w32, to_le_bytes}
use Rattle.checkpoint.specs.DdmTypes.declared.operations.Op.{Op}
use Rattle.checkpoint.specs.TreeModel.State.Values.{MachineValue}
use Rattle.checkpoint.specs.TextModel.declared.RunCounts.{RunCounts}
use Rattle.checkpoint.specs.StateWords.Parts.{op_words}
use Rattle.checkpoint.specs.StateWords.Machine.{head_words, sizes_of}
use Rattle.checkpoint.specs.DdmTree.Written.{tree_words}
use Rattle.checkpoint.specs.declared.pieces.CheckpointPieces.TheInside.{Inside}

-- the words before those of the operations: of the head, of the tree, and how many operations there are
abbrev pub front_words : MachineValue → RunCounts → List ℕ
front_words m c = head_words (sizes_of m) c.turns c.retired c.granted c.busy ++ tree_words m ++ length m.ops ∷ []

-- the bytes of the words before those of the operations, of the operations and of the end word, but for those that were given
abbrev pub bytes_left : ℕ → List ℕ → ℕ → List Op → Bool → List ℕ
bytes_left words_given front ops_given ops ended =
    flat_map (to_le_bytes w32) (drop words_given front ++ flat_map op_words (drop ops_given ops) ++ (if ended then [] else 0x454d4444 ∷ []))

abbrev pub checkpoint_left : Inside → List ℕ
checkpoint_left c = bytes_left c.words_given c.front.items c.ops_given c.ops.now.items c.is_ended
