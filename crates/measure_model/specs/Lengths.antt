-- The greatest lengths that lists reach in a run.
-- Letters: t is a turn, m a machine, b the number of a bus, k that of a leaf.
-- To be believed: it is what is printed of a run.
use Rattle.std.specs.Prelude.{ℕ, max, List, [], ◌∷◌, unwrap_or}
use Rattle.recording_model.specs.DdmTypes.declared.turns.Turn.{Turn}
use Rattle.recording_model.specs.TreeModel.State.Lengths.{no_dir_lengths, no_leaf_lengths}
use Rattle.recording_model.specs.TreeModel.State.Values.{MachineValue}
use Rattle.recording_model.specs.TreeModel.Turns.Machine.{leaf_lengths_at, lengths_at, turn_of}
use Rattle.tree_model.specs.declared.DirLengths.{DirLengths}
use Rattle.tree_model.specs.declared.LeafLengths.{LeafLengths}

-- the lengths of the lists over a bus of the machine's tree, and of those of a leaf
abbrev pub lengths_over : ℕ → MachineValue → DirLengths
lengths_over b m = unwrap_or (lengths_at b m) no_dir_lengths

abbrev pub lengths_in : ℕ → MachineValue → LeafLengths
lengths_in k m = unwrap_or (leaf_lengths_at k m) no_leaf_lengths

-- the greatest of what is read of the machine before the turns, and after each of them
unfoldable pub greatest : (MachineValue → ℕ) → List Turn → MachineValue → ℕ
greatest read [] m = read m
greatest read (t ∷ ts) m = max (read m) (greatest read ts (turn_of t m).machine)

unfoldable pub most_over : List Turn → MachineValue → ℕ → DirLengths
most_over ts m b = record {
  down = greatest (λ k. (lengths_over b k).down) ts m;
  requests = greatest (λ k. (lengths_over b k).requests) ts m;
  replies = greatest (λ k. (lengths_over b k).replies) ts m;
  parking = greatest (λ k. (lengths_over b k).parking) ts m;
}

unfoldable pub most_in : List Turn → MachineValue → ℕ → LeafLengths
most_in ts m k = record { replies = greatest (λ n. (lengths_in k n).replies) ts m; buffer = greatest (λ n. (lengths_in k n).buffer) ts m }
