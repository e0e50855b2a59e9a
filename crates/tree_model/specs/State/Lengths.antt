-- How long the lists of a directory and of a leaf are.
-- To be believed: it is what is read of the machine.
use Rattle.std.specs.Prelude.{◌+◌, length}
use Rattle.tree_model.specs.declared.DirLengths.{DirLengths}
use Rattle.tree_model.specs.declared.LeafLengths.{LeafLengths}
use Rattle.tree_model.specs.State.Values.{DirValue, LeafValue}

-- parked copies and the places that are kept for injects count together
abbrev pub dir_lengths : DirValue → DirLengths
dir_lengths d = record {
  down = length d.down;
  requests = length d.requests;
  replies = length d.replies;
  parking = length d.parked + d.reserved;
}

abbrev pub no_dir_lengths : DirLengths
no_dir_lengths = record { down = 0; requests = 0; replies = 0; parking = 0 }

abbrev pub leaf_lengths : LeafValue → LeafLengths
leaf_lengths v = record { replies = length v.replies; buffer = length v.buffer }

abbrev pub no_leaf_lengths : LeafLengths
no_leaf_lengths = record { replies = 0; buffer = 0 }
