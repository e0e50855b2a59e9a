-- A stored checkpoint: the tree ((L)(LL)), 5 turns; a leaf that answers a read.
use Rattle.std.specs.Prelude.{[], ◌∷◌, codes, refl}
use Rattle.worked_examples.specs.StoredTraces.{tree_of_sizes, code_and_words}
use Rattle.worked_examples.specs.Saved.{StoredCheckpoint, IsSaved}
use Rattle.worked_examples.specs.Computing.{examples_compute}

abbrev stored : StoredCheckpoint
stored = record {
  tree = tree_of_sizes ((2 ∷ []) ∷ (1 ∷ 2 ∷ []) ∷ []) 1 (record { sets = 3; buffer = 4; parking = 1; down = 37; requests = 37; replies = 37 });
  image = code_and_words (0x102b7 ∷ 0x2028383 ∷ 0x2a2ac23 ∷ 0x72a823 ∷ 0x302a383 ∷ 0xff1ff06f ∷ []) 0x10020 (0xea29f784 ∷ 0xe727b09d ∷ 0xfd8bf292 ∷ 0xe4fd8366 ∷ 0x26dd03bc ∷ 0x113df52 ∷ 0x3001e868 ∷ 0x37eb2f62 ∷ []);
  schedule = codes "h 0 3\nh 0 3\nh 1 8\nh 1 8\ng 2 q 0\nend\n";
  words = 0x434d4444 ∷ 1 ∷ 3 ∷ 3 ∷ 4 ∷ 4 ∷ 1 ∷ 5 ∷ 2 ∷ 1 ∷ 0 ∷ 0 ∷ 0x200000 ∷ 0 ∷ 0 ∷ 0x10000 ∷ 0 ∷ 0 ∷ 0 ∷ 0 ∷ 0 ∷ 3 ∷ 0 ∷ 0 ∷ 0 ∷ 0 ∷ 0 ∷ 0 ∷ 0 ∷ 0 ∷ 0 ∷ 0 ∷ 0 ∷ 0 ∷ 0 ∷ 0 ∷ 0 ∷ 0 ∷ 0 ∷ 0 ∷ 0 ∷ 0 ∷ 0x10004 ∷ 1 ∷ 0 ∷ 0 ∷ 0 ∷ 0x200000 ∷ 0 ∷ 0 ∷ 0x10000 ∷ 0 ∷ 0 ∷ 0 ∷ 0 ∷ 1 ∷ 3 ∷ 0 ∷ 0 ∷ 0 ∷ 0 ∷ 0 ∷ 0 ∷ 0 ∷ 0 ∷ 0 ∷ 0 ∷ 0 ∷ 0 ∷ 0 ∷ 0 ∷ 0 ∷ 0 ∷ 0 ∷ 0 ∷ 0 ∷ 0 ∷ 0x10004 ∷ 1 ∷ 0 ∷ 0 ∷ 0 ∷ 0x200000 ∷ 0 ∷ 0 ∷ 0 ∷ 0 ∷ 0 ∷ 0 ∷ 0 ∷ 2 ∷ 3 ∷ 0 ∷ 0 ∷ 0 ∷ 0 ∷ 0 ∷ 0 ∷ 0 ∷ 0 ∷ 0 ∷ 0 ∷ 0 ∷ 0 ∷ 0 ∷ 0 ∷ 0 ∷ 0 ∷ 0 ∷ 0 ∷ 0 ∷ 0 ∷ 0x10000 ∷ 0 ∷ 0 ∷ 0 ∷ 0 ∷ 0 ∷ 0 ∷ 0 ∷ 0 ∷ 0 ∷ 0 ∷ 0 ∷ 0 ∷ 0 ∷ 0 ∷ 0 ∷ 0 ∷ 0 ∷ 0 ∷ 0 ∷ 0 ∷ 0 ∷ 0 ∷ 0 ∷ 0 ∷ 0 ∷ 1 ∷ 0 ∷ 2 ∷ 0 ∷ 0 ∷ 0 ∷ 0 ∷ 0 ∷ 0 ∷ 0 ∷ 0 ∷ 0 ∷ 0 ∷ 0 ∷ 0 ∷ 0 ∷ 0 ∷ 0 ∷ 1 ∷ 0 ∷ 0 ∷ 0 ∷ 0 ∷ 3 ∷ 1 ∷ 2 ∷ 0 ∷ 0 ∷ 0 ∷ 0 ∷ 2 ∷ 2 ∷ 1 ∷ 0 ∷ 0 ∷ 0 ∷ 3 ∷ 2 ∷ 0 ∷ 0 ∷ 0 ∷ 0 ∷ 0 ∷ 0 ∷ 0 ∷ 0 ∷ 0 ∷ 1 ∷ 0 ∷ 0 ∷ 0 ∷ 0 ∷ 0 ∷ 0 ∷ 1 ∷ 2 ∷ 2 ∷ 0 ∷ 0 ∷ 2 ∷ 0x102b7 ∷ 0x2028383 ∷ 0x2a2ac23 ∷ 0x72a823 ∷ 2 ∷ 0 ∷ 4 ∷ 0 ∷ 0 ∷ 0 ∷ 0 ∷ 0 ∷ 0 ∷ 0 ∷ 0 ∷ 0 ∷ 3 ∷ 3 ∷ 0 ∷ 2 ∷ 0x26dd03bc ∷ 0x113df52 ∷ 0x3001e868 ∷ 0x37eb2f62 ∷ 1 ∷ 0 ∷ 2 ∷ 0x302a383 ∷ 0xff1ff06f ∷ 0 ∷ 0 ∷ 2 ∷ 0 ∷ 4 ∷ 0 ∷ 0 ∷ 0 ∷ 0 ∷ 0 ∷ 0 ∷ 0 ∷ 0 ∷ 0 ∷ 1 ∷ 2 ∷ 0 ∷ 1 ∷ 0xea29f784 ∷ 0xe727b09d ∷ 0xfd8bf292 ∷ 0xe4fd8366 ∷ 0 ∷ 1 ∷ 2 ∷ 0xea29f784 ∷ 0xe727b09d ∷ 0xfd8bf292 ∷ 0xe4fd8366 ∷ 2 ∷ 0 ∷ 0 ∷ 0 ∷ 0 ∷ 0 ∷ 0 ∷ 0 ∷ 0 ∷ 0 ∷ 0 ∷ 0x10000 ∷ 0 ∷ 0 ∷ 0 ∷ 0 ∷ 0 ∷ 1 ∷ 0 ∷ 0 ∷ 0 ∷ 0 ∷ 0 ∷ 0 ∷ 0 ∷ 1 ∷ 0x10000 ∷ 0 ∷ 0 ∷ 0 ∷ 0 ∷ 0x454d4444 ∷ [];
}

pub is_saved : IsSaved stored
unfolding examples_compute
is_saved = refl
