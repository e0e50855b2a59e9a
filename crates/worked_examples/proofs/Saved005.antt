-- A stored checkpoint: the tree ((L)(L)), 5 turns; plain instructions alone.
use Rattle.std.specs.Prelude.{[], ◌∷◌, codes, refl}
use Rattle.worked_examples.specs.StoredTraces.{tree_of_sizes, code_and_words}
use Rattle.worked_examples.specs.Saved.{StoredCheckpoint, IsSaved}
use Rattle.worked_examples.specs.Computing.{examples_compute}

abbrev stored : StoredCheckpoint
stored = record {
  tree = tree_of_sizes ((2 ∷ []) ∷ (1 ∷ 1 ∷ []) ∷ []) 2 (record { sets = 1; buffer = 4; parking = 2; down = 32; requests = 4; replies = 4 });
  image = code_and_words (0x102b7 ∷ 0x451313 ∷ 0x530333 ∷ 0x1851713 ∷ 0x3428493 ∷ 0x1004a3af ∷ 0x18e4a62f ∷ 0x2e32023 ∷ 0x170713 ∷ 0x170713 ∷ 0x170713 ∷ 0xfe5ff06f ∷ []) 0x10030 (0x962329bd ∷ 0x8d04634c ∷ 0xed3e5835 ∷ 0x9f06a8ae ∷ []);
  schedule = codes "h 0 0\nh 0 0\nh 0 11\nh 0 11\nh 0 0\nend\n";
  words = 0x434d4444 ∷ 1 ∷ 2 ∷ 3 ∷ 4 ∷ 4 ∷ 2 ∷ 5 ∷ 5 ∷ 0 ∷ 0 ∷ 0 ∷ 0x200000 ∷ 0 ∷ 0 ∷ 0x10000 ∷ 0x10000 ∷ 0 ∷ 0 ∷ 0x10034 ∷ 0 ∷ 2 ∷ 0 ∷ 0 ∷ 0 ∷ 0 ∷ 0 ∷ 0 ∷ 0 ∷ 0 ∷ 0 ∷ 0 ∷ 0 ∷ 0 ∷ 0 ∷ 0 ∷ 0 ∷ 0 ∷ 0 ∷ 0 ∷ 0 ∷ 0 ∷ 0x10014 ∷ 5 ∷ 0 ∷ 0 ∷ 0 ∷ 0x200000 ∷ 0 ∷ 0 ∷ 0 ∷ 0 ∷ 0 ∷ 0 ∷ 0 ∷ 1 ∷ 2 ∷ 0 ∷ 0 ∷ 0 ∷ 0 ∷ 0 ∷ 0 ∷ 0 ∷ 0 ∷ 0 ∷ 0 ∷ 0 ∷ 0 ∷ 0 ∷ 0 ∷ 0 ∷ 0 ∷ 0 ∷ 0 ∷ 0 ∷ 0 ∷ 0x10000 ∷ 0 ∷ 0 ∷ 0 ∷ 0 ∷ 0 ∷ 0 ∷ 0 ∷ 0 ∷ 0 ∷ 0 ∷ 0 ∷ 0 ∷ 0 ∷ 0 ∷ 0 ∷ 0 ∷ 0 ∷ 0 ∷ 0 ∷ 0 ∷ 0 ∷ 0 ∷ 0 ∷ 0 ∷ 0 ∷ 2 ∷ 0 ∷ 2 ∷ 0 ∷ 0 ∷ 0 ∷ 0 ∷ 2 ∷ 2 ∷ 0 ∷ 0 ∷ 0 ∷ 0 ∷ 0 ∷ 0 ∷ 0 ∷ 0 ∷ 0 ∷ 0 ∷ 0 ∷ 0 ∷ 0 ∷ 0 ∷ 0 ∷ 0 ∷ 0 ∷ 0 ∷ 0 ∷ 0 ∷ 2 ∷ 1 ∷ 2 ∷ 0 ∷ 0 ∷ 0 ∷ 0 ∷ 3 ∷ 2 ∷ 0 ∷ 0 ∷ 0 ∷ 0 ∷ 0 ∷ 0 ∷ 0 ∷ 0 ∷ 0 ∷ 0 ∷ 0 ∷ 0 ∷ 0 ∷ 0 ∷ 0 ∷ 0 ∷ 0 ∷ 0 ∷ 2 ∷ 0 ∷ 0 ∷ 2 ∷ 0x102b7 ∷ 0x451313 ∷ 0x530333 ∷ 0x1851713 ∷ 2 ∷ 1 ∷ 2 ∷ 0x170713 ∷ 0x170713 ∷ 0x170713 ∷ 0xfe5ff06f ∷ 0 ∷ 0 ∷ 0 ∷ 0 ∷ 0 ∷ 2 ∷ 1 ∷ 0 ∷ 2 ∷ 0x3428493 ∷ 0x1004a3af ∷ 0x18e4a62f ∷ 0x2e32023 ∷ 3 ∷ 1 ∷ 2 ∷ 0x962329bd ∷ 0x8d04634c ∷ 0xed3e5835 ∷ 0x9f06a8ae ∷ 0 ∷ 0 ∷ 5 ∷ 0 ∷ 0 ∷ 0 ∷ 0 ∷ 0 ∷ 0 ∷ 0 ∷ 0 ∷ 0 ∷ 0 ∷ 0x10000 ∷ 0 ∷ 0 ∷ 0 ∷ 0 ∷ 0 ∷ 0 ∷ 0 ∷ 0 ∷ 0 ∷ 0 ∷ 0 ∷ 0 ∷ 1 ∷ 0 ∷ 0x10004 ∷ 0 ∷ 0 ∷ 0 ∷ 0 ∷ 0 ∷ 0 ∷ 0 ∷ 0 ∷ 0 ∷ 0 ∷ 0 ∷ 0 ∷ 2 ∷ 0 ∷ 0x10008 ∷ 0 ∷ 0 ∷ 0 ∷ 0 ∷ 0 ∷ 0 ∷ 0 ∷ 0 ∷ 0 ∷ 0 ∷ 0 ∷ 0 ∷ 3 ∷ 0 ∷ 0x1000c ∷ 0 ∷ 0 ∷ 0 ∷ 0 ∷ 0 ∷ 0 ∷ 0 ∷ 0 ∷ 0 ∷ 0 ∷ 0 ∷ 0 ∷ 4 ∷ 0 ∷ 0x10010 ∷ 0 ∷ 0 ∷ 0 ∷ 0 ∷ 0x454d4444 ∷ [];
}

pub is_saved : IsSaved stored
unfolding examples_compute
is_saved = refl
