-- A stored checkpoint: the tree ((L)(L)), 60 turns; a copy on its way down beside a parked one and a reserved place.
use Rattle.std.specs.Prelude.{[], ◌∷◌, codes, refl}
use Rattle.worked_examples.specs.Programs.{with_wide_items}
use Rattle.worked_examples.specs.StoredTraces.{tree_of_sizes, code_and_words}
use Rattle.worked_examples.specs.Saved.{StoredCheckpoint, IsSaved}
use Rattle.worked_examples.specs.Computing.{examples_compute}

abbrev stored : StoredCheckpoint
stored = record {
  tree = with_wide_items (tree_of_sizes ((2 ∷ []) ∷ (1 ∷ 1 ∷ []) ∷ []) 2 (record { sets = 1; buffer = 1; parking = 2; down = 3; requests = 1; replies = 3 }));
  image = code_and_words (0x102b7 ∷ 0x451313 ∷ 0x530333 ∷ 0x1851713 ∷ 0x8032383 ∷ 0x4028493 ∷ 0x40e4a3af ∷ 0x8830493 ∷ 0xe0e4a3af ∷ 0xc030493 ∷ 0x1004a3af ∷ 0x18e4a62f ∷ 0x4428493 ∷ 0x40e4a3af ∷ 0x32383 ∷ 0xce2a023 ∷ 0xe31323 ∷ 0x4e2a423 ∷ 0x8432603 ∷ 0x8e32223 ∷ 0x4032603 ∷ 0x8a2a023 ∷ 0x4e28023 ∷ 0x732223 ∷ 0x8028493 ∷ 0x1004a3af ∷ 0x18e4a62f ∷ 0x170713 ∷ 0x402d383 ∷ 0x170713 ∷ 0x170713 ∷ 0xf95ff06f ∷ []) 0x10080 (0xb5faeee0 ∷ 0x542f0690 ∷ 0xd4f5478e ∷ 0x9476504c ∷ 0x6471e813 ∷ 0x2b93e7e ∷ 0x176fe91d ∷ 0x547ece51 ∷ 0x7924fc5 ∷ 0xda6fdf88 ∷ 0xcfba5692 ∷ 0x503c43b0 ∷ 0xf6a7fede ∷ 0x535c0c98 ∷ 0x9a8d939e ∷ 0x43c45b24 ∷ 0x92f463a2 ∷ 0x4e98f083 ∷ 0x398d12e3 ∷ 0x7cb94fb9 ∷ 0x43d166b3 ∷ 0x1a479576 ∷ 0xb2bde285 ∷ 0x396ab448 ∷ 0x308f032a ∷ 0xee0febd2 ∷ 0x3238add4 ∷ 0x58786f26 ∷ 0xdb979e81 ∷ 0xc0bed906 ∷ 0x994f26ee ∷ 0x22665d1a ∷ []);
  schedule = codes "h 1 15\nh 1 15\nh 1 15\nh 1 15\nh 1 15\ng 2 q 0\ng 2 l 0 12\ng 0 q 1\ng 0 l 1 3\nh 0 14\nh 0 14\nh 0 14\nh 0 14\nh 0 14\nh 0 13\nh 0 15\ng 1 q 0\ng 0 q 0\ng 2 d\ng 1 d\ng 1 d\ng 2 r 0\ng 0 l 0 1\ng 2 d\ng 0 l 1 10\ng 1 d\ng 0 l 0 14\ng 2 d\ng 1 r 0\ng 0 r 0\ng 2 d\ng 1 l 0 10\ng 0 l 1 15\ng 0 l 0 14\ng 0 r 1\nh 1 1\nh 1 6\nh 1 6\ng 2 q 0\ng 0 q 1\ng 0 d\ng 2 d\nh 1 6\nh 1 7\nh 1 4\ng 2 q 0\ng 0 q 1\ng 0 d\ng 2 d\nh 1 3\nh 1 9\nh 1 4\ng 2 q 0\ng 2 l 0 12\ng 0 q 1\ng 0 q 1\ng 0 q 1\ng 0 q 1\ng 0 q 1\ng 0 l 1 5\nend\n";
  words = 0x434d4444 ∷ 1 ∷ 2 ∷ 3 ∷ 4 ∷ 16 ∷ 2 ∷ 60 ∷ 16 ∷ 33 ∷ 6 ∷ 0 ∷ 0x200000 ∷ 0 ∷ 0 ∷ 0x10000 ∷ 0x10000 ∷ 0xb5faeee0 ∷ 0 ∷ 0x10040 ∷ 0 ∷ 2 ∷ 0 ∷ 0 ∷ 0 ∷ 0 ∷ 0 ∷ 0 ∷ 0 ∷ 0 ∷ 0 ∷ 0 ∷ 0 ∷ 0 ∷ 0 ∷ 0 ∷ 0 ∷ 0 ∷ 0 ∷ 0 ∷ 0 ∷ 0 ∷ 0x10018 ∷ 6 ∷ 0 ∷ 0 ∷ 0 ∷ 0x200000 ∷ 0 ∷ 0 ∷ 0x10000 ∷ 0x10010 ∷ 0x176fe91d ∷ 0 ∷ 0x100d0 ∷ 1 ∷ 2 ∷ 0 ∷ 0 ∷ 0x1000000 ∷ 0 ∷ 0 ∷ 0 ∷ 0 ∷ 0 ∷ 0 ∷ 0 ∷ 0 ∷ 0 ∷ 0 ∷ 0 ∷ 0 ∷ 0 ∷ 0 ∷ 0 ∷ 0 ∷ 0 ∷ 0x10028 ∷ 10 ∷ 0 ∷ 0 ∷ 14 ∷ 0 ∷ 0 ∷ 0 ∷ 0 ∷ 0 ∷ 0 ∷ 0 ∷ 0 ∷ 0 ∷ 0 ∷ 2 ∷ 2 ∷ 2 ∷ 2 ∷ 1 ∷ 5 ∷ 6 ∷ 5 ∷ 0 ∷ 0 ∷ 0 ∷ 3 ∷ 0 ∷ 2 ∷ 0 ∷ 0 ∷ 0 ∷ 0 ∷ 1 ∷ 0 ∷ 2 ∷ 0 ∷ 0 ∷ 0 ∷ 3 ∷ 2 ∷ 0 ∷ 0 ∷ 0 ∷ 0 ∷ 3 ∷ 5 ∷ 3 ∷ 8 ∷ 0 ∷ 0 ∷ 0 ∷ 0x92f463a2 ∷ 0x4e98f083 ∷ 0x398d12e3 ∷ 0x7cb94fb9 ∷ 0x43d166b3 ∷ 0x1a479576 ∷ 0xb2bde285 ∷ 0x396ab448 ∷ 0x308f032a ∷ 0xee0febd2 ∷ 0x3238add4 ∷ 0x58786f26 ∷ 0xdb979e81 ∷ 0xc0bed906 ∷ 0x994f26ee ∷ 0x22665d1a ∷ 2 ∷ 1 ∷ 10 ∷ 0 ∷ 0 ∷ 0 ∷ 0xe31323 ∷ 0x4e2a423 ∷ 0x8432603 ∷ 0x8e32223 ∷ 0x4032603 ∷ 0x8a2a023 ∷ 0x4e28023 ∷ 0x732223 ∷ 0x8028493 ∷ 0x1004a3af ∷ 0x18e4a62f ∷ 0x170713 ∷ 0x402d383 ∷ 0x170713 ∷ 0x170713 ∷ 0xf95ff06f ∷ 3 ∷ 1 ∷ 11 ∷ 0 ∷ 0 ∷ 0 ∷ 0 ∷ 0 ∷ 0 ∷ 0 ∷ 0 ∷ 0 ∷ 0 ∷ 0 ∷ 0 ∷ 0 ∷ 0 ∷ 0 ∷ 0 ∷ 0 ∷ 0 ∷ 0 ∷ 0 ∷ 0 ∷ 0 ∷ 1 ∷ 2 ∷ 1 ∷ 0 ∷ 0 ∷ 1 ∷ 2 ∷ 13 ∷ 14 ∷ 0 ∷ 0 ∷ 0 ∷ 3 ∷ 1 ∷ 2 ∷ 0 ∷ 0 ∷ 0 ∷ 0 ∷ 2 ∷ 2 ∷ 0 ∷ 0 ∷ 0 ∷ 0 ∷ 3 ∷ 0 ∷ 2 ∷ 0 ∷ 0 ∷ 0 ∷ 0 ∷ 1 ∷ 1 ∷ 3 ∷ 0 ∷ 1 ∷ 1 ∷ 0x1e31323 ∷ 0x4e2a423 ∷ 0x8432603 ∷ 0x8e32223 ∷ 0x4032603 ∷ 0x8a2a023 ∷ 0x4e28023 ∷ 0x732223 ∷ 0x8028493 ∷ 0x1004a3af ∷ 0x18e4a62f ∷ 0x170713 ∷ 0x402d383 ∷ 0x170713 ∷ 0x170713 ∷ 0xf95ff06f ∷ 0 ∷ 3 ∷ 2 ∷ 2 ∷ 2 ∷ 0 ∷ 4 ∷ 0 ∷ 0 ∷ 0 ∷ 2 ∷ 0 ∷ 0 ∷ 2 ∷ 0x102b7 ∷ 0x451313 ∷ 0x530333 ∷ 0x1851713 ∷ 0x8032383 ∷ 0x4028493 ∷ 0x40e4a3af ∷ 0x8830493 ∷ 0xe0e4a3af ∷ 0xc030493 ∷ 0x1004a3af ∷ 0x18e4a62f ∷ 0x4428493 ∷ 0x40e4a3af ∷ 0x32383 ∷ 0xce2a023 ∷ 1 ∷ 1 ∷ 5 ∷ 0 ∷ 0 ∷ 0 ∷ 0 ∷ 0 ∷ 0 ∷ 0 ∷ 0 ∷ 0 ∷ 0 ∷ 0 ∷ 0 ∷ 0 ∷ 0 ∷ 0 ∷ 0 ∷ 0 ∷ 0 ∷ 0 ∷ 0 ∷ 0 ∷ 2 ∷ 3 ∷ 0 ∷ 4 ∷ 0 ∷ 0 ∷ 0 ∷ 0 ∷ 0 ∷ 0 ∷ 0 ∷ 0 ∷ 0 ∷ 0 ∷ 0 ∷ 0 ∷ 0 ∷ 0 ∷ 0 ∷ 0 ∷ 2 ∷ 1 ∷ 2 ∷ 0xb5faeee0 ∷ 0x542f0690 ∷ 0xd4f5478e ∷ 0x9476504c ∷ 0x6471e813 ∷ 0x2b93e7e ∷ 0x176fe91d ∷ 0x547ece51 ∷ 0x7924fc5 ∷ 0xda6fdf88 ∷ 0xcfba5692 ∷ 0x503c43b0 ∷ 0xf6a7fede ∷ 0x535c0c98 ∷ 0x9a8d939e ∷ 0x43c45b24 ∷ 0 ∷ 0 ∷ 16 ∷ 0 ∷ 1 ∷ 0 ∷ 0 ∷ 0 ∷ 0 ∷ 0 ∷ 0 ∷ 0 ∷ 1 ∷ 0x10000 ∷ 0 ∷ 0 ∷ 0 ∷ 0 ∷ 0 ∷ 1 ∷ 0 ∷ 0 ∷ 0 ∷ 0 ∷ 0 ∷ 0 ∷ 1 ∷ 1 ∷ 0x10004 ∷ 0 ∷ 0 ∷ 0 ∷ 0 ∷ 0 ∷ 1 ∷ 0 ∷ 0 ∷ 0 ∷ 0 ∷ 0 ∷ 0 ∷ 2 ∷ 1 ∷ 0x10008 ∷ 0 ∷ 0 ∷ 0 ∷ 0 ∷ 0 ∷ 1 ∷ 0 ∷ 0 ∷ 0 ∷ 0 ∷ 0 ∷ 0 ∷ 3 ∷ 1 ∷ 0x1000c ∷ 0 ∷ 0 ∷ 0 ∷ 0 ∷ 0 ∷ 0 ∷ 0 ∷ 0 ∷ 0 ∷ 0 ∷ 0 ∷ 0 ∷ 0 ∷ 0 ∷ 0x10000 ∷ 0 ∷ 0 ∷ 0 ∷ 0 ∷ 0 ∷ 0 ∷ 0 ∷ 0 ∷ 0 ∷ 0 ∷ 0 ∷ 0 ∷ 1 ∷ 0 ∷ 0x10004 ∷ 0 ∷ 0 ∷ 0 ∷ 0 ∷ 0 ∷ 0 ∷ 0 ∷ 0 ∷ 0 ∷ 0 ∷ 0 ∷ 0 ∷ 2 ∷ 0 ∷ 0x10008 ∷ 0 ∷ 0 ∷ 0 ∷ 0 ∷ 0 ∷ 0 ∷ 0 ∷ 0 ∷ 0 ∷ 0 ∷ 0 ∷ 0 ∷ 3 ∷ 0 ∷ 0x1000c ∷ 0 ∷ 0 ∷ 0 ∷ 0 ∷ 0 ∷ 0 ∷ 0 ∷ 0 ∷ 0 ∷ 0 ∷ 0 ∷ 0 ∷ 4 ∷ 0 ∷ 0x10010 ∷ 2 ∷ 0x10080 ∷ 0xb5faeee0 ∷ 0 ∷ 0 ∷ 0 ∷ 0 ∷ 0 ∷ 0 ∷ 0 ∷ 0 ∷ 0 ∷ 5 ∷ 0 ∷ 0x10014 ∷ 0 ∷ 0 ∷ 0 ∷ 0 ∷ 7 ∷ 1 ∷ 7 ∷ 0 ∷ 0 ∷ 0 ∷ 0 ∷ 0 ∷ 4 ∷ 1 ∷ 0x10010 ∷ 2 ∷ 0x10090 ∷ 0x6471e813 ∷ 0 ∷ 7 ∷ 1 ∷ 7 ∷ 0 ∷ 0 ∷ 0 ∷ 0 ∷ 0 ∷ 5 ∷ 1 ∷ 0x10014 ∷ 0 ∷ 0 ∷ 0 ∷ 0 ∷ 12 ∷ 1 ∷ 9 ∷ 0 ∷ 0 ∷ 0 ∷ 0 ∷ 0 ∷ 6 ∷ 1 ∷ 0x10018 ∷ 7 ∷ 0x10040 ∷ 0xe31323 ∷ 0x1e31323 ∷ 12 ∷ 1 ∷ 9 ∷ 0 ∷ 0 ∷ 0 ∷ 0 ∷ 0 ∷ 7 ∷ 1 ∷ 0x1001c ∷ 0 ∷ 0 ∷ 0 ∷ 0 ∷ 14 ∷ 1 ∷ 11 ∷ 0 ∷ 0 ∷ 0 ∷ 0 ∷ 0 ∷ 8 ∷ 1 ∷ 0x10020 ∷ 7 ∷ 0x10098 ∷ 0x176fe91d ∷ 0x176fe91d ∷ 14 ∷ 1 ∷ 11 ∷ 0 ∷ 0 ∷ 0 ∷ 0 ∷ 0 ∷ 9 ∷ 1 ∷ 0x10024 ∷ 0 ∷ 0 ∷ 0 ∷ 0 ∷ 0x454d4444 ∷ [];
}

pub is_saved : IsSaved stored
unfolding examples_compute
is_saved = refl
