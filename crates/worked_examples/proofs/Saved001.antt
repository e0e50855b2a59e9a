-- A stored checkpoint: the tree (LLLL), 5 turns; items of 64 bytes, and a copy in a buffer.
use Rattle.std.specs.Prelude.{[], ◌∷◌, codes, refl}
use Rattle.worked_examples.specs.Programs.{with_wide_items}
use Rattle.worked_examples.specs.StoredTraces.{tree_of_sizes, code_and_words}
use Rattle.worked_examples.specs.Saved.{StoredCheckpoint, IsSaved}
use Rattle.worked_examples.specs.Computing.{examples_compute}

abbrev stored : StoredCheckpoint
stored = record {
  tree = with_wide_items (tree_of_sizes ((4 ∷ []) ∷ []) 1 (record { sets = 1; buffer = 1; parking = 1; down = 32; requests = 32; replies = 32 }));
  image = code_and_words (0x102b7 ∷ 0xc82a383 ∷ 0x170713 ∷ 0xff9ff06f ∷ []) 0x10040 (0x3c747ccf ∷ 0x5c6e30a2 ∷ 0x36745a01 ∷ 0xef4c04e0 ∷ 0x49275fad ∷ 0xb7a2bf3a ∷ 0x98df0c4d ∷ 0xcf2bb8e ∷ 0xb9c469f7 ∷ 0xa53f86c2 ∷ 0x20b94be5 ∷ 0xe46a8c98 ∷ 0x619d030a ∷ 0xbda73211 ∷ 0xa2b1bc69 ∷ 0xe45922d2 ∷ 0xd52d78dc ∷ 0xd9a39f0c ∷ 0x2826644f ∷ 0xb11615f9 ∷ 0xd7fa5e51 ∷ 0x4b18f187 ∷ 0x6850a4e7 ∷ 0x9e3b710a ∷ 0xc1a47350 ∷ 0x8627805b ∷ 0x1555fb4 ∷ 0x7c2fc54f ∷ 0x50711be8 ∷ 0x3e956753 ∷ 0xa2d191c6 ∷ 0xb2b105e0 ∷ 0x522dd9f4 ∷ 0x5d751b11 ∷ 0x2ea0cf47 ∷ 0x5382c34b ∷ 0xe1dad9e2 ∷ 0xcdebb18f ∷ 0x2af2e15f ∷ 0xe26031a1 ∷ 0xfab793ab ∷ 0xbe4a036f ∷ 0x13ef279 ∷ 0x72070d5a ∷ 0x159c6d06 ∷ 0x24630f0d ∷ 0xfef6f2b8 ∷ 0x4744b5c1 ∷ []);
  schedule = codes "h 0 5\nh 0 5\nh 1 13\nh 1 13\ng 0 q 0\nend\n";
  words = 0x434d4444 ∷ 1 ∷ 4 ∷ 1 ∷ 4 ∷ 16 ∷ 1 ∷ 5 ∷ 2 ∷ 1 ∷ 0 ∷ 0 ∷ 0x200000 ∷ 0 ∷ 0 ∷ 0x10000 ∷ 0 ∷ 0 ∷ 0 ∷ 0 ∷ 0 ∷ 4 ∷ 0 ∷ 0 ∷ 0 ∷ 0 ∷ 0 ∷ 0 ∷ 0 ∷ 0 ∷ 0 ∷ 0 ∷ 0 ∷ 0 ∷ 0 ∷ 0 ∷ 0 ∷ 0 ∷ 0 ∷ 0 ∷ 0 ∷ 0 ∷ 0x10004 ∷ 1 ∷ 0 ∷ 0 ∷ 0 ∷ 0x200000 ∷ 0 ∷ 0 ∷ 0x10000 ∷ 0 ∷ 0 ∷ 0 ∷ 0 ∷ 1 ∷ 4 ∷ 0 ∷ 0 ∷ 0 ∷ 0 ∷ 0 ∷ 0 ∷ 0 ∷ 0 ∷ 0 ∷ 0 ∷ 0 ∷ 0 ∷ 0 ∷ 0 ∷ 0 ∷ 0 ∷ 0 ∷ 0 ∷ 0 ∷ 0 ∷ 0x10004 ∷ 1 ∷ 0 ∷ 0 ∷ 0 ∷ 0x200000 ∷ 0 ∷ 0 ∷ 0 ∷ 0 ∷ 0 ∷ 0 ∷ 0 ∷ 2 ∷ 4 ∷ 0 ∷ 0 ∷ 0 ∷ 0 ∷ 0 ∷ 0 ∷ 0 ∷ 0 ∷ 0 ∷ 0 ∷ 0 ∷ 0 ∷ 0 ∷ 0 ∷ 0 ∷ 0 ∷ 0 ∷ 0 ∷ 0 ∷ 0 ∷ 0x10000 ∷ 0 ∷ 0 ∷ 0 ∷ 0 ∷ 0x200000 ∷ 0 ∷ 0 ∷ 0 ∷ 0 ∷ 0 ∷ 0 ∷ 0 ∷ 3 ∷ 4 ∷ 0 ∷ 0 ∷ 0 ∷ 0 ∷ 0 ∷ 0 ∷ 0 ∷ 0 ∷ 0 ∷ 0 ∷ 0 ∷ 0 ∷ 0 ∷ 0 ∷ 0 ∷ 0 ∷ 0 ∷ 0 ∷ 0 ∷ 0 ∷ 0x10000 ∷ 0 ∷ 0 ∷ 0 ∷ 1 ∷ 0 ∷ 0 ∷ 0 ∷ 0 ∷ 1 ∷ 3 ∷ 2 ∷ 1 ∷ 0 ∷ 0 ∷ 0 ∷ 0 ∷ 0 ∷ 0 ∷ 0 ∷ 0 ∷ 1 ∷ 0 ∷ 0 ∷ 0 ∷ 0 ∷ 0 ∷ 0 ∷ 0 ∷ 0 ∷ 1 ∷ 3 ∷ 0 ∷ 4 ∷ 0 ∷ 0 ∷ 0 ∷ 0 ∷ 0 ∷ 0 ∷ 0 ∷ 0 ∷ 0 ∷ 0 ∷ 0 ∷ 0 ∷ 0 ∷ 0 ∷ 0 ∷ 0 ∷ 1 ∷ 0 ∷ 2 ∷ 0x102b7 ∷ 0xc82a383 ∷ 0x170713 ∷ 0xff9ff06f ∷ 0 ∷ 0 ∷ 0 ∷ 0 ∷ 0 ∷ 0 ∷ 0 ∷ 0 ∷ 0 ∷ 0 ∷ 0 ∷ 0 ∷ 0 ∷ 0 ∷ 1 ∷ 3 ∷ 1 ∷ 3 ∷ 0 ∷ 4 ∷ 0 ∷ 0 ∷ 0 ∷ 0 ∷ 0 ∷ 0 ∷ 0 ∷ 0 ∷ 0 ∷ 0 ∷ 0 ∷ 0 ∷ 0 ∷ 0 ∷ 0 ∷ 0 ∷ 1 ∷ 1 ∷ 2 ∷ 0x3c747ccf ∷ 0x5c6e30a2 ∷ 0x36745a01 ∷ 0xef4c04e0 ∷ 0x49275fad ∷ 0xb7a2bf3a ∷ 0x98df0c4d ∷ 0xcf2bb8e ∷ 0xb9c469f7 ∷ 0xa53f86c2 ∷ 0x20b94be5 ∷ 0xe46a8c98 ∷ 0x619d030a ∷ 0xbda73211 ∷ 0xa2b1bc69 ∷ 0xe45922d2 ∷ 0 ∷ 0 ∷ 0 ∷ 0 ∷ 1 ∷ 2 ∷ 0 ∷ 2 ∷ 0xd52d78dc ∷ 0xd9a39f0c ∷ 0x2826644f ∷ 0xb11615f9 ∷ 0xd7fa5e51 ∷ 0x4b18f187 ∷ 0x6850a4e7 ∷ 0x9e3b710a ∷ 0xc1a47350 ∷ 0x8627805b ∷ 0x1555fb4 ∷ 0x7c2fc54f ∷ 0x50711be8 ∷ 0x3e956753 ∷ 0xa2d191c6 ∷ 0xb2b105e0 ∷ 0 ∷ 0 ∷ 0 ∷ 0 ∷ 0 ∷ 1 ∷ 3 ∷ 0 ∷ 1 ∷ 0x522dd9f4 ∷ 0x5d751b11 ∷ 0x2ea0cf47 ∷ 0x5382c34b ∷ 0xe1dad9e2 ∷ 0xcdebb18f ∷ 0x2af2e15f ∷ 0xe26031a1 ∷ 0xfab793ab ∷ 0xbe4a036f ∷ 0x13ef279 ∷ 0x72070d5a ∷ 0x159c6d06 ∷ 0x24630f0d ∷ 0xfef6f2b8 ∷ 0x4744b5c1 ∷ 0 ∷ 1 ∷ 3 ∷ 0x522dd9f4 ∷ 0x5d751b11 ∷ 0x2ea0cf47 ∷ 0x5382c34b ∷ 0xe1dad9e2 ∷ 0xcdebb18f ∷ 0x2af2e15f ∷ 0xe26031a1 ∷ 0xfab793ab ∷ 0xbe4a036f ∷ 0x13ef279 ∷ 0x72070d5a ∷ 0x159c6d06 ∷ 0x24630f0d ∷ 0xfef6f2b8 ∷ 0x4744b5c1 ∷ 2 ∷ 0 ∷ 0 ∷ 0 ∷ 0 ∷ 0 ∷ 0 ∷ 0 ∷ 0 ∷ 0 ∷ 0 ∷ 0x10000 ∷ 0 ∷ 0 ∷ 0 ∷ 0 ∷ 0 ∷ 1 ∷ 0 ∷ 0 ∷ 0 ∷ 0 ∷ 0 ∷ 0 ∷ 0 ∷ 1 ∷ 0x10000 ∷ 0 ∷ 0 ∷ 0 ∷ 0 ∷ 0x454d4444 ∷ [];
}

pub is_saved : IsSaved stored
unfolding examples_compute
is_saved = refl
