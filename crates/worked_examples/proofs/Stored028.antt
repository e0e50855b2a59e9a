-- A stored trace: the tree (((L)(L))), 40 turns.
use Rattle.std.specs.Prelude.{[], ◌∷◌, codes, refl}
use Rattle.worked_examples.specs.Programs.{with_wide_items}
use Rattle.worked_examples.specs.StoredTraces.{StoredTrace, IsPrinted, tree_of_sizes, code_and_words}
use Rattle.worked_examples.specs.Computing.{examples_compute}

abbrev stored : StoredTrace
stored = record {
  tree = with_wide_items (tree_of_sizes ((1 ∷ []) ∷ (2 ∷ []) ∷ (1 ∷ 1 ∷ []) ∷ []) 1 (record { sets = 1; buffer = 4; parking = 1; down = 21; requests = 21; replies = 21 }));
  image = code_and_words (0x000102b7 ∷ 0x00451313 ∷ 0x00530333 ∷ 0x01851713 ∷ 0x0072a423 ∷ 0x00032603 ∷ 0x04e2a223 ∷ 0x04032603 ∷ 0x0002a383 ∷ 0x00428493 ∷ 0xe0e4a3af ∷ 0x00030493 ∷ 0x00e4a3af ∷ 0x00a32223 ∷ 0x00170713 ∷ 0xfd5ff06f ∷ []) 0x10040 (0x6e948ea8 ∷ 0x0857b3c2 ∷ 0xed44eeb3 ∷ 0x5084ac91 ∷ 0xc3861315 ∷ 0x2ad53ec6 ∷ 0x92021681 ∷ 0xc2eef18d ∷ 0x0459f16c ∷ 0x424213c4 ∷ 0x0bfaae5d ∷ 0x0309010b ∷ 0x0159e182 ∷ 0xd6bd4727 ∷ 0x5ea287f4 ∷ 0x99bcb21d ∷ []);
  schedule = codes "h 0 8\nh 0 8\nh 1 13\nh 1 14\nh 0 0\nh 0 3\nh 0 3\nh 0 11\nh 1 5\nh 1 5\nh 1 5\ng 3 q 0\nh 0 5\ng 2 q 0\ng 1 q 1\ng 2 d\ng 1 q 0\ng 3 d\ng 3 l 0 3\ng 3 r 0\ng 1 r 1\ng 2 d\ng 2 q 0\ng 2 l 0 7\ng 1 q 0\ng 1 d\ng 2 d\nh 0 15\nh 0 2\nh 0 11\ng 3 l 0 15\nh 0 10\nh 0 10\ng 2 q 0\ng 2 q 0\ng 2 q 0\ng 3 d\ng 2 q 0\ng 2 q 0\ng 2 q 0\nend\n";
  printed = codes "t 0 h 0 8 retired plain\nt 1 h 0 8 retired plain\nt 2 h 1 13 retired plain\nt 3 h 1 14 retired plain\nt 4 h 0 0 retired plain\nt 5 h 0 3 retired plain\nt 6 h 0 3 retired store 00010008 00530333 00000000\nt 7 h 0 11 retired load 00010000 000102b7\nt 8 h 1 5 retired plain\nt 9 h 1 5 retired plain\nt 10 h 1 5 issued read 0\nt 11 g 3 q 0 granted read 0 from child 0 to parent\nt 12 h 0 5 issued read 1\nt 13 g 2 q 0 granted read 1 from child 0 to parent\nt 14 g 1 q 1 granted read 0 from child 1 to child 0\nt 15 g 2 d granted read 0 from parent to child 0\nt 16 g 1 q 0 granted read 1 from child 0 to child 1\nt 17 g 3 d granted read 1 from parent to child 0\nt 18 g 3 l 0 3 busy item 3 1 answering\nt 19 g 3 r 0 granted data 1 from child 0 to parent\nt 20 g 1 r 1 granted data 1 from child 1 to child 0\nt 21 g 2 d granted data 1 from parent to child 0\nt 22 g 2 q 0 granted erase 1 from child 0 to all\nt 23 g 2 l 0 7 busy item 2 0 answering\nt 24 g 1 q 0 granted erase 1 from child 0 to all\nt 25 g 1 d granted exclusive 1 from parent to child 0\nt 26 g 2 d granted exclusive 1 from parent to child 0\nt 27 h 0 15 retired store 00010044 0857b3c2 00000000\nt 28 h 0 2 retired load 00010040 6e948ea8\nt 29 h 0 11 retired load 00010000 000102b7\nt 30 g 3 l 0 15 busy item 3 1 down\nt 31 h 0 10 retired plain\nt 32 h 0 10 issued erase 0\nt 33 g 2 q 0 busy item 2 0 answering\nt 34 g 2 q 0 busy item 2 0 answering\nt 35 g 2 q 0 busy item 2 0 answering\nt 36 g 3 d granted erase 1 from parent to all\nt 37 g 2 q 0 busy item 2 0 answering\nt 38 g 2 q 0 busy item 2 0 answering\nt 39 g 2 q 0 busy item 2 0 answering\nddm 1\nturns 40 retired 14 granted 14 busy 9\nhart 0 running pc 00010028 done 10\nregs 0 00000000 00200000 00000000 00000000 00010000 00010000 000102b7 00000000 00010004 00000000 00000002 6e948ea8 00000000 00000000 00000000 00000000 00000000 00000000 00000000 00000000 00000000 00000000 00000000 00000000 00000000 00000000 00000000 00000000 00000000 00000000 00000000\nout 0 -\nhart 1 running pc 00010010 done 4\nregs 1 00000000 00200000 00000000 00000000 00010000 00010010 00000000 00000000 00000000 00000001 00000002 00000000 00000000 01000000 00000000 00000000 00000000 00000000 00000000 00000000 00000000 00000000 00000000 00000000 00000000 00000000 00000000 00000000 00000000 00000000 00000000\nout 1 -\nbus 0 read 0 data 0 erase 0 exclusive 0 out 0 inject 0\nbus 1 read 2 data 1 erase 1 exclusive 1 out 0 inject 0\nbus 2 read 2 data 1 erase 1 exclusive 1 out 0 inject 0\nbus 3 read 2 data 1 erase 1 exclusive 0 out 0 inject 0\nitem 0 00010000 000102b7 00451313 00000000 01851713 0072a423 00032603 04e2a223 04032603 0002a383 00428493 e0e4a3af 00030493 00e4a3af 00a32223 00170713 fd5ff06f leaf 0 buffer 0 WB\nitem 1 00010040 6e948ea8 00000000 ed44eeb3 5084ac91 c3861315 2ad53ec6 92021681 c2eef18d 0459f16c 424213c4 0bfaae5d 0309010b 0159e182 d6bd4727 5ea287f4 99bcb21d leaf 0 way 0 E-\nop 0 0.0.0.0.0.0.0 00010000 plain\nop 0 0.0.0.0.0.0.1 00010004 plain\nop 0 0.0.0.0.0.0.2 00010008 plain\nop 0 0.0.0.0.0.0.3 0001000c plain\nop 0 0.0.0.0.0.0.4 00010010 store 00010008 00530333 00000000\nop 0 0.0.0.0.0.0.5 00010014 load 00010000 000102b7\nop 1 0.0.0.1.0.0.0 00010000 plain\nop 1 0.0.0.1.0.0.1 00010004 plain\nop 1 0.0.0.1.0.0.2 00010008 plain\nop 1 0.0.0.1.0.0.3 0001000c plain\nop 0 0.0.5.0.5.0.6 00010018 store 00010044 0857b3c2 00000000\nop 0 0.0.5.0.5.0.7 0001001c load 00010040 6e948ea8\nop 0 0.0.5.0.5.0.8 00010020 load 00010000 000102b7\nop 0 0.0.5.0.5.0.9 00010024 plain\nend\n";
}

pub printed : IsPrinted stored
unfolding examples_compute
printed = refl
