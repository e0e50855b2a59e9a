-- A stored trace: the tree ((((L)(L)))(((L)(LL)))), 40 turns.
use Rattle.std.specs.Prelude.{[], ◌∷◌, codes, refl}
use Rattle.worked_examples.specs.StoredTraces.{StoredTrace, IsPrinted, tree_of_sizes, code_and_words}
use Rattle.worked_examples.specs.Computing.{examples_compute}

abbrev stored : StoredTrace
stored = record {
  tree = tree_of_sizes ((2 ∷ []) ∷ (1 ∷ 1 ∷ []) ∷ (2 ∷ 2 ∷ []) ∷ (1 ∷ 1 ∷ 1 ∷ 2 ∷ []) ∷ []) 1 (record { sets = 1; buffer = 2; parking = 1; down = 1; requests = 45; replies = 1 });
  image = code_and_words (0x000102b7 ∷ 0x00451313 ∷ 0x00530333 ∷ 0x01851713 ∷ 0x00030493 ∷ 0xe0e4a3af ∷ 0x00032603 ∷ 0x0482a603 ∷ 0x00032603 ∷ 0x00032603 ∷ 0x00170713 ∷ 0xfe5ff06f ∷ []) 0x10030 (0x5d4a271e ∷ 0x31c43c29 ∷ 0xf322cf08 ∷ 0xa31465c2 ∷ 0x1812bf27 ∷ 0x845d2f19 ∷ 0x0d9acc2a ∷ 0x9216a95f ∷ []);
  schedule = codes "h 0 15\nh 0 15\nh 0 15\nh 0 15\nh 0 15\nh 0 15\nh 0 9\nh 0 7\ng 5 l 0 10\ng 3 l 0 8\ng 6 d\ng 3 l 1 12\nh 1 2\nh 1 2\ng 1 l 0 11\ng 5 q 0\nh 1 13\nh 1 13\nh 1 13\nh 1 13\nh 1 8\ng 0 l 0 15\nh 1 1\ng 2 d\ng 6 q 0\ng 3 q 1\ng 1 q 0\ng 0 q 0\nh 3 14\nh 3 14\nh 3 14\nh 3 14\ng 3 q 0\ng 2 d\nh 4 4\nh 4 8\nh 4 8\nh 4 8\ng 2 d\nh 2 2\nend\n";
  printed = codes "t 0 h 0 15 retired plain\nt 1 h 0 15 retired plain\nt 2 h 0 15 retired plain\nt 3 h 0 15 retired plain\nt 4 h 0 15 retired plain\nt 5 h 0 15 retired amo 00010000 000102b7 000102b7\nt 6 h 0 9 retired load 00010000 000102b7\nt 7 h 0 7 issued read 4\nt 8 g 5 l 0 10 granted inject 0 from child 0 to parking\nt 9 g 3 l 0 8 granted inject 0 from child 0 to child 1\nt 10 g 6 d granted inject 0 from parent to parking\nt 11 g 3 l 1 12 granted inject 0 from child 1 to parking\nt 12 h 1 2 retired plain\nt 13 h 1 2 retired plain\nt 14 g 1 l 0 11 granted inject 0 from child 0 to parking\nt 15 g 5 q 0 granted read 4 from child 0 to parent\nt 16 h 1 13 retired plain\nt 17 h 1 13 retired plain\nt 18 h 1 13 retired plain\nt 19 h 1 13 retired amo 00010010 00030493 01000000\nt 20 h 1 8 retired load 00010010 01000000\nt 21 g 0 l 0 15 granted inject 0 from child 0 to child 1\nt 22 h 1 1 issued read 4\nt 23 g 2 d granted inject 0 from parent to child 0\nt 24 g 6 q 0 granted read 4 from child 0 to parent\nt 25 g 3 q 1 granted read 4 from child 1 to parent\nt 26 g 1 q 0 granted read 4 from child 0 to parent\nt 27 g 0 q 0 granted read 4 from child 0 to child 1\nt 28 h 3 14 retired plain\nt 29 h 3 14 retired plain\nt 30 h 3 14 retired plain\nt 31 h 3 14 retired plain\nt 32 g 3 q 0 granted read 4 from child 0 to joined\nt 33 g 2 d busy queue down 4\nt 34 h 4 4 retired plain\nt 35 h 4 8 retired plain\nt 36 h 4 8 retired plain\nt 37 h 4 8 retired plain\nt 38 g 2 d busy queue down 4\nt 39 h 2 2 retired plain\nddm 1\nturns 40 retired 23 granted 13 busy 2\nhart 0 running pc 0001001c done 7\nregs 0 00000000 00200000 00000000 00000000 00010000 00010000 000102b7 00000000 00010000 00000000 00000005 000102b7 00000000 00000000 00000000 00000000 00000000 00000000 00000000 00000000 00000000 00000000 00000000 00000000 00000000 00000000 00000000 00000000 00000000 00000000 00000000\nout 0 -\nhart 1 running pc 0001001c done 7\nregs 1 00000000 00200000 00000000 00000000 00010000 00010010 00030493 00000000 00010010 00000001 00000005 01000000 00000000 01000000 00000000 00000000 00000000 00000000 00000000 00000000 00000000 00000000 00000000 00000000 00000000 00000000 00000000 00000000 00000000 00000000 00000000\nout 1 -\nhart 2 running pc 00010004 done 1\nregs 2 00000000 00200000 00000000 00000000 00010000 00000000 00000000 00000000 00000000 00000002 00000005 00000000 00000000 00000000 00000000 00000000 00000000 00000000 00000000 00000000 00000000 00000000 00000000 00000000 00000000 00000000 00000000 00000000 00000000 00000000 00000000\nout 2 -\nhart 3 running pc 00010010 done 4\nregs 3 00000000 00200000 00000000 00000000 00010000 00010030 00000000 00000000 00000000 00000003 00000005 00000000 00000000 03000000 00000000 00000000 00000000 00000000 00000000 00000000 00000000 00000000 00000000 00000000 00000000 00000000 00000000 00000000 00000000 00000000 00000000\nout 3 -\nhart 4 running pc 00010010 done 4\nregs 4 00000000 00200000 00000000 00000000 00010000 00010040 00000000 00000000 00000000 00000004 00000005 00000000 00000000 04000000 00000000 00000000 00000000 00000000 00000000 00000000 00000000 00000000 00000000 00000000 00000000 00000000 00000000 00000000 00000000 00000000 00000000\nout 4 -\nbus 0 read 1 data 0 erase 0 exclusive 0 out 0 inject 1\nbus 1 read 1 data 0 erase 0 exclusive 0 out 0 inject 1\nbus 2 read 0 data 0 erase 0 exclusive 0 out 0 inject 1\nbus 3 read 2 data 0 erase 0 exclusive 0 out 0 inject 2\nbus 4 read 0 data 0 erase 0 exclusive 0 out 0 inject 0\nbus 5 read 1 data 0 erase 0 exclusive 0 out 0 inject 1\nbus 6 read 1 data 0 erase 0 exclusive 0 out 0 inject 1\nbus 7 read 0 data 0 erase 0 exclusive 0 out 0 inject 0\nbus 8 read 0 data 0 erase 0 exclusive 0 out 0 inject 0\nitem 0 00010000 000102b7 00451313 00530333 01851713 bus 4 down 0 -----\nitem 1 00010010 01000000 e0e4a3af 00032603 0482a603 leaf 1 buffer 0 -E---\nitem 2 00010020 00032603 00032603 00170713 fe5ff06f leaf 2 way 0 --E--\nitem 3 00010030 5d4a271e 31c43c29 f322cf08 a31465c2 leaf 3 way 0 ---E-\nitem 4 00010040 1812bf27 845d2f19 0d9acc2a 9216a95f leaf 4 way 0 RR--E\nop 0 0.0.0.0.0.0.0.0.0 00010000 plain\nop 0 0.0.0.0.0.0.0.0.1 00010004 plain\nop 0 0.0.0.0.0.0.0.0.2 00010008 plain\nop 0 0.0.0.0.0.0.0.0.3 0001000c plain\nop 0 0.0.0.0.0.0.0.0.4 00010010 plain\nop 0 0.0.0.0.0.0.0.0.5 00010014 amo 00010000 000102b7 000102b7\nop 0 0.0.0.0.0.0.0.0.6 00010018 load 00010000 000102b7\nop 1 0.0.0.0.1.1.1.0.0 00010000 plain\nop 1 0.0.0.0.1.1.1.0.1 00010004 plain\nop 1 0.0.0.0.1.1.1.0.2 00010008 plain\nop 1 0.0.0.0.1.1.1.0.3 0001000c plain\nop 1 0.0.0.0.1.1.1.0.4 00010010 plain\nop 1 0.0.0.0.1.1.1.0.5 00010014 amo 00010010 00030493 01000000\nop 1 0.0.0.0.1.1.1.0.6 00010018 load 00010010 01000000\nop 2 0.1.0.0.0.0.0.0.0 00010000 plain\nop 3 0.1.0.0.0.1.0.0.0 00010000 plain\nop 3 0.1.0.0.0.1.0.0.1 00010004 plain\nop 3 0.1.0.0.0.1.0.0.2 00010008 plain\nop 3 0.1.0.0.0.1.0.0.3 0001000c plain\nop 4 0.1.0.0.0.1.0.1.0 00010000 plain\nop 4 0.1.0.0.0.1.0.1.1 00010004 plain\nop 4 0.1.0.0.0.1.0.1.2 00010008 plain\nop 4 0.1.0.0.0.1.0.1.3 0001000c plain\nend\n";
}

pub printed : IsPrinted stored
unfolding examples_compute
printed = refl
