-- A stored trace: the tree ((LL)(L)(LL)), 40 turns.
use Rattle.std.specs.Prelude.{[], ◌∷◌, codes, refl}
use Rattle.worked_examples.specs.StoredTraces.{StoredTrace, IsPrinted, tree_of_sizes, code_and_words}
use Rattle.worked_examples.specs.Computing.{examples_compute}

abbrev stored : StoredTrace
stored = record {
  tree = tree_of_sizes ((3 ∷ []) ∷ (2 ∷ 1 ∷ 2 ∷ []) ∷ []) 1 (record { sets = 1; buffer = 2; parking = 1; down = 1; requests = 1; replies = 1 });
  image = code_and_words (0x000102b7 ∷ 0x0072a423 ∷ 0x02a2a823 ∷ 0x0272ac23 ∷ 0x00170713 ∷ 0xff1ff06f ∷ []) 0x10020 (0x9048398b ∷ 0xf3e82c45 ∷ 0xeb148e21 ∷ 0x731450d6 ∷ 0x46e5c485 ∷ 0x7a6b0a31 ∷ 0xa22c0d05 ∷ 0x105fbbde ∷ []);
  schedule = codes "h 2 5\nh 2 5\nh 1 0\nh 1 0\nh 0 2\nh 0 2\ng 2 q 0\nh 3 6\nh 3 6\ng 1 q 1\nh 0 10\ng 3 q 0\ng 3 l 0 11\ng 1 r 0\ng 1 l 1 15\ng 0 q 1\ng 0 l 0 11\ng 1 d\ng 2 l 0 10\ng 1 r 0\ng 0 r 0\ng 2 d\ng 0 r 0\ng 0 q 2\ng 2 d\ng 2 q 0\ng 0 l 1 14\ng 1 q 0\ng 1 d\ng 0 q 1\ng 1 r 0\ng 0 q 1\ng 0 q 1\ng 0 r 0\ng 0 r 0\ng 1 q 1\ng 0 q 1\ng 2 l 0 2\ng 1 q 1\ng 1 q 1\nend\n";
  printed = codes "t 0 h 2 5 retired plain\nt 1 h 2 5 issued read 0\nt 2 h 1 0 retired plain\nt 3 h 1 0 issued read 0\nt 4 h 0 2 retired plain\nt 5 h 0 2 retired store 00010008 02a2a823 00000000\nt 6 g 2 q 0 granted read 0 from child 0 to parent\nt 7 h 3 6 retired plain\nt 8 h 3 6 issued read 0\nt 9 g 1 q 1 granted read 0 from child 1 to child 0\nt 10 h 0 10 issued read 3\nt 11 g 3 q 0 granted read 0 from child 0 to parent\nt 12 g 3 l 0 11 granted inject 3 from child 0 to child 1\nt 13 g 1 r 0 granted data 0 from child 0 to child 1\nt 14 g 1 l 1 15 granted inject 1 from child 1 to parking\nt 15 g 0 q 1 granted read 0 from child 1 to child 0\nt 16 g 0 l 0 11 granted inject 1 from child 0 to child 1\nt 17 g 1 d granted read 0 from parent to child 0\nt 18 g 2 l 0 10 busy parking 2\nt 19 g 1 r 0 granted data 0 from child 0 to parent\nt 20 g 0 r 0 busy queue down 2\nt 21 g 2 d granted inject 1 from parent to parking\nt 22 g 0 r 0 granted data 0 from child 0 to child 1\nt 23 g 0 q 2 granted read 0 from child 2 to child 0\nt 24 g 2 d granted data 0 from parent to child 0\nt 25 g 2 q 0 granted erase 0 from child 0 to all\nt 26 g 0 l 1 14 granted inject 1 from child 1 to child 2\nt 27 g 1 q 0 granted read 3 from child 0 to parent\nt 28 g 1 d granted read 0 from parent to child 0\nt 29 g 0 q 1 busy item 0 0 local 2\nt 30 g 1 r 0 granted data 0 from child 0 to parent\nt 31 g 0 q 1 busy item 0 0 local 2\nt 32 g 0 q 1 busy item 0 0 local 2\nt 33 g 0 r 0 busy queue down 3\nt 34 g 0 r 0 busy queue down 3\nt 35 g 1 q 1 busy queue requests 1\nt 36 g 0 q 1 busy item 0 0 local 2\nt 37 g 2 l 0 2 granted inject 2 from child 0 to parking\nt 38 g 1 q 1 busy queue requests 1\nt 39 g 1 q 1 busy queue requests 1\nddm 1\nturns 40 retired 5 granted 20 busy 11\nhart 0 running pc 00010008 done 2\nregs 0 00000000 00200000 00000000 00000000 00010000 00000000 00000000 00000000 00000000 00000000 00000005 00000000 00000000 00000000 00000000 00000000 00000000 00000000 00000000 00000000 00000000 00000000 00000000 00000000 00000000 00000000 00000000 00000000 00000000 00000000 00000000\nout 0 -\nhart 1 running pc 00010004 done 1\nregs 1 00000000 00200000 00000000 00000000 00010000 00000000 00000000 00000000 00000000 00000001 00000005 00000000 00000000 00000000 00000000 00000000 00000000 00000000 00000000 00000000 00000000 00000000 00000000 00000000 00000000 00000000 00000000 00000000 00000000 00000000 00000000\nout 1 -\nhart 2 running pc 00010004 done 1\nregs 2 00000000 00200000 00000000 00000000 00010000 00000000 00000000 00000000 00000000 00000002 00000005 00000000 00000000 00000000 00000000 00000000 00000000 00000000 00000000 00000000 00000000 00000000 00000000 00000000 00000000 00000000 00000000 00000000 00000000 00000000 00000000\nout 2 -\nhart 3 running pc 00010004 done 1\nregs 3 00000000 00200000 00000000 00000000 00010000 00000000 00000000 00000000 00000000 00000003 00000005 00000000 00000000 00000000 00000000 00000000 00000000 00000000 00000000 00000000 00000000 00000000 00000000 00000000 00000000 00000000 00000000 00000000 00000000 00000000 00000000\nout 3 -\nhart 4 running pc 00010000 done 0\nregs 4 00000000 00200000 00000000 00000000 00000000 00000000 00000000 00000000 00000000 00000004 00000005 00000000 00000000 00000000 00000000 00000000 00000000 00000000 00000000 00000000 00000000 00000000 00000000 00000000 00000000 00000000 00000000 00000000 00000000 00000000 00000000\nout 4 -\nbus 0 read 2 data 1 erase 0 exclusive 0 out 0 inject 2\nbus 1 read 4 data 3 erase 0 exclusive 0 out 0 inject 1\nbus 2 read 1 data 1 erase 1 exclusive 0 out 0 inject 2\nbus 3 read 1 data 0 erase 0 exclusive 0 out 0 inject 1\nitem 0 00010000 000102b7 0072a423 00000000 0272ac23 leaf 0 buffer 0 SWWB-\nitem 1 00010010 00170713 ff1ff06f 00000000 00000000 bus 3 down 0 -----\nitem 2 00010020 9048398b f3e82c45 eb148e21 731450d6 bus 2 parking 0 -----\nitem 3 00010030 46e5c485 7a6b0a31 a22c0d05 105fbbde leaf 4 way 0 B---E\nop 0 0.0.0.0.0 00010000 plain\nop 0 0.0.0.0.1 00010004 store 00010008 02a2a823 00000000\nop 1 0.0.0.1.0 00010000 plain\nop 2 0.1.0.0.0 00010000 plain\nop 3 0.2.0.0.0 00010000 plain\nend\n";
}

pub printed : IsPrinted stored
unfolding examples_compute
printed = refl
