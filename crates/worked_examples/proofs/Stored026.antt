-- A stored trace: the tree ((L)(LL)), 40 turns.
use Rattle.std.specs.Prelude.{[], ◌∷◌, codes, refl}
use Rattle.worked_examples.specs.StoredTraces.{StoredTrace, IsPrinted, tree_of_sizes, code_and_words}
use Rattle.worked_examples.specs.Computing.{examples_compute}

abbrev stored : StoredTrace
stored = record {
  tree = tree_of_sizes ((2 ∷ []) ∷ (1 ∷ 2 ∷ []) ∷ []) 1 (record { sets = 1; buffer = 2; parking = 4; down = 24; requests = 24; replies = 24 });
  image = code_and_words (0x000102b7 ∷ 0x0002a383 ∷ 0x0142a603 ∷ 0x0282a603 ∷ 0x0202a603 ∷ 0xff1ff06f ∷ []) 0x10020 (0x3f86dc1f ∷ 0x5f404e80 ∷ 0x6dc99cc4 ∷ 0xf2114fe7 ∷ []);
  schedule = codes "h 2 1\nh 0 13\nh 1 3\nh 1 3\nh 0 9\nh 2 0\nh 0 15\ng 1 q 0\ng 2 l 0 0\ng 1 l 0 5\ng 2 q 1\ng 0 l 1 2\ng 1 d\ng 0 l 0 5\ng 2 q 0\ng 2 l 1 5\ng 0 l 1 14\ng 1 d\ng 0 l 0 8\nh 0 8\nh 0 9\ng 1 q 0\ng 1 l 0 12\ng 0 l 0 3\ng 0 q 0\ng 2 d\nh 1 9\nh 1 8\ng 2 q 0\ng 2 q 0\ng 2 q 0\ng 2 q 0\ng 2 q 0\ng 2 l 0 14\ng 2 q 0\ng 2 q 0\ng 2 q 0\ng 2 q 0\ng 2 q 0\ng 2 q 0\nend\n";
  printed = codes "t 0 h 2 1 retired plain\nt 1 h 0 13 retired plain\nt 2 h 1 3 retired plain\nt 3 h 1 3 issued read 0\nt 4 h 0 9 retired load 00010000 000102b7\nt 5 h 2 0 issued read 0\nt 6 h 0 15 issued read 1\nt 7 g 1 q 0 granted read 1 from child 0 to parent\nt 8 g 2 l 0 0 granted inject 1 from child 0 to parking\nt 9 g 1 l 0 5 granted inject 0 from child 0 to parking\nt 10 g 2 q 1 granted read 0 from child 1 to parent\nt 11 g 0 l 1 2 granted inject 1 from child 1 to child 0\nt 12 g 1 d granted inject 1 from parent to child 0\nt 13 g 0 l 0 5 granted inject 0 from child 0 to child 1\nt 14 g 2 q 0 granted read 0 from child 0 to joined\nt 15 g 2 l 1 5 granted inject 2 from child 1 to parking\nt 16 g 0 l 1 14 granted inject 2 from child 1 to child 0\nt 17 g 1 d granted inject 2 from parent to parking\nt 18 g 0 l 0 8 granted inject 2 from child 0 to child 1\nt 19 h 0 8 retired load 00010014 ff1ff06f\nt 20 h 0 9 issued read 2\nt 21 g 1 q 0 granted read 2 from child 0 to parent\nt 22 g 1 l 0 12 granted inject 1 from child 0 to parking\nt 23 g 0 l 0 3 granted inject 1 from child 0 to child 1\nt 24 g 0 q 0 granted read 2 from child 0 to child 1\nt 25 g 2 d granted inject 0 from parent to readers\nt 26 h 1 9 retired load 00010000 000102b7\nt 27 h 1 8 issued read 1\nt 28 g 2 q 0 busy item 2 1 down\nt 29 g 2 q 0 busy item 2 1 down\nt 30 g 2 q 0 busy item 2 1 down\nt 31 g 2 q 0 busy item 2 1 down\nt 32 g 2 q 0 busy item 2 1 down\nt 33 g 2 l 0 14 granted out 0 from child 0 to gone\nt 34 g 2 q 0 busy item 2 1 down\nt 35 g 2 q 0 busy item 2 1 down\nt 36 g 2 q 0 busy item 2 1 down\nt 37 g 2 q 0 busy item 2 1 down\nt 38 g 2 q 0 busy item 2 1 down\nt 39 g 2 q 0 busy item 2 1 down\nddm 1\nturns 40 retired 6 granted 18 busy 11\nhart 0 running pc 0001000c done 3\nregs 0 00000000 00200000 00000000 00000000 00010000 00000000 000102b7 00000000 00000000 00000000 00000003 ff1ff06f 00000000 00000000 00000000 00000000 00000000 00000000 00000000 00000000 00000000 00000000 00000000 00000000 00000000 00000000 00000000 00000000 00000000 00000000 00000000\nout 0 -\nhart 1 running pc 00010008 done 2\nregs 1 00000000 00200000 00000000 00000000 00010000 00000000 000102b7 00000000 00000000 00000001 00000003 00000000 00000000 00000000 00000000 00000000 00000000 00000000 00000000 00000000 00000000 00000000 00000000 00000000 00000000 00000000 00000000 00000000 00000000 00000000 00000000\nout 1 -\nhart 2 running pc 00010004 done 1\nregs 2 00000000 00200000 00000000 00000000 00010000 00000000 00000000 00000000 00000000 00000002 00000003 00000000 00000000 00000000 00000000 00000000 00000000 00000000 00000000 00000000 00000000 00000000 00000000 00000000 00000000 00000000 00000000 00000000 00000000 00000000 00000000\nout 2 -\nbus 0 read 1 data 0 erase 0 exclusive 0 out 0 inject 5\nbus 1 read 2 data 0 erase 0 exclusive 0 out 0 inject 4\nbus 2 read 2 data 0 erase 0 exclusive 0 out 1 inject 3\nitem 0 00010000 000102b7 0002a383 0142a603 0282a603 leaf 2 way 0 --S\nitem 1 00010010 0202a603 ff1ff06f 00000000 00000000 bus 2 down 1 -R-\nitem 2 00010020 3f86dc1f 5f404e80 6dc99cc4 f2114fe7 bus 2 down 0 R--\nop 0 0.0.0.0.0 00010000 plain\nop 0 0.0.0.0.1 00010004 load 00010000 000102b7\nop 1 0.1.0.0.0 00010000 plain\nop 2 0.1.0.1.0 00010000 plain\nop 1 2.1.5.0.1 00010004 load 00010000 000102b7\nop 0 3.0.4.0.2 00010008 load 00010014 ff1ff06f\nend\n";
}

pub printed : IsPrinted stored
unfolding examples_compute
printed = refl
