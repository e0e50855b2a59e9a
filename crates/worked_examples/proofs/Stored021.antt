-- A stored trace: the tree (((LL)(L))((L))), 40 turns.
use Rattle.std.specs.Prelude.{[], ◌∷◌, codes, refl}
use Rattle.worked_examples.specs.StoredTraces.{StoredTrace, IsPrinted, tree_of_sizes, writable_code}
use Rattle.worked_examples.specs.Computing.{examples_compute}

abbrev stored : StoredTrace
stored = record {
  tree = tree_of_sizes ((2 ∷ []) ∷ (2 ∷ 1 ∷ []) ∷ (2 ∷ 1 ∷ 1 ∷ []) ∷ []) 4 (record { sets = 2; buffer = 1; parking = 4; down = 53; requests = 53; replies = 53 });
  image = writable_code (0x000102b7 ∷ 0x00451313 ∷ 0x00530333 ∷ 0x01851713 ∷ 0x02032383 ∷ 0x02e30023 ∷ 0x02032603 ∷ 0x0202a603 ∷ 0x0042a603 ∷ 0x00061463 ∷ 0x00170713 ∷ 0x04a2ac23 ∷ 0x02030493 ∷ 0x1004a3af ∷ 0x0182a603 ∷ 0x18e4a62f ∷ 0x02032603 ∷ 0x00428493 ∷ 0x20e4a3af ∷ 0x02e32023 ∷ 0x00e30123 ∷ 0x00170713 ∷ 0x00170713 ∷ 0xfb5ff06f ∷ []);
  schedule = codes "h 2 4\nh 2 4\nh 2 4\nh 2 4\nh 2 4\ng 4 q 0\nh 1 0\nh 1 0\nh 1 0\nh 1 0\ng 1 q 1\ng 3 d\nh 1 14\ng 3 r 0\ng 1 r 0\ng 3 q 1\ng 1 q 0\ng 0 q 0\ng 2 d\nh 0 12\nh 0 12\nh 0 12\nh 0 12\nh 0 12\ng 3 q 0\ng 1 q 0\ng 4 d\nh 2 4\nh 3 9\nh 2 5\ng 4 q 0\ng 1 q 1\ng 3 d\ng 1 d\nh 3 6\nh 3 6\nh 3 6\nh 3 6\ng 5 q 0\ng 2 q 0\nend\n";
  printed = codes "t 0 h 2 4 retired plain\nt 1 h 2 4 retired plain\nt 2 h 2 4 retired plain\nt 3 h 2 4 retired plain\nt 4 h 2 4 issued read 4\nt 5 g 4 q 0 granted read 4 from child 0 to parent\nt 6 h 1 0 retired plain\nt 7 h 1 0 retired plain\nt 8 h 1 0 retired plain\nt 9 h 1 0 retired plain\nt 10 g 1 q 1 granted read 4 from child 1 to child 0\nt 11 g 3 d granted read 4 from parent to child 0\nt 12 h 1 14 issued read 3\nt 13 g 3 r 0 granted data 4 from child 0 to parent\nt 14 g 1 r 0 granted data 4 from child 0 to child 1\nt 15 g 3 q 1 granted read 3 from child 1 to parent\nt 16 g 1 q 0 granted read 3 from child 0 to parent\nt 17 g 0 q 0 granted read 3 from child 0 to child 1\nt 18 g 2 d granted read 3 from parent to child 0\nt 19 h 0 12 retired plain\nt 20 h 0 12 retired plain\nt 21 h 0 12 retired plain\nt 22 h 0 12 retired plain\nt 23 h 0 12 issued read 2\nt 24 g 3 q 0 granted read 2 from child 0 to parent\nt 25 g 1 q 0 granted read 2 from child 0 to child 1\nt 26 g 4 d granted data 4 from parent to child 0\nt 27 h 2 4 retired load 00010040 02032603\nt 28 h 3 9 retired plain\nt 29 h 2 5 issued erase 4\nt 30 g 4 q 0 granted erase 4 from child 0 to all\nt 31 g 1 q 1 granted erase 4 from child 1 to all\nt 32 g 3 d granted erase 4 from parent to all\nt 33 g 1 d granted exclusive 4 from parent to child 1\nt 34 h 3 6 retired plain\nt 35 h 3 6 retired plain\nt 36 h 3 6 retired plain\nt 37 h 3 6 issued read 5\nt 38 g 5 q 0 granted read 5 from child 0 to parent\nt 39 g 2 q 0 granted read 5 from child 0 to parent\nddm 1\nturns 40 retired 17 granted 18 busy 0\nhart 0 running pc 00010010 done 4\nregs 0 00000000 00200000 00000000 00000000 00010000 00010000 00000000 00000000 00000000 00000000 00000004 00000000 00000000 00000000 00000000 00000000 00000000 00000000 00000000 00000000 00000000 00000000 00000000 00000000 00000000 00000000 00000000 00000000 00000000 00000000 00000000\nout 0 -\nhart 1 running pc 00010010 done 4\nregs 1 00000000 00200000 00000000 00000000 00010000 00010010 00000000 00000000 00000000 00000001 00000004 00000000 00000000 01000000 00000000 00000000 00000000 00000000 00000000 00000000 00000000 00000000 00000000 00000000 00000000 00000000 00000000 00000000 00000000 00000000 00000000\nout 1 -\nhart 2 running pc 00010014 done 5\nregs 2 00000000 00200000 00000000 00000000 00010000 00010020 02032603 00000000 00000000 00000002 00000004 00000000 00000000 02000000 00000000 00000000 00000000 00000000 00000000 00000000 00000000 00000000 00000000 00000000 00000000 00000000 00000000 00000000 00000000 00000000 00000000\nout 2 -\nhart 3 running pc 00010010 done 4\nregs 3 00000000 00200000 00000000 00000000 00010000 00010030 00000000 00000000 00000000 00000003 00000004 00000000 00000000 03000000 00000000 00000000 00000000 00000000 00000000 00000000 00000000 00000000 00000000 00000000 00000000 00000000 00000000 00000000 00000000 00000000 00000000\nout 3 -\nbus 0 read 1 data 0 erase 0 exclusive 0 out 0 inject 0\nbus 1 read 3 data 1 erase 1 exclusive 1 out 0 inject 0\nbus 2 read 2 data 0 erase 0 exclusive 0 out 0 inject 0\nbus 3 read 3 data 1 erase 1 exclusive 0 out 0 inject 0\nbus 4 read 1 data 1 erase 1 exclusive 0 out 0 inject 0\nbus 5 read 1 data 0 erase 0 exclusive 0 out 0 inject 0\nitem 0 00010000 000102b7 00451313 00530333 01851713 leaf 0 way 0 E---\nitem 1 00010010 02032383 02e30023 02032603 0202a603 leaf 1 way 0 -E--\nitem 2 00010020 0042a603 00061463 00170713 04a2ac23 leaf 2 way 0 R-E-\nitem 3 00010030 02030493 1004a3af 0182a603 18e4a62f leaf 3 way 0 -R-E\nitem 4 00010040 02032603 00428493 20e4a3af 02e32023 leaf 2 way 1 --W-\nitem 5 00010050 00e30123 00170713 00170713 fb5ff06f leaf 1 way 1 -E-R\nop 1 0.0.0.0.0.1.0 00010000 plain\nop 1 0.0.0.0.0.1.1 00010004 plain\nop 1 0.0.0.0.0.1.2 00010008 plain\nop 1 0.0.0.0.0.1.3 0001000c plain\nop 2 0.0.0.1.0.0.0 00010000 plain\nop 2 0.0.0.1.0.0.1 00010004 plain\nop 2 0.0.0.1.0.0.2 00010008 plain\nop 2 0.0.0.1.0.0.3 0001000c plain\nop 0 0.0.1.0.3.0.0 00010000 plain\nop 0 0.0.1.0.3.0.1 00010004 plain\nop 0 0.0.1.0.3.0.2 00010008 plain\nop 0 0.0.1.0.3.0.3 0001000c plain\nop 2 0.0.2.1.2.0.4 00010010 load 00010040 02032603\nop 3 0.1.0.0.0.0.0 00010000 plain\nop 3 0.1.0.0.0.0.1 00010004 plain\nop 3 0.1.0.0.0.0.2 00010008 plain\nop 3 0.1.0.0.0.0.3 0001000c plain\nend\n";
}

pub printed : IsPrinted stored
unfolding examples_compute
printed = refl
