-- A stored trace: the tree ((LL)(LL)), 40 turns.
use Rattle.std.specs.Prelude.{[], ◌∷◌, codes, refl}
use Rattle.worked_examples.specs.StoredTraces.{StoredTrace, IsPrinted, tree_of_sizes, writable_code}
use Rattle.worked_examples.specs.Computing.{examples_compute}

abbrev stored : StoredTrace
stored = record {
  tree = tree_of_sizes ((2 ∷ []) ∷ (2 ∷ 2 ∷ []) ∷ []) 4 (record { sets = 2; buffer = 4; parking = 1; down = 53; requests = 53; replies = 53 });
  image = writable_code (0x000102b7 ∷ 0x00451313 ∷ 0x00530333 ∷ 0x01851713 ∷ 0x0402a603 ∷ 0x02032383 ∷ 0x0282a383 ∷ 0x02032383 ∷ 0x02032603 ∷ 0x02032383 ∷ 0x0202a603 ∷ 0x02032603 ∷ 0x00a61463 ∷ 0x00170713 ∷ 0x0402a383 ∷ 0x02032383 ∷ 0x02032383 ∷ 0x02032383 ∷ 0x0482a383 ∷ 0x02032383 ∷ 0x02032603 ∷ 0x02032383 ∷ 0x02032603 ∷ 0xfb5ff06f ∷ []);
  schedule = codes "h 0 5\nh 0 5\nh 0 5\nh 3 5\nh 0 2\nh 0 2\nh 2 9\nh 2 9\nh 0 13\nh 3 6\nh 3 6\nh 3 6\nh 3 6\nh 1 12\nh 1 12\nh 2 7\nh 2 7\nh 2 7\ng 2 q 1\ng 1 q 0\ng 0 q 1\ng 0 q 0\ng 2 d\nh 1 14\nh 1 14\ng 2 q 0\nh 1 4\ng 1 q 1\ng 2 r 0\ng 0 r 1\ng 1 q 1\ng 1 q 1\ng 1 q 1\ng 1 q 1\ng 1 q 1\ng 1 q 1\ng 1 q 1\ng 1 q 1\ng 1 q 1\ng 1 q 1\nend\n";
  printed = codes "t 0 h 0 5 retired plain\nt 1 h 0 5 retired plain\nt 2 h 0 5 retired plain\nt 3 h 3 5 retired plain\nt 4 h 0 2 retired plain\nt 5 h 0 2 retired load 00010040 02032383\nt 6 h 2 9 retired plain\nt 7 h 2 9 retired plain\nt 8 h 0 13 issued read 2\nt 9 h 3 6 retired plain\nt 10 h 3 6 retired plain\nt 11 h 3 6 retired plain\nt 12 h 3 6 issued read 4\nt 13 h 1 12 retired plain\nt 14 h 1 12 retired plain\nt 15 h 2 7 retired plain\nt 16 h 2 7 retired plain\nt 17 h 2 7 issued read 4\nt 18 g 2 q 1 granted read 4 from child 1 to parent\nt 19 g 1 q 0 granted read 2 from child 0 to parent\nt 20 g 0 q 1 granted read 4 from child 1 to child 0\nt 21 g 0 q 0 granted read 2 from child 0 to child 1\nt 22 g 2 d granted read 2 from parent to child 0\nt 23 h 1 14 retired plain\nt 24 h 1 14 retired plain\nt 25 g 2 q 0 granted read 4 from child 0 to joined\nt 26 h 1 4 issued read 4\nt 27 g 1 q 1 busy item 1 4 answering\nt 28 g 2 r 0 granted data 2 from child 0 to parent\nt 29 g 0 r 1 granted data 2 from child 1 to child 0\nt 30 g 1 q 1 busy item 1 4 answering\nt 31 g 1 q 1 busy item 1 4 answering\nt 32 g 1 q 1 busy item 1 4 answering\nt 33 g 1 q 1 busy item 1 4 answering\nt 34 g 1 q 1 busy item 1 4 answering\nt 35 g 1 q 1 busy item 1 4 answering\nt 36 g 1 q 1 busy item 1 4 answering\nt 37 g 1 q 1 busy item 1 4 answering\nt 38 g 1 q 1 busy item 1 4 answering\nt 39 g 1 q 1 busy item 1 4 answering\nddm 1\nturns 40 retired 17 granted 8 busy 11\nhart 0 running pc 00010014 done 5\nregs 0 00000000 00200000 00000000 00000000 00010000 00010000 00000000 00000000 00000000 00000000 00000004 02032383 00000000 00000000 00000000 00000000 00000000 00000000 00000000 00000000 00000000 00000000 00000000 00000000 00000000 00000000 00000000 00000000 00000000 00000000 00000000\nout 0 -\nhart 1 running pc 00010010 done 4\nregs 1 00000000 00200000 00000000 00000000 00010000 00010010 00000000 00000000 00000000 00000001 00000004 00000000 00000000 01000000 00000000 00000000 00000000 00000000 00000000 00000000 00000000 00000000 00000000 00000000 00000000 00000000 00000000 00000000 00000000 00000000 00000000\nout 1 -\nhart 2 running pc 00010010 done 4\nregs 2 00000000 00200000 00000000 00000000 00010000 00010020 00000000 00000000 00000000 00000002 00000004 00000000 00000000 02000000 00000000 00000000 00000000 00000000 00000000 00000000 00000000 00000000 00000000 00000000 00000000 00000000 00000000 00000000 00000000 00000000 00000000\nout 2 -\nhart 3 running pc 00010010 done 4\nregs 3 00000000 00200000 00000000 00000000 00010000 00010030 00000000 00000000 00000000 00000003 00000004 00000000 00000000 03000000 00000000 00000000 00000000 00000000 00000000 00000000 00000000 00000000 00000000 00000000 00000000 00000000 00000000 00000000 00000000 00000000 00000000\nout 3 -\nbus 0 read 2 data 1 erase 0 exclusive 0 out 0 inject 0\nbus 1 read 1 data 0 erase 0 exclusive 0 out 0 inject 0\nbus 2 read 3 data 1 erase 0 exclusive 0 out 0 inject 0\nitem 0 00010000 000102b7 00451313 00530333 01851713 leaf 0 way 0 E---\nitem 1 00010010 0402a603 02032383 0282a383 02032383 leaf 1 way 0 -E--\nitem 2 00010020 02032603 02032383 0202a603 02032603 bus 1 down 1 R-S-\nitem 3 00010030 00a61463 00170713 0402a383 02032383 leaf 3 way 0 ---E\nitem 4 00010040 02032383 02032383 0482a383 02032383 leaf 0 way 1 ERRR\nitem 5 00010050 02032603 02032383 02032603 fb5ff06f leaf 1 way 1 -E--\nop 0 0.0.0.0.0 00010000 plain\nop 0 0.0.0.0.1 00010004 plain\nop 0 0.0.0.0.2 00010008 plain\nop 0 0.0.0.0.3 0001000c plain\nop 0 0.0.0.0.4 00010010 load 00010040 02032383\nop 1 0.0.0.1.0 00010000 plain\nop 1 0.0.0.1.1 00010004 plain\nop 1 0.0.1.1.2 00010008 plain\nop 1 0.0.1.1.3 0001000c plain\nop 2 0.1.0.0.0 00010000 plain\nop 2 0.1.0.0.1 00010004 plain\nop 2 0.1.0.0.2 00010008 plain\nop 2 0.1.0.0.3 0001000c plain\nop 3 0.1.0.1.0 00010000 plain\nop 3 0.1.0.1.1 00010004 plain\nop 3 0.1.0.1.2 00010008 plain\nop 3 0.1.0.1.3 0001000c plain\nend\n";
}

pub printed : IsPrinted stored
unfolding examples_compute
printed = refl
