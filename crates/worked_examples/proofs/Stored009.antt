-- A stored trace: the tree (((L)(L))((L)(L))), 40 turns.
use Rattle.std.specs.Prelude.{[], ◌∷◌, codes, refl}
use Rattle.worked_examples.specs.StoredTraces.{StoredTrace, IsPrinted, tree_of_sizes, writable_code}
use Rattle.worked_examples.specs.Computing.{examples_compute}

abbrev stored : StoredTrace
stored = record {
  tree = tree_of_sizes ((2 ∷ []) ∷ (2 ∷ 2 ∷ []) ∷ (1 ∷ 1 ∷ 1 ∷ 1 ∷ []) ∷ []) 2 (record { sets = 2; buffer = 1; parking = 1; down = 53; requests = 53; replies = 53 });
  image = writable_code (0x000102b7 ∷ 0x00451313 ∷ 0x00530333 ∷ 0x01851713 ∷ 0x02030493 ∷ 0x20e4a3af ∷ 0x0282c383 ∷ 0x02e32023 ∷ 0x02e32023 ∷ 0x00170713 ∷ 0x02e31123 ∷ 0x02a32023 ∷ 0x0302a383 ∷ 0x02032383 ∷ 0x0282a383 ∷ 0x02032383 ∷ 0x02e32023 ∷ 0x05428493 ∷ 0x1004a3af ∷ 0x18e4a62f ∷ 0x0582a383 ∷ 0x02032603 ∷ 0x02e32023 ∷ 0xfb5ff06f ∷ []);
  schedule = codes "h 3 13\nh 3 13\nh 3 14\nh 3 14\nh 0 15\nh 0 15\nh 0 15\nh 0 10\nh 0 10\nh 0 10\nh 3 8\ng 3 q 0\ng 1 q 0\ng 0 q 0\nh 3 2\ng 2 d\ng 6 q 0\ng 3 l 0 1\ng 2 q 1\ng 5 d\ng 5 r 0\ng 2 r 0\ng 1 l 0 7\ng 0 r 1\nh 1 10\nh 1 10\nh 1 10\ng 0 q 1\nh 2 6\nh 2 6\nh 2 9\nh 2 9\nh 1 12\nh 1 12\nh 1 12\ng 4 q 0\ng 1 q 1\ng 0 q 0\ng 2 d\ng 6 d\nend\n";
  printed = codes "t 0 h 3 13 retired plain\nt 1 h 3 13 retired plain\nt 2 h 3 14 retired plain\nt 3 h 3 14 retired plain\nt 4 h 0 15 retired plain\nt 5 h 0 15 retired plain\nt 6 h 0 15 retired plain\nt 7 h 0 10 retired plain\nt 8 h 0 10 retired plain\nt 9 h 0 10 issued read 2\nt 10 h 3 8 retired plain\nt 11 g 3 q 0 granted read 2 from child 0 to parent\nt 12 g 1 q 0 granted read 2 from child 0 to parent\nt 13 g 0 q 0 granted read 2 from child 0 to child 1\nt 14 h 3 2 issued read 5\nt 15 g 2 d granted read 2 from parent to child 0\nt 16 g 6 q 0 granted read 5 from child 0 to parent\nt 17 g 3 l 0 1 granted inject 0 from child 0 to parking\nt 18 g 2 q 1 granted read 5 from child 1 to parent\nt 19 g 5 d granted read 2 from parent to child 0\nt 20 g 5 r 0 granted data 2 from child 0 to parent\nt 21 g 2 r 0 granted data 2 from child 0 to parent\nt 22 g 1 l 0 7 granted inject 0 from child 0 to child 1\nt 23 g 0 r 1 granted data 2 from child 1 to child 0\nt 24 h 1 10 retired plain\nt 25 h 1 10 retired plain\nt 26 h 1 10 retired plain\nt 27 g 0 q 1 granted read 5 from child 1 to child 0\nt 28 h 2 6 retired plain\nt 29 h 2 6 retired plain\nt 30 h 2 9 retired plain\nt 31 h 2 9 retired plain\nt 32 h 1 12 retired plain\nt 33 h 1 12 retired plain\nt 34 h 1 12 issued read 3\nt 35 g 4 q 0 granted read 3 from child 0 to parent\nt 36 g 1 q 1 granted read 3 from child 1 to parent\nt 37 g 0 q 0 granted read 3 from child 0 to child 1\nt 38 g 2 d granted read 3 from parent to child 1\nt 39 g 6 d granted read 3 from parent to child 0\nddm 1\nturns 40 retired 19 granted 18 busy 0\nhart 0 running pc 00010014 done 5\nregs 0 00000000 00200000 00000000 00000000 00010000 00010000 00000000 00000000 00010020 00000000 00000004 00000000 00000000 00000000 00000000 00000000 00000000 00000000 00000000 00000000 00000000 00000000 00000000 00000000 00000000 00000000 00000000 00000000 00000000 00000000 00000000\nout 0 -\nhart 1 running pc 00010014 done 5\nregs 1 00000000 00200000 00000000 00000000 00010000 00010010 00000000 00000000 00010030 00000001 00000004 00000000 00000000 01000000 00000000 00000000 00000000 00000000 00000000 00000000 00000000 00000000 00000000 00000000 00000000 00000000 00000000 00000000 00000000 00000000 00000000\nout 1 -\nhart 2 running pc 00010010 done 4\nregs 2 00000000 00200000 00000000 00000000 00010000 00010020 00000000 00000000 00000000 00000002 00000004 00000000 00000000 02000000 00000000 00000000 00000000 00000000 00000000 00000000 00000000 00000000 00000000 00000000 00000000 00000000 00000000 00000000 00000000 00000000 00000000\nout 2 -\nhart 3 running pc 00010014 done 5\nregs 3 00000000 00200000 00000000 00000000 00010000 00010030 00000000 00000000 00010050 00000003 00000004 00000000 00000000 03000000 00000000 00000000 00000000 00000000 00000000 00000000 00000000 00000000 00000000 00000000 00000000 00000000 00000000 00000000 00000000 00000000 00000000\nout 3 -\nbus 0 read 3 data 1 erase 0 exclusive 0 out 0 inject 0\nbus 1 read 2 data 0 erase 0 exclusive 0 out 0 inject 1\nbus 2 read 3 data 1 erase 0 exclusive 0 out 0 inject 0\nbus 3 read 1 data 0 erase 0 exclusive 0 out 0 inject 1\nbus 4 read 1 data 0 erase 0 exclusive 0 out 0 inject 0\nbus 5 read 1 data 1 erase 0 exclusive 0 out 0 inject 0\nbus 6 read 2 data 0 erase 0 exclusive 0 out 0 inject 0\nitem 0 00010000 000102b7 00451313 00530333 01851713 bus 4 down 0 ----\nitem 1 00010010 02030493 20e4a3af 0282c383 02e32023 leaf 1 buffer 0 -E--\nitem 2 00010020 02e32023 00170713 02e31123 02a32023 bus 1 down 0 B-S-\nitem 3 00010030 0302a383 02032383 0282a383 02032383 leaf 3 way 0 -B-S\nitem 4 00010040 02e32023 05428493 1004a3af 18e4a62f leaf 0 way 1 E---\nitem 5 00010050 0582a383 02032603 02e32023 fb5ff06f leaf 1 way 1 -E-B\nop 0 0.0.0.0.0.0.0 00010000 plain\nop 0 0.0.0.0.0.0.1 00010004 plain\nop 0 0.0.0.0.0.0.2 00010008 plain\nop 0 0.0.0.0.0.0.3 0001000c plain\nop 0 0.0.0.0.0.0.4 00010010 plain\nop 1 0.0.0.1.0.0.0 00010000 plain\nop 1 0.0.0.1.0.0.1 00010004 plain\nop 1 0.0.0.1.0.0.2 00010008 plain\nop 1 0.0.0.1.0.0.3 0001000c plain\nop 1 0.0.0.1.0.0.4 00010010 plain\nop 3 0.1.0.1.0.0.0 00010000 plain\nop 3 0.1.0.1.0.0.1 00010004 plain\nop 3 0.1.0.1.0.0.2 00010008 plain\nop 3 0.1.0.1.0.0.3 0001000c plain\nop 3 0.1.0.1.0.0.4 00010010 plain\nop 2 1.1.1.0.2.0.0 00010000 plain\nop 2 1.1.1.0.2.0.1 00010004 plain\nop 2 1.1.1.0.2.0.2 00010008 plain\nop 2 1.1.1.0.2.0.3 0001000c plain\nend\n";
}

pub printed : IsPrinted stored
unfolding examples_compute
printed = refl
