-- A stored trace: the tree (((L)(L))((L)(L))), 70 turns.
use Rattle.std.specs.Prelude.{[], ◌∷◌, codes, refl}
use Rattle.worked_examples.specs.StoredTraces.{StoredTrace, IsPrinted, tree_of_sizes, writable_code}
use Rattle.worked_examples.specs.Computing.{examples_compute}

abbrev stored : StoredTrace
stored = record {
  tree = tree_of_sizes ((2 ∷ []) ∷ (2 ∷ 2 ∷ []) ∷ (1 ∷ 1 ∷ 1 ∷ 1 ∷ []) ∷ []) 4 (record { sets = 2; buffer = 1; parking = 1; down = 2; requests = 2; replies = 1 });
  image = writable_code (0x000102b7 ∷ 0x00451313 ∷ 0x00530333 ∷ 0x01851713 ∷ 0x01032383 ∷ 0x02032383 ∷ 0x02032603 ∷ 0x02e31023 ∷ 0x0302a603 ∷ 0x01832383 ∷ 0x02032383 ∷ 0x00061463 ∷ 0x00170713 ∷ 0x02032603 ∷ 0x02e32023 ∷ 0x00835383 ∷ 0x02e32023 ∷ 0x00028493 ∷ 0x1004a3af ∷ 0x0542a603 ∷ 0x18e4a62f ∷ 0x02a32023 ∷ 0x02031383 ∷ 0xfb5ff06f ∷ []);
  schedule = codes "h 3 5\nh 1 7\nh 1 7\nh 1 7\nh 1 7\nh 0 6\nh 0 8\nh 0 3\nh 0 3\nh 0 3\nh 2 11\nh 2 11\nh 2 11\nh 2 11\nh 2 11\ng 3 q 0\ng 1 q 0\nh 1 10\ng 4 q 0\ng 1 q 1\ng 5 q 0\nh 3 5\nh 3 5\nh 3 5\nh 3 5\ng 2 q 0\ng 6 d\ng 6 q 0\ng 2 q 1\ng 0 q 1\ng 1 d\ng 3 d\ng 6 r 0\ng 4 d\ng 3 r 0\ng 1 r 0\ng 0 r 0\ng 2 d\ng 6 d\nh 3 3\nh 3 8\ng 6 q 0\ng 2 q 1\ng 0 q 1\ng 1 d\ng 2 r 1\ng 5 d\nh 2 15\ng 4 d\nh 2 5\ng 5 q 0\ng 2 q 0\ng 6 d\ng 4 r 0\ng 6 r 0\ng 1 r 1\ng 3 d\nh 0 5\nh 0 13\ng 2 r 1\ng 5 d\nh 2 5\ng 3 q 0\ng 1 q 0\nh 2 7\nh 2 15\ng 5 q 0\ng 2 q 0\ng 0 q 1\ng 1 d\nend\n";
  printed = codes "t 0 h 3 5 retired plain\nt 1 h 1 7 retired plain\nt 2 h 1 7 retired plain\nt 3 h 1 7 retired plain\nt 4 h 1 7 retired plain\nt 5 h 0 6 retired plain\nt 6 h 0 8 retired plain\nt 7 h 0 3 retired plain\nt 8 h 0 3 retired plain\nt 9 h 0 3 issued read 1\nt 10 h 2 11 retired plain\nt 11 h 2 11 retired plain\nt 12 h 2 11 retired plain\nt 13 h 2 11 retired plain\nt 14 h 2 11 issued read 3\nt 15 g 3 q 0 granted read 1 from child 0 to parent\nt 16 g 1 q 0 granted read 1 from child 0 to child 1\nt 17 h 1 10 issued read 2\nt 18 g 4 q 0 granted read 2 from child 0 to parent\nt 19 g 1 q 1 granted read 2 from child 1 to parent\nt 20 g 5 q 0 granted read 3 from child 0 to parent\nt 21 h 3 5 retired plain\nt 22 h 3 5 retired plain\nt 23 h 3 5 retired plain\nt 24 h 3 5 issued read 4\nt 25 g 2 q 0 granted read 3 from child 0 to child 1\nt 26 g 6 d granted read 3 from parent to child 0\nt 27 g 6 q 0 granted read 4 from child 0 to parent\nt 28 g 2 q 1 granted read 4 from child 1 to parent\nt 29 g 0 q 1 granted read 4 from child 1 to child 0\nt 30 g 1 d granted read 4 from parent to child 0\nt 31 g 3 d granted read 4 from parent to child 0\nt 32 g 6 r 0 granted data 3 from child 0 to parent\nt 33 g 4 d granted read 1 from parent to child 0\nt 34 g 3 r 0 granted data 4 from child 0 to parent\nt 35 g 1 r 0 granted data 4 from child 0 to parent\nt 36 g 0 r 0 granted data 4 from child 0 to child 1\nt 37 g 2 d granted data 4 from parent to child 1\nt 38 g 6 d granted data 4 from parent to child 0\nt 39 h 3 3 retired load 00010040 02e32023\nt 40 h 3 8 issued read 5\nt 41 g 6 q 0 granted read 5 from child 0 to parent\nt 42 g 2 q 1 granted read 5 from child 1 to parent\nt 43 g 0 q 1 granted read 5 from child 1 to child 0\nt 44 g 1 d granted read 5 from parent to child 1\nt 45 g 2 r 1 granted data 3 from child 1 to child 0\nt 46 g 5 d granted data 3 from parent to child 0\nt 47 h 2 15 retired load 00010030 00170713\nt 48 g 4 d busy queue leafreplies 1\nt 49 h 2 5 issued read 4\nt 50 g 5 q 0 granted read 4 from child 0 to parent\nt 51 g 2 q 0 granted read 4 from child 0 to child 1\nt 52 g 6 d granted read 4 from parent to child 0\nt 53 g 4 r 0 granted data 1 from child 0 to parent\nt 54 g 6 r 0 granted data 4 from child 0 to parent\nt 55 g 1 r 1 granted data 1 from child 1 to child 0\nt 56 g 3 d granted data 1 from parent to child 0\nt 57 h 0 5 retired load 00010010 01032383\nt 58 h 0 13 issued read 2\nt 59 g 2 r 1 granted data 4 from child 1 to child 0\nt 60 g 5 d granted data 4 from parent to child 0\nt 61 h 2 5 retired load 00010040 02e32023\nt 62 g 3 q 0 granted read 2 from child 0 to parent\nt 63 g 1 q 0 granted read 2 from child 0 to joined\nt 64 h 2 7 retired load 00010040 02e32023\nt 65 h 2 15 issued erase 4\nt 66 g 5 q 0 granted erase 4 from child 0 to all\nt 67 g 2 q 0 granted erase 4 from child 0 to all\nt 68 g 0 q 1 granted erase 4 from child 1 to all\nt 69 g 1 d granted erase 4 from parent to all\nddm 1\nturns 70 retired 21 granted 40 busy 1\nhart 0 running pc 00010014 done 5\nregs 0 00000000 00200000 00000000 00000000 00010000 00010000 01032383 00000000 00000000 00000000 00000004 00000000 00000000 00000000 00000000 00000000 00000000 00000000 00000000 00000000 00000000 00000000 00000000 00000000 00000000 00000000 00000000 00000000 00000000 00000000 00000000\nout 0 -\nhart 1 running pc 00010010 done 4\nregs 1 00000000 00200000 00000000 00000000 00010000 00010010 00000000 00000000 00000000 00000001 00000004 00000000 00000000 01000000 00000000 00000000 00000000 00000000 00000000 00000000 00000000 00000000 00000000 00000000 00000000 00000000 00000000 00000000 00000000 00000000 00000000\nout 1 -\nhart 2 running pc 0001001c done 7\nregs 2 00000000 00200000 00000000 00000000 00010000 00010020 02e32023 00000000 00000000 00000002 00000004 02e32023 00000000 02000000 00000000 00000000 00000000 00000000 00000000 00000000 00000000 00000000 00000000 00000000 00000000 00000000 00000000 00000000 00000000 00000000 00000000\nout 2 -\nhart 3 running pc 00010014 done 5\nregs 3 00000000 00200000 00000000 00000000 00010000 00010030 02e32023 00000000 00000000 00000003 00000004 00000000 00000000 03000000 00000000 00000000 00000000 00000000 00000000 00000000 00000000 00000000 00000000 00000000 00000000 00000000 00000000 00000000 00000000 00000000 00000000\nout 3 -\nbus 0 read 2 data 1 erase 1 exclusive 0 out 0 inject 0\nbus 1 read 5 data 2 erase 1 exclusive 0 out 0 inject 0\nbus 2 read 4 data 3 erase 1 exclusive 0 out 0 inject 0\nbus 3 read 3 data 2 erase 0 exclusive 0 out 0 inject 0\nbus 4 read 2 data 1 erase 0 exclusive 0 out 0 inject 0\nbus 5 read 2 data 2 erase 1 exclusive 0 out 0 inject 0\nbus 6 read 4 data 3 erase 0 exclusive 0 out 0 inject 0\nitem 0 00010000 000102b7 00451313 00530333 01851713 leaf 0 way 0 E---\nitem 1 00010010 01032383 02032383 02032603 02e31023 leaf 0 way 0 SS--\nitem 2 00010020 0302a603 01832383 02032383 00061463 leaf 2 way 0 RRE-\nitem 3 00010030 00170713 02032603 02e32023 00835383 leaf 2 way 0 --SS\nitem 4 00010040 02e32023 00028493 1004a3af 0542a603 leaf 2 way 1 S-WS\nitem 5 00010050 18e4a62f 02a32023 02031383 fb5ff06f leaf 1 way 1 -E-R\nop 0 0.0.0.0.0.0.0 00010000 plain\nop 0 0.0.0.0.0.0.1 00010004 plain\nop 0 0.0.0.0.0.0.2 00010008 plain\nop 0 0.0.0.0.0.0.3 0001000c plain\nop 1 0.0.0.1.0.0.0 00010000 plain\nop 1 0.0.0.1.0.0.1 00010004 plain\nop 1 0.0.0.1.0.0.2 00010008 plain\nop 1 0.0.0.1.0.0.3 0001000c plain\nop 2 0.1.0.0.0.0.0 00010000 plain\nop 2 0.1.0.0.0.0.1 00010004 plain\nop 2 0.1.0.0.0.0.2 00010008 plain\nop 2 0.1.0.0.0.0.3 0001000c plain\nop 3 0.1.0.1.0.0.0 00010000 plain\nop 3 0.1.0.1.0.0.1 00010004 plain\nop 3 0.1.0.1.0.0.2 00010008 plain\nop 3 0.1.0.1.0.0.3 0001000c plain\nop 3 2.1.3.1.4.0.4 00010010 load 00010040 02e32023\nop 2 2.1.5.0.2.0.4 00010010 load 00010030 00170713\nop 2 2.1.7.0.4.0.5 00010014 load 00010040 02e32023\nop 2 2.1.7.0.4.0.6 00010018 load 00010040 02e32023\nop 0 3.0.6.0.4.0.4 00010010 load 00010010 01032383\nend\n";
}

pub printed : IsPrinted stored
unfolding examples_compute
printed = refl
