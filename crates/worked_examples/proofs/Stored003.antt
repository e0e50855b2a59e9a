-- A stored trace: the tree (((L))((L))), 40 turns.
use Rattle.std.specs.Prelude.{[], ◌∷◌, codes, refl}
use Rattle.worked_examples.specs.StoredTraces.{StoredTrace, IsPrinted, tree_of_sizes, writable_code}
use Rattle.worked_examples.specs.Computing.{examples_compute}

abbrev stored : StoredTrace
stored = record {
  tree = tree_of_sizes ((2 ∷ []) ∷ (1 ∷ 1 ∷ []) ∷ (1 ∷ 1 ∷ []) ∷ []) 1 (record { sets = 3; buffer = 4; parking = 4; down = 48; requests = 48; replies = 48 });
  image = writable_code (0x000102b7 ∷ 0x00451313 ∷ 0x00530333 ∷ 0x01851713 ∷ 0x02e32823 ∷ 0x03832383 ∷ 0x03832603 ∷ 0x03828493 ∷ 0xe0e4a3af ∷ 0x02732823 ∷ 0x02e30923 ∷ 0x03030493 ∷ 0x00e4a3af ∷ 0x02e2a823 ∷ 0x03032383 ∷ 0x03428493 ∷ 0x1004a3af ∷ 0x18e4a62f ∷ 0x03030493 ∷ 0x08e4a3af ∷ 0x03032383 ∷ 0x00170713 ∷ 0x00170713 ∷ 0xfb5ff06f ∷ []);
  schedule = codes "h 1 14\nh 1 14\nh 1 14\nh 1 14\nh 1 14\ng 4 q 0\ng 2 q 0\ng 0 q 1\ng 1 d\ng 3 d\ng 3 r 0\ng 1 r 0\ng 0 r 0\nh 0 4\nh 0 4\ng 2 d\nh 0 8\nh 0 10\nh 0 9\ng 3 l 0 9\ng 1 l 0 4\ng 0 l 0 2\ng 2 d\ng 3 q 0\ng 4 l 0 11\ng 1 q 0\ng 0 q 0\ng 2 d\ng 2 l 0 7\ng 0 l 1 15\ng 1 d\ng 3 d\ng 1 l 0 12\ng 0 l 0 15\ng 2 d\ng 4 d\ng 4 q 0\ng 2 q 0\ng 0 q 1\ng 0 d\nend\n";
  printed = codes "t 0 h 1 14 retired plain\nt 1 h 1 14 retired plain\nt 2 h 1 14 retired plain\nt 3 h 1 14 retired plain\nt 4 h 1 14 issued read 4\nt 5 g 4 q 0 granted read 4 from child 0 to parent\nt 6 g 2 q 0 granted read 4 from child 0 to parent\nt 7 g 0 q 1 granted read 4 from child 1 to child 0\nt 8 g 1 d granted read 4 from parent to child 0\nt 9 g 3 d granted read 4 from parent to child 0\nt 10 g 3 r 0 granted data 4 from child 0 to parent\nt 11 g 1 r 0 granted data 4 from child 0 to parent\nt 12 g 0 r 0 granted data 4 from child 0 to child 1\nt 13 h 0 4 retired plain\nt 14 h 0 4 retired plain\nt 15 g 2 d granted data 4 from parent to child 0\nt 16 h 0 8 retired plain\nt 17 h 0 10 retired plain\nt 18 h 0 9 issued read 3\nt 19 g 3 l 0 9 granted inject 0 from child 0 to parking\nt 20 g 1 l 0 4 granted inject 0 from child 0 to parking\nt 21 g 0 l 0 2 granted inject 0 from child 0 to child 1\nt 22 g 2 d granted inject 0 from parent to child 0\nt 23 g 3 q 0 granted read 3 from child 0 to parent\nt 24 g 4 l 0 11 granted inject 1 from child 0 to parking\nt 25 g 1 q 0 granted read 3 from child 0 to parent\nt 26 g 0 q 0 granted read 3 from child 0 to child 1\nt 27 g 2 d granted read 3 from parent to child 0\nt 28 g 2 l 0 7 granted inject 1 from child 0 to parking\nt 29 g 0 l 1 15 granted inject 1 from child 1 to child 0\nt 30 g 1 d granted inject 1 from parent to child 0\nt 31 g 3 d granted inject 1 from parent to parking\nt 32 g 1 l 0 12 granted inject 1 from child 0 to parking\nt 33 g 0 l 0 15 granted inject 1 from child 0 to child 1\nt 34 g 2 d granted inject 1 from parent to child 0\nt 35 g 4 d granted data 4 from parent to child 0\nt 36 g 4 q 0 granted erase 4 from child 0 to all\nt 37 g 2 q 0 granted erase 4 from child 0 to all\nt 38 g 0 q 1 granted erase 4 from child 1 to all\nt 39 g 0 d granted exclusive 4 from parent to child 1\nddm 1\nturns 40 retired 8 granted 30 busy 0\nhart 0 running pc 00010010 done 4\nregs 0 00000000 00200000 00000000 00000000 00010000 00010000 00000000 00000000 00000000 00000000 00000002 00000000 00000000 00000000 00000000 00000000 00000000 00000000 00000000 00000000 00000000 00000000 00000000 00000000 00000000 00000000 00000000 00000000 00000000 00000000 00000000\nout 0 -\nhart 1 running pc 00010010 done 4\nregs 1 00000000 00200000 00000000 00000000 00010000 00010010 00000000 00000000 00000000 00000001 00000002 00000000 00000000 01000000 00000000 00000000 00000000 00000000 00000000 00000000 00000000 00000000 00000000 00000000 00000000 00000000 00000000 00000000 00000000 00000000 00000000\nout 1 -\nbus 0 read 2 data 1 erase 1 exclusive 1 out 0 inject 3\nbus 1 read 2 data 1 erase 0 exclusive 0 out 0 inject 3\nbus 2 read 2 data 1 erase 1 exclusive 0 out 0 inject 3\nbus 3 read 2 data 1 erase 0 exclusive 0 out 0 inject 2\nbus 4 read 1 data 1 erase 1 exclusive 0 out 0 inject 1\nitem 0 00010000 000102b7 00451313 00530333 01851713 bus 4 down 0 --\nitem 1 00010010 02e32823 03832383 03832603 03828493 bus 4 down 2 --\nitem 2 00010020 e0e4a3af 02732823 02e30923 03030493 leaf 0 way 0 E-\nitem 3 00010030 00e4a3af 02e2a823 03032383 03428493 leaf 1 way 0 BE\nitem 4 00010040 1004a3af 18e4a62f 03030493 08e4a3af leaf 1 way 0 SW\nitem 5 00010050 03032383 00170713 00170713 fb5ff06f leaf 1 way 0 -E\nop 1 0.1.0.0.0.0.0 00010000 plain\nop 1 0.1.0.0.0.0.1 00010004 plain\nop 1 0.1.0.0.0.0.2 00010008 plain\nop 1 0.1.0.0.0.0.3 0001000c plain\nop 0 1.0.1.0.2.0.0 00010000 plain\nop 0 1.0.1.0.2.0.1 00010004 plain\nop 0 1.0.1.0.2.0.2 00010008 plain\nop 0 1.0.1.0.2.0.3 0001000c plain\nend\n";
}

pub printed : IsPrinted stored
unfolding examples_compute
printed = refl
