-- A stored trace: the tree ((L)(LL)), 40 turns.
use Rattle.std.specs.Prelude.{[], ◌∷◌, codes, refl}
use Rattle.worked_examples.specs.StoredTraces.{StoredTrace, IsPrinted, tree_of_sizes, writable_code}
use Rattle.worked_examples.specs.Computing.{examples_compute}

abbrev stored : StoredTrace
stored = record {
  tree = tree_of_sizes ((2 ∷ []) ∷ (1 ∷ 2 ∷ []) ∷ []) 2 (record { sets = 1; buffer = 1; parking = 4; down = 1; requests = 1; replies = 32 });
  image = writable_code (0x000102b7 ∷ 0x00451313 ∷ 0x00530333 ∷ 0x01851713 ∷ 0x00732823 ∷ 0x01032383 ∷ 0x00061463 ∷ 0x00170713 ∷ 0x01034383 ∷ 0x02a2ac23 ∷ 0x00e32823 ∷ 0x00030493 ∷ 0x20e4a3af ∷ 0x00e30823 ∷ 0x00a32823 ∷ 0xfd5ff06f ∷ []);
  schedule = codes "h 1 2\nh 1 2\nh 1 2\nh 1 2\nh 1 2\nh 2 0\nh 2 0\nh 2 0\nh 2 0\nh 2 0\ng 2 q 1\ng 2 q 0\ng 2 r 1\nh 0 4\nh 0 4\nh 0 10\nh 0 5\nh 0 10\ng 1 l 0 9\ng 1 q 0\ng 2 q 0\ng 0 q 0\ng 2 d\ng 0 q 0\ng 2 d\ng 2 r 0\nh 1 6\nh 1 0\ng 0 r 1\nh 1 13\nh 1 13\nh 1 5\ng 0 l 0 14\ng 2 d\nh 1 6\ng 2 l 0 9\ng 0 l 1 15\ng 2 q 0\ng 0 q 1\ng 0 q 1\nend\n";
  printed = codes "t 0 h 1 2 retired plain\nt 1 h 1 2 retired plain\nt 2 h 1 2 retired plain\nt 3 h 1 2 retired plain\nt 4 h 1 2 issued read 2\nt 5 h 2 0 retired plain\nt 6 h 2 0 retired plain\nt 7 h 2 0 retired plain\nt 8 h 2 0 retired plain\nt 9 h 2 0 issued read 3\nt 10 g 2 q 1 granted read 3 from child 1 to parent\nt 11 g 2 q 0 granted read 2 from child 0 to child 1\nt 12 g 2 r 1 granted data 2 from child 1 to child 0\nt 13 h 0 4 retired plain\nt 14 h 0 4 retired plain\nt 15 h 0 10 retired plain\nt 16 h 0 5 retired plain\nt 17 h 0 10 issued read 1\nt 18 g 1 l 0 9 granted inject 0 from child 0 to parking\nt 19 g 1 q 0 granted read 1 from child 0 to parent\nt 20 g 2 q 0 granted erase 2 from child 0 to all\nt 21 g 0 q 0 busy queue down 2\nt 22 g 2 d granted exclusive 2 from parent to child 0\nt 23 g 0 q 0 granted read 1 from child 0 to child 1\nt 24 g 2 d granted read 1 from parent to child 0\nt 25 g 2 r 0 granted data 1 from child 0 to parent\nt 26 h 1 6 retired store 00010020 01034383 00000000\nt 27 h 1 0 retired load 00010020 00000000\nt 28 g 0 r 1 granted data 1 from child 1 to child 0\nt 29 h 1 13 retired plain\nt 30 h 1 13 retired plain\nt 31 h 1 5 retired load 00010020 00000000\nt 32 g 0 l 0 14 granted inject 0 from child 0 to child 1\nt 33 g 2 d granted inject 0 from parent to child 1\nt 34 h 1 6 issued read 3\nt 35 g 2 l 0 9 granted out 1 from child 0 to parking\nt 36 g 0 l 1 15 granted out 1 from child 1 to gone\nt 37 g 2 q 0 granted read 3 from child 0 to joined\nt 38 g 0 q 1 busy queue down 1\nt 39 g 0 q 1 busy queue down 1\nddm 1\nturns 40 retired 17 granted 16 busy 3\nhart 0 running pc 00010010 done 4\nregs 0 00000000 00200000 00000000 00000000 00010000 00010000 00000000 00000000 00000000 00000000 00000003 00000000 00000000 00000000 00000000 00000000 00000000 00000000 00000000 00000000 00000000 00000000 00000000 00000000 00000000 00000000 00000000 00000000 00000000 00000000 00000000\nout 0 -\nhart 1 running pc 00010024 done 9\nregs 1 00000000 00200000 00000000 00000000 00010000 00010010 00000000 00000000 00000000 00000001 00000003 00000000 00000000 01000001 00000000 00000000 00000000 00000000 00000000 00000000 00000000 00000000 00000000 00000000 00000000 00000000 00000000 00000000 00000000 00000000 00000000\nout 1 -\nhart 2 running pc 00010010 done 4\nregs 2 00000000 00200000 00000000 00000000 00010000 00010020 00000000 00000000 00000000 00000002 00000003 00000000 00000000 02000000 00000000 00000000 00000000 00000000 00000000 00000000 00000000 00000000 00000000 00000000 00000000 00000000 00000000 00000000 00000000 00000000 00000000\nout 2 -\nbus 0 read 1 data 1 erase 0 exclusive 0 out 1 inject 1\nbus 1 read 1 data 0 erase 0 exclusive 0 out 0 inject 1\nbus 2 read 4 data 2 erase 1 exclusive 1 out 1 inject 1\nitem 0 00010000 000102b7 00451313 00530333 01851713 leaf 2 way 0 --E\nitem 1 00010010 00732823 01032383 00061463 00170713 bus 1 down 0 B--\nitem 2 00010020 00000000 02a2ac23 00e32823 00030493 leaf 1 way 1 -E-\nitem 3 00010030 20e4a3af 00e30823 00a32823 fd5ff06f leaf 0 way 1 EBB\nop 0 0.0.0.0.0 00010000 plain\nop 0 0.0.0.0.1 00010004 plain\nop 0 0.0.0.0.2 00010008 plain\nop 0 0.0.0.0.3 0001000c plain\nop 1 0.1.0.0.0 00010000 plain\nop 1 0.1.0.0.1 00010004 plain\nop 1 0.1.0.0.2 00010008 plain\nop 1 0.1.0.0.3 0001000c plain\nop 2 0.1.0.1.0 00010000 plain\nop 2 0.1.0.1.1 00010004 plain\nop 2 0.1.0.1.2 00010008 plain\nop 2 0.1.0.1.3 0001000c plain\nop 1 1.1.7.0.4 00010010 store 00010020 01034383 00000000\nop 1 1.1.7.0.5 00010014 load 00010020 00000000\nop 1 1.1.7.0.6 00010018 plain\nop 1 1.1.7.0.7 0001001c plain\nop 1 1.1.7.0.8 00010020 load 00010020 00000000\nend\n";
}

pub printed : IsPrinted stored
unfolding examples_compute
printed = refl
