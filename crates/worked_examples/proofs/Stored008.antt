-- A stored trace: the tree ((LLL)(LLL)), 40 turns.
use Rattle.std.specs.Prelude.{[], ◌∷◌, codes, refl}
use Rattle.worked_examples.specs.StoredTraces.{StoredTrace, IsPrinted, tree_of_sizes, writable_code}
use Rattle.worked_examples.specs.Computing.{examples_compute}

abbrev stored : StoredTrace
stored = record {
  tree = tree_of_sizes ((2 ∷ []) ∷ (3 ∷ 3 ∷ []) ∷ []) 1 (record { sets = 2; buffer = 1; parking = 4; down = 69; requests = 69; replies = 69 });
  image = writable_code (0x000102b7 ∷ 0x00451313 ∷ 0x00530333 ∷ 0x01851713 ∷ 0x06028493 ∷ 0x1004a3af ∷ 0x18e4a62f ∷ 0x00170713 ∷ 0x02032383 ∷ 0x02030493 ∷ 0x08e4a3af ∷ 0x02030493 ∷ 0x20e4a3af ∷ 0x02030493 ∷ 0x1004a3af ∷ 0x18e4a62f ∷ 0x0602a383 ∷ 0x02030493 ∷ 0x40e4a3af ∷ 0x02030493 ∷ 0x1004a3af ∷ 0x18e4a62f ∷ 0x02032603 ∷ 0x06028493 ∷ 0x1004a3af ∷ 0x18e4a62f ∷ 0x0682a383 ∷ 0x06028493 ∷ 0x1004a3af ∷ 0x18e4a62f ∷ 0x0602a603 ∷ 0xf95ff06f ∷ []);
  schedule = codes "h 2 4\nh 1 10\nh 1 10\nh 0 6\nh 0 6\nh 0 6\nh 0 6\nh 0 6\nh 0 6\ng 1 l 0 10\nh 4 8\nh 4 8\nh 4 8\nh 4 8\nh 4 8\nh 4 1\ng 0 l 0 8\ng 1 q 0\ng 2 q 1\ng 2 d\nh 1 10\nh 1 10\nh 1 10\nh 1 10\ng 1 r 1\nh 0 6\nh 1 8\nh 0 3\ng 1 q 1\nh 2 12\nh 2 7\nh 2 7\ng 1 q 0\nh 5 1\nh 2 3\nh 2 3\ng 1 q 2\nh 3 1\ng 1 q 2\nh 3 8\nend\n";
  printed = codes "t 0 h 2 4 retired plain\nt 1 h 1 10 retired plain\nt 2 h 1 10 retired plain\nt 3 h 0 6 retired plain\nt 4 h 0 6 retired plain\nt 5 h 0 6 retired plain\nt 6 h 0 6 retired plain\nt 7 h 0 6 retired plain\nt 8 h 0 6 issued read 6\nt 9 g 1 l 0 10 granted inject 0 from child 0 to parking\nt 10 h 4 8 retired plain\nt 11 h 4 8 retired plain\nt 12 h 4 8 retired plain\nt 13 h 4 8 retired plain\nt 14 h 4 8 retired plain\nt 15 h 4 1 issued read 6\nt 16 g 0 l 0 8 granted inject 0 from child 0 to child 1\nt 17 g 1 q 0 granted read 6 from child 0 to child 1\nt 18 g 2 q 1 granted read 6 from child 1 to parent\nt 19 g 2 d granted inject 0 from parent to child 0\nt 20 h 1 10 retired plain\nt 21 h 1 10 retired plain\nt 22 h 1 10 retired plain\nt 23 h 1 10 retired lr 00010060 1004a3af\nt 24 g 1 r 1 granted data 6 from child 1 to child 0\nt 25 h 0 6 retired lr 00010060 1004a3af\nt 26 h 1 8 issued erase 6\nt 27 h 0 3 issued erase 6\nt 28 g 1 q 1 granted erase 6 from child 1 to all\nt 29 h 2 12 retired plain\nt 30 h 2 7 retired plain\nt 31 h 2 7 retired plain\nt 32 g 1 q 0 busy item 1 6 uperase 1\nt 33 h 5 1 retired plain\nt 34 h 2 3 retired plain\nt 35 h 2 3 issued read 6\nt 36 g 1 q 2 busy item 1 6 uperase 1\nt 37 h 3 1 retired plain\nt 38 g 1 q 2 busy item 1 6 uperase 1\nt 39 h 3 8 retired plain\nddm 1\nturns 40 retired 25 granted 7 busy 3\nhart 0 running pc 00010018 done 6\nregs 0 00000000 00200000 00000000 00000000 00010000 00010000 1004a3af 00000000 00010060 00000000 00000006 00000000 00000000 00000000 00000000 00000000 00000000 00000000 00000000 00000000 00000000 00000000 00000000 00000000 00000000 00000000 00000000 00000000 00000000 00000000 00000000\nout 0 -\nhart 1 running pc 00010018 done 6\nregs 1 00000000 00200000 00000000 00000000 00010000 00010010 1004a3af 00000000 00010060 00000001 00000006 00000000 00000000 01000000 00000000 00000000 00000000 00000000 00000000 00000000 00000000 00000000 00000000 00000000 00000000 00000000 00000000 00000000 00000000 00000000 00000000\nout 1 -\nhart 2 running pc 00010014 done 5\nregs 2 00000000 00200000 00000000 00000000 00010000 00010020 00000000 00000000 00010060 00000002 00000006 00000000 00000000 02000000 00000000 00000000 00000000 00000000 00000000 00000000 00000000 00000000 00000000 00000000 00000000 00000000 00000000 00000000 00000000 00000000 00000000\nout 2 -\nhart 3 running pc 00010008 done 2\nregs 3 00000000 00200000 00000000 00000000 00010000 00000030 00000000 00000000 00000000 00000003 00000006 00000000 00000000 00000000 00000000 00000000 00000000 00000000 00000000 00000000 00000000 00000000 00000000 00000000 00000000 00000000 00000000 00000000 00000000 00000000 00000000\nout 3 -\nhart 4 running pc 00010014 done 5\nregs 4 00000000 00200000 00000000 00000000 00010000 00010040 00000000 00000000 00010060 00000004 00000006 00000000 00000000 04000000 00000000 00000000 00000000 00000000 00000000 00000000 00000000 00000000 00000000 00000000 00000000 00000000 00000000 00000000 00000000 00000000 00000000\nout 4 -\nhart 5 running pc 00010004 done 1\nregs 5 00000000 00200000 00000000 00000000 00010000 00000000 00000000 00000000 00000000 00000005 00000006 00000000 00000000 00000000 00000000 00000000 00000000 00000000 00000000 00000000 00000000 00000000 00000000 00000000 00000000 00000000 00000000 00000000 00000000 00000000 00000000\nout 5 -\nbus 0 read 0 data 0 erase 0 exclusive 0 out 0 inject 1\nbus 1 read 1 data 1 erase 1 exclusive 0 out 0 inject 1\nbus 2 read 1 data 0 erase 0 exclusive 0 out 0 inject 1\nitem 0 00010000 000102b7 00451313 00530333 01851713 leaf 3 way 0 ---E--\nitem 1 00010010 06028493 1004a3af 18e4a62f 00170713 leaf 1 way 0 -E----\nitem 2 00010020 02032383 02030493 08e4a3af 02030493 leaf 2 buffer 0 --E---\nitem 3 00010030 20e4a3af 02030493 1004a3af 18e4a62f leaf 3 way 0 ---E--\nitem 4 00010040 0602a383 02030493 40e4a3af 02030493 leaf 4 buffer 0 ----E-\nitem 5 00010050 1004a3af 18e4a62f 02032603 06028493 leaf 5 way 0 -----E\nitem 6 00010060 1004a3af 18e4a62f 0682a383 06028493 leaf 1 way 0 BWR-R-\nitem 7 00010070 1004a3af 18e4a62f 0602a603 f95ff06f leaf 2 way 0 --E---\nop 0 0.0.0.0.0 00010000 plain\nop 0 0.0.0.0.1 00010004 plain\nop 0 0.0.0.0.2 00010008 plain\nop 0 0.0.0.0.3 0001000c plain\nop 0 0.0.0.0.4 00010010 plain\nop 1 0.0.0.1.0 00010000 plain\nop 1 0.0.0.1.1 00010004 plain\nop 2 0.0.0.2.0 00010000 plain\nop 1 0.0.2.1.2 00010008 plain\nop 1 0.0.2.1.3 0001000c plain\nop 1 0.0.2.1.4 00010010 plain\nop 1 0.0.2.1.5 00010014 lr 00010060 1004a3af\nop 0 0.0.3.0.5 00010014 lr 00010060 1004a3af\nop 2 0.0.4.2.1 00010004 plain\nop 2 0.0.4.2.2 00010008 plain\nop 2 0.0.4.2.3 0001000c plain\nop 2 0.0.4.2.4 00010010 plain\nop 4 0.1.0.1.0 00010000 plain\nop 4 0.1.0.1.1 00010004 plain\nop 4 0.1.0.1.2 00010008 plain\nop 4 0.1.0.1.3 0001000c plain\nop 4 0.1.0.1.4 00010010 plain\nop 3 1.1.2.0.0 00010000 plain\nop 3 1.1.2.0.1 00010004 plain\nop 5 1.1.2.2.0 00010000 plain\nend\n";
}

pub printed : IsPrinted stored
unfolding examples_compute
printed = refl
