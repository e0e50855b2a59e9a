-- A stored trace: the tree ((LL)), 40 turns.
use Rattle.std.specs.Prelude.{[], ◌∷◌, codes, refl}
use Rattle.worked_examples.specs.StoredTraces.{StoredTrace, IsPrinted, tree_of_sizes, code_and_words}
use Rattle.worked_examples.specs.Computing.{examples_compute}

abbrev stored : StoredTrace
stored = record {
  tree = tree_of_sizes ((1 ∷ []) ∷ (2 ∷ []) ∷ []) 2 (record { sets = 3; buffer = 4; parking = 4; down = 64; requests = 64; replies = 64 });
  image = code_and_words (0x000102b7 ∷ 0x00451313 ∷ 0x00530333 ∷ 0x01851713 ∷ 0x03830493 ∷ 0x40e4a3af ∷ 0x02030493 ∷ 0x00e4a3af ∷ 0x07428493 ∷ 0x1004a3af ∷ 0x18e4a62f ∷ 0x0202a603 ∷ 0x0502a603 ∷ 0x05028493 ∷ 0x40e4a3af ∷ 0x06e2a023 ∷ 0x00032603 ∷ 0x02e2a823 ∷ 0x04a2a423 ∷ 0x06030493 ∷ 0x1004a3af ∷ 0x18e4a62f ∷ 0x00e32023 ∷ 0xfb5ff06f ∷ []) 0x10060 (0xdcfd028e ∷ 0x3d499bfa ∷ 0x3a53791c ∷ 0x76b10a6f ∷ 0x2b21edf1 ∷ 0x5254f87a ∷ 0xad7482d5 ∷ 0xa5c268ed ∷ []);
  schedule = codes "g 1 r 0\ng 1 l 0 10\ng 1 d\ng 0 r 0\ng 0 q 0\nh 0 4\nh 0 4\nh 0 4\nh 0 4\nh 0 4\ng 1 q 1\nh 1 10\nh 1 10\nh 1 10\nh 1 10\nh 1 10\nh 1 10\ng 1 l 0 8\ng 1 r 1\ng 1 d\ng 1 r 0\ng 1 q 0\ng 0 q 0\ng 1 r 1\ng 1 r 1\ng 1 d\ng 0 l 0 14\ng 1 l 1 14\ng 1 l 1 12\ng 0 d\nh 1 7\ng 1 l 1 2\nh 0 0\ng 1 d\nh 1 12\ng 1 l 1 1\ng 0 r 0\ng 1 q 0\ng 1 q 1\ng 0 q 0\nend\n";
  printed = codes "t 0 g 1 r 0 empty\nt 1 g 1 l 0 10 empty\nt 2 g 1 d empty\nt 3 g 0 r 0 empty\nt 4 g 0 q 0 empty\nt 5 h 0 4 retired plain\nt 6 h 0 4 retired plain\nt 7 h 0 4 retired plain\nt 8 h 0 4 retired plain\nt 9 h 0 4 retired plain\nt 10 g 1 q 1 empty\nt 11 h 1 10 retired plain\nt 12 h 1 10 retired plain\nt 13 h 1 10 retired plain\nt 14 h 1 10 retired plain\nt 15 h 1 10 retired plain\nt 16 h 1 10 issued read 4\nt 17 g 1 l 0 8 empty\nt 18 g 1 r 1 empty\nt 19 g 1 d empty\nt 20 g 1 r 0 empty\nt 21 g 1 q 0 empty\nt 22 g 0 q 0 empty\nt 23 g 1 r 1 empty\nt 24 g 1 r 1 empty\nt 25 g 1 d empty\nt 26 g 0 l 0 14 empty\nt 27 g 1 l 1 14 granted inject 1 from child 1 to parking\nt 28 g 1 l 1 12 empty\nt 29 g 0 d empty\nt 30 h 1 7 waiting 4\nt 31 g 1 l 1 2 empty\nt 32 h 0 0 issued read 3\nt 33 g 1 d empty\nt 34 h 1 12 waiting 4\nt 35 g 1 l 1 1 empty\nt 36 g 0 r 0 empty\nt 37 g 1 q 0 granted read 3 from child 0 to child 1\nt 38 g 1 q 1 granted read 4 from child 1 to child 0\nt 39 g 0 q 0 empty\nddm 1\nturns 40 retired 10 granted 3 busy 0\nhart 0 running pc 00010014 done 5\nregs 0 00000000 00200000 00000000 00000000 00010000 00010000 00000000 00000000 00010038 00000000 00000002 00000000 00000000 00000000 00000000 00000000 00000000 00000000 00000000 00000000 00000000 00000000 00000000 00000000 00000000 00000000 00000000 00000000 00000000 00000000 00000000\nout 0 -\nhart 1 running pc 00010014 done 5\nregs 1 00000000 00200000 00000000 00000000 00010000 00010010 00000000 00000000 00010048 00000001 00000002 00000000 00000000 01000000 00000000 00000000 00000000 00000000 00000000 00000000 00000000 00000000 00000000 00000000 00000000 00000000 00000000 00000000 00000000 00000000 00000000\nout 1 -\nbus 0 read 0 data 0 erase 0 exclusive 0 out 0 inject 0\nbus 1 read 2 data 0 erase 0 exclusive 0 out 0 inject 1\nitem 0 00010000 000102b7 00451313 00530333 01851713 leaf 0 buffer 0 E-\nitem 1 00010010 03830493 40e4a3af 02030493 00e4a3af bus 1 parking 0 --\nitem 2 00010020 07428493 1004a3af 18e4a62f 0202a603 leaf 0 way 0 E-\nitem 3 00010030 0502a603 05028493 40e4a3af 06e2a023 leaf 1 way 0 BS\nitem 4 00010040 00032603 02e2a823 04a2a423 06030493 leaf 0 way 0 SB\nitem 5 00010050 1004a3af 18e4a62f 00e32023 fb5ff06f leaf 1 way 0 -E\nitem 6 00010060 dcfd028e 3d499bfa 3a53791c 76b10a6f leaf 0 way 1 E-\nitem 7 00010070 2b21edf1 5254f87a ad7482d5 a5c268ed leaf 1 way 1 -E\nop 0 0.0.0.0.0 00010000 plain\nop 0 0.0.0.0.1 00010004 plain\nop 0 0.0.0.0.2 00010008 plain\nop 0 0.0.0.0.3 0001000c plain\nop 0 0.0.0.0.4 00010010 plain\nop 1 0.0.0.1.0 00010000 plain\nop 1 0.0.0.1.1 00010004 plain\nop 1 0.0.0.1.2 00010008 plain\nop 1 0.0.0.1.3 0001000c plain\nop 1 0.0.0.1.4 00010010 plain\nend\n";
}

pub printed : IsPrinted stored
unfolding examples_compute
printed = refl
