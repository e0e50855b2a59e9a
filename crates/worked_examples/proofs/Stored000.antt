-- A stored trace: the tree (LL), 40 turns.
use Rattle.std.specs.Prelude.{[], ◌∷◌, codes, refl}
use Rattle.worked_examples.specs.StoredTraces.{StoredTrace, IsPrinted, tree_of_sizes, code_and_words}
use Rattle.worked_examples.specs.Computing.{examples_compute}

abbrev stored : StoredTrace
stored = record {
  tree = tree_of_sizes ((2 ∷ []) ∷ []) 2 (record { sets = 3; buffer = 1; parking = 1; down = 48; requests = 1; replies = 1 });
  image = code_and_words (0x000102b7 ∷ 0x0072aa23 ∷ 0x03828493 ∷ 0x40e4a3af ∷ 0x00170713 ∷ 0xff1ff06f ∷ []) 0x10020 (0x500b92a2 ∷ 0x6e131847 ∷ 0xbe67934c ∷ 0x2ff6c00d ∷ 0xd36de41d ∷ 0x5a90f337 ∷ 0xf37338d3 ∷ 0xe60a77a1 ∷ 0x99613441 ∷ 0xc4c29d92 ∷ 0x60d82a44 ∷ 0xde446823 ∷ 0x6d2ea5b5 ∷ 0xb2577856 ∷ 0x5734adc9 ∷ 0x3a9c137b ∷ []);
  schedule = codes "g 0 l 1 4\ng 0 q 1\ng 0 l 1 0\ng 0 q 0\ng 0 q 1\ng 0 l 0 13\ng 0 l 1 10\nh 0 14\nh 1 14\nh 1 14\nh 0 9\ng 0 q 1\ng 0 q 0\ng 0 r 0\ng 0 l 0 15\ng 0 r 1\nh 1 7\nh 1 7\ng 0 r 0\ng 0 r 0\ng 0 r 1\ng 0 q 1\ng 0 r 0\ng 0 l 0 7\nh 1 15\nh 1 15\nh 1 15\ng 0 q 0\ng 0 r 0\ng 0 q 0\ng 0 r 1\ng 0 l 0 15\ng 0 r 0\ng 0 q 1\ng 0 q 1\nh 1 7\ng 0 r 1\ng 0 r 0\ng 0 l 1 2\ng 0 l 1 7\nend\n";
  printed = codes "t 0 g 0 l 1 4 empty\nt 1 g 0 q 1 empty\nt 2 g 0 l 1 0 empty\nt 3 g 0 q 0 empty\nt 4 g 0 q 1 empty\nt 5 g 0 l 0 13 empty\nt 6 g 0 l 1 10 empty\nt 7 h 0 14 retired plain\nt 8 h 1 14 retired plain\nt 9 h 1 14 retired store 00010014 ff1ff06f 00000000\nt 10 h 0 9 issued read 1\nt 11 g 0 q 1 empty\nt 12 g 0 q 0 granted read 1 from child 0 to child 1\nt 13 g 0 r 0 empty\nt 14 g 0 l 0 15 empty\nt 15 g 0 r 1 granted data 1 from child 1 to child 0\nt 16 h 1 7 retired plain\nt 17 h 1 7 retired amo 00010038 f37338d3 f37338d3\nt 18 g 0 r 0 empty\nt 19 g 0 r 0 empty\nt 20 g 0 r 1 empty\nt 21 g 0 q 1 empty\nt 22 g 0 r 0 empty\nt 23 g 0 l 0 7 empty\nt 24 h 1 15 retired plain\nt 25 h 1 15 retired plain\nt 26 h 1 15 issued erase 1\nt 27 g 0 q 0 granted erase 1 from child 0 to all\nt 28 g 0 r 0 empty\nt 29 g 0 q 0 empty\nt 30 g 0 r 1 empty\nt 31 g 0 l 0 15 empty\nt 32 g 0 r 0 empty\nt 33 g 0 q 1 busy item 0 1 uperase 0\nt 34 g 0 q 1 busy item 0 1 uperase 0\nt 35 h 1 7 waiting 1\nt 36 g 0 r 1 empty\nt 37 g 0 r 0 empty\nt 38 g 0 l 1 2 empty\nt 39 g 0 l 1 7 empty\nddm 1\nturns 40 retired 7 granted 3 busy 2\nhart 0 running pc 00010004 done 1\nregs 0 00000000 00200000 00000000 00000000 00010000 00000000 00000000 00000000 00000000 00000000 00000002 00000000 00000000 00000000 00000000 00000000 00000000 00000000 00000000 00000000 00000000 00000000 00000000 00000000 00000000 00000000 00000000 00000000 00000000 00000000 00000000\nout 0 -\nhart 1 running pc 00010004 done 6\nregs 1 00000000 00200000 00000000 00000000 00010000 00000000 f37338d3 00000000 00010038 00000001 00000002 00000000 00000000 00000001 00000000 00000000 00000000 00000000 00000000 00000000 00000000 00000000 00000000 00000000 00000000 00000000 00000000 00000000 00000000 00000000 00000000\nout 1 -\nbus 0 read 1 data 1 erase 1 exclusive 0 out 0 inject 0\nitem 0 00010000 000102b7 0072aa23 03828493 40e4a3af leaf 0 way 0 E-\nitem 1 00010010 00170713 00000000 00000000 00000000 leaf 0 way 1 WB\nitem 2 00010020 500b92a2 6e131847 be67934c 2ff6c00d leaf 0 way 0 E-\nitem 3 00010030 d36de41d 5a90f337 f37338d3 e60a77a1 leaf 1 way 0 -E\nitem 4 00010040 99613441 c4c29d92 60d82a44 de446823 leaf 0 way 0 E-\nitem 5 00010050 6d2ea5b5 b2577856 5734adc9 3a9c137b leaf 1 way 0 -E\nop 0 0.0.0 00010000 plain\nop 1 0.1.0 00010000 plain\nop 1 0.1.1 00010004 store 00010014 ff1ff06f 00000000\nop 1 2.1.2 00010008 plain\nop 1 2.1.3 0001000c amo 00010038 f37338d3 f37338d3\nop 1 2.1.4 00010010 plain\nop 1 2.1.5 00010014 plain\nend\n";
}

pub printed : IsPrinted stored
unfolding examples_compute
printed = refl
