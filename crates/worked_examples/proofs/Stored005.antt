-- A stored trace: the tree ((((L)))(((L)))), 40 turns.
use Rattle.std.specs.Prelude.{[], ◌∷◌, codes, refl}
use Rattle.worked_examples.specs.StoredTraces.{StoredTrace, IsPrinted, tree_of_sizes, writable_code}
use Rattle.worked_examples.specs.Computing.{examples_compute}

abbrev stored : StoredTrace
stored = record {
  tree = tree_of_sizes ((2 ∷ []) ∷ (1 ∷ 1 ∷ []) ∷ (1 ∷ 1 ∷ []) ∷ (1 ∷ 1 ∷ []) ∷ []) 1 (record { sets = 4; buffer = 1; parking = 4; down = 2; requests = 2; replies = 69 });
  image = writable_code (0x000102b7 ∷ 0x00451313 ∷ 0x00530333 ∷ 0x01851713 ∷ 0x0502a383 ∷ 0x02030493 ∷ 0xe0e4a3af ∷ 0x05032603 ∷ 0x05030493 ∷ 0x1004a3af ∷ 0x18e4a62f ∷ 0x00030493 ∷ 0x1004a3af ∷ 0x18e4a62f ∷ 0x02032383 ∷ 0x02032603 ∷ 0x04032383 ∷ 0x00030493 ∷ 0x1004a3af ∷ 0x18e4a62f ∷ 0x01028493 ∷ 0x00e4a3af ∷ 0x01432383 ∷ 0x01032383 ∷ 0x06a32023 ∷ 0x06030493 ∷ 0x08e4a3af ∷ 0x00761463 ∷ 0x00170713 ∷ 0x00170713 ∷ 0x00170713 ∷ 0xf95ff06f ∷ []);
  schedule = codes "g 2 q 0\ng 6 d\ng 1 d\ng 3 r 0\ng 0 r 0\ng 6 d\ng 6 r 0\ng 4 r 0\ng 0 r 0\ng 2 q 0\ng 2 l 0 4\ng 6 r 0\ng 4 q 0\ng 4 d\ng 0 l 0 0\ng 1 q 0\ng 3 r 0\ng 2 q 0\ng 1 d\ng 3 d\ng 4 r 0\nh 1 13\nh 1 13\nh 0 10\nh 0 9\nh 0 9\ng 2 l 0 2\ng 4 q 0\ng 0 q 1\ng 4 r 0\ng 3 d\ng 1 d\ng 5 d\ng 4 r 0\ng 6 l 0 2\ng 3 l 0 5\ng 4 d\ng 2 r 0\ng 3 r 0\ng 2 d\nend\n";
  printed = codes "t 0 g 2 q 0 empty\nt 1 g 6 d empty\nt 2 g 1 d empty\nt 3 g 3 r 0 empty\nt 4 g 0 r 0 empty\nt 5 g 6 d empty\nt 6 g 6 r 0 empty\nt 7 g 4 r 0 empty\nt 8 g 0 r 0 empty\nt 9 g 2 q 0 empty\nt 10 g 2 l 0 4 empty\nt 11 g 6 r 0 empty\nt 12 g 4 q 0 empty\nt 13 g 4 d empty\nt 14 g 0 l 0 0 empty\nt 15 g 1 q 0 empty\nt 16 g 3 r 0 empty\nt 17 g 2 q 0 empty\nt 18 g 1 d empty\nt 19 g 3 d empty\nt 20 g 4 r 0 empty\nt 21 h 1 13 retired plain\nt 22 h 1 13 retired plain\nt 23 h 0 10 retired plain\nt 24 h 0 9 retired plain\nt 25 h 0 9 retired plain\nt 26 g 2 l 0 2 empty\nt 27 g 4 q 0 empty\nt 28 g 0 q 1 empty\nt 29 g 4 r 0 empty\nt 30 g 3 d empty\nt 31 g 1 d empty\nt 32 g 5 d empty\nt 33 g 4 r 0 empty\nt 34 g 6 l 0 2 empty\nt 35 g 3 l 0 5 empty\nt 36 g 4 d empty\nt 37 g 2 r 0 empty\nt 38 g 3 r 0 empty\nt 39 g 2 d empty\nddm 1\nturns 40 retired 5 granted 0 busy 0\nhart 0 running pc 0001000c done 3\nregs 0 00000000 00200000 00000000 00000000 00010000 00010000 00000000 00000000 00000000 00000000 00000002 00000000 00000000 00000000 00000000 00000000 00000000 00000000 00000000 00000000 00000000 00000000 00000000 00000000 00000000 00000000 00000000 00000000 00000000 00000000 00000000\nout 0 -\nhart 1 running pc 00010008 done 2\nregs 1 00000000 00200000 00000000 00000000 00010000 00000010 00000000 00000000 00000000 00000001 00000002 00000000 00000000 00000000 00000000 00000000 00000000 00000000 00000000 00000000 00000000 00000000 00000000 00000000 00000000 00000000 00000000 00000000 00000000 00000000 00000000\nout 1 -\nbus 0 read 0 data 0 erase 0 exclusive 0 out 0 inject 0\nbus 1 read 0 data 0 erase 0 exclusive 0 out 0 inject 0\nbus 2 read 0 data 0 erase 0 exclusive 0 out 0 inject 0\nbus 3 read 0 data 0 erase 0 exclusive 0 out 0 inject 0\nbus 4 read 0 data 0 erase 0 exclusive 0 out 0 inject 0\nbus 5 read 0 data 0 erase 0 exclusive 0 out 0 inject 0\nbus 6 read 0 data 0 erase 0 exclusive 0 out 0 inject 0\nitem 0 00010000 000102b7 00451313 00530333 01851713 leaf 0 way 0 E-\nitem 1 00010010 0502a383 02030493 e0e4a3af 05032603 leaf 1 way 0 -E\nitem 2 00010020 05030493 1004a3af 18e4a62f 00030493 leaf 0 way 0 E-\nitem 3 00010030 1004a3af 18e4a62f 02032383 02032603 leaf 1 way 0 -E\nitem 4 00010040 04032383 00030493 1004a3af 18e4a62f leaf 1 way 0 -E\nitem 5 00010050 01028493 00e4a3af 01432383 01032383 leaf 0 way 0 E-\nitem 6 00010060 06a32023 06030493 08e4a3af 00761463 leaf 1 way 0 -E\nitem 7 00010070 00170713 00170713 00170713 f95ff06f leaf 0 way 0 E-\nop 0 0.0.0.0.0.0.0.0.0 00010000 plain\nop 0 0.0.0.0.0.0.0.0.1 00010004 plain\nop 0 0.0.0.0.0.0.0.0.2 00010008 plain\nop 1 0.1.0.0.0.0.0.0.0 00010000 plain\nop 1 0.1.0.0.0.0.0.0.1 00010004 plain\nend\n";
}

pub printed : IsPrinted stored
unfolding examples_compute
printed = refl
