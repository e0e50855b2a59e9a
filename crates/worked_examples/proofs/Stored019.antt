-- A stored trace: the tree ((LL)), 40 turns.
use Rattle.std.specs.Prelude.{[], ◌∷◌, codes, refl}
use Rattle.worked_examples.specs.StoredTraces.{StoredTrace, IsPrinted, tree_of_sizes, writable_code}
use Rattle.worked_examples.specs.Computing.{examples_compute}

abbrev stored : StoredTrace
stored = record {
  tree = tree_of_sizes ((1 ∷ []) ∷ (2 ∷ []) ∷ []) 2 (record { sets = 2; buffer = 1; parking = 1; down = 3; requests = 64; replies = 1 });
  image = writable_code (0x000102b7 ∷ 0x00451313 ∷ 0x00530333 ∷ 0x01851713 ∷ 0x05032603 ∷ 0x0502a383 ∷ 0x05832603 ∷ 0x05032603 ∷ 0x06032383 ∷ 0x0502a383 ∷ 0x06032383 ∷ 0x0742a383 ∷ 0x05032603 ∷ 0x06032383 ∷ 0x06032603 ∷ 0x06032603 ∷ 0x05032383 ∷ 0x06032603 ∷ 0x06032603 ∷ 0x05032603 ∷ 0x06032603 ∷ 0x06032383 ∷ 0x0502a603 ∷ 0x06032603 ∷ 0x05032383 ∷ 0x0602a603 ∷ 0x06032383 ∷ 0x05032383 ∷ 0x06032603 ∷ 0x0542a383 ∷ 0x06032383 ∷ 0xf95ff06f ∷ []);
  schedule = codes "g 0 r 0\ng 0 q 0\ng 1 l 0 13\ng 0 l 0 7\ng 0 r 0\ng 1 r 0\ng 1 l 1 5\ng 0 l 0 3\ng 0 l 0 1\nh 0 15\nh 0 15\nh 0 15\nh 0 15\nh 0 15\ng 0 d\ng 1 l 1 13\ng 1 q 1\ng 0 q 0\ng 1 r 1\ng 0 q 0\ng 1 l 0 12\ng 1 d\nh 1 2\ng 1 r 1\ng 1 d\ng 1 r 0\ng 0 r 0\ng 1 l 1 6\ng 1 d\ng 1 d\ng 1 l 0 6\ng 1 q 1\nh 0 3\ng 1 l 1 5\ng 1 r 0\ng 1 q 1\ng 1 d\ng 0 d\ng 0 d\ng 0 r 0\nend\n";
  printed = codes "t 0 g 0 r 0 empty\nt 1 g 0 q 0 empty\nt 2 g 1 l 0 13 empty\nt 3 g 0 l 0 7 empty\nt 4 g 0 r 0 empty\nt 5 g 1 r 0 empty\nt 6 g 1 l 1 5 empty\nt 7 g 0 l 0 3 empty\nt 8 g 0 l 0 1 empty\nt 9 h 0 15 retired plain\nt 10 h 0 15 retired plain\nt 11 h 0 15 retired plain\nt 12 h 0 15 retired plain\nt 13 h 0 15 retired load 00010050 06032603\nt 14 g 0 d empty\nt 15 g 1 l 1 13 empty\nt 16 g 1 q 1 empty\nt 17 g 0 q 0 empty\nt 18 g 1 r 1 empty\nt 19 g 0 q 0 empty\nt 20 g 1 l 0 12 empty\nt 21 g 1 d empty\nt 22 h 1 2 retired plain\nt 23 g 1 r 1 empty\nt 24 g 1 d empty\nt 25 g 1 r 0 empty\nt 26 g 0 r 0 empty\nt 27 g 1 l 1 6 empty\nt 28 g 1 d empty\nt 29 g 1 d empty\nt 30 g 1 l 0 6 empty\nt 31 g 1 q 1 empty\nt 32 h 0 3 retired load 00010050 06032603\nt 33 g 1 l 1 5 empty\nt 34 g 1 r 0 empty\nt 35 g 1 q 1 empty\nt 36 g 1 d empty\nt 37 g 0 d empty\nt 38 g 0 d empty\nt 39 g 0 r 0 empty\nddm 1\nturns 40 retired 7 granted 0 busy 0\nhart 0 running pc 00010018 done 6\nregs 0 00000000 00200000 00000000 00000000 00010000 00010000 06032603 00000000 00000000 00000000 00000002 06032603 00000000 00000000 00000000 00000000 00000000 00000000 00000000 00000000 00000000 00000000 00000000 00000000 00000000 00000000 00000000 00000000 00000000 00000000 00000000\nout 0 -\nhart 1 running pc 00010004 done 1\nregs 1 00000000 00200000 00000000 00000000 00010000 00000000 00000000 00000000 00000000 00000001 00000002 00000000 00000000 00000000 00000000 00000000 00000000 00000000 00000000 00000000 00000000 00000000 00000000 00000000 00000000 00000000 00000000 00000000 00000000 00000000 00000000\nout 1 -\nbus 0 read 0 data 0 erase 0 exclusive 0 out 0 inject 0\nbus 1 read 0 data 0 erase 0 exclusive 0 out 0 inject 0\nitem 0 00010000 000102b7 00451313 00530333 01851713 leaf 0 way 0 E-\nitem 1 00010010 05032603 0502a383 05832603 05032603 leaf 1 way 0 -E\nitem 2 00010020 06032383 0502a383 06032383 0742a383 leaf 0 way 1 E-\nitem 3 00010030 05032603 06032383 06032603 06032603 leaf 1 way 1 -E\nitem 4 00010040 05032383 06032603 06032603 05032603 leaf 1 way 0 -E\nitem 5 00010050 06032603 06032383 0502a603 06032603 leaf 0 way 0 E-\nitem 6 00010060 05032383 0602a603 06032383 05032383 leaf 1 way 1 -E\nitem 7 00010070 06032603 0542a383 06032383 f95ff06f leaf 0 way 1 E-\nop 0 0.0.0.0.0 00010000 plain\nop 0 0.0.0.0.1 00010004 plain\nop 0 0.0.0.0.2 00010008 plain\nop 0 0.0.0.0.3 0001000c plain\nop 0 0.0.0.0.4 00010010 load 00010050 06032603\nop 0 0.0.0.0.5 00010014 load 00010050 06032603\nop 1 0.0.0.1.0 00010000 plain\nend\n";
}

pub printed : IsPrinted stored
unfolding examples_compute
printed = refl
