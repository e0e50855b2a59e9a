-- A stored trace: the tree (((LL))((LL))), 40 turns.
use Rattle.std.specs.Prelude.{[], ◌∷◌, codes, refl}
use Rattle.worked_examples.specs.StoredTraces.{StoredTrace, IsPrinted, tree_of_sizes, writable_code}
use Rattle.worked_examples.specs.Computing.{examples_compute}

abbrev stored : StoredTrace
stored = record {
  tree = tree_of_sizes ((2 ∷ []) ∷ (1 ∷ 1 ∷ []) ∷ (2 ∷ 2 ∷ []) ∷ []) 1 (record { sets = 2; buffer = 1; parking = 4; down = 1; requests = 1; replies = 16 });
  image = writable_code (0x000102b7 ∷ 0x0102a383 ∷ 0x0082a603 ∷ 0x0142a603 ∷ 0x0002a383 ∷ 0xff1ff06f ∷ []);
  schedule = codes "g 4 r 0\ng 3 q 0\ng 1 d\ng 1 d\ng 4 l 0 15\ng 1 l 0 5\nh 1 15\nh 1 15\ng 2 d\ng 3 r 1\ng 2 r 0\ng 4 q 0\nh 0 6\nh 0 6\ng 1 l 0 4\ng 4 l 1 7\ng 4 r 0\nh 0 0\ng 0 q 0\ng 1 r 0\nh 0 6\ng 0 r 1\ng 2 q 0\ng 1 d\ng 3 q 1\ng 2 l 0 4\ng 3 l 0 9\ng 1 d\ng 4 d\ng 2 q 0\ng 0 d\ng 3 q 0\ng 3 l 1 1\ng 0 l 1 7\ng 3 l 0 4\ng 0 l 0 11\ng 3 q 1\nh 2 0\nh 2 0\ng 3 r 1\nend\n";
  printed = codes "t 0 g 4 r 0 empty\nt 1 g 3 q 0 empty\nt 2 g 1 d empty\nt 3 g 1 d empty\nt 4 g 4 l 0 15 empty\nt 5 g 1 l 0 5 empty\nt 6 h 1 15 retired plain\nt 7 h 1 15 retired load 00010010 0002a383\nt 8 g 2 d empty\nt 9 g 3 r 1 empty\nt 10 g 2 r 0 empty\nt 11 g 4 q 0 empty\nt 12 h 0 6 retired plain\nt 13 h 0 6 issued read 1\nt 14 g 1 l 0 4 empty\nt 15 g 4 l 1 7 empty\nt 16 g 4 r 0 empty\nt 17 h 0 0 waiting 1\nt 18 g 0 q 0 empty\nt 19 g 1 r 0 empty\nt 20 h 0 6 waiting 1\nt 21 g 0 r 1 empty\nt 22 g 2 q 0 empty\nt 23 g 1 d empty\nt 24 g 3 q 1 empty\nt 25 g 2 l 0 4 empty\nt 26 g 3 l 0 9 empty\nt 27 g 1 d empty\nt 28 g 4 d empty\nt 29 g 2 q 0 empty\nt 30 g 0 d empty\nt 31 g 3 q 0 granted read 1 from child 0 to child 1\nt 32 g 3 l 1 1 empty\nt 33 g 0 l 1 7 empty\nt 34 g 3 l 0 4 empty\nt 35 g 0 l 0 11 empty\nt 36 g 3 q 1 empty\nt 37 h 2 0 retired plain\nt 38 h 2 0 issued read 1\nt 39 g 3 r 1 granted data 1 from child 1 to child 0\nddm 1\nturns 40 retired 4 granted 2 busy 0\nhart 0 running pc 00010004 done 1\nregs 0 00000000 00200000 00000000 00000000 00010000 00000000 00000000 00000000 00000000 00000000 00000004 00000000 00000000 00000000 00000000 00000000 00000000 00000000 00000000 00000000 00000000 00000000 00000000 00000000 00000000 00000000 00000000 00000000 00000000 00000000 00000000\nout 0 -\nhart 1 running pc 00010008 done 2\nregs 1 00000000 00200000 00000000 00000000 00010000 00000000 0002a383 00000000 00000000 00000001 00000004 00000000 00000000 00000000 00000000 00000000 00000000 00000000 00000000 00000000 00000000 00000000 00000000 00000000 00000000 00000000 00000000 00000000 00000000 00000000 00000000\nout 1 -\nhart 2 running pc 00010004 done 1\nregs 2 00000000 00200000 00000000 00000000 00010000 00000000 00000000 00000000 00000000 00000002 00000004 00000000 00000000 00000000 00000000 00000000 00000000 00000000 00000000 00000000 00000000 00000000 00000000 00000000 00000000 00000000 00000000 00000000 00000000 00000000 00000000\nout 2 -\nhart 3 running pc 00010000 done 0\nregs 3 00000000 00200000 00000000 00000000 00000000 00000000 00000000 00000000 00000000 00000003 00000004 00000000 00000000 00000000 00000000 00000000 00000000 00000000 00000000 00000000 00000000 00000000 00000000 00000000 00000000 00000000 00000000 00000000 00000000 00000000 00000000\nout 3 -\nbus 0 read 0 data 0 erase 0 exclusive 0 out 0 inject 0\nbus 1 read 0 data 0 erase 0 exclusive 0 out 0 inject 0\nbus 2 read 0 data 0 erase 0 exclusive 0 out 0 inject 0\nbus 3 read 1 data 1 erase 0 exclusive 0 out 0 inject 0\nbus 4 read 0 data 0 erase 0 exclusive 0 out 0 inject 0\nitem 0 00010000 000102b7 0102a383 0082a603 0142a603 leaf 0 way 0 E---\nitem 1 00010010 0002a383 ff1ff06f 00000000 00000000 leaf 0 way 0 SSR-\nop 0 0.0.0.0.0.0.0 00010000 plain\nop 1 0.0.0.0.0.1.0 00010000 plain\nop 1 0.0.0.0.0.1.1 00010004 load 00010010 0002a383\nop 2 0.1.0.0.0.0.0 00010000 plain\nend\n";
}

pub printed : IsPrinted stored
unfolding examples_compute
printed = refl
