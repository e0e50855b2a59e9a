-- A stored trace: the tree (((L))((L))), 40 turns.
use Rattle.std.specs.Prelude.{[], ◌∷◌, codes, refl}
use Rattle.worked_examples.specs.StoredTraces.{StoredTrace, IsPrinted, tree_of_sizes, writable_code}
use Rattle.worked_examples.specs.Computing.{examples_compute}

abbrev stored : StoredTrace
stored = record {
  tree = tree_of_sizes ((2 ∷ []) ∷ (1 ∷ 1 ∷ []) ∷ (1 ∷ 1 ∷ []) ∷ []) 1 (record { sets = 1; buffer = 4; parking = 4; down = 3; requests = 1; replies = 21 });
  image = writable_code (0x000102b7 ∷ 0x00170713 ∷ 0x0102a383 ∷ 0x0042a383 ∷ 0x00170713 ∷ 0xff1ff06f ∷ []);
  schedule = codes "g 1 q 0\nh 0 2\nh 0 2\nh 0 2\ng 1 d\ng 1 r 0\ng 0 r 0\nh 0 3\ng 0 q 0\ng 1 q 0\ng 1 l 0 1\ng 3 l 0 12\ng 2 d\nh 0 10\ng 2 q 0\ng 0 l 1 15\ng 0 r 0\ng 3 d\ng 1 d\ng 0 r 1\ng 3 r 0\ng 0 r 0\ng 0 q 1\ng 3 d\ng 4 r 0\ng 0 l 1 0\ng 4 r 0\ng 0 l 0 3\ng 2 q 0\ng 0 l 0 5\ng 0 r 1\ng 1 l 0 10\ng 0 d\ng 0 q 1\ng 4 l 0 1\nh 0 6\ng 1 l 0 5\ng 1 l 0 3\ng 3 l 0 9\ng 0 r 0\nend\n";
  printed = codes "t 0 g 1 q 0 empty\nt 1 h 0 2 retired plain\nt 2 h 0 2 retired plain\nt 3 h 0 2 issued read 1\nt 4 g 1 d empty\nt 5 g 1 r 0 empty\nt 6 g 0 r 0 empty\nt 7 h 0 3 waiting 1\nt 8 g 0 q 0 empty\nt 9 g 1 q 0 empty\nt 10 g 1 l 0 1 empty\nt 11 g 3 l 0 12 granted inject 0 from child 0 to parking\nt 12 g 2 d empty\nt 13 h 0 10 waiting 1\nt 14 g 2 q 0 empty\nt 15 g 0 l 1 15 empty\nt 16 g 0 r 0 empty\nt 17 g 3 d empty\nt 18 g 1 d empty\nt 19 g 0 r 1 empty\nt 20 g 3 r 0 empty\nt 21 g 0 r 0 empty\nt 22 g 0 q 1 empty\nt 23 g 3 d empty\nt 24 g 4 r 0 empty\nt 25 g 0 l 1 0 empty\nt 26 g 4 r 0 empty\nt 27 g 0 l 0 3 empty\nt 28 g 2 q 0 empty\nt 29 g 0 l 0 5 empty\nt 30 g 0 r 1 empty\nt 31 g 1 l 0 10 granted inject 0 from child 0 to parking\nt 32 g 0 d empty\nt 33 g 0 q 1 empty\nt 34 g 4 l 0 1 empty\nt 35 h 0 6 waiting 1\nt 36 g 1 l 0 5 empty\nt 37 g 1 l 0 3 empty\nt 38 g 3 l 0 9 empty\nt 39 g 0 r 0 empty\nddm 1\nturns 40 retired 2 granted 2 busy 0\nhart 0 running pc 00010008 done 2\nregs 0 00000000 00200000 00000000 00000000 00010000 00000000 00000000 00000000 00000000 00000000 00000002 00000000 00000000 00000001 00000000 00000000 00000000 00000000 00000000 00000000 00000000 00000000 00000000 00000000 00000000 00000000 00000000 00000000 00000000 00000000 00000000\nout 0 -\nhart 1 running pc 00010000 done 0\nregs 1 00000000 00200000 00000000 00000000 00000000 00000000 00000000 00000000 00000000 00000001 00000002 00000000 00000000 00000000 00000000 00000000 00000000 00000000 00000000 00000000 00000000 00000000 00000000 00000000 00000000 00000000 00000000 00000000 00000000 00000000 00000000\nout 1 -\nbus 0 read 0 data 0 erase 0 exclusive 0 out 0 inject 0\nbus 1 read 0 data 0 erase 0 exclusive 0 out 0 inject 1\nbus 2 read 0 data 0 erase 0 exclusive 0 out 0 inject 0\nbus 3 read 0 data 0 erase 0 exclusive 0 out 0 inject 1\nbus 4 read 0 data 0 erase 0 exclusive 0 out 0 inject 0\nitem 0 00010000 000102b7 00170713 0102a383 0042a383 bus 1 parking 0 --\nitem 1 00010010 00170713 ff1ff06f 00000000 00000000 leaf 1 way 0 RE\nop 0 0.0.0.0.0.0.0 00010000 plain\nop 0 0.0.0.0.0.0.1 00010004 plain\nend\n";
}

pub printed : IsPrinted stored
unfolding examples_compute
printed = refl
