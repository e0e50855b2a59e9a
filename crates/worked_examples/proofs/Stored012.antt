-- A stored trace: the tree (LLL), 40 turns.
use Rattle.std.specs.Prelude.{[], ◌∷◌, codes, refl}
use Rattle.worked_examples.specs.StoredTraces.{StoredTrace, IsPrinted, tree_of_sizes, code_and_words}
use Rattle.worked_examples.specs.Computing.{examples_compute}

abbrev stored : StoredTrace
stored = record {
  tree = tree_of_sizes ((3 ∷ []) ∷ []) 1 (record { sets = 1; buffer = 4; parking = 1; down = 2; requests = 2; replies = 1 });
  image = code_and_words (0x000102b7 ∷ 0x0072a823 ∷ 0x0072a023 ∷ 0x00e2a023 ∷ 0x00170713 ∷ 0xff1ff06f ∷ []) 0x10020 (0x6e66c023 ∷ 0x46c35de8 ∷ 0xe26eb4b9 ∷ 0x231bc514 ∷ []);
  schedule = codes "h 1 10\nh 1 10\nh 1 8\ng 0 q 1\ng 0 l 1 9\nh 2 1\ng 0 r 0\nh 2 7\ng 0 l 1 5\nh 0 3\nh 0 3\ng 0 q 1\ng 0 q 0\ng 0 d\ng 0 r 2\nh 1 5\nh 1 7\nh 1 1\nh 1 1\ng 0 q 0\ng 0 d\nh 0 0\nh 1 10\ng 0 q 1\nh 2 13\ng 0 q 2\nh 0 6\ng 0 q 0\ng 0 r 0\ng 0 q 2\ng 0 l 1 10\ng 0 d\ng 0 r 1\nh 2 13\nh 2 1\ng 0 l 1 14\ng 0 l 2 14\ng 0 q 1\ng 0 r 2\ng 0 l 2 2\nend\n";
  printed = codes "t 0 h 1 10 retired plain\nt 1 h 1 10 retired store 00010010 00170713 00000000\nt 2 h 1 8 issued read 0\nt 3 g 0 q 1 granted read 0 from child 1 to child 0\nt 4 g 0 l 1 9 busy room 1\nt 5 h 2 1 retired plain\nt 6 g 0 r 0 granted data 0 from child 0 to child 1\nt 7 h 2 7 issued read 1\nt 8 g 0 l 1 5 granted inject 1 from child 1 to child 2\nt 9 h 0 3 retired plain\nt 10 h 0 3 issued read 1\nt 11 g 0 q 1 granted erase 0 from child 1 to all\nt 12 g 0 q 0 granted read 1 from child 0 to child 2\nt 13 g 0 d granted exclusive 0 from parent to child 1\nt 14 g 0 r 2 granted data 1 from child 2 to child 0\nt 15 h 1 5 retired store 00010000 000102b7 00000000\nt 16 h 1 7 retired store 00010000 00000000 00000000\nt 17 h 1 1 retired plain\nt 18 h 1 1 retired plain\nt 19 g 0 q 0 granted erase 1 from child 0 to all\nt 20 g 0 d granted exclusive 1 from parent to child 0\nt 21 h 0 0 retired store 00010010 00000000 00000000\nt 22 h 1 10 issued read 1\nt 23 g 0 q 1 granted read 1 from child 1 to child 0\nt 24 h 2 13 issued read 1\nt 25 g 0 q 2 granted read 1 from child 2 to joined\nt 26 h 0 6 issued read 0\nt 27 g 0 q 0 granted read 0 from child 0 to child 1\nt 28 g 0 r 0 granted data 1 from child 0 to readers\nt 29 g 0 q 2 granted erase 1 from child 2 to all\nt 30 g 0 l 1 10 busy item 0 0 local 0\nt 31 g 0 d granted exclusive 1 from parent to child 2\nt 32 g 0 r 1 granted data 0 from child 1 to child 0\nt 33 h 2 13 retired store 00010010 00000000 00000000\nt 34 h 2 1 issued read 0\nt 35 g 0 l 1 14 granted out 0 from child 1 to gone\nt 36 g 0 l 2 14 busy room 2\nt 37 g 0 q 1 granted read 1 from child 1 to child 2\nt 38 g 0 r 2 granted data 1 from child 2 to child 1\nt 39 g 0 l 2 2 busy room 2\nddm 1\nturns 40 retired 10 granted 19 busy 4\nhart 0 running pc 00010008 done 2\nregs 0 00000000 00200000 00000000 00000000 00010000 00000000 00000000 00000000 00000000 00000000 00000003 00000000 00000000 00000000 00000000 00000000 00000000 00000000 00000000 00000000 00000000 00000000 00000000 00000000 00000000 00000000 00000000 00000000 00000000 00000000 00000000\nout 0 -\nhart 1 running pc 00010004 done 6\nregs 1 00000000 00200000 00000000 00000000 00010000 00000000 00000000 00000000 00000000 00000001 00000003 00000000 00000000 00000001 00000000 00000000 00000000 00000000 00000000 00000000 00000000 00000000 00000000 00000000 00000000 00000000 00000000 00000000 00000000 00000000 00000000\nout 1 -\nhart 2 running pc 00010008 done 2\nregs 2 00000000 00200000 00000000 00000000 00010000 00000000 00000000 00000000 00000000 00000002 00000003 00000000 00000000 00000000 00000000 00000000 00000000 00000000 00000000 00000000 00000000 00000000 00000000 00000000 00000000 00000000 00000000 00000000 00000000 00000000 00000000\nout 2 -\nbus 0 read 6 data 5 erase 3 exclusive 3 out 1 inject 1\nitem 0 00010000 00000000 0072a823 0072a023 00e2a023 leaf 0 way 0 W-B\nitem 1 00010010 00000000 ff1ff06f 00000000 00000000 leaf 1 way 0 -WS\nitem 2 00010020 6e66c023 46c35de8 e26eb4b9 231bc514 leaf 2 buffer 0 --E\nop 1 0.1.0 00010000 plain\nop 1 0.1.1 00010004 store 00010010 00170713 00000000\nop 2 1.2.0 00010000 plain\nop 0 3.0.0 00010000 plain\nop 1 7.1.2 00010008 store 00010000 000102b7 00000000\nop 1 7.1.3 0001000c store 00010000 00000000 00000000\nop 1 7.1.4 00010010 plain\nop 1 7.1.5 00010014 plain\nop 0 9.0.1 00010004 store 00010010 00000000 00000000\nop 2 16.2.1 00010004 store 00010010 00000000 00000000\nend\n";
}

pub printed : IsPrinted stored
unfolding examples_compute
printed = refl
