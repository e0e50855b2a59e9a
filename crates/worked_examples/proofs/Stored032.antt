-- A stored trace: the tree ((L)(L)), 70 turns.
use Rattle.std.specs.Prelude.{[], ◌∷◌, codes, refl}
use Rattle.worked_examples.specs.StoredTraces.{StoredTrace, IsPrinted, tree_of_sizes, writable_code}
use Rattle.worked_examples.specs.Computing.{examples_compute}

abbrev stored : StoredTrace
stored = record {
  tree = tree_of_sizes ((2 ∷ []) ∷ (1 ∷ 1 ∷ []) ∷ []) 2 (record { sets = 1; buffer = 4; parking = 1; down = 1; requests = 1; replies = 24 });
  image = writable_code (0x000102b7 ∷ 0x00451313 ∷ 0x00530333 ∷ 0x01851713 ∷ 0x00e2a023 ∷ 0x01030493 ∷ 0x1004a3af ∷ 0x18e4a62f ∷ 0x0042a603 ∷ 0x00432383 ∷ 0x0042a603 ∷ 0xfe5ff06f ∷ []);
  schedule = codes "h 0 3\nh 0 3\nh 0 3\nh 0 3\nh 0 3\nh 0 0\nh 0 0\nh 1 5\nh 1 5\nh 1 5\nh 1 15\ng 1 q 0\nh 1 11\ng 0 q 0\ng 2 d\ng 2 r 0\ng 2 q 0\ng 0 q 1\ng 1 d\ng 1 l 0 14\ng 1 r 0\ng 0 r 0\ng 1 l 0 5\ng 0 r 1\ng 1 d\nh 0 1\nh 0 6\ng 1 q 0\ng 0 l 0 12\ng 2 d\ng 2 q 0\ng 0 q 1\ng 0 d\ng 0 q 0\ng 2 d\nh 1 10\nh 1 13\nh 1 13\ng 0 q 0\ng 2 q 0\ng 0 d\ng 1 d\nh 0 11\nh 0 3\ng 1 q 0\ng 1 l 0 3\ng 0 l 0 8\ng 0 q 0\ng 2 d\ng 0 q 0\ng 2 l 0 8\ng 2 d\ng 2 r 0\ng 0 l 0 4\ng 0 r 1\ng 1 d\nh 0 15\nh 0 8\nh 0 12\nh 0 7\nh 0 7\ng 2 d\ng 1 q 0\ng 2 l 0 8\nh 1 2\nh 1 0\ng 0 q 0\ng 0 l 1 12\nh 1 7\ng 0 d\nend\n";
  printed = codes "t 0 h 0 3 retired plain\nt 1 h 0 3 retired plain\nt 2 h 0 3 retired plain\nt 3 h 0 3 retired plain\nt 4 h 0 3 retired store 00010000 000102b7 00000000\nt 5 h 0 0 retired plain\nt 6 h 0 0 issued read 1\nt 7 h 1 5 retired plain\nt 8 h 1 5 retired plain\nt 9 h 1 5 retired plain\nt 10 h 1 15 retired plain\nt 11 g 1 q 0 granted read 1 from child 0 to parent\nt 12 h 1 11 issued read 0\nt 13 g 0 q 0 granted read 1 from child 0 to child 1\nt 14 g 2 d granted read 1 from parent to child 0\nt 15 g 2 r 0 granted data 1 from child 0 to parent\nt 16 g 2 q 0 granted read 0 from child 0 to parent\nt 17 g 0 q 1 granted read 0 from child 1 to child 0\nt 18 g 1 d granted read 0 from parent to child 0\nt 19 g 1 l 0 14 busy item 1 0 answering\nt 20 g 1 r 0 granted data 0 from child 0 to parent\nt 21 g 0 r 0 granted data 0 from child 0 to child 1\nt 22 g 1 l 0 5 granted out 0 from child 0 to parking\nt 23 g 0 r 1 granted data 1 from child 1 to child 0\nt 24 g 1 d granted data 1 from parent to child 0\nt 25 h 0 1 retired lr 00010010 00e2a023\nt 26 h 0 6 issued erase 1\nt 27 g 1 q 0 granted erase 1 from child 0 to all\nt 28 g 0 l 0 12 granted out 0 from child 0 to gone\nt 29 g 2 d granted data 0 from parent to child 0\nt 30 g 2 q 0 granted erase 0 from child 0 to all\nt 31 g 0 q 1 granted erase 0 from child 1 to all\nt 32 g 0 d granted exclusive 0 from parent to child 1\nt 33 g 0 q 0 busy queue down 2\nt 34 g 2 d granted exclusive 0 from parent to child 0\nt 35 h 1 10 retired store 00010000 00000000 01000000\nt 36 h 1 13 retired plain\nt 37 h 1 13 issued read 2\nt 38 g 0 q 0 granted erase 1 from child 0 to all\nt 39 g 2 q 0 granted read 2 from child 0 to parent\nt 40 g 0 d granted exclusive 1 from parent to child 0\nt 41 g 1 d granted exclusive 1 from parent to child 0\nt 42 h 0 11 retired scok 00010010 00e2a023 00000000\nt 43 h 0 3 issued read 0\nt 44 g 1 q 0 granted read 0 from child 0 to parent\nt 45 g 1 l 0 3 granted inject 2 from child 0 to parking\nt 46 g 0 l 0 8 busy room 2\nt 47 g 0 q 0 busy queue down 2\nt 48 g 2 d granted erase 1 from parent to all\nt 49 g 0 q 0 granted read 0 from child 0 to child 1\nt 50 g 2 l 0 8 busy item 2 0 answering\nt 51 g 2 d granted read 0 from parent to child 0\nt 52 g 2 r 0 granted data 0 from child 0 to parent\nt 53 g 0 l 0 4 granted inject 2 from child 0 to child 1\nt 54 g 0 r 1 granted data 0 from child 1 to child 0\nt 55 g 1 d granted data 0 from parent to child 0\nt 56 h 0 15 retired load 00010004 00451313\nt 57 h 0 8 retired load 00010004 00451313\nt 58 h 0 12 retired load 00010004 00451313\nt 59 h 0 7 retired plain\nt 60 h 0 7 issued erase 0\nt 61 g 2 d granted inject 2 from parent to child 0\nt 62 g 1 q 0 granted erase 0 from child 0 to all\nt 63 g 2 l 0 8 granted out 0 from child 0 to parking\nt 64 h 1 2 retired lr 00010020 0042a603\nt 65 h 1 0 retired scok 00010020 0042a603 01000000\nt 66 g 0 q 0 granted erase 0 from child 0 to all\nt 67 g 0 l 1 12 busy item 0 0 uperase 0\nt 68 h 1 7 issued read 0\nt 69 g 0 d granted exclusive 0 from parent to child 0\nddm 1\nturns 70 retired 20 granted 37 busy 6\nhart 0 running pc 00010010 done 12\nregs 0 00000000 00200000 00000000 00000000 00010000 00010000 00451313 00000000 00010010 00000000 00000002 00451313 00000000 00000000 00000000 00000000 00000000 00000000 00000000 00000000 00000000 00000000 00000000 00000000 00000000 00000000 00000000 00000000 00000000 00000000 00000000\nout 0 -\nhart 1 running pc 00010020 done 8\nregs 1 00000000 00200000 00000000 00000000 00010000 00010010 0042a603 00000000 00010020 00000001 00000002 00000000 00000000 01000000 00000000 00000000 00000000 00000000 00000000 00000000 00000000 00000000 00000000 00000000 00000000 00000000 00000000 00000000 00000000 00000000 00000000\nout 1 -\nbus 0 read 3 data 3 erase 3 exclusive 3 out 1 inject 1\nbus 1 read 3 data 3 erase 2 exclusive 1 out 1 inject 1\nbus 2 read 4 data 3 erase 2 exclusive 1 out 1 inject 1\nitem 0 00010000 01000000 00451313 00530333 01851713 leaf 0 way 1 WR\nitem 1 00010010 00000000 01030493 1004a3af 18e4a62f leaf 0 way 0 E-\nitem 2 00010020 01000000 00432383 0042a603 fe5ff06f leaf 1 way 1 -E\nop 0 0.0.0.0.0 00010000 plain\nop 0 0.0.0.0.1 00010004 plain\nop 0 0.0.0.0.2 00010008 plain\nop 0 0.0.0.0.3 0001000c plain\nop 0 0.0.0.0.4 00010010 store 00010000 000102b7 00000000\nop 0 0.0.0.0.5 00010014 plain\nop 1 0.1.0.0.0 00010000 plain\nop 1 0.1.0.0.1 00010004 plain\nop 1 0.1.0.0.2 00010008 plain\nop 1 0.1.0.0.3 0001000c plain\nop 0 4.0.5.0.6 00010018 lr 00010010 00e2a023\nop 1 7.1.6.0.4 00010010 store 00010000 00000000 01000000\nop 1 7.1.6.0.5 00010014 plain\nop 0 9.0.7.0.7 0001001c scok 00010010 00e2a023 00000000\nop 1 11.1.12.0.6 00010018 lr 00010020 0042a603\nop 1 11.1.12.0.7 0001001c scok 00010020 0042a603 01000000\nop 0 12.0.10.0.8 00010020 load 00010004 00451313\nop 0 12.0.10.0.9 00010024 load 00010004 00451313\nop 0 12.0.10.0.10 00010028 load 00010004 00451313\nop 0 12.0.10.0.11 0001002c plain\nend\n";
}

pub printed : IsPrinted stored
unfolding examples_compute
printed = refl
