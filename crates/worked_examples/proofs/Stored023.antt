-- A stored trace: the tree ((((L))((L)))), 40 turns.
use Rattle.std.specs.Prelude.{[], ◌∷◌, codes, refl}
use Rattle.worked_examples.specs.StoredTraces.{StoredTrace, IsPrinted, tree_of_sizes, code_and_words}
use Rattle.worked_examples.specs.Computing.{examples_compute}

abbrev stored : StoredTrace
stored = record {
  tree = tree_of_sizes ((1 ∷ []) ∷ (2 ∷ []) ∷ (1 ∷ 1 ∷ []) ∷ (1 ∷ 1 ∷ []) ∷ []) 2 (record { sets = 1; buffer = 4; parking = 2; down = 32; requests = 2; replies = 2 });
  image = code_and_words (0x000102b7 ∷ 0x02a2a023 ∷ 0x01028493 ∷ 0x20e4a3af ∷ 0x02e2ac23 ∷ 0xff1ff06f ∷ []) 0x10020 (0x5978adc4 ∷ 0xa88d5390 ∷ 0xb3106b6b ∷ 0x92815937 ∷ 0x3be8e540 ∷ 0xe3149834 ∷ 0x2cb983f3 ∷ 0x6606980b ∷ []);
  schedule = codes "h 0 4\nh 0 12\nh 0 5\nh 0 5\ng 4 q 0\nh 1 4\nh 1 3\ng 5 q 0\ng 3 q 0\ng 4 l 0 0\ng 2 l 0 8\ng 5 l 0 12\ng 3 l 0 8\ng 1 l 1 7\ng 0 l 0 1\ng 0 l 0 6\ng 1 q 1\ng 0 l 0 6\ng 2 q 0\ng 1 q 0\ng 2 d\ng 1 l 0 0\ng 1 l 0 15\ng 3 d\ng 0 l 0 15\ng 5 d\ng 5 r 0\ng 3 r 0\ng 1 r 1\ng 1 l 0 10\ng 1 l 0 11\ng 1 r 0\ng 1 l 0 4\ng 3 d\ng 5 d\ng 5 q 0\ng 3 q 0\ng 1 q 1\ng 1 d\ng 3 d\nend\n";
  printed = codes "t 0 h 0 4 retired plain\nt 1 h 0 12 retired store 00010020 5978adc4 00000000\nt 2 h 0 5 retired plain\nt 3 h 0 5 issued read 1\nt 4 g 4 q 0 granted read 1 from child 0 to parent\nt 5 h 1 4 retired plain\nt 6 h 1 3 issued read 2\nt 7 g 5 q 0 granted read 2 from child 0 to parent\nt 8 g 3 q 0 granted read 2 from child 0 to parent\nt 9 g 4 l 0 0 granted inject 2 from child 0 to parking\nt 10 g 2 l 0 8 granted inject 2 from child 0 to parking\nt 11 g 5 l 0 12 granted inject 3 from child 0 to parking\nt 12 g 3 l 0 8 granted inject 3 from child 0 to parking\nt 13 g 1 l 1 7 granted inject 3 from child 1 to parking\nt 14 g 0 l 0 1 busy room 3\nt 15 g 0 l 0 6 busy room 3\nt 16 g 1 q 1 granted read 2 from child 1 to child 0\nt 17 g 0 l 0 6 busy room 3\nt 18 g 2 q 0 granted read 1 from child 0 to parent\nt 19 g 1 q 0 granted read 1 from child 0 to child 1\nt 20 g 2 d granted read 2 from parent to parking\nt 21 g 1 l 0 0 busy item 1 2 local 1\nt 22 g 1 l 0 15 busy item 1 2 local 1\nt 23 g 3 d granted read 1 from parent to child 0\nt 24 g 0 l 0 15 busy room 3\nt 25 g 5 d granted read 1 from parent to child 0\nt 26 g 5 r 0 granted data 1 from child 0 to parent\nt 27 g 3 r 0 granted data 1 from child 0 to parent\nt 28 g 1 r 1 granted data 1 from child 1 to child 0\nt 29 g 1 l 0 10 busy item 1 2 local 1\nt 30 g 1 l 0 11 busy item 1 2 local 1\nt 31 g 1 r 0 granted data 2 from child 0 to child 1\nt 32 g 1 l 0 4 granted out 2 from child 0 to gone\nt 33 g 3 d granted data 2 from parent to child 0\nt 34 g 5 d granted data 2 from parent to child 0\nt 35 g 5 q 0 granted erase 2 from child 0 to all\nt 36 g 3 q 0 granted erase 2 from child 0 to all\nt 37 g 1 q 1 granted erase 2 from child 1 to all\nt 38 g 1 d granted exclusive 2 from parent to child 1\nt 39 g 3 d granted exclusive 2 from parent to child 0\nddm 1\nturns 40 retired 4 granted 26 busy 8\nhart 0 running pc 0001000c done 3\nregs 0 00000000 00200000 00000000 00000000 00010000 00000000 00000000 00000000 00010010 00000000 00000002 00000000 00000000 00000000 00000000 00000000 00000000 00000000 00000000 00000000 00000000 00000000 00000000 00000000 00000000 00000000 00000000 00000000 00000000 00000000 00000000\nout 0 -\nhart 1 running pc 00010004 done 1\nregs 1 00000000 00200000 00000000 00000000 00010000 00000000 00000000 00000000 00000000 00000001 00000002 00000000 00000000 00000000 00000000 00000000 00000000 00000000 00000000 00000000 00000000 00000000 00000000 00000000 00000000 00000000 00000000 00000000 00000000 00000000 00000000\nout 1 -\nbus 0 read 0 data 0 erase 0 exclusive 0 out 0 inject 0\nbus 1 read 2 data 2 erase 1 exclusive 1 out 1 inject 1\nbus 2 read 2 data 0 erase 0 exclusive 0 out 0 inject 1\nbus 3 read 2 data 2 erase 1 exclusive 1 out 0 inject 1\nbus 4 read 1 data 0 erase 0 exclusive 0 out 0 inject 1\nbus 5 read 2 data 2 erase 1 exclusive 0 out 0 inject 1\nitem 0 00010000 000102b7 02a2a023 01028493 20e4a3af leaf 0 way 0 E-\nitem 1 00010010 02e2ac23 ff1ff06f 00000000 00000000 bus 2 down 0 BS\nitem 2 00010020 00000000 a88d5390 b3106b6b 92815937 leaf 1 way 1 -W\nitem 3 00010030 3be8e540 e3149834 2cb983f3 6606980b bus 1 parking 0 --\nop 0 0.0.0.0.0.0.0.0.0 00010000 plain\nop 0 0.0.0.0.0.0.0.0.1 00010004 store 00010020 5978adc4 00000000\nop 0 0.0.0.0.0.0.0.0.2 00010008 plain\nop 1 0.0.0.1.0.0.0.0.0 00010000 plain\nend\n";
}

pub printed : IsPrinted stored
unfolding examples_compute
printed = refl
