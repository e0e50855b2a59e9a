-- A stored trace: the tree (((LL)(L))((L))), 40 turns.
use Rattle.std.specs.Prelude.{[], ◌∷◌, codes, refl}
use Rattle.worked_examples.specs.StoredTraces.{StoredTrace, IsPrinted, tree_of_sizes, code_and_words}
use Rattle.worked_examples.specs.Computing.{examples_compute}

abbrev stored : StoredTrace
stored = record {
  tree = tree_of_sizes ((2 ∷ []) ∷ (2 ∷ 1 ∷ []) ∷ (2 ∷ 1 ∷ 1 ∷ []) ∷ []) 4 (record { sets = 1; buffer = 1; parking = 1; down = 2; requests = 1; replies = 2 });
  image = code_and_words (0x000102b7 ∷ 0x03828493 ∷ 0x08e4a3af ∷ 0xff9ff06f ∷ []) 0x10010 (0x7799d91f ∷ 0xfc7a6db5 ∷ 0x0141a9c3 ∷ 0x5a950195 ∷ 0xea8741e2 ∷ 0x71bc78c3 ∷ 0xbefd6054 ∷ 0xa4a8af38 ∷ 0x30e80d4e ∷ 0x6a7fab85 ∷ 0x4fdaa421 ∷ 0xec0c1ee9 ∷ 0x1680660b ∷ 0x64d09756 ∷ 0xd42cbeb3 ∷ 0xdfb1ea57 ∷ []);
  schedule = codes "h 1 8\nh 1 8\nh 1 5\ng 3 q 1\nh 2 12\ng 1 q 0\ng 0 q 0\ng 2 d\ng 5 d\ng 5 r 0\ng 2 r 0\nh 3 11\nh 3 11\nh 3 11\ng 5 q 0\nh 2 1\nh 2 10\ng 4 q 0\nh 0 2\nh 0 2\nh 0 2\ng 3 q 0\ng 2 q 0\ng 0 q 1\ng 0 q 1\ng 0 q 1\ng 1 q 1\ng 0 r 1\ng 0 q 1\ng 0 d\ng 2 d\ng 5 d\nh 3 5\nh 3 13\nh 3 14\nh 3 14\nh 3 4\nh 3 4\nh 3 4\nh 3 4\nend\n";
  printed = codes "t 0 h 1 8 retired plain\nt 1 h 1 8 retired plain\nt 2 h 1 5 issued read 3\nt 3 g 3 q 1 granted read 3 from child 1 to parent\nt 4 h 2 12 retired plain\nt 5 g 1 q 0 granted read 3 from child 0 to parent\nt 6 g 0 q 0 granted read 3 from child 0 to child 1\nt 7 g 2 d granted read 3 from parent to child 0\nt 8 g 5 d granted read 3 from parent to child 0\nt 9 g 5 r 0 granted data 3 from child 0 to parent\nt 10 g 2 r 0 granted data 3 from child 0 to parent\nt 11 h 3 11 retired plain\nt 12 h 3 11 retired plain\nt 13 h 3 11 issued erase 3\nt 14 g 5 q 0 granted erase 3 from child 0 to all\nt 15 h 2 1 retired plain\nt 16 h 2 10 issued read 3\nt 17 g 4 q 0 granted read 3 from child 0 to parent\nt 18 h 0 2 retired plain\nt 19 h 0 2 retired plain\nt 20 h 0 2 issued read 3\nt 21 g 3 q 0 granted read 3 from child 0 to joined\nt 22 g 2 q 0 granted erase 3 from child 0 to all\nt 23 g 0 q 1 busy item 0 3 local 0\nt 24 g 0 q 1 busy item 0 3 local 0\nt 25 g 0 q 1 busy item 0 3 local 0\nt 26 g 1 q 1 granted read 3 from child 1 to joined\nt 27 g 0 r 1 granted data 3 from child 1 to child 0\nt 28 g 0 q 1 granted erase 3 from child 1 to all\nt 29 g 0 d granted exclusive 3 from parent to child 1\nt 30 g 2 d granted exclusive 3 from parent to child 0\nt 31 g 5 d granted exclusive 3 from parent to child 0\nt 32 h 3 5 retired amo 00010038 4fdaa421 00000000\nt 33 h 3 13 retired plain\nt 34 h 3 14 retired plain\nt 35 h 3 14 retired amo 00010038 00000000 00000000\nt 36 h 3 4 retired plain\nt 37 h 3 4 retired plain\nt 38 h 3 4 retired amo 00010038 00000000 00000000\nt 39 h 3 4 retired plain\nddm 1\nturns 40 retired 16 granted 17 busy 3\nhart 0 running pc 00010008 done 2\nregs 0 00000000 00200000 00000000 00000000 00010000 00000000 00000000 00000000 00010038 00000000 00000004 00000000 00000000 00000000 00000000 00000000 00000000 00000000 00000000 00000000 00000000 00000000 00000000 00000000 00000000 00000000 00000000 00000000 00000000 00000000 00000000\nout 0 -\nhart 1 running pc 00010008 done 2\nregs 1 00000000 00200000 00000000 00000000 00010000 00000000 00000000 00000000 00010038 00000001 00000004 00000000 00000000 00000000 00000000 00000000 00000000 00000000 00000000 00000000 00000000 00000000 00000000 00000000 00000000 00000000 00000000 00000000 00000000 00000000 00000000\nout 1 -\nhart 2 running pc 00010008 done 2\nregs 2 00000000 00200000 00000000 00000000 00010000 00000000 00000000 00000000 00010038 00000002 00000004 00000000 00000000 00000000 00000000 00000000 00000000 00000000 00000000 00000000 00000000 00000000 00000000 00000000 00000000 00000000 00000000 00000000 00000000 00000000 00000000\nout 2 -\nhart 3 running pc 00010004 done 10\nregs 3 00000000 00200000 00000000 00000000 00010000 00000000 00000000 00000000 00010038 00000003 00000004 00000000 00000000 00000000 00000000 00000000 00000000 00000000 00000000 00000000 00000000 00000000 00000000 00000000 00000000 00000000 00000000 00000000 00000000 00000000 00000000\nout 3 -\nbus 0 read 1 data 1 erase 1 exclusive 1 out 0 inject 0\nbus 1 read 2 data 0 erase 0 exclusive 0 out 0 inject 0\nbus 2 read 1 data 1 erase 1 exclusive 1 out 0 inject 0\nbus 3 read 2 data 0 erase 0 exclusive 0 out 0 inject 0\nbus 4 read 1 data 0 erase 0 exclusive 0 out 0 inject 0\nbus 5 read 1 data 1 erase 1 exclusive 1 out 0 inject 0\nitem 0 00010000 000102b7 03828493 08e4a3af ff9ff06f leaf 0 way 0 E---\nitem 1 00010010 7799d91f fc7a6db5 0141a9c3 5a950195 leaf 1 way 0 -E--\nitem 2 00010020 ea8741e2 71bc78c3 befd6054 a4a8af38 leaf 2 way 0 --E-\nitem 3 00010030 30e80d4e 6a7fab85 00000000 ec0c1ee9 leaf 3 way 0 BBBE\nitem 4 00010040 1680660b 64d09756 d42cbeb3 dfb1ea57 leaf 0 way 1 E---\nop 1 0.0.0.0.0.1.0 00010000 plain\nop 1 0.0.0.0.0.1.1 00010004 plain\nop 0 0.0.0.0.1.0.0 00010000 plain\nop 0 0.0.0.0.1.0.1 00010004 plain\nop 2 0.0.0.1.0.0.0 00010000 plain\nop 2 0.0.0.1.0.0.1 00010004 plain\nop 3 1.1.1.0.2.0.0 00010000 plain\nop 3 1.1.1.0.2.0.1 00010004 plain\nop 3 4.1.4.0.4.0.2 00010008 amo 00010038 4fdaa421 00000000\nop 3 4.1.4.0.4.0.3 0001000c plain\nop 3 4.1.4.0.4.0.4 00010004 plain\nop 3 4.1.4.0.4.0.5 00010008 amo 00010038 00000000 00000000\nop 3 4.1.4.0.4.0.6 0001000c plain\nop 3 4.1.4.0.4.0.7 00010004 plain\nop 3 4.1.4.0.4.0.8 00010008 amo 00010038 00000000 00000000\nop 3 4.1.4.0.4.0.9 0001000c plain\nend\n";
}

pub printed : IsPrinted stored
unfolding examples_compute
printed = refl
