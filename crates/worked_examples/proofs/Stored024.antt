-- A stored trace: the tree (((LL)(LL))((LL))), 40 turns.
use Rattle.std.specs.Prelude.{[], ◌∷◌, codes, refl}
use Rattle.worked_examples.specs.StoredTraces.{StoredTrace, IsPrinted, tree_of_sizes, code_and_words}
use Rattle.worked_examples.specs.Computing.{examples_compute}

abbrev stored : StoredTrace
stored = record {
  tree = tree_of_sizes ((2 ∷ []) ∷ (2 ∷ 1 ∷ []) ∷ (2 ∷ 2 ∷ 2 ∷ []) ∷ []) 1 (record { sets = 1; buffer = 1; parking = 1; down = 1; requests = 1; replies = 1 });
  image = code_and_words (0x000102b7 ∷ 0x0042a603 ∷ 0x0102a603 ∷ 0xff9ff06f ∷ []) 0x10010 (0xdf3f3c75 ∷ 0xbf139324 ∷ 0x15a70ff4 ∷ 0xf6bd920f ∷ 0xaed49c18 ∷ 0xc2a7a6d8 ∷ 0x3b980419 ∷ 0xdf6b7858 ∷ []);
  schedule = codes "h 1 15\nh 1 15\nh 5 11\nh 5 11\ng 3 l 1 2\nh 0 5\nh 3 13\nh 3 14\nh 0 10\nh 0 2\ng 3 q 0\ng 3 d\nh 2 10\nh 2 10\ng 3 q 1\nh 4 7\nh 4 7\ng 4 q 1\ng 1 q 1\ng 3 l 0 6\ng 4 q 0\ng 3 r 0\nh 0 1\ng 5 q 1\nh 1 10\nh 1 13\ng 3 q 1\ng 3 r 0\ng 3 l 0 13\nh 1 8\ng 3 d\ng 3 l 0 7\ng 3 l 0 1\ng 3 r 0\ng 1 r 0\ng 4 d\nh 3 14\nh 3 7\nh 2 12\nh 2 2\nend\n";
  printed = codes "t 0 h 1 15 retired plain\nt 1 h 1 15 issued read 0\nt 2 h 5 11 retired plain\nt 3 h 5 11 issued read 0\nt 4 g 3 l 1 2 granted inject 1 from child 1 to parking\nt 5 h 0 5 retired plain\nt 6 h 3 13 retired plain\nt 7 h 3 14 issued read 0\nt 8 h 0 10 retired load 00010004 0042a603\nt 9 h 0 2 issued read 1\nt 10 g 3 q 0 granted read 1 from child 0 to parking\nt 11 g 3 d granted data 1 from parent to child 0\nt 12 h 2 10 retired plain\nt 13 h 2 10 issued read 0\nt 14 g 3 q 1 granted read 0 from child 1 to child 0\nt 15 h 4 7 retired plain\nt 16 h 4 7 issued read 0\nt 17 g 4 q 1 granted read 0 from child 1 to parent\nt 18 g 1 q 1 granted read 0 from child 1 to child 0\nt 19 g 3 l 0 6 busy item 3 0 local 1\nt 20 g 4 q 0 granted read 0 from child 0 to joined\nt 21 g 3 r 0 granted data 0 from child 0 to child 1\nt 22 h 0 1 retired load 00010010 df3f3c75\nt 23 g 5 q 1 granted read 0 from child 1 to parent\nt 24 h 1 10 retired load 00010004 0042a603\nt 25 h 1 13 issued read 1\nt 26 g 3 q 1 granted read 1 from child 1 to child 0\nt 27 g 3 r 0 granted data 1 from child 0 to child 1\nt 28 g 3 l 0 13 busy item 3 0 answering\nt 29 h 1 8 retired load 00010010 df3f3c75\nt 30 g 3 d granted read 0 from parent to child 0\nt 31 g 3 l 0 7 busy item 3 0 answering\nt 32 g 3 l 0 1 busy item 3 0 answering\nt 33 g 3 r 0 granted data 0 from child 0 to parent\nt 34 g 1 r 0 granted data 0 from child 0 to child 1\nt 35 g 4 d granted data 0 from parent to readers\nt 36 h 3 14 retired load 00010004 0042a603\nt 37 h 3 7 issued read 1\nt 38 h 2 12 retired load 00010004 0042a603\nt 39 h 2 2 busy buffer 2\nddm 1\nturns 40 retired 12 granted 15 busy 5\nhart 0 running pc 0001000c done 3\nregs 0 00000000 00200000 00000000 00000000 00010000 00000000 00000000 00000000 00000000 00000000 00000006 df3f3c75 00000000 00000000 00000000 00000000 00000000 00000000 00000000 00000000 00000000 00000000 00000000 00000000 00000000 00000000 00000000 00000000 00000000 00000000 00000000\nout 0 -\nhart 1 running pc 0001000c done 3\nregs 1 00000000 00200000 00000000 00000000 00010000 00000000 00000000 00000000 00000000 00000001 00000006 df3f3c75 00000000 00000000 00000000 00000000 00000000 00000000 00000000 00000000 00000000 00000000 00000000 00000000 00000000 00000000 00000000 00000000 00000000 00000000 00000000\nout 1 -\nhart 2 running pc 00010008 done 2\nregs 2 00000000 00200000 00000000 00000000 00010000 00000000 00000000 00000000 00000000 00000002 00000006 0042a603 00000000 00000000 00000000 00000000 00000000 00000000 00000000 00000000 00000000 00000000 00000000 00000000 00000000 00000000 00000000 00000000 00000000 00000000 00000000\nout 2 -\nhart 3 running pc 00010008 done 2\nregs 3 00000000 00200000 00000000 00000000 00010000 00000000 00000000 00000000 00000000 00000003 00000006 0042a603 00000000 00000000 00000000 00000000 00000000 00000000 00000000 00000000 00000000 00000000 00000000 00000000 00000000 00000000 00000000 00000000 00000000 00000000 00000000\nout 3 -\nhart 4 running pc 00010004 done 1\nregs 4 00000000 00200000 00000000 00000000 00010000 00000000 00000000 00000000 00000000 00000004 00000006 00000000 00000000 00000000 00000000 00000000 00000000 00000000 00000000 00000000 00000000 00000000 00000000 00000000 00000000 00000000 00000000 00000000 00000000 00000000 00000000\nout 4 -\nhart 5 running pc 00010004 done 1\nregs 5 00000000 00200000 00000000 00000000 00010000 00000000 00000000 00000000 00000000 00000005 00000006 00000000 00000000 00000000 00000000 00000000 00000000 00000000 00000000 00000000 00000000 00000000 00000000 00000000 00000000 00000000 00000000 00000000 00000000 00000000 00000000\nout 5 -\nbus 0 read 0 data 0 erase 0 exclusive 0 out 0 inject 0\nbus 1 read 1 data 1 erase 0 exclusive 0 out 0 inject 0\nbus 2 read 0 data 0 erase 0 exclusive 0 out 0 inject 0\nbus 3 read 4 data 4 erase 0 exclusive 0 out 0 inject 1\nbus 4 read 2 data 1 erase 0 exclusive 0 out 0 inject 0\nbus 5 read 1 data 0 erase 0 exclusive 0 out 0 inject 0\nitem 0 00010000 000102b7 0042a603 0102a603 ff9ff06f leaf 0 buffer 0 SSSSRR\nitem 1 00010010 df3f3c75 bf139324 15a70ff4 f6bd920f leaf 0 way 0 SS-R--\nitem 2 00010020 aed49c18 c2a7a6d8 3b980419 df6b7858 leaf 2 buffer 0 --E---\nop 1 0.0.0.0.0.1.0 00010000 plain\nop 0 0.0.0.0.1.0.0 00010000 plain\nop 0 0.0.0.0.1.0.1 00010004 load 00010004 0042a603\nop 0 0.0.0.0.5.0.2 00010008 load 00010010 df3f3c75\nop 1 0.0.0.0.5.1.1 00010004 load 00010004 0042a603\nop 1 0.0.0.0.7.1.2 00010008 load 00010010 df3f3c75\nop 2 0.0.0.1.0.0.0 00010000 plain\nop 3 0.0.0.1.0.1.0 00010000 plain\nop 2 0.0.2.1.3.0.1 00010004 load 00010004 0042a603\nop 3 0.0.2.1.3.1.1 00010004 load 00010004 0042a603\nop 4 0.1.0.0.0.0.0 00010000 plain\nop 5 0.1.0.0.0.1.0 00010000 plain\nend\n";
}

pub printed : IsPrinted stored
unfolding examples_compute
printed = refl
