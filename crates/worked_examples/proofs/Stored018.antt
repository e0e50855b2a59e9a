-- A stored trace: the tree (LLL), 40 turns.
use Rattle.std.specs.Prelude.{[], ◌∷◌, codes, refl}
use Rattle.worked_examples.specs.StoredTraces.{StoredTrace, IsPrinted, tree_of_sizes, code_and_words}
use Rattle.worked_examples.specs.Computing.{examples_compute}

abbrev stored : StoredTrace
stored = record {
  tree = tree_of_sizes ((3 ∷ []) ∷ []) 2 (record { sets = 3; buffer = 1; parking = 2; down = 4; requests = 45; replies = 2 });
  image = code_and_words (0x000102b7 ∷ 0x0142a603 ∷ 0x0142a383 ∷ 0x0302a383 ∷ 0x0302a603 ∷ 0xff1ff06f ∷ []) 0x10020 (0xe3d4a29c ∷ 0xee7862fd ∷ 0xfbf63e34 ∷ 0xc533e7da ∷ 0xcb3c0b3f ∷ 0xaac1f71f ∷ 0xf018692a ∷ 0xc1da8d0e ∷ 0xdaebfe4c ∷ 0xf76b3b4e ∷ 0x48ce7bb3 ∷ 0x3b8b2088 ∷ []);
  schedule = codes "h 0 9\nh 0 9\nh 1 15\nh 1 15\nh 2 8\nh 2 8\nh 1 13\nh 1 8\ng 0 q 2\ng 0 q 1\ng 0 r 0\nh 1 14\nh 1 9\ng 0 q 0\ng 0 r 1\nh 0 3\nh 2 1\nh 2 3\nh 2 6\ng 0 q 2\nh 0 3\nh 0 6\ng 0 r 0\nh 2 13\nh 2 6\nh 0 8\nh 2 4\nh 2 4\nh 0 11\nh 0 10\nh 2 4\nh 2 1\nh 2 12\nh 0 4\nh 2 3\nh 2 3\nh 0 8\nh 0 11\nh 2 9\nh 0 15\nend\n";
  printed = codes "t 0 h 0 9 retired plain\nt 1 h 0 9 issued read 1\nt 2 h 1 15 retired plain\nt 3 h 1 15 retired load 00010014 ff1ff06f\nt 4 h 2 8 retired plain\nt 5 h 2 8 issued read 1\nt 6 h 1 13 retired load 00010014 ff1ff06f\nt 7 h 1 8 issued read 3\nt 8 g 0 q 2 granted read 1 from child 2 to child 1\nt 9 g 0 q 1 granted read 3 from child 1 to child 0\nt 10 g 0 r 0 granted data 3 from child 0 to child 1\nt 11 h 1 14 retired load 00010030 cb3c0b3f\nt 12 h 1 9 retired load 00010030 cb3c0b3f\nt 13 g 0 q 0 granted read 1 from child 0 to joined\nt 14 g 0 r 1 granted data 1 from child 1 to readers\nt 15 h 0 3 retired load 00010014 ff1ff06f\nt 16 h 2 1 retired load 00010014 ff1ff06f\nt 17 h 2 3 retired load 00010014 ff1ff06f\nt 18 h 2 6 issued read 3\nt 19 g 0 q 2 granted read 3 from child 2 to child 0\nt 20 h 0 3 retired load 00010014 ff1ff06f\nt 21 h 0 6 retired load 00010030 cb3c0b3f\nt 22 g 0 r 0 granted data 3 from child 0 to child 2\nt 23 h 2 13 retired load 00010030 cb3c0b3f\nt 24 h 2 6 retired load 00010030 cb3c0b3f\nt 25 h 0 8 retired load 00010030 cb3c0b3f\nt 26 h 2 4 retired plain\nt 27 h 2 4 retired load 00010014 ff1ff06f\nt 28 h 0 11 retired plain\nt 29 h 0 10 retired load 00010014 ff1ff06f\nt 30 h 2 4 retired load 00010014 ff1ff06f\nt 31 h 2 1 retired load 00010030 cb3c0b3f\nt 32 h 2 12 retired load 00010030 cb3c0b3f\nt 33 h 0 4 retired load 00010014 ff1ff06f\nt 34 h 2 3 retired plain\nt 35 h 2 3 retired load 00010014 ff1ff06f\nt 36 h 0 8 retired load 00010030 cb3c0b3f\nt 37 h 0 11 retired load 00010030 cb3c0b3f\nt 38 h 2 9 retired load 00010014 ff1ff06f\nt 39 h 0 15 retired plain\nddm 1\nturns 40 retired 29 granted 7 busy 0\nhart 0 running pc 00010004 done 11\nregs 0 00000000 00200000 00000000 00000000 00010000 00000000 cb3c0b3f 00000000 00000000 00000000 00000003 cb3c0b3f 00000000 00000000 00000000 00000000 00000000 00000000 00000000 00000000 00000000 00000000 00000000 00000000 00000000 00000000 00000000 00000000 00000000 00000000 00000000\nout 0 -\nhart 1 running pc 00010014 done 5\nregs 1 00000000 00200000 00000000 00000000 00010000 00000000 cb3c0b3f 00000000 00000000 00000001 00000003 cb3c0b3f 00000000 00000000 00000000 00000000 00000000 00000000 00000000 00000000 00000000 00000000 00000000 00000000 00000000 00000000 00000000 00000000 00000000 00000000 00000000\nout 1 -\nhart 2 running pc 0001000c done 13\nregs 2 00000000 00200000 00000000 00000000 00010000 00000000 ff1ff06f 00000000 00000000 00000002 00000003 ff1ff06f 00000000 00000000 00000000 00000000 00000000 00000000 00000000 00000000 00000000 00000000 00000000 00000000 00000000 00000000 00000000 00000000 00000000 00000000 00000000\nout 2 -\nbus 0 read 4 data 3 erase 0 exclusive 0 out 0 inject 0\nitem 0 00010000 000102b7 0142a603 0142a383 0302a383 leaf 0 way 0 E--\nitem 1 00010010 0302a603 ff1ff06f 00000000 00000000 leaf 0 way 0 SSS\nitem 2 00010020 e3d4a29c ee7862fd fbf63e34 c533e7da leaf 2 way 0 --E\nitem 3 00010030 cb3c0b3f aac1f71f f018692a c1da8d0e leaf 0 way 1 SSS\nitem 4 00010040 daebfe4c f76b3b4e 48ce7bb3 3b8b2088 leaf 1 way 1 -E-\nop 0 0.0.0 00010000 plain\nop 1 0.1.0 00010000 plain\nop 1 0.1.1 00010004 load 00010014 ff1ff06f\nop 1 0.1.2 00010008 load 00010014 ff1ff06f\nop 2 0.2.0 00010000 plain\nop 1 3.1.3 0001000c load 00010030 cb3c0b3f\nop 1 3.1.4 00010010 load 00010030 cb3c0b3f\nop 0 5.0.1 00010004 load 00010014 ff1ff06f\nop 2 5.2.1 00010004 load 00010014 ff1ff06f\nop 2 5.2.2 00010008 load 00010014 ff1ff06f\nop 0 6.0.2 00010008 load 00010014 ff1ff06f\nop 0 6.0.3 0001000c load 00010030 cb3c0b3f\nop 0 7.0.4 00010010 load 00010030 cb3c0b3f\nop 0 7.0.5 00010014 plain\nop 0 7.0.6 00010004 load 00010014 ff1ff06f\nop 0 7.0.7 00010008 load 00010014 ff1ff06f\nop 0 7.0.8 0001000c load 00010030 cb3c0b3f\nop 0 7.0.9 00010010 load 00010030 cb3c0b3f\nop 0 7.0.10 00010014 plain\nop 2 7.2.3 0001000c load 00010030 cb3c0b3f\nop 2 7.2.4 00010010 load 00010030 cb3c0b3f\nop 2 7.2.5 00010014 plain\nop 2 7.2.6 00010004 load 00010014 ff1ff06f\nop 2 7.2.7 00010008 load 00010014 ff1ff06f\nop 2 7.2.8 0001000c load 00010030 cb3c0b3f\nop 2 7.2.9 00010010 load 00010030 cb3c0b3f\nop 2 7.2.10 00010014 plain\nop 2 7.2.11 00010004 load 00010014 ff1ff06f\nop 2 7.2.12 00010008 load 00010014 ff1ff06f\nend\n";
}

pub printed : IsPrinted stored
unfolding examples_compute
printed = refl
