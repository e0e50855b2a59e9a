-- A stored trace: the tree (LLLL), 40 turns.
use Rattle.std.specs.Prelude.{[], ◌∷◌, codes, refl}
use Rattle.worked_examples.specs.StoredTraces.{StoredTrace, IsPrinted, tree_of_sizes, code_and_words}
use Rattle.worked_examples.specs.Computing.{examples_compute}

abbrev stored : StoredTrace
stored = record {
  tree = tree_of_sizes ((4 ∷ []) ∷ []) 1 (record { sets = 1; buffer = 2; parking = 1; down = 4; requests = 2; replies = 1 });
  image = code_and_words (0x000102b7 ∷ 0x02428493 ∷ 0x00e4a3af ∷ 0x0302a603 ∷ 0x00e2a223 ∷ 0xff1ff06f ∷ []) 0x10020 (0x847ea5a5 ∷ 0x7ba7af69 ∷ 0xe977dd95 ∷ 0xfc8af370 ∷ 0x3fb4fbc8 ∷ 0xf3b6a578 ∷ 0xbf9957f4 ∷ 0x8ae32575 ∷ []);
  schedule = codes "h 1 12\nh 1 12\nh 1 6\ng 0 l 1 14\ng 0 q 1\ng 0 r 2\ng 0 q 1\ng 0 l 1 11\ng 0 d\nh 1 13\nh 1 2\nh 3 0\nh 3 0\nh 3 0\ng 0 l 3 8\ng 0 q 3\nh 0 14\nh 0 14\nh 0 14\ng 0 q 0\ng 0 r 1\nh 2 2\nh 2 2\nh 2 11\ng 0 q 0\ng 0 q 3\ng 0 q 2\ng 0 q 2\ng 0 d\nh 1 8\ng 0 q 2\ng 0 q 3\nh 1 13\ng 0 q 1\ng 0 q 1\ng 0 q 1\ng 0 q 1\ng 0 q 1\ng 0 q 1\ng 0 q 1\nend\n";
  printed = codes "t 0 h 1 12 retired plain\nt 1 h 1 12 retired plain\nt 2 h 1 6 issued read 2\nt 3 g 0 l 1 14 busy room 1\nt 4 g 0 q 1 granted read 2 from child 1 to child 2\nt 5 g 0 r 2 granted data 2 from child 2 to child 1\nt 6 g 0 q 1 granted erase 2 from child 1 to all\nt 7 g 0 l 1 11 granted inject 1 from child 1 to child 2\nt 8 g 0 d granted exclusive 2 from parent to child 1\nt 9 h 1 13 retired amo 00010024 7ba7af69 7ba7af69\nt 10 h 1 2 issued read 3\nt 11 h 3 0 retired plain\nt 12 h 3 0 retired plain\nt 13 h 3 0 issued read 2\nt 14 g 0 l 3 8 granted inject 3 from child 3 to child 1\nt 15 g 0 q 3 granted read 2 from child 3 to child 1\nt 16 h 0 14 retired plain\nt 17 h 0 14 retired plain\nt 18 h 0 14 issued read 2\nt 19 g 0 q 0 granted read 2 from child 0 to joined\nt 20 g 0 r 1 granted data 2 from child 1 to readers\nt 21 h 2 2 retired plain\nt 22 h 2 2 retired plain\nt 23 h 2 11 issued read 2\nt 24 g 0 q 0 granted erase 2 from child 0 to all\nt 25 g 0 q 3 busy item 0 2 uperase 0\nt 26 g 0 q 2 busy item 0 2 uperase 0\nt 27 g 0 q 2 busy item 0 2 uperase 0\nt 28 g 0 d granted exclusive 2 from parent to child 0\nt 29 h 1 8 retired load 00010030 3fb4fbc8\nt 30 g 0 q 2 granted read 2 from child 2 to child 0\nt 31 g 0 q 3 granted read 2 from child 3 to joined\nt 32 h 1 13 issued read 0\nt 33 g 0 q 1 busy queue leafreplies 0\nt 34 g 0 q 1 busy queue leafreplies 0\nt 35 g 0 q 1 busy queue leafreplies 0\nt 36 g 0 q 1 busy queue leafreplies 0\nt 37 g 0 q 1 busy queue leafreplies 0\nt 38 g 0 q 1 busy queue leafreplies 0\nt 39 g 0 q 1 busy queue leafreplies 0\nddm 1\nturns 40 retired 10 granted 13 busy 11\nhart 0 running pc 00010008 done 2\nregs 0 00000000 00200000 00000000 00000000 00010000 00000000 00000000 00000000 00010024 00000000 00000004 00000000 00000000 00000000 00000000 00000000 00000000 00000000 00000000 00000000 00000000 00000000 00000000 00000000 00000000 00000000 00000000 00000000 00000000 00000000 00000000\nout 0 -\nhart 1 running pc 00010010 done 4\nregs 1 00000000 00200000 00000000 00000000 00010000 00000000 7ba7af69 00000000 00010024 00000001 00000004 3fb4fbc8 00000000 00000000 00000000 00000000 00000000 00000000 00000000 00000000 00000000 00000000 00000000 00000000 00000000 00000000 00000000 00000000 00000000 00000000 00000000\nout 1 -\nhart 2 running pc 00010008 done 2\nregs 2 00000000 00200000 00000000 00000000 00010000 00000000 00000000 00000000 00010024 00000002 00000004 00000000 00000000 00000000 00000000 00000000 00000000 00000000 00000000 00000000 00000000 00000000 00000000 00000000 00000000 00000000 00000000 00000000 00000000 00000000 00000000\nout 2 -\nhart 3 running pc 00010008 done 2\nregs 3 00000000 00200000 00000000 00000000 00010000 00000000 00000000 00000000 00010024 00000003 00000004 00000000 00000000 00000000 00000000 00000000 00000000 00000000 00000000 00000000 00000000 00000000 00000000 00000000 00000000 00000000 00000000 00000000 00000000 00000000 00000000\nout 3 -\nbus 0 read 5 data 2 erase 2 exclusive 2 out 0 inject 2\nitem 0 00010000 000102b7 02428493 00e4a3af 0302a603 leaf 0 buffer 0 EB--\nitem 1 00010010 00e2a223 ff1ff06f 00000000 00000000 leaf 2 buffer 0 --E-\nitem 2 00010020 847ea5a5 7ba7af69 e977dd95 fc8af370 leaf 0 way 0 S-BB\nitem 3 00010030 3fb4fbc8 f3b6a578 bf9957f4 8ae32575 leaf 1 buffer 0 -E--\nop 1 0.1.0 00010000 plain\nop 1 0.1.1 00010004 plain\nop 1 5.1.2 00010008 amo 00010024 7ba7af69 7ba7af69\nop 3 5.3.0 00010000 plain\nop 3 5.3.1 00010004 plain\nop 0 7.0.0 00010000 plain\nop 0 7.0.1 00010004 plain\nop 2 9.2.0 00010000 plain\nop 2 9.2.1 00010004 plain\nop 1 11.1.3 0001000c load 00010030 3fb4fbc8\nend\n";
}

pub printed : IsPrinted stored
unfolding examples_compute
printed = refl
