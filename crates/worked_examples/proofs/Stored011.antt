-- A stored trace: the tree ((((L))((L)))), 40 turns.
use Rattle.std.specs.Prelude.{[], ◌∷◌, codes, refl}
use Rattle.worked_examples.specs.StoredTraces.{StoredTrace, IsPrinted, tree_of_sizes, code_and_words}
use Rattle.worked_examples.specs.Computing.{examples_compute}

abbrev stored : StoredTrace
stored = record {
  tree = tree_of_sizes ((1 ∷ []) ∷ (2 ∷ []) ∷ (1 ∷ 1 ∷ []) ∷ (1 ∷ 1 ∷ []) ∷ []) 1 (record { sets = 3; buffer = 1; parking = 2; down = 48; requests = 48; replies = 48 });
  image = code_and_words (0x000102b7 ∷ 0x05828383 ∷ 0x0582a603 ∷ 0xff9ff06f ∷ []) 0x10010 (0x0296fd3b ∷ 0xcb6f5afc ∷ 0xd26b7dc5 ∷ 0xb70d3741 ∷ 0x25363419 ∷ 0xc9fc1dd8 ∷ 0xf889ef3e ∷ 0xa7b3468a ∷ 0x50961113 ∷ 0xf5e8625e ∷ 0x5664ba7c ∷ 0x2b9661c6 ∷ 0xb16d91df ∷ 0x33a74bc8 ∷ 0x168e6c65 ∷ 0x41c25778 ∷ 0xcfeec7a3 ∷ 0x282f26c5 ∷ 0x922da65c ∷ 0xc6562c12 ∷ []);
  schedule = codes "h 0 10\nh 0 12\nh 1 6\nh 1 6\ng 4 l 0 14\ng 4 q 0\ng 2 l 0 1\nh 1 2\ng 1 l 0 0\nh 1 4\nh 1 1\nh 1 8\nh 1 4\nh 1 4\nh 1 15\nh 1 3\nh 1 3\nh 1 12\nh 1 11\ng 2 q 0\ng 1 q 0\nh 1 14\nh 1 13\nh 1 1\nh 1 13\nh 1 1\nh 1 5\nh 1 3\nh 1 7\nh 1 5\nh 1 5\nh 1 9\nh 1 8\nh 1 8\nh 1 10\ng 3 d\ng 3 d\nh 1 7\nh 1 7\nh 1 13\nend\n";
  printed = codes "t 0 h 0 10 retired plain\nt 1 h 0 12 issued read 5\nt 2 h 1 6 retired plain\nt 3 h 1 6 retired load 00010058 922da65c\nt 4 g 4 l 0 14 granted inject 2 from child 0 to parking\nt 5 g 4 q 0 granted read 5 from child 0 to parent\nt 6 g 2 l 0 1 granted inject 2 from child 0 to parking\nt 7 h 1 2 retired load 00010058 922da65c\nt 8 g 1 l 0 0 granted inject 2 from child 0 to child 1\nt 9 h 1 4 retired plain\nt 10 h 1 1 retired load 00010058 922da65c\nt 11 h 1 8 retired load 00010058 922da65c\nt 12 h 1 4 retired plain\nt 13 h 1 4 retired load 00010058 922da65c\nt 14 h 1 15 retired load 00010058 922da65c\nt 15 h 1 3 retired plain\nt 16 h 1 3 retired load 00010058 922da65c\nt 17 h 1 12 retired load 00010058 922da65c\nt 18 h 1 11 retired plain\nt 19 g 2 q 0 granted read 5 from child 0 to parent\nt 20 g 1 q 0 granted read 5 from child 0 to child 1\nt 21 h 1 14 retired load 00010058 922da65c\nt 22 h 1 13 retired load 00010058 922da65c\nt 23 h 1 1 retired plain\nt 24 h 1 13 retired load 00010058 922da65c\nt 25 h 1 1 retired load 00010058 922da65c\nt 26 h 1 5 retired plain\nt 27 h 1 3 retired load 00010058 922da65c\nt 28 h 1 7 retired load 00010058 922da65c\nt 29 h 1 5 retired plain\nt 30 h 1 5 retired load 00010058 922da65c\nt 31 h 1 9 retired load 00010058 922da65c\nt 32 h 1 8 retired plain\nt 33 h 1 8 retired load 00010058 922da65c\nt 34 h 1 10 retired load 00010058 922da65c\nt 35 g 3 d granted inject 2 from parent to child 0\nt 36 g 3 d granted read 5 from parent to child 0\nt 37 h 1 7 retired plain\nt 38 h 1 7 retired load 00010058 922da65c\nt 39 h 1 13 retired load 00010058 922da65c\nddm 1\nturns 40 retired 31 granted 8 busy 0\nhart 0 running pc 00010004 done 1\nregs 0 00000000 00200000 00000000 00000000 00010000 00000000 00000000 00000000 00000000 00000000 00000002 00000000 00000000 00000000 00000000 00000000 00000000 00000000 00000000 00000000 00000000 00000000 00000000 00000000 00000000 00000000 00000000 00000000 00000000 00000000 00000000\nout 0 -\nhart 1 running pc 0001000c done 30\nregs 1 00000000 00200000 00000000 00000000 00010000 00000000 0000005c 00000000 00000000 00000001 00000002 922da65c 00000000 00000000 00000000 00000000 00000000 00000000 00000000 00000000 00000000 00000000 00000000 00000000 00000000 00000000 00000000 00000000 00000000 00000000 00000000\nout 1 -\nbus 0 read 0 data 0 erase 0 exclusive 0 out 0 inject 0\nbus 1 read 1 data 0 erase 0 exclusive 0 out 0 inject 1\nbus 2 read 1 data 0 erase 0 exclusive 0 out 0 inject 1\nbus 3 read 1 data 0 erase 0 exclusive 0 out 0 inject 1\nbus 4 read 1 data 0 erase 0 exclusive 0 out 0 inject 1\nbus 5 read 0 data 0 erase 0 exclusive 0 out 0 inject 0\nitem 0 00010000 000102b7 05828383 0582a603 ff9ff06f leaf 0 way 0 E-\nitem 1 00010010 0296fd3b cb6f5afc d26b7dc5 b70d3741 leaf 1 way 0 -E\nitem 2 00010020 25363419 c9fc1dd8 f889ef3e a7b3468a bus 5 down 0 --\nitem 3 00010030 50961113 f5e8625e 5664ba7c 2b9661c6 leaf 1 way 0 -E\nitem 4 00010040 b16d91df 33a74bc8 168e6c65 41c25778 leaf 0 way 0 E-\nitem 5 00010050 cfeec7a3 282f26c5 922da65c c6562c12 leaf 1 way 0 RE\nop 0 0.0.0.0.0.0.0.0.0 00010000 plain\nop 1 0.0.0.1.0.0.0.0.0 00010000 plain\nop 1 0.0.0.1.0.0.0.0.1 00010004 load 00010058 922da65c\nop 1 0.0.0.1.0.0.0.0.2 00010008 load 00010058 922da65c\nop 1 0.0.0.1.0.0.0.0.3 0001000c plain\nop 1 0.0.0.1.0.0.0.0.4 00010004 load 00010058 922da65c\nop 1 0.0.0.1.0.0.0.0.5 00010008 load 00010058 922da65c\nop 1 0.0.0.1.0.0.0.0.6 0001000c plain\nop 1 0.0.0.1.0.0.0.0.7 00010004 load 00010058 922da65c\nop 1 0.0.0.1.0.0.0.0.8 00010008 load 00010058 922da65c\nop 1 0.0.0.1.0.0.0.0.9 0001000c plain\nop 1 0.0.0.1.0.0.0.0.10 00010004 load 00010058 922da65c\nop 1 0.0.0.1.0.0.0.0.11 00010008 load 00010058 922da65c\nop 1 0.0.0.1.0.0.0.0.12 0001000c plain\nop 1 0.0.0.1.0.0.0.0.13 00010004 load 00010058 922da65c\nop 1 0.0.0.1.0.0.0.0.14 00010008 load 00010058 922da65c\nop 1 0.0.0.1.0.0.0.0.15 0001000c plain\nop 1 0.0.0.1.0.0.0.0.16 00010004 load 00010058 922da65c\nop 1 0.0.0.1.0.0.0.0.17 00010008 load 00010058 922da65c\nop 1 0.0.0.1.0.0.0.0.18 0001000c plain\nop 1 0.0.0.1.0.0.0.0.19 00010004 load 00010058 922da65c\nop 1 0.0.0.1.0.0.0.0.20 00010008 load 00010058 922da65c\nop 1 0.0.0.1.0.0.0.0.21 0001000c plain\nop 1 0.0.0.1.0.0.0.0.22 00010004 load 00010058 922da65c\nop 1 0.0.0.1.0.0.0.0.23 00010008 load 00010058 922da65c\nop 1 0.0.0.1.0.0.0.0.24 0001000c plain\nop 1 0.0.0.1.0.0.0.0.25 00010004 load 00010058 922da65c\nop 1 0.0.0.1.0.0.0.0.26 00010008 load 00010058 922da65c\nop 1 0.0.0.1.0.0.0.0.27 0001000c plain\nop 1 0.0.0.1.0.0.0.0.28 00010004 load 00010058 922da65c\nop 1 0.0.0.1.0.0.0.0.29 00010008 load 00010058 922da65c\nend\n";
}

pub printed : IsPrinted stored
unfolding examples_compute
printed = refl
