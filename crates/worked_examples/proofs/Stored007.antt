-- A stored trace: the tree ((LL)(LL)), 40 turns.
use Rattle.std.specs.Prelude.{[], ◌∷◌, codes, refl}
use Rattle.worked_examples.specs.StoredTraces.{StoredTrace, IsPrinted, tree_of_sizes, code_and_words}
use Rattle.worked_examples.specs.Computing.{examples_compute}

abbrev stored : StoredTrace
stored = record {
  tree = tree_of_sizes ((2 ∷ []) ∷ (2 ∷ 2 ∷ []) ∷ []) 4 (record { sets = 1; buffer = 2; parking = 1; down = 1; requests = 1; replies = 1 });
  image = code_and_words (0x000102b7 ∷ 0x00170713 ∷ 0x00170713 ∷ 0xff9ff06f ∷ []) 0x10010 (0x5ffabfe6 ∷ 0x706a0609 ∷ 0x5f2eb663 ∷ 0xfbd09139 ∷ 0x8f22d66a ∷ 0x898fa6e4 ∷ 0x497197e3 ∷ 0xa6e3a5b7 ∷ []);
  schedule = codes "h 1 2\nh 1 7\nh 1 7\nh 1 7\nh 0 9\nh 0 9\nh 1 5\nh 1 5\nh 1 5\nh 3 5\nh 3 5\nh 3 5\nh 1 6\nh 1 6\nh 3 1\nh 3 1\nh 3 1\nh 3 1\nh 3 1\nh 3 1\nh 0 2\nh 0 2\nh 0 2\nh 0 2\nh 0 2\nh 0 0\nh 0 0\nh 0 0\nh 0 0\nh 0 0\nh 0 0\nh 0 1\nh 0 1\nh 0 12\nh 0 12\nh 0 4\nh 0 4\nh 0 4\nh 0 4\nh 0 4\nend\n";
  printed = codes "t 0 h 1 2 retired plain\nt 1 h 1 7 retired plain\nt 2 h 1 7 retired plain\nt 3 h 1 7 retired plain\nt 4 h 0 9 retired plain\nt 5 h 0 9 retired plain\nt 6 h 1 5 retired plain\nt 7 h 1 5 retired plain\nt 8 h 1 5 retired plain\nt 9 h 3 5 retired plain\nt 10 h 3 5 retired plain\nt 11 h 3 5 retired plain\nt 12 h 1 6 retired plain\nt 13 h 1 6 retired plain\nt 14 h 3 1 retired plain\nt 15 h 3 1 retired plain\nt 16 h 3 1 retired plain\nt 17 h 3 1 retired plain\nt 18 h 3 1 retired plain\nt 19 h 3 1 retired plain\nt 20 h 0 2 retired plain\nt 21 h 0 2 retired plain\nt 22 h 0 2 retired plain\nt 23 h 0 2 retired plain\nt 24 h 0 2 retired plain\nt 25 h 0 0 retired plain\nt 26 h 0 0 retired plain\nt 27 h 0 0 retired plain\nt 28 h 0 0 retired plain\nt 29 h 0 0 retired plain\nt 30 h 0 0 retired plain\nt 31 h 0 1 retired plain\nt 32 h 0 1 retired plain\nt 33 h 0 12 retired plain\nt 34 h 0 12 retired plain\nt 35 h 0 4 retired plain\nt 36 h 0 4 retired plain\nt 37 h 0 4 retired plain\nt 38 h 0 4 retired plain\nt 39 h 0 4 retired plain\nddm 1\nturns 40 retired 40 granted 0 busy 0\nhart 0 running pc 00010004 done 22\nregs 0 00000000 00200000 00000000 00000000 00010000 00000000 00000000 00000000 00000000 00000000 00000004 00000000 00000000 0000000e 00000000 00000000 00000000 00000000 00000000 00000000 00000000 00000000 00000000 00000000 00000000 00000000 00000000 00000000 00000000 00000000 00000000\nout 0 -\nhart 1 running pc 0001000c done 9\nregs 1 00000000 00200000 00000000 00000000 00010000 00000000 00000000 00000000 00000000 00000001 00000004 00000000 00000000 00000006 00000000 00000000 00000000 00000000 00000000 00000000 00000000 00000000 00000000 00000000 00000000 00000000 00000000 00000000 00000000 00000000 00000000\nout 1 -\nhart 2 running pc 00010000 done 0\nregs 2 00000000 00200000 00000000 00000000 00000000 00000000 00000000 00000000 00000000 00000002 00000004 00000000 00000000 00000000 00000000 00000000 00000000 00000000 00000000 00000000 00000000 00000000 00000000 00000000 00000000 00000000 00000000 00000000 00000000 00000000 00000000\nout 2 -\nhart 3 running pc 0001000c done 9\nregs 3 00000000 00200000 00000000 00000000 00010000 00000000 00000000 00000000 00000000 00000003 00000004 00000000 00000000 00000006 00000000 00000000 00000000 00000000 00000000 00000000 00000000 00000000 00000000 00000000 00000000 00000000 00000000 00000000 00000000 00000000 00000000\nout 3 -\nbus 0 read 0 data 0 erase 0 exclusive 0 out 0 inject 0\nbus 1 read 0 data 0 erase 0 exclusive 0 out 0 inject 0\nbus 2 read 0 data 0 erase 0 exclusive 0 out 0 inject 0\nitem 0 00010000 000102b7 00170713 00170713 ff9ff06f leaf 0 way 0 E---\nitem 1 00010010 5ffabfe6 706a0609 5f2eb663 fbd09139 leaf 1 way 0 -E--\nitem 2 00010020 8f22d66a 898fa6e4 497197e3 a6e3a5b7 leaf 2 way 0 --E-\nop 0 0.0.0.0.0 00010000 plain\nop 0 0.0.0.0.1 00010004 plain\nop 0 0.0.0.0.2 00010008 plain\nop 0 0.0.0.0.3 0001000c plain\nop 0 0.0.0.0.4 00010004 plain\nop 0 0.0.0.0.5 00010008 plain\nop 0 0.0.0.0.6 0001000c plain\nop 0 0.0.0.0.7 00010004 plain\nop 0 0.0.0.0.8 00010008 plain\nop 0 0.0.0.0.9 0001000c plain\nop 0 0.0.0.0.10 00010004 plain\nop 0 0.0.0.0.11 00010008 plain\nop 0 0.0.0.0.12 0001000c plain\nop 0 0.0.0.0.13 00010004 plain\nop 0 0.0.0.0.14 00010008 plain\nop 0 0.0.0.0.15 0001000c plain\nop 0 0.0.0.0.16 00010004 plain\nop 0 0.0.0.0.17 00010008 plain\nop 0 0.0.0.0.18 0001000c plain\nop 0 0.0.0.0.19 00010004 plain\nop 0 0.0.0.0.20 00010008 plain\nop 0 0.0.0.0.21 0001000c plain\nop 1 0.0.0.1.0 00010000 plain\nop 1 0.0.0.1.1 00010004 plain\nop 1 0.0.0.1.2 00010008 plain\nop 1 0.0.0.1.3 0001000c plain\nop 1 0.0.0.1.4 00010004 plain\nop 1 0.0.0.1.5 00010008 plain\nop 1 0.0.0.1.6 0001000c plain\nop 1 0.0.0.1.7 00010004 plain\nop 1 0.0.0.1.8 00010008 plain\nop 3 0.1.0.1.0 00010000 plain\nop 3 0.1.0.1.1 00010004 plain\nop 3 0.1.0.1.2 00010008 plain\nop 3 0.1.0.1.3 0001000c plain\nop 3 0.1.0.1.4 00010004 plain\nop 3 0.1.0.1.5 00010008 plain\nop 3 0.1.0.1.6 0001000c plain\nop 3 0.1.0.1.7 00010004 plain\nop 3 0.1.0.1.8 00010008 plain\nend\n";
}

pub printed : IsPrinted stored
unfolding examples_compute
printed = refl
