-- A stored trace: the tree ((L)(L)(L)), 70 turns.
use Rattle.std.specs.Prelude.{[], ◌∷◌, codes, refl}
use Rattle.worked_examples.specs.StoredTraces.{StoredTrace, IsPrinted, tree_of_sizes, writable_code}
use Rattle.worked_examples.specs.Computing.{examples_compute}

abbrev stored : StoredTrace
stored = record {
  tree = tree_of_sizes ((3 ∷ []) ∷ (1 ∷ 1 ∷ 1 ∷ []) ∷ []) 2 (record { sets = 3; buffer = 1; parking = 4; down = 1; requests = 1; replies = 1 });
  image = writable_code (0x000102b7 ∷ 0x00451313 ∷ 0x00530333 ∷ 0x01851713 ∷ 0x05032383 ∷ 0x05032383 ∷ 0x0702a383 ∷ 0x05032383 ∷ 0x05032603 ∷ 0x05032383 ∷ 0x05032383 ∷ 0x0782a603 ∷ 0x0742a383 ∷ 0x0702a383 ∷ 0x05032383 ∷ 0x0782a383 ∷ 0x05032603 ∷ 0x05032603 ∷ 0x05032603 ∷ 0x05030383 ∷ 0x05032603 ∷ 0x0702a383 ∷ 0x05032603 ∷ 0x0702a603 ∷ 0x05032603 ∷ 0x05032383 ∷ 0x05032603 ∷ 0x0742a603 ∷ 0x05032383 ∷ 0x0702a383 ∷ 0x05032383 ∷ 0xf95ff06f ∷ []);
  schedule = codes "h 2 15\nh 0 2\nh 0 9\nh 0 9\nh 0 9\nh 0 9\ng 1 q 0\nh 1 13\nh 1 13\nh 1 13\nh 1 13\nh 1 13\nh 2 14\ng 0 q 0\ng 3 d\ng 3 r 0\nh 1 8\nh 1 10\ng 2 q 0\ng 0 q 1\ng 3 d\ng 3 r 0\ng 0 r 2\ng 1 d\nh 0 7\ng 3 r 0\nh 0 8\ng 0 r 2\ng 2 d\nh 0 11\ng 1 q 0\ng 2 l 0 11\ng 0 l 1 13\ng 3 d\nh 1 10\nh 1 4\ng 0 q 0\nh 1 6\nh 1 12\nh 1 10\nh 1 0\nh 1 0\nh 1 15\ng 2 d\ng 2 r 0\nh 1 7\nh 1 6\nh 1 7\nh 1 10\ng 0 r 1\nh 1 15\nh 1 9\nh 1 2\nh 1 13\nh 1 13\nh 1 9\nh 1 4\nh 1 10\nh 1 0\nh 1 5\nh 1 10\nh 1 3\nh 1 10\nh 1 6\nh 1 6\nh 1 8\nh 1 10\nh 1 12\nh 1 15\nh 1 2\nend\n";
  printed = codes "t 0 h 2 15 retired plain\nt 1 h 0 2 retired plain\nt 2 h 0 9 retired plain\nt 3 h 0 9 retired plain\nt 4 h 0 9 retired plain\nt 5 h 0 9 issued read 5\nt 6 g 1 q 0 granted read 5 from child 0 to parent\nt 7 h 1 13 retired plain\nt 8 h 1 13 retired plain\nt 9 h 1 13 retired plain\nt 10 h 1 13 retired plain\nt 11 h 1 13 retired load 00010060 05032603\nt 12 h 2 14 retired plain\nt 13 g 0 q 0 granted read 5 from child 0 to child 2\nt 14 g 3 d granted read 5 from parent to child 0\nt 15 g 3 r 0 granted data 5 from child 0 to parent\nt 16 h 1 8 retired load 00010060 05032603\nt 17 h 1 10 issued read 7\nt 18 g 2 q 0 granted read 7 from child 0 to parent\nt 19 g 0 q 1 granted read 7 from child 1 to child 2\nt 20 g 3 d granted read 7 from parent to child 0\nt 21 g 3 r 0 busy queue replies 3\nt 22 g 0 r 2 granted data 5 from child 2 to child 0\nt 23 g 1 d granted data 5 from parent to child 0\nt 24 h 0 7 retired load 00010050 05032603\nt 25 g 3 r 0 granted data 7 from child 0 to parent\nt 26 h 0 8 retired load 00010050 05032603\nt 27 g 0 r 2 granted data 7 from child 2 to child 1\nt 28 g 2 d granted data 7 from parent to child 0\nt 29 h 0 11 issued read 7\nt 30 g 1 q 0 granted read 7 from child 0 to parent\nt 31 g 2 l 0 11 granted inject 1 from child 0 to parking\nt 32 g 0 l 1 13 granted inject 1 from child 1 to child 2\nt 33 g 3 d granted inject 1 from parent to child 0\nt 34 h 1 10 retired load 00010070 05032383\nt 35 h 1 4 retired load 00010060 05032603\nt 36 g 0 q 0 granted read 7 from child 0 to child 1\nt 37 h 1 6 retired load 00010060 05032603\nt 38 h 1 12 retired load 00010060 05032603\nt 39 h 1 10 retired load 00010060 05032603\nt 40 h 1 0 retired load 00010078 05032383\nt 41 h 1 0 retired load 00010074 0702a383\nt 42 h 1 15 retired load 00010070 05032383\nt 43 g 2 d granted read 7 from parent to child 0\nt 44 g 2 r 0 granted data 7 from child 0 to parent\nt 45 h 1 7 retired load 00010060 05032603\nt 46 h 1 6 retired load 00010078 05032383\nt 47 h 1 7 retired load 00010060 05032603\nt 48 h 1 10 retired load 00010060 05032603\nt 49 g 0 r 1 granted data 7 from child 1 to child 0\nt 50 h 1 15 retired load 00010060 05032603\nt 51 h 1 9 retired load 00010060 05032603\nt 52 h 1 2 retired load 00010060 05032603\nt 53 h 1 13 retired load 00010070 05032383\nt 54 h 1 13 retired load 00010060 05032603\nt 55 h 1 9 retired load 00010070 05032383\nt 56 h 1 4 retired load 00010060 05032603\nt 57 h 1 10 retired load 00010060 05032603\nt 58 h 1 0 retired load 00010060 05032603\nt 59 h 1 5 retired load 00010074 0702a383\nt 60 h 1 10 retired load 00010060 05032603\nt 61 h 1 3 retired load 00010070 05032383\nt 62 h 1 10 retired load 00010060 05032603\nt 63 h 1 6 retired plain\nt 64 h 1 6 retired load 00010060 05032603\nt 65 h 1 8 retired load 00010060 05032603\nt 66 h 1 10 retired load 00010070 05032383\nt 67 h 1 12 retired load 00010060 05032603\nt 68 h 1 15 retired load 00010060 05032603\nt 69 h 1 2 retired load 00010060 05032603\nddm 1\nturns 70 retired 46 granted 20 busy 1\nhart 0 running pc 00010018 done 6\nregs 0 00000000 00200000 00000000 00000000 00010000 00010000 05032603 00000000 00000000 00000000 00000003 00000000 00000000 00000000 00000000 00000000 00000000 00000000 00000000 00000000 00000000 00000000 00000000 00000000 00000000 00000000 00000000 00000000 00000000 00000000 00000000\nout 0 -\nhart 1 running pc 00010028 done 38\nregs 1 00000000 00200000 00000000 00000000 00010000 00010010 05032603 00000000 00000000 00000001 00000003 05032603 00000000 01000000 00000000 00000000 00000000 00000000 00000000 00000000 00000000 00000000 00000000 00000000 00000000 00000000 00000000 00000000 00000000 00000000 00000000\nout 1 -\nhart 2 running pc 00010008 done 2\nregs 2 00000000 00200000 00000000 00000000 00010000 00000020 00000000 00000000 00000000 00000002 00000003 00000000 00000000 00000000 00000000 00000000 00000000 00000000 00000000 00000000 00000000 00000000 00000000 00000000 00000000 00000000 00000000 00000000 00000000 00000000 00000000\nout 2 -\nbus 0 read 3 data 3 erase 0 exclusive 0 out 0 inject 1\nbus 1 read 2 data 1 erase 0 exclusive 0 out 0 inject 0\nbus 2 read 2 data 2 erase 0 exclusive 0 out 0 inject 1\nbus 3 read 2 data 2 erase 0 exclusive 0 out 0 inject 1\nitem 0 00010000 000102b7 00451313 00530333 01851713 leaf 0 way 0 E--\nitem 1 00010010 05032383 05032383 0702a383 05032383 leaf 2 way 1 --E\nitem 2 00010020 05032603 05032383 05032383 0782a603 leaf 2 way 0 --E\nitem 3 00010030 0742a383 0702a383 05032383 0782a383 leaf 0 way 1 E--\nitem 4 00010040 05032603 05032603 05032603 05030383 leaf 1 way 1 -E-\nitem 5 00010050 05032603 0702a383 05032603 0702a603 leaf 0 way 0 S-S\nitem 6 00010060 05032603 05032383 05032603 0742a603 leaf 1 way 0 -E-\nitem 7 00010070 05032383 0702a383 05032383 f95ff06f bus 1 down 0 RSS\nop 0 0.0.0.0.0 00010000 plain\nop 0 0.0.0.0.1 00010004 plain\nop 0 0.0.0.0.2 00010008 plain\nop 0 0.0.0.0.3 0001000c plain\nop 1 0.1.0.0.0 00010000 plain\nop 1 0.1.0.0.1 00010004 plain\nop 1 0.1.0.0.2 00010008 plain\nop 1 0.1.0.0.3 0001000c plain\nop 1 0.1.0.0.4 00010010 load 00010060 05032603\nop 1 0.1.0.0.5 00010014 load 00010060 05032603\nop 2 0.2.0.0.0 00010000 plain\nop 2 0.2.0.0.1 00010004 plain\nop 0 3.0.2.0.4 00010010 load 00010050 05032603\nop 0 3.0.2.0.5 00010014 load 00010050 05032603\nop 1 4.1.3.0.6 00010018 load 00010070 05032383\nop 1 4.1.3.0.7 0001001c load 00010060 05032603\nop 1 4.1.3.0.8 00010020 load 00010060 05032603\nop 1 4.1.3.0.9 00010024 load 00010060 05032603\nop 1 4.1.3.0.10 00010028 load 00010060 05032603\nop 1 4.1.3.0.11 0001002c load 00010078 05032383\nop 1 4.1.3.0.12 00010030 load 00010074 0702a383\nop 1 4.1.3.0.13 00010034 load 00010070 05032383\nop 1 6.1.5.0.14 00010038 load 00010060 05032603\nop 1 6.1.5.0.15 0001003c load 00010078 05032383\nop 1 6.1.5.0.16 00010040 load 00010060 05032603\nop 1 6.1.5.0.17 00010044 load 00010060 05032603\nop 1 6.1.5.0.18 00010048 load 00010060 05032603\nop 1 6.1.5.0.19 0001004c load 00010060 05032603\nop 1 6.1.5.0.20 00010050 load 00010060 05032603\nop 1 6.1.5.0.21 00010054 load 00010070 05032383\nop 1 6.1.5.0.22 00010058 load 00010060 05032603\nop 1 6.1.5.0.23 0001005c load 00010070 05032383\nop 1 6.1.5.0.24 00010060 load 00010060 05032603\nop 1 6.1.5.0.25 00010064 load 00010060 05032603\nop 1 6.1.5.0.26 00010068 load 00010060 05032603\nop 1 6.1.5.0.27 0001006c load 00010074 0702a383\nop 1 6.1.5.0.28 00010070 load 00010060 05032603\nop 1 6.1.5.0.29 00010074 load 00010070 05032383\nop 1 6.1.5.0.30 00010078 load 00010060 05032603\nop 1 6.1.5.0.31 0001007c plain\nop 1 6.1.5.0.32 00010010 load 00010060 05032603\nop 1 6.1.5.0.33 00010014 load 00010060 05032603\nop 1 6.1.5.0.34 00010018 load 00010070 05032383\nop 1 6.1.5.0.35 0001001c load 00010060 05032603\nop 1 6.1.5.0.36 00010020 load 00010060 05032603\nop 1 6.1.5.0.37 00010024 load 00010060 05032603\nend\n";
}

pub printed : IsPrinted stored
unfolding examples_compute
printed = refl
