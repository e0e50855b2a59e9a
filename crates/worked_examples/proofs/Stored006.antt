-- A stored trace: the tree (LL), 40 turns.
use Rattle.std.specs.Prelude.{[], ◌∷◌, codes, refl}
use Rattle.worked_examples.specs.StoredTraces.{StoredTrace, IsPrinted, tree_of_sizes, writable_code}
use Rattle.worked_examples.specs.Computing.{examples_compute}

abbrev stored : StoredTrace
stored = record {
  tree = tree_of_sizes ((2 ∷ []) ∷ []) 1 (record { sets = 2; buffer = 2; parking = 1; down = 1; requests = 1; replies = 37 });
  image = writable_code (0x000102b7 ∷ 0x00451313 ∷ 0x00530333 ∷ 0x01851713 ∷ 0x01032383 ∷ 0x00032603 ∷ 0x01432603 ∷ 0x02032603 ∷ 0x0202a603 ∷ 0x0302a603 ∷ 0x02032603 ∷ 0x0242a383 ∷ 0x01832603 ∷ 0x02032603 ∷ 0x00170713 ∷ 0xfd5ff06f ∷ []);
  schedule = codes "h 1 0\nh 1 0\nh 1 0\nh 1 0\nh 1 0\nh 0 9\nh 0 9\nh 0 9\nh 0 9\nh 0 9\ng 0 q 0\ng 0 r 1\nh 0 3\nh 0 11\nh 0 8\nh 0 3\ng 0 q 0\ng 0 r 1\nh 0 6\nh 0 15\nh 0 2\nh 0 14\nh 0 9\nh 0 7\nh 1 3\nh 0 11\nh 0 11\nh 0 0\nh 0 0\ng 0 l 0 4\nh 0 9\nh 0 13\nh 0 3\nh 0 10\nh 0 5\nh 0 15\nh 0 4\nh 0 1\nh 1 15\nh 0 15\nend\n";
  printed = codes "t 0 h 1 0 retired plain\nt 1 h 1 0 retired plain\nt 2 h 1 0 retired plain\nt 3 h 1 0 retired plain\nt 4 h 1 0 retired load 00010020 0202a603\nt 5 h 0 9 retired plain\nt 6 h 0 9 retired plain\nt 7 h 0 9 retired plain\nt 8 h 0 9 retired plain\nt 9 h 0 9 issued read 1\nt 10 g 0 q 0 granted read 1 from child 0 to child 1\nt 11 g 0 r 1 granted data 1 from child 1 to child 0\nt 12 h 0 3 retired load 00010010 01032383\nt 13 h 0 11 retired load 00010000 000102b7\nt 14 h 0 8 retired load 00010014 00032603\nt 15 h 0 3 issued read 2\nt 16 g 0 q 0 granted read 2 from child 0 to child 1\nt 17 g 0 r 1 granted data 2 from child 1 to child 0\nt 18 h 0 6 retired load 00010020 0202a603\nt 19 h 0 15 retired load 00010020 0202a603\nt 20 h 0 2 retired load 00010030 01832603\nt 21 h 0 14 retired load 00010020 0202a603\nt 22 h 0 9 retired load 00010024 0302a603\nt 23 h 0 7 retired load 00010018 01432603\nt 24 h 1 3 retired load 00010010 01032383\nt 25 h 0 11 retired load 00010020 0202a603\nt 26 h 0 11 retired plain\nt 27 h 0 0 retired plain\nt 28 h 0 0 retired load 00010010 01032383\nt 29 g 0 l 0 4 busy room 3\nt 30 h 0 9 retired load 00010000 000102b7\nt 31 h 0 13 retired load 00010014 00032603\nt 32 h 0 3 retired load 00010020 0202a603\nt 33 h 0 10 retired load 00010020 0202a603\nt 34 h 0 5 retired load 00010030 01832603\nt 35 h 0 15 retired load 00010020 0202a603\nt 36 h 0 4 retired load 00010024 0302a603\nt 37 h 0 1 retired load 00010018 01432603\nt 38 h 1 15 retired load 00010024 0302a603\nt 39 h 0 15 retired load 00010020 0202a603\nddm 1\nturns 40 retired 33 granted 4 busy 1\nhart 0 running pc 00010038 done 26\nregs 0 00000000 00200000 00000000 00000000 00010000 00010000 0302a603 00000000 00000000 00000000 00000002 0202a603 00000000 00000001 00000000 00000000 00000000 00000000 00000000 00000000 00000000 00000000 00000000 00000000 00000000 00000000 00000000 00000000 00000000 00000000 00000000\nout 0 -\nhart 1 running pc 0001001c done 7\nregs 1 00000000 00200000 00000000 00000000 00010000 00010010 0202a603 00000000 00000000 00000001 00000002 0302a603 00000000 01000000 00000000 00000000 00000000 00000000 00000000 00000000 00000000 00000000 00000000 00000000 00000000 00000000 00000000 00000000 00000000 00000000 00000000\nout 1 -\nbus 0 read 2 data 2 erase 0 exclusive 0 out 0 inject 0\nitem 0 00010000 000102b7 00451313 00530333 01851713 leaf 0 buffer 1 E-\nitem 1 00010010 01032383 00032603 01432603 02032603 leaf 0 way 0 SS\nitem 2 00010020 0202a603 0302a603 02032603 0242a383 leaf 0 way 0 SS\nitem 3 00010030 01832603 02032603 00170713 fd5ff06f leaf 0 buffer 0 E-\nop 0 0.0.0 00010000 plain\nop 0 0.0.1 00010004 plain\nop 0 0.0.2 00010008 plain\nop 0 0.0.3 0001000c plain\nop 1 0.1.0 00010000 plain\nop 1 0.1.1 00010004 plain\nop 1 0.1.2 00010008 plain\nop 1 0.1.3 0001000c plain\nop 1 0.1.4 00010010 load 00010020 0202a603\nop 0 2.0.4 00010010 load 00010010 01032383\nop 0 2.0.5 00010014 load 00010000 000102b7\nop 0 2.0.6 00010018 load 00010014 00032603\nop 0 4.0.7 0001001c load 00010020 0202a603\nop 0 4.0.8 00010020 load 00010020 0202a603\nop 0 4.0.9 00010024 load 00010030 01832603\nop 0 4.0.10 00010028 load 00010020 0202a603\nop 0 4.0.11 0001002c load 00010024 0302a603\nop 0 4.0.12 00010030 load 00010018 01432603\nop 0 4.0.13 00010034 load 00010020 0202a603\nop 0 4.0.14 00010038 plain\nop 0 4.0.15 0001003c plain\nop 0 4.0.16 00010010 load 00010010 01032383\nop 0 4.0.17 00010014 load 00010000 000102b7\nop 0 4.0.18 00010018 load 00010014 00032603\nop 0 4.0.19 0001001c load 00010020 0202a603\nop 0 4.0.20 00010020 load 00010020 0202a603\nop 0 4.0.21 00010024 load 00010030 01832603\nop 0 4.0.22 00010028 load 00010020 0202a603\nop 0 4.0.23 0001002c load 00010024 0302a603\nop 0 4.0.24 00010030 load 00010018 01432603\nop 0 4.0.25 00010034 load 00010020 0202a603\nop 1 4.1.5 00010014 load 00010010 01032383\nop 1 4.1.6 00010018 load 00010024 0302a603\nend\n";
}

pub printed : IsPrinted stored
unfolding examples_compute
printed = refl
