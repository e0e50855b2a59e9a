-- A stored trace: the tree ((LLL)(LLL)), 40 turns.
use Rattle.std.specs.Prelude.{[], ◌∷◌, codes, refl}
use Rattle.worked_examples.specs.Programs.{with_wide_items}
use Rattle.worked_examples.specs.StoredTraces.{StoredTrace, IsPrinted, tree_of_sizes, code_and_words}
use Rattle.worked_examples.specs.Computing.{examples_compute}

abbrev stored : StoredTrace
stored = record {
  tree = with_wide_items (tree_of_sizes ((2 ∷ []) ∷ (3 ∷ 3 ∷ []) ∷ []) 1 (record { sets = 2; buffer = 2; parking = 1; down = 1; requests = 4; replies = 53 }));
  image = code_and_words (0x000102b7 ∷ 0x00451313 ∷ 0x00530333 ∷ 0x01851713 ∷ 0x0c42a603 ∷ 0x0c032603 ∷ 0x0c02a383 ∷ 0x0c032383 ∷ 0x0c02a603 ∷ 0x0c02a603 ∷ 0x0c432603 ∷ 0x0c832383 ∷ 0x0c82a603 ∷ 0x0c832383 ∷ 0x0c02a603 ∷ 0xfd5ff06f ∷ []) 0x10040 (0xf72ca650 ∷ 0x1751bdb2 ∷ 0x4e86b22e ∷ 0x8aed0ce1 ∷ 0xa5024f44 ∷ 0xee2be073 ∷ 0xcd0b5e60 ∷ 0x22c5de5d ∷ 0x2b669547 ∷ 0xc6554758 ∷ 0xd1bc2b0d ∷ 0x76daf4af ∷ 0xe039bf95 ∷ 0xfdcbf106 ∷ 0xa1242535 ∷ 0x216d8a92 ∷ 0x886af4de ∷ 0x62b09b20 ∷ 0xcba944c1 ∷ 0xa7689fa6 ∷ 0x5b816f1b ∷ 0x1eb34ae3 ∷ 0x22b44320 ∷ 0xad90da5c ∷ 0x34b5d789 ∷ 0x38c990f2 ∷ 0xab0fcba3 ∷ 0x4fcda577 ∷ 0x36b30332 ∷ 0x71328fef ∷ 0xd87649e2 ∷ 0x3f2de531 ∷ 0x9e5b5bfc ∷ 0x2c5130ee ∷ 0x8dfdbccd ∷ 0x2149fe74 ∷ 0xa43d32b8 ∷ 0x3d50f731 ∷ 0x78ac744f ∷ 0x67955b60 ∷ 0x37228a01 ∷ 0x572ca69a ∷ 0x5065ded8 ∷ 0xd1e4dd7c ∷ 0xe3aacb7e ∷ 0x16b01d08 ∷ 0x7b7a39b9 ∷ 0x22f5b702 ∷ 0x4d8f47ff ∷ 0x27ae4b0e ∷ 0x14e83df2 ∷ 0xe5b93ccb ∷ 0x9739fc52 ∷ 0x2de6b95b ∷ 0x99891800 ∷ 0x98910e2a ∷ 0xbc0dd8ec ∷ 0xbf8620c4 ∷ 0x95262015 ∷ 0xfbcc878e ∷ 0xc0a0e12c ∷ 0x68fefdf5 ∷ 0xe3b67b16 ∷ 0xdbed6aed ∷ 0x6c7d2455 ∷ 0xbc80d3e9 ∷ 0x9cfcb541 ∷ 0xb2ead52e ∷ 0x82e10d53 ∷ 0x7040ea2b ∷ 0xdfd3843a ∷ 0x9bd3a908 ∷ 0x3a081086 ∷ 0xf412c12f ∷ 0x6eceec48 ∷ 0x706855d0 ∷ 0x49df27c9 ∷ 0x8e219b0b ∷ 0x203b0744 ∷ 0x4a5699f9 ∷ []);
  schedule = codes "h 4 14\nh 0 2\nh 0 2\nh 0 2\nh 5 15\nh 4 6\nh 1 13\nh 0 5\nh 0 5\nh 5 11\nh 5 11\nh 5 11\nh 5 11\ng 2 l 2 5\nh 1 15\nh 1 15\nh 1 15\nh 1 15\ng 0 l 1 1\ng 2 q 2\ng 1 q 1\ng 0 q 0\nh 4 0\nh 4 0\nh 4 0\ng 2 d\nh 2 9\nh 2 9\nh 2 9\nh 2 9\nh 2 9\ng 2 r 0\ng 2 d\ng 1 l 1 13\nh 5 11\nh 5 2\ng 2 q 1\ng 2 r 0\ng 2 q 1\ng 0 r 1\nend\n";
  printed = codes "t 0 h 4 14 retired plain\nt 1 h 0 2 retired plain\nt 2 h 0 2 retired plain\nt 3 h 0 2 retired plain\nt 4 h 5 15 retired plain\nt 5 h 4 6 retired plain\nt 6 h 1 13 retired plain\nt 7 h 0 5 retired plain\nt 8 h 0 5 issued read 3\nt 9 h 5 11 retired plain\nt 10 h 5 11 retired plain\nt 11 h 5 11 retired plain\nt 12 h 5 11 issued read 3\nt 13 g 2 l 2 5 granted inject 5 from child 2 to parking\nt 14 h 1 15 retired plain\nt 15 h 1 15 retired plain\nt 16 h 1 15 retired plain\nt 17 h 1 15 issued read 3\nt 18 g 0 l 1 1 granted inject 5 from child 1 to child 0\nt 19 g 2 q 2 granted read 3 from child 2 to child 0\nt 20 g 1 q 1 granted read 3 from child 1 to parent\nt 21 g 0 q 0 granted read 3 from child 0 to child 1\nt 22 h 4 0 retired plain\nt 23 h 4 0 retired plain\nt 24 h 4 0 issued read 3\nt 25 g 2 d busy item 2 3 local 2\nt 26 h 2 9 retired plain\nt 27 h 2 9 retired plain\nt 28 h 2 9 retired plain\nt 29 h 2 9 retired plain\nt 30 h 2 9 issued read 3\nt 31 g 2 r 0 granted data 3 from child 0 to child 2\nt 32 g 2 d granted read 3 from parent to child 0\nt 33 g 1 l 1 13 busy parking 1\nt 34 h 5 11 retired load 000100c4 2c5130ee\nt 35 h 5 2 issued read 4\nt 36 g 2 q 1 busy item 2 3 answering\nt 37 g 2 r 0 granted data 3 from child 0 to parent\nt 38 g 2 q 1 granted read 3 from child 1 to child 0\nt 39 g 0 r 1 busy queue down 1\nddm 1\nturns 40 retired 21 granted 9 busy 4\nhart 0 running pc 00010010 done 4\nregs 0 00000000 00200000 00000000 00000000 00010000 00010000 00000000 00000000 00000000 00000000 00000006 00000000 00000000 00000000 00000000 00000000 00000000 00000000 00000000 00000000 00000000 00000000 00000000 00000000 00000000 00000000 00000000 00000000 00000000 00000000 00000000\nout 0 -\nhart 1 running pc 00010010 done 4\nregs 1 00000000 00200000 00000000 00000000 00010000 00010010 00000000 00000000 00000000 00000001 00000006 00000000 00000000 01000000 00000000 00000000 00000000 00000000 00000000 00000000 00000000 00000000 00000000 00000000 00000000 00000000 00000000 00000000 00000000 00000000 00000000\nout 1 -\nhart 2 running pc 00010010 done 4\nregs 2 00000000 00200000 00000000 00000000 00010000 00010020 00000000 00000000 00000000 00000002 00000006 00000000 00000000 02000000 00000000 00000000 00000000 00000000 00000000 00000000 00000000 00000000 00000000 00000000 00000000 00000000 00000000 00000000 00000000 00000000 00000000\nout 2 -\nhart 3 running pc 00010000 done 0\nregs 3 00000000 00200000 00000000 00000000 00000000 00000000 00000000 00000000 00000000 00000003 00000006 00000000 00000000 00000000 00000000 00000000 00000000 00000000 00000000 00000000 00000000 00000000 00000000 00000000 00000000 00000000 00000000 00000000 00000000 00000000 00000000\nout 3 -\nhart 4 running pc 00010010 done 4\nregs 4 00000000 00200000 00000000 00000000 00010000 00010040 00000000 00000000 00000000 00000004 00000006 00000000 00000000 04000000 00000000 00000000 00000000 00000000 00000000 00000000 00000000 00000000 00000000 00000000 00000000 00000000 00000000 00000000 00000000 00000000 00000000\nout 4 -\nhart 5 running pc 00010014 done 5\nregs 5 00000000 00200000 00000000 00000000 00010000 00010050 00000000 00000000 00000000 00000005 00000006 2c5130ee 00000000 05000000 00000000 00000000 00000000 00000000 00000000 00000000 00000000 00000000 00000000 00000000 00000000 00000000 00000000 00000000 00000000 00000000 00000000\nout 5 -\nbus 0 read 1 data 0 erase 0 exclusive 0 out 0 inject 1\nbus 1 read 1 data 0 erase 0 exclusive 0 out 0 inject 0\nbus 2 read 3 data 2 erase 0 exclusive 0 out 0 inject 1\nitem 0 00010000 000102b7 00451313 00530333 01851713 0c42a603 0c032603 0c02a383 0c032383 0c02a603 0c02a603 0c432603 0c832383 0c82a603 0c832383 0c02a603 fd5ff06f leaf 0 way 0 E-----\nitem 1 00010040 f72ca650 1751bdb2 4e86b22e 8aed0ce1 a5024f44 ee2be073 cd0b5e60 22c5de5d 2b669547 c6554758 d1bc2b0d 76daf4af e039bf95 fdcbf106 a1242535 216d8a92 leaf 1 buffer 0 -E----\nitem 2 00010080 886af4de 62b09b20 cba944c1 a7689fa6 5b816f1b 1eb34ae3 22b44320 ad90da5c 34b5d789 38c990f2 ab0fcba3 4fcda577 36b30332 71328fef d87649e2 3f2de531 leaf 2 way 0 --E---\nitem 3 000100c0 9e5b5bfc 2c5130ee 8dfdbccd 2149fe74 a43d32b8 3d50f731 78ac744f 67955b60 37228a01 572ca69a 5065ded8 d1e4dd7c e3aacb7e 16b01d08 7b7a39b9 22f5b702 leaf 3 way 0 RRRSRS\nitem 4 00010100 4d8f47ff 27ae4b0e 14e83df2 e5b93ccb 9739fc52 2de6b95b 99891800 98910e2a bc0dd8ec bf8620c4 95262015 fbcc878e c0a0e12c 68fefdf5 e3b67b16 dbed6aed leaf 4 way 0 ----ER\nitem 5 00010140 6c7d2455 bc80d3e9 9cfcb541 b2ead52e 82e10d53 7040ea2b dfd3843a 9bd3a908 3a081086 f412c12f 6eceec48 706855d0 49df27c9 8e219b0b 203b0744 4a5699f9 bus 1 down 0 ------\nop 0 0.0.0.0.0 00010000 plain\nop 0 0.0.0.0.1 00010004 plain\nop 0 0.0.0.0.2 00010008 plain\nop 0 0.0.0.0.3 0001000c plain\nop 1 0.0.0.1.0 00010000 plain\nop 1 0.0.0.1.1 00010004 plain\nop 1 0.0.0.1.2 00010008 plain\nop 1 0.0.0.1.3 0001000c plain\nop 2 0.0.1.2.0 00010000 plain\nop 2 0.0.1.2.1 00010004 plain\nop 2 0.0.1.2.2 00010008 plain\nop 2 0.0.1.2.3 0001000c plain\nop 4 0.1.0.1.0 00010000 plain\nop 4 0.1.0.1.1 00010004 plain\nop 5 0.1.0.2.0 00010000 plain\nop 5 0.1.0.2.1 00010004 plain\nop 5 0.1.0.2.2 00010008 plain\nop 5 0.1.0.2.3 0001000c plain\nop 4 0.1.2.1.2 00010008 plain\nop 4 0.1.2.1.3 0001000c plain\nop 5 2.1.4.2.4 00010010 load 000100c4 2c5130ee\nend\n";
}

pub printed : IsPrinted stored
unfolding examples_compute
printed = refl
