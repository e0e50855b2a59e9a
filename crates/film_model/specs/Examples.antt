-- Worked examples: the films of small runs. Each has a tree, a program, a schedule and the film, as an independent model printed it.
use Rattle.std.specs.Prelude.{◌≡◌, ℕ, ◌*◌, true, List, [], ◌∷◌, ◌++◌, length, flat_map, codes}
use Rattle.std.specs.Int.{w32, to_le_bytes}
use Rattle.film_model.specs.DdmTypes.declared.turns.Turn.{Turn}
use Rattle.film_model.specs.DdmTypes.declared.turns.Turn.TheVariants.{Hart, Down, Request, Reply, Leave}
use Rattle.film_model.specs.TreeModel.Start.Sources.{ImageValue, TreeValue}
use Rattle.film_model.specs.TreeModel.Start.Machine.{start_machine}
use Rattle.film_model.specs.Still.{still}
use Rattle.film_model.specs.Film.{film_of}
use Rattle.film_model.specs.Replay.{has_keys_once}

-- what is given, and the film of it
pub record Example : Type 0 where
  pub tree : TreeValue
  pub image : ImageValue
  pub turns : List Turn
  pub film : List ℕ

-- The definitions give the same bytes.
abbrev pub IsFilmed : Example → Type 0
IsFilmed e = film_of e.tree e.turns (start_machine e.tree e.image) ≡ e.film

-- No two parts of its machine have the same key.
abbrev pub HasKeysOnce : Example → Type 0
HasKeysOnce e = has_keys_once (still (start_machine e.tree e.image)) ≡ true

-- ---- how an example is told

-- code at 0x10000, where the harts begin, and words at 0x20000 that may be written, in a segment of so many bytes
abbrev program : List ℕ → List ℕ → ℕ → ImageValue
program code words memsz = record {
  entry = 0x10000;
  segments =
      record { header = 0; vaddr = 0x10000; flags = 5; bytes = flat_map (to_le_bytes w32) code; memsz = 4 * length code }
      ∷ record { header = 1; vaddr = 0x20000; flags = 6; bytes = flat_map (to_le_bytes w32) words; memsz = memsz }
      ∷ [];
}

-- a tree of levels, with so many ways in one set, a buffer and parking of one place, lists of so many places and no stacks
abbrev tree_of : List (List ℕ) → ℕ → ℕ → TreeValue
tree_of levels ways places = record {
  levels = levels;
  way_count = ways;
  sizes = record { sets = 1; buffer = 1; parking = 1; down = places; requests = places; replies = places };
  stack_base = 196608;
  stack_bytes = 0;
  item_bytes = 16;
}

-- One leaf before its first turn.
abbrev pub no_turns : Example
no_turns = record {
  tree = tree_of ((1 ∷ []) ∷ []) 4 16;
  image = program (0x000202b7 ∷ 0x0002a383 ∷ 0x05d00893 ∷ 0x00000073 ∷ []) (0x00000005 ∷ []) 16;
  turns = [];
  film =
      codes "film 1\ntree 1 1\nsizes 4 1 1 1 16 16 16 16\nitem 0 00010000\nitem 1 00020000 w\npc 0 00010000\n"
      ++ codes "reg 0 2 00030000\nreg 0 11 00000001\nentry 0 0 E 0 000202b7 0002a383 05d00893 00000073\n"
      ++ codes "entry 0 1 E 1 00000005 00000000 00000000 00000000\ntime 0 0\ndir 0 0 E\ndir 0 1 E\n"
      ++ codes "copy 0 leaf 0\ncopy 1 leaf 0\nddm 1\nturns 0 retired 0 granted 0 busy 0\n"
      ++ codes "hart 0 running pc 00010000 done 0\n"
      ++ codes "regs 0 00000000 00030000 00000000 00000000 00000000 00000000 00000000 00000000 00000000 "
      ++ codes "00000000 00000001 00000000 00000000 00000000 00000000 00000000 00000000 00000000 00000000 "
      ++ codes "00000000 00000000 00000000 00000000 00000000 00000000 00000000 00000000 00000000 00000000 "
      ++ codes "00000000 00000000\n"
      ++ codes "out 0 -\nbus 0 read 0 data 0 erase 0 exclusive 0 out 0 inject 0\n"
      ++ codes "item 0 00010000 000202b7 0002a383 05d00893 00000073 leaf 0 way 0 E\n"
      ++ codes "item 1 00020000 00000005 00000000 00000000 00000000 leaf 0 way 1 E\nend\n";
}

-- A hart loads a word of an item that another leaf holds.
abbrev pub one_read : Example
one_read = record {
  tree = tree_of ((2 ∷ []) ∷ []) 4 16;
  image = program (0x000202b7 ∷ 0x0002a383 ∷ 0x05d00893 ∷ 0x00000073 ∷ []) (0x00000005 ∷ []) 16;
  turns = Hart 0 0 ∷ Hart 0 0 ∷ Request 0 0 ∷ Reply 0 1 ∷ Hart 0 0 ∷ [];
  film =
      codes "film 1\ntree 1 2\nsizes 4 1 1 1 16 16 16 16\nitem 0 00010000\nitem 1 00020000 w\npc 0 00010000\n"
      ++ codes "reg 0 2 00030000\nreg 0 11 00000002\nentry 0 0 E 0 000202b7 0002a383 05d00893 00000073\n"
      ++ codes "pc 1 00010000\nreg 1 2 00030000\nreg 1 10 00000001\nreg 1 11 00000002\n"
      ++ codes "entry 1 1 E 0 00000005 00000000 00000000 00000000\ntime 0 0\ndir 0 0 E\ndir 0 1 E\n"
      ++ codes "copy 0 leaf 0\ncopy 1 leaf 1\nt 0 h 0 0 retired plain\npc 0 00010004\nreg 0 5 00020000\n"
      ++ codes "t 1 h 0 0 issued read 1\nentry 0 1 R 1\nslot 0 read 1\n"
      ++ codes "t 2 g 0 q 0 granted read 1 from child 0 to child 1\nslot 0\n"
      ++ codes "entry 1 1 S 0 00000005 00000000 00000000 00000000\n"
      ++ codes "leafreplies 1 | 1 00000005 00000000 00000000 00000000\ntime 0 1\ndir 0 1 E local 0\n"
      ++ codes "t 3 g 0 r 1 granted data 1 from child 1 to child 0\n"
      ++ codes "entry 0 1 S 1 00000005 00000000 00000000 00000000\nleafreplies 1\ntime 0 2\ndir 0 1 E\n"
      ++ codes "copy 1 leaf 0\nt 4 h 0 0 retired load 00020000 00000005\npc 0 00010008\nreg 0 7 00000005\n"
      ++ codes "ddm 1\nturns 5 retired 2 granted 2 busy 0\nhart 0 running pc 00010008 done 2\n"
      ++ codes "regs 0 00000000 00030000 00000000 00000000 00020000 00000000 00000005 00000000 00000000 "
      ++ codes "00000000 00000002 00000000 00000000 00000000 00000000 00000000 00000000 00000000 00000000 "
      ++ codes "00000000 00000000 00000000 00000000 00000000 00000000 00000000 00000000 00000000 00000000 "
      ++ codes "00000000 00000000\n"
      ++ codes "out 0 -\nhart 1 running pc 00010000 done 0\n"
      ++ codes "regs 1 00000000 00030000 00000000 00000000 00000000 00000000 00000000 00000000 00000000 "
      ++ codes "00000001 00000002 00000000 00000000 00000000 00000000 00000000 00000000 00000000 00000000 "
      ++ codes "00000000 00000000 00000000 00000000 00000000 00000000 00000000 00000000 00000000 00000000 "
      ++ codes "00000000 00000000\n"
      ++ codes "out 1 -\nbus 0 read 1 data 1 erase 0 exclusive 0 out 0 inject 0\n"
      ++ codes "item 0 00010000 000202b7 0002a383 05d00893 00000073 leaf 0 way 0 E-\n"
      ++ codes "item 1 00020000 00000005 00000000 00000000 00000000 leaf 0 way 1 SS\nop 0 0.0.0 00010000 plain\n"
      ++ codes "op 0 2.0.1 00010004 load 00020000 00000005\nend\n";
}

-- An LR and an SC of two harts: the first to ask stores, and the other has lost its reservation.
abbrev pub reservation : Example
reservation = record {
  tree = tree_of ((2 ∷ []) ∷ []) 4 16;
  image = program (0x000202b7 ∷ 0x1002a3af ∷ 0x1872a32f ∷ []) (0x00000005 ∷ []) 16;
  turns =
      Hart 1 0 ∷ Hart 1 0 ∷ Hart 0 0 ∷ Hart 0 0 ∷ Request 0 0 ∷ Reply 0 1 ∷ Hart 0 0 ∷ Hart 0 0 ∷ Request 0 0
      ∷ Down 0 ∷ Hart 0 0 ∷ Hart 1 0 ∷ [];
  film =
      codes "film 1\ntree 1 2\nsizes 4 1 1 1 16 16 16 16\nitem 0 00010000\nitem 1 00020000 w\npc 0 00010000\n"
      ++ codes "reg 0 2 00030000\nreg 0 11 00000002\nentry 0 0 E 0 000202b7 1002a3af 1872a32f 00000000\n"
      ++ codes "pc 1 00010000\nreg 1 2 00030000\nreg 1 10 00000001\nreg 1 11 00000002\n"
      ++ codes "entry 1 1 E 0 00000005 00000000 00000000 00000000\ntime 0 0\ndir 0 0 E\ndir 0 1 E\n"
      ++ codes "copy 0 leaf 0\ncopy 1 leaf 1\nt 0 h 1 0 retired plain\npc 1 00010004\nreg 1 5 00020000\n"
      ++ codes "t 1 h 1 0 retired lr 00020000 00000005\npc 1 00010008\nreg 1 7 00000005\nreserved 1 1\n"
      ++ codes "t 2 h 0 0 retired plain\npc 0 00010004\nreg 0 5 00020000\nt 3 h 0 0 issued read 1\n"
      ++ codes "entry 0 1 R 1\nslot 0 read 1\nt 4 g 0 q 0 granted read 1 from child 0 to child 1\nslot 0\n"
      ++ codes "entry 1 1 S 0 00000005 00000000 00000000 00000000\n"
      ++ codes "leafreplies 1 | 1 00000005 00000000 00000000 00000000\ntime 0 1\ndir 0 1 E local 0\n"
      ++ codes "t 5 g 0 r 1 granted data 1 from child 1 to child 0\n"
      ++ codes "entry 0 1 S 1 00000005 00000000 00000000 00000000\nleafreplies 1\ntime 0 2\ndir 0 1 E\n"
      ++ codes "copy 1 leaf 0\nt 6 h 0 0 retired lr 00020000 00000005\npc 0 00010008\nreg 0 7 00000005\n"
      ++ codes "reserved 0 1\nt 7 h 0 0 issued erase 1\nentry 0 1 W 1 00000005 00000000 00000000 00000000\n"
      ++ codes "slot 0 erase 1\nt 8 g 0 q 0 granted erase 1 from child 0 to all\nslot 0\nentry 1 1\nreserved 1\n"
      ++ codes "time 0 3\ndir 0 1 E uperase 0\ndown 0 | exclusive 1\n"
      ++ codes "t 9 g 0 d granted exclusive 1 from parent to child 0\n"
      ++ codes "entry 0 1 E 1 00000005 00000000 00000000 00000000\ntime 0 4\ndir 0 1 E\ndown 0\n"
      ++ codes "t 10 h 0 0 retired scok 00020000 00000005 00000005\npc 0 0001000c\nreserved 0\n"
      ++ codes "t 11 h 1 0 retired scfail 00020000\npc 1 0001000c\nreg 1 6 00000001\nddm 1\n"
      ++ codes "turns 12 retired 6 granted 4 busy 0\nhart 0 running pc 0001000c done 3\n"
      ++ codes "regs 0 00000000 00030000 00000000 00000000 00020000 00000000 00000005 00000000 00000000 "
      ++ codes "00000000 00000002 00000000 00000000 00000000 00000000 00000000 00000000 00000000 00000000 "
      ++ codes "00000000 00000000 00000000 00000000 00000000 00000000 00000000 00000000 00000000 00000000 "
      ++ codes "00000000 00000000\n"
      ++ codes "out 0 -\nhart 1 running pc 0001000c done 3\n"
      ++ codes "regs 1 00000000 00030000 00000000 00000000 00020000 00000001 00000005 00000000 00000000 "
      ++ codes "00000001 00000002 00000000 00000000 00000000 00000000 00000000 00000000 00000000 00000000 "
      ++ codes "00000000 00000000 00000000 00000000 00000000 00000000 00000000 00000000 00000000 00000000 "
      ++ codes "00000000 00000000\n"
      ++ codes "out 1 -\nbus 0 read 1 data 1 erase 1 exclusive 1 out 0 inject 0\n"
      ++ codes "item 0 00010000 000202b7 1002a3af 1872a32f 00000000 leaf 0 way 0 E-\n"
      ++ codes "item 1 00020000 00000005 00000000 00000000 00000000 leaf 0 way 1 E-\nop 0 0.0.0 00010000 plain\n"
      ++ codes "op 1 0.1.0 00010000 plain\nop 1 0.1.1 00010004 lr 00020000 00000005\n"
      ++ codes "op 0 2.0.1 00010004 lr 00020000 00000005\nop 0 4.0.2 00010008 scok 00020000 00000005 00000005\n"
      ++ codes "op 1 4.1.2 00010008 scfail 00020000\nend\n";
}

-- A read joins a read that is under way, in a tree of two levels.
abbrev pub joined_reads : Example
joined_reads = record {
  tree = tree_of ((2 ∷ []) ∷ (3 ∷ 1 ∷ []) ∷ []) 4 16;
  image =
      program (0x000202b7 ∷ 0x0202a383 ∷ 0x05d00893 ∷ 0x00000073 ∷ [])
      (0x00000000 ∷ 0x00000000 ∷ 0x00000000 ∷ 0x00000000 ∷ 0x00000000 ∷ 0x00000000 ∷ 0x00000000 ∷ 0x00000000
      ∷ 0x00000005 ∷ []) 48;
  turns =
      Hart 0 0 ∷ Hart 0 0 ∷ Hart 1 0 ∷ Hart 1 0 ∷ Hart 2 0 ∷ Hart 2 0 ∷ Request 1 2 ∷ Request 1 0 ∷ Request 0 0
      ∷ Request 1 1 ∷ Request 0 0 ∷ Reply 0 1 ∷ Down 2 ∷ Reply 2 0 ∷ Reply 0 1 ∷ Down 1 ∷ Hart 0 0 ∷ Hart 1 0
      ∷ Hart 2 0 ∷ Hart 2 0 ∷ Hart 2 0 ∷ Hart 2 0 ∷ [];
  film =
      codes "film 1\ntree 2 2 3 1\nsizes 4 1 1 1 16 16 16 16\nitem 0 00010000\nitem 1 00020000 w\n"
      ++ codes "item 2 00020010 w\nitem 3 00020020 w\npc 0 00010000\nreg 0 2 00030000\nreg 0 11 00000004\n"
      ++ codes "entry 0 0 E 0 000202b7 0202a383 05d00893 00000073\npc 1 00010000\nreg 1 2 00030000\n"
      ++ codes "reg 1 10 00000001\nreg 1 11 00000004\nentry 1 1 E 0 00000000 00000000 00000000 00000000\n"
      ++ codes "pc 2 00010000\nreg 2 2 00030000\nreg 2 10 00000002\nreg 2 11 00000004\n"
      ++ codes "entry 2 2 E 0 00000000 00000000 00000000 00000000\npc 3 00010000\nreg 3 2 00030000\n"
      ++ codes "reg 3 10 00000003\nreg 3 11 00000004\nentry 3 3 E 0 00000005 00000000 00000000 00000000\n"
      ++ codes "time 0 0\ndir 0 0 E\ndir 0 1 E\ndir 0 2 E\ndir 0 3 E\ntime 1 0.0\ndir 1 0 E\ndir 1 1 E\n"
      ++ codes "dir 1 2 E\ntime 2 0.0\ndir 2 3 E\ncopy 0 leaf 0\ncopy 1 leaf 1\ncopy 2 leaf 2\ncopy 3 leaf 3\n"
      ++ codes "t 0 h 0 0 retired plain\npc 0 00010004\nreg 0 5 00020000\nt 1 h 0 0 issued read 3\n"
      ++ codes "entry 0 3 R 1\nslot 0 read 3\nt 2 h 1 0 retired plain\npc 1 00010004\nreg 1 5 00020000\n"
      ++ codes "t 3 h 1 0 issued read 3\nentry 1 3 R 1\nslot 1 read 3\nt 4 h 2 0 retired plain\npc 2 00010004\n"
      ++ codes "reg 2 5 00020000\nt 5 h 2 0 issued read 3\nentry 2 3 R 1\nslot 2 read 3\n"
      ++ codes "t 6 g 1 q 2 granted read 3 from child 2 to parent\nslot 2\ntime 1 0.1\ndir 1 3 upread 2\n"
      ++ codes "requests 1 | read 3\nt 7 g 1 q 0 granted read 3 from child 0 to joined\nslot 0\ntime 1 0.2\n"
      ++ codes "dir 1 3 upread 2 0\nt 8 g 0 q 0 granted read 3 from child 0 to child 1\ntime 0 1\n"
      ++ codes "dir 0 3 E local 0\nrequests 1\ndir 2 3 E answering\ndown 2 | read 3 1\n"
      ++ codes "t 9 g 1 q 1 granted read 3 from child 1 to joined\nslot 1\ntime 1 0.3\ndir 1 3 upread 2 0 1\n"
      ++ codes "t 10 g 0 q 0 empty\nt 11 g 0 r 1 empty\nt 12 g 2 d granted read 3 from parent to child 0\n"
      ++ codes "entry 3 3 S 0 00000005 00000000 00000000 00000000\n"
      ++ codes "leafreplies 3 | 3 00000005 00000000 00000000 00000000\ntime 2 1.1\ndown 2\n"
      ++ codes "t 13 g 2 r 0 granted data 3 from child 0 to parent\nleafreplies 3\ntime 2 1.2\ndir 2 3 S\n"
      ++ codes "replies 2 | 3 00000005 00000000 00000000 00000000\n"
      ++ codes "t 14 g 0 r 1 granted data 3 from child 1 to child 0\ntime 0 2\ndir 0 3 E\n"
      ++ codes "dir 1 3 S upread 2 0 1\ndown 1 | data 3 2 00000005 00000000 00000000 00000000\nreplies 2\n"
      ++ codes "copy 3 bus 1 down\nt 15 g 1 d granted data 3 from parent to readers\n"
      ++ codes "entry 0 3 S 1 00000005 00000000 00000000 00000000\n"
      ++ codes "entry 1 3 S 1 00000005 00000000 00000000 00000000\n"
      ++ codes "entry 2 3 S 1 00000005 00000000 00000000 00000000\ntime 1 2.4\ndir 1 3 S\ndown 1\n"
      ++ codes "copy 3 leaf 0\nt 16 h 0 0 retired load 00020020 00000005\npc 0 00010008\nreg 0 7 00000005\n"
      ++ codes "t 17 h 1 0 retired load 00020020 00000005\npc 1 00010008\nreg 1 7 00000005\n"
      ++ codes "t 18 h 2 0 retired load 00020020 00000005\npc 2 00010008\nreg 2 7 00000005\n"
      ++ codes "t 19 h 2 0 retired plain\npc 2 0001000c\nreg 2 17 0000005d\nt 20 h 2 0 halted exit 2\n"
      ++ codes "halt 2 exit 2\nt 21 h 2 0 halted exit 2\nddm 1\nturns 22 retired 7 granted 8 busy 0\n"
      ++ codes "hart 0 running pc 00010008 done 2\n"
      ++ codes "regs 0 00000000 00030000 00000000 00000000 00020000 00000000 00000005 00000000 00000000 "
      ++ codes "00000000 00000004 00000000 00000000 00000000 00000000 00000000 00000000 00000000 00000000 "
      ++ codes "00000000 00000000 00000000 00000000 00000000 00000000 00000000 00000000 00000000 00000000 "
      ++ codes "00000000 00000000\n"
      ++ codes "out 0 -\nhart 1 running pc 00010008 done 2\n"
      ++ codes "regs 1 00000000 00030000 00000000 00000000 00020000 00000000 00000005 00000000 00000000 "
      ++ codes "00000001 00000004 00000000 00000000 00000000 00000000 00000000 00000000 00000000 00000000 "
      ++ codes "00000000 00000000 00000000 00000000 00000000 00000000 00000000 00000000 00000000 00000000 "
      ++ codes "00000000 00000000\n"
      ++ codes "out 1 -\nhart 2 exit 2 pc 0001000c done 3\n"
      ++ codes "regs 2 00000000 00030000 00000000 00000000 00020000 00000000 00000005 00000000 00000000 "
      ++ codes "00000002 00000004 00000000 00000000 00000000 00000000 00000000 0000005d 00000000 00000000 "
      ++ codes "00000000 00000000 00000000 00000000 00000000 00000000 00000000 00000000 00000000 00000000 "
      ++ codes "00000000 00000000\n"
      ++ codes "out 2 -\nhart 3 running pc 00010000 done 0\n"
      ++ codes "regs 3 00000000 00030000 00000000 00000000 00000000 00000000 00000000 00000000 00000000 "
      ++ codes "00000003 00000004 00000000 00000000 00000000 00000000 00000000 00000000 00000000 00000000 "
      ++ codes "00000000 00000000 00000000 00000000 00000000 00000000 00000000 00000000 00000000 00000000 "
      ++ codes "00000000 00000000\n"
      ++ codes "out 3 -\nbus 0 read 1 data 1 erase 0 exclusive 0 out 0 inject 0\n"
      ++ codes "bus 1 read 3 data 1 erase 0 exclusive 0 out 0 inject 0\n"
      ++ codes "bus 2 read 1 data 1 erase 0 exclusive 0 out 0 inject 0\n"
      ++ codes "item 0 00010000 000202b7 0202a383 05d00893 00000073 leaf 0 way 0 E---\n"
      ++ codes "item 1 00020000 00000000 00000000 00000000 00000000 leaf 1 way 0 -E--\n"
      ++ codes "item 2 00020010 00000000 00000000 00000000 00000000 leaf 2 way 0 --E-\n"
      ++ codes "item 3 00020020 00000005 00000000 00000000 00000000 leaf 0 way 1 SSSS\n"
      ++ codes "op 0 0.0.0.0.0 00010000 plain\nop 1 0.0.0.1.0 00010000 plain\nop 2 0.0.0.2.0 00010000 plain\n"
      ++ codes "op 0 2.0.4.0.1 00010004 load 00020020 00000005\nop 1 2.0.4.1.1 00010004 load 00020020 00000005\n"
      ++ codes "op 2 2.0.4.2.1 00010004 load 00020020 00000005\nop 2 2.0.4.2.2 00010008 plain\nend\n";
}

-- A copy that finds no room is parked, and leaves by an inject.
abbrev pub parking : Example
parking = record {
  tree = tree_of ((2 ∷ []) ∷ (1 ∷ 1 ∷ []) ∷ []) 1 2;
  image = program (0x000202b7 ∷ 0x0002a383 ∷ 0x00010337 ∷ 0x00032403 ∷ []) (0x00000005 ∷ []) 16;
  turns =
      Hart 0 0 ∷ Hart 0 0 ∷ Request 1 0 ∷ Request 0 0 ∷ Down 2 ∷ Reply 2 0 ∷ Reply 0 1 ∷ Down 1 ∷ Hart 0 0
      ∷ Leave 1 0 0 ∷ Leave 0 0 0 ∷ Down 2 ∷ Leave 0 1 0 ∷ Down 1 ∷ Hart 0 0 ∷ Hart 0 0 ∷ Request 1 0
      ∷ Leave 1 0 0 ∷ Down 1 ∷ Hart 0 0 ∷ Leave 0 0 0 ∷ Hart 1 0 ∷ Hart 1 0 ∷ Hart 1 0 ∷ Hart 1 0 ∷ Leave 2 0 0
      ∷ Leave 0 1 0 ∷ Down 1 ∷ [];
  film =
      codes "film 1\ntree 2 2 1 1\nsizes 1 1 1 1 2 2 2 16\nitem 0 00010000\nitem 1 00020000 w\n"
      ++ codes "pc 0 00010000\nreg 0 2 00030000\nreg 0 11 00000002\n"
      ++ codes "entry 0 0 E 0 000202b7 0002a383 00010337 00032403\npc 1 00010000\nreg 1 2 00030000\n"
      ++ codes "reg 1 10 00000001\nreg 1 11 00000002\nentry 1 1 E 0 00000005 00000000 00000000 00000000\n"
      ++ codes "time 0 0\ndir 0 0 E\ndir 0 1 E\ntime 1 0.0\ndir 1 0 E\ntime 2 0.0\ndir 2 1 E\ncopy 0 leaf 0\n"
      ++ codes "copy 1 leaf 1\nt 0 h 0 0 retired plain\npc 0 00010004\nreg 0 5 00020000\n"
      ++ codes "t 1 h 0 0 issued read 1\nentry 0 0\nentry 0 1 R 0\n"
      ++ codes "buffer 0 | 0 E 000202b7 0002a383 00010337 00032403\nslot 0 read 1\n"
      ++ codes "t 2 g 1 q 0 granted read 1 from child 0 to parent\nslot 0\ntime 1 0.1\ndir 1 1 upread 0\n"
      ++ codes "requests 1 | read 1\nt 3 g 0 q 0 granted read 1 from child 0 to child 1\ntime 0 1\n"
      ++ codes "dir 0 1 E local 0\nrequests 1\ndir 2 1 E answering\ndown 2 | read 1 1\n"
      ++ codes "t 4 g 2 d granted read 1 from parent to child 0\n"
      ++ codes "entry 1 1 S 0 00000005 00000000 00000000 00000000\n"
      ++ codes "leafreplies 1 | 1 00000005 00000000 00000000 00000000\ntime 2 1.1\ndown 2\n"
      ++ codes "t 5 g 2 r 0 granted data 1 from child 0 to parent\nleafreplies 1\ntime 2 1.2\ndir 2 1 S\n"
      ++ codes "replies 2 | 1 00000005 00000000 00000000 00000000\n"
      ++ codes "t 6 g 0 r 1 granted data 1 from child 1 to child 0\ntime 0 2\ndir 0 1 E\ndir 1 1 S upread 0\n"
      ++ codes "down 1 | data 1 2 00000005 00000000 00000000 00000000\nreplies 2\ncopy 1 bus 1 down\n"
      ++ codes "t 7 g 1 d granted data 1 from parent to child 0\n"
      ++ codes "entry 0 1 S 0 00000005 00000000 00000000 00000000\ntime 1 2.2\ndir 1 1 S\ndown 1\n"
      ++ codes "copy 1 leaf 0\nt 8 h 0 0 retired load 00020000 00000005\npc 0 00010008\nreg 0 7 00000005\n"
      ++ codes "t 9 g 1 l 0 0 granted inject 0 from child 0 to parking\nbuffer 0\ntime 1 2.3\n"
      ++ codes "parked 1 | 0 000202b7 0002a383 00010337 00032403\ncopy 0 bus 1 parking\n"
      ++ codes "t 10 g 0 l 0 0 granted inject 0 from child 0 to child 1\ntime 0 3\ndir 1 0\nparked 1\n"
      ++ codes "dir 2 0 E\ndown 2 | inject 0 3 000202b7 0002a383 00010337 00032403\nkept 2 1\n"
      ++ codes "copy 0 bus 2 down\nt 11 g 2 d granted inject 0 from parent to parking\ntime 2 3.3\ndown 2\n"
      ++ codes "parked 2 | 0 000202b7 0002a383 00010337 00032403\nkept 2\ncopy 0 bus 2 parking\n"
      ++ codes "t 12 g 0 l 1 0 granted inject 0 from child 1 to child 0\ntime 0 4\ndir 1 0 E\n"
      ++ codes "down 1 | inject 0 4 000202b7 0002a383 00010337 00032403\nkept 1 1\ndir 2 0\nparked 2\n"
      ++ codes "copy 0 bus 1 down\nt 13 g 1 d granted inject 0 from parent to parking\ntime 1 4.4\ndown 1\n"
      ++ codes "parked 1 | 0 000202b7 0002a383 00010337 00032403\nkept 1\ncopy 0 bus 1 parking\n"
      ++ codes "t 14 h 0 0 retired plain\npc 0 0001000c\nreg 0 6 00010000\nt 15 h 0 0 issued read 0\n"
      ++ codes "entry 0 0 R 0\nentry 0 1\nbuffer 0 | 1 S 00000005 00000000 00000000 00000000\nslot 0 read 0\n"
      ++ codes "t 16 g 1 q 0 granted read 0 from child 0 to parking\nslot 0\ntime 1 4.5\ndir 1 0 E upread 0\n"
      ++ codes "down 1 | data 0 4 000202b7 0002a383 00010337 00032403\nparked 1\ncopy 0 bus 1 down\n"
      ++ codes "t 17 g 1 l 0 0 granted out 1 from child 0 to parking\nbuffer 0\ntime 1 4.6\n"
      ++ codes "parked 1 | 1 00000005 00000000 00000000 00000000\ncopy 1 bus 1 parking\n"
      ++ codes "t 18 g 1 d granted data 0 from parent to child 0\n"
      ++ codes "entry 0 0 S 0 000202b7 0002a383 00010337 00032403\ntime 1 4.7\ndir 1 0 E\ndown 1\n"
      ++ codes "copy 0 leaf 0\nt 19 h 0 0 retired load 00010000 000202b7\npc 0 00010010\nreg 0 8 000202b7\n"
      ++ codes "t 20 g 0 l 0 0 granted out 1 from child 0 to gone\ntime 0 5\ndir 1 1\nparked 1\ncopy 1 leaf 1\n"
      ++ codes "t 21 h 1 0 retired plain\npc 1 00010004\nreg 1 5 00020000\n"
      ++ codes "t 22 h 1 0 retired load 00020000 00000005\npc 1 00010008\nreg 1 7 00000005\n"
      ++ codes "t 23 h 1 0 retired plain\npc 1 0001000c\nreg 1 6 00010000\nt 24 h 1 0 issued read 0\n"
      ++ codes "entry 1 0 R 0\nentry 1 1\nbuffer 1 | 1 S 00000005 00000000 00000000 00000000\nslot 1 read 0\n"
      ++ codes "t 25 g 2 l 0 0 granted out 1 from child 0 to parking\nbuffer 1\ntime 2 3.4\n"
      ++ codes "parked 2 | 1 00000005 00000000 00000000 00000000\ncopy 1 bus 2 parking\n"
      ++ codes "t 26 g 0 l 1 0 granted inject 1 from child 1 to child 0\ntime 0 6\ndir 1 1 E\n"
      ++ codes "down 1 | inject 1 6 00000005 00000000 00000000 00000000\nkept 1 1\ndir 2 1\nparked 2\n"
      ++ codes "copy 1 bus 1 down\nt 27 g 1 d granted inject 1 from parent to parking\ntime 1 6.8\ndown 1\n"
      ++ codes "parked 1 | 1 00000005 00000000 00000000 00000000\nkept 1\ncopy 1 bus 1 parking\nddm 1\n"
      ++ codes "turns 28 retired 7 granted 18 busy 0\nhart 0 running pc 00010010 done 4\n"
      ++ codes "regs 0 00000000 00030000 00000000 00000000 00020000 00010000 00000005 000202b7 00000000 "
      ++ codes "00000000 00000002 00000000 00000000 00000000 00000000 00000000 00000000 00000000 00000000 "
      ++ codes "00000000 00000000 00000000 00000000 00000000 00000000 00000000 00000000 00000000 00000000 "
      ++ codes "00000000 00000000\n"
      ++ codes "out 0 -\nhart 1 running pc 0001000c done 3\n"
      ++ codes "regs 1 00000000 00030000 00000000 00000000 00020000 00010000 00000005 00000000 00000000 "
      ++ codes "00000001 00000002 00000000 00000000 00000000 00000000 00000000 00000000 00000000 00000000 "
      ++ codes "00000000 00000000 00000000 00000000 00000000 00000000 00000000 00000000 00000000 00000000 "
      ++ codes "00000000 00000000\n"
      ++ codes "out 1 -\nbus 0 read 1 data 1 erase 0 exclusive 0 out 1 inject 3\n"
      ++ codes "bus 1 read 2 data 2 erase 0 exclusive 0 out 1 inject 3\n"
      ++ codes "bus 2 read 1 data 1 erase 0 exclusive 0 out 1 inject 1\n"
      ++ codes "item 0 00010000 000202b7 0002a383 00010337 00032403 leaf 0 way 0 SR\n"
      ++ codes "item 1 00020000 00000005 00000000 00000000 00000000 bus 1 parking 0 --\n"
      ++ codes "op 0 0.0.0.0.0 00010000 plain\nop 0 2.0.2.0.1 00010004 load 00020000 00000005\n"
      ++ codes "op 1 3.1.3.0.0 00010000 plain\nop 1 3.1.3.0.1 00010004 load 00020000 00000005\n"
      ++ codes "op 1 3.1.3.0.2 00010008 plain\nop 0 4.0.4.0.2 00010008 plain\n"
      ++ codes "op 0 4.0.7.0.3 0001000c load 00010000 000202b7\nend\n";
}

-- A victim goes to the buffer, and leaves it.
abbrev pub full_buffer : Example
full_buffer = record {
  tree = tree_of ((4 ∷ []) ∷ []) 1 16;
  image =
      program (0x000202b7 ∷ 0x0002a383 ∷ 0x0102a403 ∷ 0x00000073 ∷ [])
      (0x00000005 ∷ 0x00000000 ∷ 0x00000000 ∷ 0x00000000 ∷ 0x00000006 ∷ 0x00000000 ∷ 0x00000000 ∷ 0x00000000
      ∷ []) 32;
  turns = Hart 0 0 ∷ Hart 0 0 ∷ Request 0 0 ∷ Reply 0 1 ∷ Hart 0 0 ∷ Hart 0 0 ∷ Leave 0 0 0 ∷ Hart 0 0 ∷ [];
  film =
      codes "film 1\ntree 1 4\nsizes 1 1 1 1 16 16 16 16\nitem 0 00010000\nitem 1 00020000 w\n"
      ++ codes "item 2 00020010 w\npc 0 00010000\nreg 0 2 00030000\nreg 0 11 00000004\n"
      ++ codes "entry 0 0 E 0 000202b7 0002a383 0102a403 00000073\npc 1 00010000\nreg 1 2 00030000\n"
      ++ codes "reg 1 10 00000001\nreg 1 11 00000004\nentry 1 1 E 0 00000005 00000000 00000000 00000000\n"
      ++ codes "pc 2 00010000\nreg 2 2 00030000\nreg 2 10 00000002\nreg 2 11 00000004\n"
      ++ codes "entry 2 2 E 0 00000006 00000000 00000000 00000000\npc 3 00010000\nreg 3 2 00030000\n"
      ++ codes "reg 3 10 00000003\nreg 3 11 00000004\ntime 0 0\ndir 0 0 E\ndir 0 1 E\ndir 0 2 E\ncopy 0 leaf 0\n"
      ++ codes "copy 1 leaf 1\ncopy 2 leaf 2\nt 0 h 0 0 retired plain\npc 0 00010004\nreg 0 5 00020000\n"
      ++ codes "t 1 h 0 0 issued read 1\nentry 0 0\nentry 0 1 R 0\n"
      ++ codes "buffer 0 | 0 E 000202b7 0002a383 0102a403 00000073\nslot 0 read 1\n"
      ++ codes "t 2 g 0 q 0 granted read 1 from child 0 to child 1\nslot 0\n"
      ++ codes "entry 1 1 S 0 00000005 00000000 00000000 00000000\n"
      ++ codes "leafreplies 1 | 1 00000005 00000000 00000000 00000000\ntime 0 1\ndir 0 1 E local 0\n"
      ++ codes "t 3 g 0 r 1 granted data 1 from child 1 to child 0\n"
      ++ codes "entry 0 1 S 0 00000005 00000000 00000000 00000000\nleafreplies 1\ntime 0 2\ndir 0 1 E\n"
      ++ codes "copy 1 leaf 0\nt 4 h 0 0 retired load 00020000 00000005\npc 0 00010008\nreg 0 7 00000005\n"
      ++ codes "t 5 h 0 0 busy buffer 0\nt 6 g 0 l 0 0 granted inject 0 from child 0 to child 3\nbuffer 0\n"
      ++ codes "entry 3 0 E 0 000202b7 0002a383 0102a403 00000073\ntime 0 3\ncopy 0 leaf 3\n"
      ++ codes "t 7 h 0 0 issued read 2\nentry 0 1\nentry 0 2 R 0\n"
      ++ codes "buffer 0 | 1 S 00000005 00000000 00000000 00000000\nslot 0 read 2\nddm 1\n"
      ++ codes "turns 8 retired 2 granted 3 busy 1\nhart 0 running pc 00010008 done 2\n"
      ++ codes "regs 0 00000000 00030000 00000000 00000000 00020000 00000000 00000005 00000000 00000000 "
      ++ codes "00000000 00000004 00000000 00000000 00000000 00000000 00000000 00000000 00000000 00000000 "
      ++ codes "00000000 00000000 00000000 00000000 00000000 00000000 00000000 00000000 00000000 00000000 "
      ++ codes "00000000 00000000\n"
      ++ codes "out 0 -\nhart 1 running pc 00010000 done 0\n"
      ++ codes "regs 1 00000000 00030000 00000000 00000000 00000000 00000000 00000000 00000000 00000000 "
      ++ codes "00000001 00000004 00000000 00000000 00000000 00000000 00000000 00000000 00000000 00000000 "
      ++ codes "00000000 00000000 00000000 00000000 00000000 00000000 00000000 00000000 00000000 00000000 "
      ++ codes "00000000 00000000\n"
      ++ codes "out 1 -\nhart 2 running pc 00010000 done 0\n"
      ++ codes "regs 2 00000000 00030000 00000000 00000000 00000000 00000000 00000000 00000000 00000000 "
      ++ codes "00000002 00000004 00000000 00000000 00000000 00000000 00000000 00000000 00000000 00000000 "
      ++ codes "00000000 00000000 00000000 00000000 00000000 00000000 00000000 00000000 00000000 00000000 "
      ++ codes "00000000 00000000\n"
      ++ codes "out 2 -\nhart 3 running pc 00010000 done 0\n"
      ++ codes "regs 3 00000000 00030000 00000000 00000000 00000000 00000000 00000000 00000000 00000000 "
      ++ codes "00000003 00000004 00000000 00000000 00000000 00000000 00000000 00000000 00000000 00000000 "
      ++ codes "00000000 00000000 00000000 00000000 00000000 00000000 00000000 00000000 00000000 00000000 "
      ++ codes "00000000 00000000\n"
      ++ codes "out 3 -\nbus 0 read 1 data 1 erase 0 exclusive 0 out 0 inject 1\n"
      ++ codes "item 0 00010000 000202b7 0002a383 0102a403 00000073 leaf 3 way 0 ---E\n"
      ++ codes "item 1 00020000 00000005 00000000 00000000 00000000 leaf 0 buffer 0 SS--\n"
      ++ codes "item 2 00020010 00000006 00000000 00000000 00000000 leaf 2 way 0 R-E-\n"
      ++ codes "op 0 0.0.0 00010000 plain\nop 0 2.0.1 00010004 load 00020000 00000005\nend\n";
}

-- A load of an old word after the store; then a read waits after an erase.
abbrev pub stale_load : Example
stale_load = record {
  tree = tree_of ((2 ∷ []) ∷ (2 ∷ 2 ∷ []) ∷ []) 4 16;
  image =
      program
      (0x000202b7 ∷ 0x0002a383 ∷ 0x00050863 ∷ 0x0002a403 ∷ 0x0102a483 ∷ 0x0002a603 ∷ 0x00b2a023 ∷ 0x00b2a823
      ∷ []) (0x00000005 ∷ []) 32;
  turns =
      Hart 3 0 ∷ Hart 3 0 ∷ Request 2 1 ∷ Reply 2 0 ∷ Hart 3 0 ∷ Hart 3 0 ∷ Hart 0 0 ∷ Hart 0 0 ∷ Request 1 0
      ∷ Request 0 0 ∷ Down 2 ∷ Reply 2 0 ∷ Reply 0 1 ∷ Down 1 ∷ Hart 0 0 ∷ Hart 0 0 ∷ Hart 0 0 ∷ Request 1 0
      ∷ Request 0 0 ∷ Down 0 ∷ Down 1 ∷ Hart 0 0 ∷ Hart 3 0 ∷ Hart 0 0 ∷ Request 1 0 ∷ Request 0 0 ∷ Down 2
      ∷ Down 2 ∷ Reply 2 1 ∷ Reply 0 1 ∷ Down 1 ∷ Request 1 0 ∷ Request 0 0 ∷ Down 0 ∷ Down 1 ∷ Hart 0 0
      ∷ Down 2 ∷ Hart 3 0 ∷ Request 2 1 ∷ Request 0 1 ∷ Down 1 ∷ Reply 1 0 ∷ Reply 0 0 ∷ Down 2 ∷ Hart 3 0
      ∷ Hart 3 0 ∷ [];
  film =
      codes "film 1\ntree 2 2 2 2\nsizes 4 1 1 1 16 16 16 16\nitem 0 00010000\nitem 1 00010010\n"
      ++ codes "item 2 00020000 w\nitem 3 00020010 w\npc 0 00010000\nreg 0 2 00030000\nreg 0 11 00000004\n"
      ++ codes "entry 0 0 E 0 000202b7 0002a383 00050863 0002a403\npc 1 00010000\nreg 1 2 00030000\n"
      ++ codes "reg 1 10 00000001\nreg 1 11 00000004\nentry 1 1 E 0 0102a483 0002a603 00b2a023 00b2a823\n"
      ++ codes "pc 2 00010000\nreg 2 2 00030000\nreg 2 10 00000002\nreg 2 11 00000004\n"
      ++ codes "entry 2 2 E 0 00000005 00000000 00000000 00000000\npc 3 00010000\nreg 3 2 00030000\n"
      ++ codes "reg 3 10 00000003\nreg 3 11 00000004\nentry 3 3 E 0 00000000 00000000 00000000 00000000\n"
      ++ codes "time 0 0\ndir 0 0 E\ndir 0 1 E\ndir 0 2 E\ndir 0 3 E\ntime 1 0.0\ndir 1 0 E\ndir 1 1 E\n"
      ++ codes "time 2 0.0\ndir 2 2 E\ndir 2 3 E\ncopy 0 leaf 0\ncopy 1 leaf 1\ncopy 2 leaf 2\ncopy 3 leaf 3\n"
      ++ codes "t 0 h 3 0 retired plain\npc 3 00010004\nreg 3 5 00020000\nt 1 h 3 0 issued read 2\n"
      ++ codes "entry 3 2 R 1\nslot 3 read 2\nt 2 g 2 q 1 granted read 2 from child 1 to child 0\n"
      ++ codes "entry 2 2 S 0 00000005 00000000 00000000 00000000\n"
      ++ codes "leafreplies 2 | 2 00000005 00000000 00000000 00000000\nslot 3\ntime 2 0.1\ndir 2 2 E local 1\n"
      ++ codes "t 3 g 2 r 0 granted data 2 from child 0 to child 1\nleafreplies 2\n"
      ++ codes "entry 3 2 S 1 00000005 00000000 00000000 00000000\ntime 2 0.2\ndir 2 2 E\n"
      ++ codes "t 4 h 3 0 retired load 00020000 00000005\npc 3 00010008\nreg 3 7 00000005\n"
      ++ codes "t 5 h 3 0 retired plain\npc 3 0001000c\nt 6 h 0 0 retired plain\npc 0 00010004\n"
      ++ codes "reg 0 5 00020000\nt 7 h 0 0 issued read 2\nentry 0 2 R 1\nslot 0 read 2\n"
      ++ codes "t 8 g 1 q 0 granted read 2 from child 0 to parent\nslot 0\ntime 1 0.1\ndir 1 2 upread 0\n"
      ++ codes "requests 1 | read 2\nt 9 g 0 q 0 granted read 2 from child 0 to child 1\ntime 0 1\n"
      ++ codes "dir 0 2 E local 0\nrequests 1\ndir 2 2 E answering\ndown 2 | read 2 1\n"
      ++ codes "t 10 g 2 d granted read 2 from parent to child 0\n"
      ++ codes "leafreplies 2 | 2 00000005 00000000 00000000 00000000\ntime 2 1.3\ndown 2\n"
      ++ codes "t 11 g 2 r 0 granted data 2 from child 0 to parent\nleafreplies 2\ntime 2 1.4\ndir 2 2 S\n"
      ++ codes "replies 2 | 2 00000005 00000000 00000000 00000000\n"
      ++ codes "t 12 g 0 r 1 granted data 2 from child 1 to child 0\ntime 0 2\ndir 0 2 E\ndir 1 2 S upread 0\n"
      ++ codes "down 1 | data 2 2 00000005 00000000 00000000 00000000\nreplies 2\ncopy 2 bus 1 down\n"
      ++ codes "t 13 g 1 d granted data 2 from parent to child 0\n"
      ++ codes "entry 0 2 S 1 00000005 00000000 00000000 00000000\ntime 1 2.2\ndir 1 2 S\ndown 1\n"
      ++ codes "copy 2 leaf 0\nt 14 h 0 0 retired load 00020000 00000005\npc 0 00010008\nreg 0 7 00000005\n"
      ++ codes "t 15 h 0 0 retired plain\npc 0 00010018\nt 16 h 0 0 issued erase 2\n"
      ++ codes "entry 0 2 W 1 00000005 00000000 00000000 00000000\nslot 0 erase 2\n"
      ++ codes "t 17 g 1 q 0 granted erase 2 from child 0 to all\nslot 0\ntime 1 2.3\ndir 1 2 S uperase 0\n"
      ++ codes "requests 1 | erase 2\nt 18 g 0 q 0 granted erase 2 from child 0 to all\ntime 0 3\n"
      ++ codes "dir 0 2 E uperase 0\ndown 0 | exclusive 2\nrequests 1\ndir 2 2\ndown 2 | erase 2 3\n"
      ++ codes "t 19 g 0 d granted exclusive 2 from parent to child 0\ntime 0 4\ndir 0 2 E\ndown 0\n"
      ++ codes "dir 1 2 E uperase 0\ndown 1 | exclusive 2 4\n"
      ++ codes "t 20 g 1 d granted exclusive 2 from parent to child 0\n"
      ++ codes "entry 0 2 E 1 00000005 00000000 00000000 00000000\ntime 1 4.4\ndir 1 2 E\ndown 1\n"
      ++ codes "t 21 h 0 0 retired store 00020000 00000005 00000004\npc 0 0001001c\n"
      ++ codes "entry 0 2 E 1 00000004 00000000 00000000 00000000\nt 22 h 3 0 retired load 00020000 00000005\n"
      ++ codes "pc 3 00010010\nreg 3 8 00000005\nt 23 h 0 0 issued read 3\nentry 0 3 B 2\nslot 0 read 3\n"
      ++ codes "t 24 g 1 q 0 granted read 3 from child 0 to parent\nslot 0\ntime 1 4.5\ndir 1 3 upread 0\n"
      ++ codes "requests 1 | read 3\nt 25 g 0 q 0 granted read 3 from child 0 to child 1\ntime 0 5\n"
      ++ codes "dir 0 3 E local 0\nrequests 1\ndir 2 3 E answering\ndown 2 | erase 2 3 | read 3 5\n"
      ++ codes "t 26 g 2 d granted erase 2 from parent to all\nentry 2 2\nentry 3 2\ntime 2 3.5\n"
      ++ codes "down 2 | read 3 5\nt 27 g 2 d granted read 3 from parent to child 1\n"
      ++ codes "entry 3 3 S 0 00000000 00000000 00000000 00000000\n"
      ++ codes "leafreplies 3 | 3 00000000 00000000 00000000 00000000\ntime 2 5.6\ndown 2\n"
      ++ codes "t 28 g 2 r 1 granted data 3 from child 1 to parent\nleafreplies 3\ntime 2 5.7\ndir 2 3 S\n"
      ++ codes "replies 2 | 3 00000000 00000000 00000000 00000000\n"
      ++ codes "t 29 g 0 r 1 granted data 3 from child 1 to child 0\ntime 0 6\ndir 0 3 E\ndir 1 3 S upread 0\n"
      ++ codes "down 1 | data 3 6 00000000 00000000 00000000 00000000\nreplies 2\ncopy 3 bus 1 down\n"
      ++ codes "t 30 g 1 d granted data 3 from parent to child 0\n"
      ++ codes "entry 0 3 W 2 00000000 00000000 00000000 00000000\nslot 0 erase 3\ntime 1 6.6\ndir 1 3 S\n"
      ++ codes "down 1\ncopy 3 leaf 0\nt 31 g 1 q 0 granted erase 3 from child 0 to all\nslot 0\ntime 1 6.7\n"
      ++ codes "dir 1 3 S uperase 0\nrequests 1 | erase 3\nt 32 g 0 q 0 granted erase 3 from child 0 to all\n"
      ++ codes "time 0 7\ndir 0 3 E uperase 0\ndown 0 | exclusive 3\nrequests 1\ndir 2 3\ndown 2 | erase 3 7\n"
      ++ codes "t 33 g 0 d granted exclusive 3 from parent to child 0\ntime 0 8\ndir 0 3 E\ndown 0\n"
      ++ codes "dir 1 3 E uperase 0\ndown 1 | exclusive 3 8\n"
      ++ codes "t 34 g 1 d granted exclusive 3 from parent to child 0\n"
      ++ codes "entry 0 3 E 2 00000000 00000000 00000000 00000000\ntime 1 8.8\ndir 1 3 E\ndown 1\n"
      ++ codes "t 35 h 0 0 retired store 00020010 00000000 00000004\npc 0 00010020\n"
      ++ codes "entry 0 3 E 2 00000004 00000000 00000000 00000000\n"
      ++ codes "t 36 g 2 d granted erase 3 from parent to all\nentry 3 3\ntime 2 7.8\ndown 2\n"
      ++ codes "t 37 h 3 0 issued read 3\nentry 3 3 R 0\nslot 3 read 3\n"
      ++ codes "t 38 g 2 q 1 granted read 3 from child 1 to parent\nslot 3\ntime 2 7.9\ndir 2 3 upread 1\n"
      ++ codes "requests 2 | read 3\nt 39 g 0 q 1 granted read 3 from child 1 to child 0\ntime 0 9\n"
      ++ codes "dir 0 3 E local 1\ndir 1 3 E answering\ndown 1 | read 3 9\nrequests 2\n"
      ++ codes "t 40 g 1 d granted read 3 from parent to child 0\n"
      ++ codes "entry 0 3 S 2 00000004 00000000 00000000 00000000\n"
      ++ codes "leafreplies 0 | 3 00000004 00000000 00000000 00000000\ntime 1 9.9\ndown 1\n"
      ++ codes "t 41 g 1 r 0 granted data 3 from child 0 to parent\nleafreplies 0\ntime 1 9.10\ndir 1 3 S\n"
      ++ codes "replies 1 | 3 00000004 00000000 00000000 00000000\n"
      ++ codes "t 42 g 0 r 0 granted data 3 from child 0 to child 1\ntime 0 10\ndir 0 3 E\nreplies 1\n"
      ++ codes "dir 2 3 S upread 1\ndown 2 | data 3 10 00000004 00000000 00000000 00000000\n"
      ++ codes "t 43 g 2 d granted data 3 from parent to child 1\n"
      ++ codes "entry 3 3 S 0 00000004 00000000 00000000 00000000\ntime 2 10.10\ndir 2 3 S\ndown 2\n"
      ++ codes "t 44 h 3 0 retired load 00020010 00000004\npc 3 00010014\nreg 3 9 00000004\n"
      ++ codes "t 45 h 3 0 issued read 2\nentry 3 2 R 1\nslot 3 read 2\nddm 1\n"
      ++ codes "turns 46 retired 10 granted 30 busy 0\nhart 0 running pc 00010020 done 5\n"
      ++ codes "regs 0 00000000 00030000 00000000 00000000 00020000 00000000 00000005 00000000 00000000 "
      ++ codes "00000000 00000004 00000000 00000000 00000000 00000000 00000000 00000000 00000000 00000000 "
      ++ codes "00000000 00000000 00000000 00000000 00000000 00000000 00000000 00000000 00000000 00000000 "
      ++ codes "00000000 00000000\n"
      ++ codes "out 0 -\nhart 1 running pc 00010000 done 0\n"
      ++ codes "regs 1 00000000 00030000 00000000 00000000 00000000 00000000 00000000 00000000 00000000 "
      ++ codes "00000001 00000004 00000000 00000000 00000000 00000000 00000000 00000000 00000000 00000000 "
      ++ codes "00000000 00000000 00000000 00000000 00000000 00000000 00000000 00000000 00000000 00000000 "
      ++ codes "00000000 00000000\n"
      ++ codes "out 1 -\nhart 2 running pc 00010000 done 0\n"
      ++ codes "regs 2 00000000 00030000 00000000 00000000 00000000 00000000 00000000 00000000 00000000 "
      ++ codes "00000002 00000004 00000000 00000000 00000000 00000000 00000000 00000000 00000000 00000000 "
      ++ codes "00000000 00000000 00000000 00000000 00000000 00000000 00000000 00000000 00000000 00000000 "
      ++ codes "00000000 00000000\n"
      ++ codes "out 2 -\nhart 3 running pc 00010014 done 5\n"
      ++ codes "regs 3 00000000 00030000 00000000 00000000 00020000 00000000 00000005 00000005 00000004 "
      ++ codes "00000003 00000004 00000000 00000000 00000000 00000000 00000000 00000000 00000000 00000000 "
      ++ codes "00000000 00000000 00000000 00000000 00000000 00000000 00000000 00000000 00000000 00000000 "
      ++ codes "00000000 00000000\n"
      ++ codes "out 3 -\nbus 0 read 3 data 3 erase 2 exclusive 2 out 0 inject 0\n"
      ++ codes "bus 1 read 3 data 3 erase 2 exclusive 2 out 0 inject 0\n"
      ++ codes "bus 2 read 4 data 4 erase 2 exclusive 0 out 0 inject 0\n"
      ++ codes "item 0 00010000 000202b7 0002a383 00050863 0002a403 leaf 0 way 0 E---\n"
      ++ codes "item 1 00010010 0102a483 0002a603 00b2a023 00b2a823 leaf 1 way 0 -E--\n"
      ++ codes "item 2 00020000 00000004 00000000 00000000 00000000 leaf 0 way 1 E--R\n"
      ++ codes "item 3 00020010 00000004 00000000 00000000 00000000 leaf 0 way 2 S--S\n"
      ++ codes "op 0 0.0.0.0.0 00010000 plain\nop 3 0.1.0.1.0 00010000 plain\n"
      ++ codes "op 3 0.1.2.1.1 00010004 load 00020000 00000005\nop 3 0.1.2.1.2 00010008 plain\n"
      ++ codes "op 3 1.1.4.1.3 0001000c load 00020000 00000005\nop 0 2.0.2.0.1 00010004 load 00020000 00000005\n"
      ++ codes "op 0 2.0.2.0.2 00010008 plain\nop 0 4.0.4.0.3 00010018 store 00020000 00000005 00000004\n"
      ++ codes "op 0 8.0.8.0.4 0001001c store 00020010 00000000 00000004\n"
      ++ codes "op 3 10.1.10.1.4 00010010 load 00020010 00000004\nend\n";
}

-- A hart puts one byte out.
abbrev pub output : Example
output = record {
  tree = tree_of ((1 ∷ []) ∷ []) 4 16;
  image = program (0x3e800893 ∷ 0x04800513 ∷ 0x00000073 ∷ []) (0x00000000 ∷ []) 16;
  turns = Hart 0 0 ∷ Hart 0 0 ∷ Hart 0 0 ∷ Hart 0 0 ∷ [];
  film =
      codes "film 1\ntree 1 1\nsizes 4 1 1 1 16 16 16 16\nitem 0 00010000\nitem 1 00020000 w\npc 0 00010000\n"
      ++ codes "reg 0 2 00030000\nreg 0 11 00000001\nentry 0 0 E 0 3e800893 04800513 00000073 00000000\n"
      ++ codes "entry 0 1 E 1 00000000 00000000 00000000 00000000\ntime 0 0\ndir 0 0 E\ndir 0 1 E\n"
      ++ codes "copy 0 leaf 0\ncopy 1 leaf 0\nt 0 h 0 0 retired plain\npc 0 00010004\nreg 0 17 000003e8\n"
      ++ codes "t 1 h 0 0 retired plain\npc 0 00010008\nreg 0 10 00000048\nt 2 h 0 0 retired put 48\n"
      ++ codes "pc 0 0001000c\nt 3 h 0 0 halted nofetch 0001000c\nhalt 0 nofetch 0001000c\nddm 1\n"
      ++ codes "turns 4 retired 3 granted 0 busy 0\nhart 0 nofetch 0001000c pc 0001000c done 3\n"
      ++ codes "regs 0 00000000 00030000 00000000 00000000 00000000 00000000 00000000 00000000 00000000 "
      ++ codes "00000048 00000001 00000000 00000000 00000000 00000000 00000000 000003e8 00000000 00000000 "
      ++ codes "00000000 00000000 00000000 00000000 00000000 00000000 00000000 00000000 00000000 00000000 "
      ++ codes "00000000 00000000\n"
      ++ codes "out 0 48\nbus 0 read 0 data 0 erase 0 exclusive 0 out 0 inject 0\n"
      ++ codes "item 0 00010000 3e800893 04800513 00000073 00000000 leaf 0 way 0 E\n"
      ++ codes "item 1 00020000 00000000 00000000 00000000 00000000 leaf 0 way 1 E\nop 0 0.0.0 00010000 plain\n"
      ++ codes "op 0 0.0.1 00010004 plain\nop 0 0.0.2 00010008 put 48\nend\n";
}
