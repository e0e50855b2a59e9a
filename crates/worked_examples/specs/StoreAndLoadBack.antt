-- One leaf stores 7, loads it back and exits with it.
use Rattle.std.specs.Prelude.{◌≡◌, ℕ, List, [], ◌∷◌, ◌++◌, codes}
use Rattle.worked_examples.specs.TreeModel.Start.Sources.{ImageValue, TreeValue}
use Rattle.worked_examples.specs.Programs.{program, tree_of, with_stacks, with_wide_items, trace_in, report_in}

abbrev pub tree : TreeValue
tree = with_stacks (tree_of ((1 ∷ []) ∷ []) 4 1 1 1)

abbrev pub image : ImageValue
image = program (0x000202b7 ∷ 0x00700313 ∷ 0x0062a023 ∷ 0x0002a383 ∷ 0x05d00893 ∷ 0x00038513 ∷ 0x00000073 ∷ []) [] 16

-- eight turns of the hart
abbrev pub turns : List ℕ
turns = codes "h 0 0\nh 0 0\nh 0 0\nh 0 0\nh 0 0\nh 0 0\nh 0 0\nh 0 0\nend\n"

-- the report's lines of the hart and of bus 0
abbrev pub first_lines : List ℕ
first_lines =
    codes "ddm 1\nturns 8 retired 6 granted 0 busy 0\nhart 0 exit 7 pc 00010018 done 6\n"
    ++ codes "regs 0 00000000 00030010 00000000 00000000 00020000 00000007 00000007 00000000 00000000 "
    ++ codes "00000007 00000001 00000000 00000000 00000000 00000000 00000000 0000005d 00000000 00000000 "
    ++ codes "00000000 00000000 00000000 00000000 00000000 00000000 00000000 00000000 00000000 00000000 "
    ++ codes "00000000 00000000\nout 0 -\nbus 0 read 0 data 0 erase 0 exclusive 0 out 0 inject 0\n"

-- its lines of the items
abbrev pub item_lines : List ℕ
item_lines =
    codes "item 0 00010000 000202b7 00700313 0062a023 0002a383 leaf 0 way 0 E\n"
    ++ codes "item 1 00010010 05d00893 00038513 00000073 00000000 leaf 0 way 1 E\n"
    ++ codes "item 2 00020000 00000007 00000000 00000000 00000000 leaf 0 way 2 E\n"
    ++ codes "item 3 00030000 00000000 00000000 00000000 00000000 leaf 0 way 3 E\n"

-- its lines of the operations, and its end
abbrev pub last_lines : List ℕ
last_lines =
    codes "op 0 0.0.0 00010000 plain\nop 0 0.0.1 00010004 plain\n"
    ++ codes "op 0 0.0.2 00010008 store 00020000 00000000 00000007\n"
    ++ codes "op 0 0.0.3 0001000c load 00020000 00000007\nop 0 0.0.4 00010010 plain\n"
    ++ codes "op 0 0.0.5 00010014 plain\nend\n"

pub record StoreAndLoadBack : Type 0 where
  -- the whole report
  pub report : report_in tree image turns ≡ first_lines ++ item_lines ++ last_lines
  -- the seventh and the eighth turn both answer that the hart has exited
  pub trace :
      trace_in tree image turns
      ≡ codes "t 0 h 0 0 retired plain\nt 1 h 0 0 retired plain\n"
      ++ codes "t 2 h 0 0 retired store 00020000 00000000 00000007\n"
      ++ codes "t 3 h 0 0 retired load 00020000 00000007\nt 4 h 0 0 retired plain\nt 5 h 0 0 retired plain\n"
      ++ codes "t 6 h 0 0 halted exit 7\nt 7 h 0 0 halted exit 7\n"
  -- the report of no turns
  pub no_turns :
      report_in tree image (codes "end\n")
      ≡ codes "ddm 1\nturns 0 retired 0 granted 0 busy 0\nhart 0 running pc 00010000 done 0\n"
      ++ codes "regs 0 00000000 00030010 00000000 00000000 00000000 00000000 00000000 00000000 00000000 "
      ++ codes "00000000 00000001 00000000 00000000 00000000 00000000 00000000 00000000 00000000 00000000 "
      ++ codes "00000000 00000000 00000000 00000000 00000000 00000000 00000000 00000000 00000000 00000000 "
      ++ codes "00000000 00000000\nout 0 -\nbus 0 read 0 data 0 erase 0 exclusive 0 out 0 inject 0\n"
      ++ codes "item 0 00010000 000202b7 00700313 0062a023 0002a383 leaf 0 way 0 E\n"
      ++ codes "item 1 00010010 05d00893 00038513 00000073 00000000 leaf 0 way 1 E\n"
      ++ codes "item 2 00020000 00000000 00000000 00000000 00000000 leaf 0 way 2 E\n"
      ++ codes "item 3 00030000 00000000 00000000 00000000 00000000 leaf 0 way 3 E\nend\n"
  -- items of 64 bytes: three of them, and all other lines the same
  pub wide_items :
      report_in (with_wide_items tree) image turns
      ≡ first_lines
      ++ codes "item 0 00010000 000202b7 00700313 0062a023 0002a383 05d00893 00038513 00000073 00000000 "
      ++ codes "00000000 00000000 00000000 00000000 00000000 00000000 00000000 00000000 leaf 0 way 0 E\n"
      ++ codes "item 1 00020000 00000007 00000000 00000000 00000000 00000000 00000000 00000000 00000000 "
      ++ codes "00000000 00000000 00000000 00000000 00000000 00000000 00000000 00000000 leaf 0 way 1 E\n"
      ++ codes "item 2 00030000 00000000 00000000 00000000 00000000 00000000 00000000 00000000 00000000 "
      ++ codes "00000000 00000000 00000000 00000000 00000000 00000000 00000000 00000000 leaf 0 way 2 E\n"
      ++ last_lines
  -- under four buses: keys of nine numbers
  pub depth_four :
      report_in (record tree { levels = (1 ∷ []) ∷ (1 ∷ []) ∷ (1 ∷ []) ∷ (1 ∷ []) ∷ [] }) image turns
      ≡ first_lines
      ++ codes "bus 1 read 0 data 0 erase 0 exclusive 0 out 0 inject 0\n"
      ++ codes "bus 2 read 0 data 0 erase 0 exclusive 0 out 0 inject 0\n"
      ++ codes "bus 3 read 0 data 0 erase 0 exclusive 0 out 0 inject 0\n"
      ++ item_lines
      ++ codes "op 0 0.0.0.0.0.0.0.0.0 00010000 plain\nop 0 0.0.0.0.0.0.0.0.1 00010004 plain\n"
      ++ codes "op 0 0.0.0.0.0.0.0.0.2 00010008 store 00020000 00000000 00000007\n"
      ++ codes "op 0 0.0.0.0.0.0.0.0.3 0001000c load 00020000 00000007\n"
      ++ codes "op 0 0.0.0.0.0.0.0.0.4 00010010 plain\nop 0 0.0.0.0.0.0.0.0.5 00010014 plain\nend\n"
