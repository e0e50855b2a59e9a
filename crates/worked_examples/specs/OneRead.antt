-- A hart loads a word of an item that another leaf holds.
use Rattle.std.specs.Prelude.{◌≡◌, ℕ, List, [], ◌∷◌, ◌++◌, codes}
use Rattle.worked_examples.specs.TreeModel.Start.Sources.{ImageValue, TreeValue}
use Rattle.worked_examples.specs.Programs.{program, tree_of, trace_in, counts_in, traffic_in, item_in, operations_in}

abbrev pub tree : TreeValue
tree = tree_of ((2 ∷ []) ∷ []) 4 1 1 1

abbrev pub image : ImageValue
image = program (0x000202b7 ∷ 0x0002a383 ∷ 0x05d00893 ∷ 0x00000073 ∷ []) (0x00000005 ∷ []) 16

-- five turns
abbrev pub turns : List ℕ
turns = codes "h 0 0\nh 0 0\ng 0 q 0\ng 0 r 1\nh 0 0\nend\n"

pub record OneRead : Type 0 where
  -- the read is granted, the other leaf gives its data
  pub trace :
      trace_in tree image turns
      ≡ codes "t 0 h 0 0 retired plain\nt 1 h 0 0 issued read 1\n"
      ++ codes "t 2 g 0 q 0 granted read 1 from child 0 to child 1\n"
      ++ codes "t 3 g 0 r 1 granted data 1 from child 1 to child 0\n"
      ++ codes "t 4 h 0 0 retired load 00020000 00000005\n"
  pub counts : counts_in tree image turns ≡ codes "turns 5 retired 2 granted 2 busy 0\n"
  pub traffic : traffic_in tree image turns ≡ codes "bus 0 read 1 data 1 erase 0 exclusive 0 out 0 inject 0\n"
  -- both leaves hold the item Shared
  pub item : item_in 1 tree image turns ≡ codes "item 1 00020000 00000005 00000000 00000000 00000000 leaf 0 way 1 SS\n"
  pub operations :
      operations_in tree image turns
      ≡ codes "op 0 0.0.0 00010000 plain\nop 0 2.0.1 00010004 load 00020000 00000005\n"
