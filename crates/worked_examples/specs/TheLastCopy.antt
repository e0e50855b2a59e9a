-- Copies that find no room are parked; an out of a copy that isn't the last is dropped, and the last copy becomes an inject.
use Rattle.std.specs.Prelude.{◌≡◌, ℕ, List, [], ◌∷◌, ◌++◌, codes}
use Rattle.worked_examples.specs.TreeModel.Start.Sources.{ImageValue, TreeValue}
use Rattle.worked_examples.specs.Programs.{program, tree_of, with_lists, trace_in, counts_in, traffic_in, item_in, keys_in}

abbrev pub tree : TreeValue
tree = with_lists 2 (tree_of ((2 ∷ []) ∷ (1 ∷ 1 ∷ []) ∷ []) 1 1 1 1)

abbrev pub image : ImageValue
image = program (0x000202b7 ∷ 0x0002a383 ∷ 0x00010337 ∷ 0x00032403 ∷ []) (0x00000005 ∷ []) 16

-- all 28 turns
abbrev pub turns : List ℕ
turns =
    codes "h 0 0\nh 0 0\ng 1 q 0\ng 0 q 0\ng 2 d\ng 2 r 0\ng 0 r 1\ng 1 d\nh 0 0\ng 1 l 0 0\n"
    ++ codes "g 0 l 0 0\ng 2 d\ng 0 l 1 0\ng 1 d\nh 0 0\nh 0 0\ng 1 q 0\ng 1 l 0 0\ng 1 d\nh 0 0\n"
    ++ codes "g 0 l 0 0\nh 1 0\nh 1 0\nh 1 0\nh 1 0\ng 2 l 0 0\ng 0 l 1 0\ng 1 d\nend\n"

pub record TheLastCopy : Type 0 where
  pub trace :
      trace_in tree image turns
      ≡ codes "t 0 h 0 0 retired plain\nt 1 h 0 0 issued read 1\n"
      ++ codes "t 2 g 1 q 0 granted read 1 from child 0 to parent\n"
      ++ codes "t 3 g 0 q 0 granted read 1 from child 0 to child 1\n"
      ++ codes "t 4 g 2 d granted read 1 from parent to child 0\n"
      ++ codes "t 5 g 2 r 0 granted data 1 from child 0 to parent\n"
      ++ codes "t 6 g 0 r 1 granted data 1 from child 1 to child 0\n"
      ++ codes "t 7 g 1 d granted data 1 from parent to child 0\nt 8 h 0 0 retired load 00020000 00000005\n"
      ++ codes "t 9 g 1 l 0 0 granted inject 0 from child 0 to parking\n"
      ++ codes "t 10 g 0 l 0 0 granted inject 0 from child 0 to child 1\n"
      ++ codes "t 11 g 2 d granted inject 0 from parent to parking\n"
      ++ codes "t 12 g 0 l 1 0 granted inject 0 from child 1 to child 0\n"
      ++ codes "t 13 g 1 d granted inject 0 from parent to parking\nt 14 h 0 0 retired plain\n"
      ++ codes "t 15 h 0 0 issued read 0\nt 16 g 1 q 0 granted read 0 from child 0 to parking\n"
      ++ codes "t 17 g 1 l 0 0 granted out 1 from child 0 to parking\n"
      ++ codes "t 18 g 1 d granted data 0 from parent to child 0\n"
      ++ codes "t 19 h 0 0 retired load 00010000 000202b7\n"
      ++ codes "t 20 g 0 l 0 0 granted out 1 from child 0 to gone\nt 21 h 1 0 retired plain\n"
      ++ codes "t 22 h 1 0 retired load 00020000 00000005\nt 23 h 1 0 retired plain\n"
      ++ codes "t 24 h 1 0 issued read 0\nt 25 g 2 l 0 0 granted out 1 from child 0 to parking\n"
      ++ codes "t 26 g 0 l 1 0 granted inject 1 from child 1 to child 0\n"
      ++ codes "t 27 g 1 d granted inject 1 from parent to parking\n"
  pub counts : counts_in tree image turns ≡ codes "turns 28 retired 7 granted 18 busy 0\n"
  pub traffic :
      traffic_in tree image turns
      ≡ codes "bus 0 read 1 data 1 erase 0 exclusive 0 out 1 inject 3\n"
      ++ codes "bus 1 read 2 data 2 erase 0 exclusive 0 out 1 inject 3\n"
      ++ codes "bus 2 read 1 data 1 erase 0 exclusive 0 out 1 inject 1\n"
  pub first_item :
      item_in 0 tree image turns
      ≡ codes "item 0 00010000 000202b7 0002a383 00010337 00032403 leaf 0 way 0 SR\n"
  pub second_item :
      item_in 1 tree image turns
      ≡ codes "item 1 00020000 00000005 00000000 00000000 00000000 bus 1 parking 0 --\n"
  pub keys :
      keys_in tree image turns
      ≡ codes "0.0.0.0.0\n2.0.2.0.1\n3.1.3.0.0\n3.1.3.0.1\n3.1.3.0.2\n4.0.4.0.2\n4.0.7.0.3\n"
