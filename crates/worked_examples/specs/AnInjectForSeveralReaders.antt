-- Two leaves read an item that comes to their bus as an inject: both get data.
use Rattle.std.specs.Prelude.{◌≡◌, ℕ, List, [], ◌∷◌, ◌++◌, codes}
use Rattle.worked_examples.specs.TreeModel.Start.Sources.{ImageValue, TreeValue}
use Rattle.worked_examples.specs.Programs.{program, tree_of, trace_in, counts_in, item_in, completed_keys_in}

abbrev pub tree : TreeValue
tree = tree_of ((2 ∷ []) ∷ (1 ∷ 2 ∷ []) ∷ []) 1 1 1 1

abbrev pub image : ImageValue
image = program (0x000202b7 ∷ 0x00051463 ∷ 0x0002a383 ∷ 0x00010337 ∷ 0x00032403 ∷ []) (0x00000005 ∷ []) 16

-- all eighteen turns
abbrev pub turns : List ℕ
turns =
    codes "h 0 0\nh 0 0\nh 0 0\nh 1 0\nh 1 0\nh 1 0\nh 1 0\nh 2 0\nh 2 0\nh 2 0\nh 2 0\ng 1 l 0 0\n"
    ++ codes "g 2 q 0\ng 2 q 1\ng 0 l 0 0\ng 2 d\nh 1 0\nh 2 0\nend\n"

pub record AnInjectForSeveralReaders : Type 0 where
  pub trace :
      trace_in tree image turns
      ≡ codes "t 0 h 0 0 retired plain\nt 1 h 0 0 retired plain\nt 2 h 0 0 issued read 2\n"
      ++ codes "t 3 h 1 0 retired plain\nt 4 h 1 0 retired plain\nt 5 h 1 0 retired plain\n"
      ++ codes "t 6 h 1 0 issued read 0\nt 7 h 2 0 retired plain\nt 8 h 2 0 retired plain\n"
      ++ codes "t 9 h 2 0 retired plain\nt 10 h 2 0 issued read 0\n"
      ++ codes "t 11 g 1 l 0 0 granted inject 0 from child 0 to parking\n"
      ++ codes "t 12 g 2 q 0 granted read 0 from child 0 to parent\n"
      ++ codes "t 13 g 2 q 1 granted read 0 from child 1 to joined\n"
      ++ codes "t 14 g 0 l 0 0 granted inject 0 from child 0 to child 1\n"
      ++ codes "t 15 g 2 d granted inject 0 from parent to readers\n"
      ++ codes "t 16 h 1 0 retired load 00010000 000202b7\nt 17 h 2 0 retired load 00010000 000202b7\n"
  pub counts : counts_in tree image turns ≡ codes "turns 18 retired 10 granted 5 busy 0\n"
  pub item : item_in 0 tree image turns ≡ codes "item 0 00010000 000202b7 00051463 0002a383 00010337 leaf 1 way 0 -SS\n"
  pub keys :
      completed_keys_in tree image turns
      ≡ codes
      "0.0.0.0.0\n0.0.0.0.1\n0.1.0.0.0\n0.1.0.0.1\n0.1.0.0.2\n0.1.0.1.0\n0.1.0.1.1\n0.1.0.1.2\n1.1.3.0.3\n1.1.3.1.3\n"
