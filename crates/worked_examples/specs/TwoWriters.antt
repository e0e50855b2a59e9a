-- Two harts store to one word: the second to ask is served first.
use Rattle.std.specs.Prelude.{◌≡◌, ℕ, List, [], ◌∷◌, ◌++◌, codes}
use Rattle.worked_examples.specs.TreeModel.Start.Sources.{ImageValue, TreeValue}
use Rattle.worked_examples.specs.Programs.{program, tree_of, trace_in, counts_in, traffic_in, item_in, letters_in, keys_in, ended}

abbrev pub tree : TreeValue
tree = tree_of ((2 ∷ []) ∷ []) 4 1 1 1

abbrev pub image : ImageValue
image = program (0x000202b7 ∷ 0x0002a383 ∷ 0x00150313 ∷ 0x0062a023 ∷ []) (0x00000005 ∷ []) 16

-- the lines of the turns until the erase of child 1 is granted
abbrev pub until_erase : List ℕ
until_erase = codes "h 0 0\nh 0 0\ng 0 q 0\ng 0 r 1\nh 0 0\nh 0 0\nh 0 0\nh 1 0\nh 1 0\nh 1 0\nh 1 0\ng 0 q 1\n"

-- and until leaf 0 has the data again
abbrev pub until_data : List ℕ
until_data = until_erase ++ codes "g 0 q 0\ng 0 d\nh 1 0\ng 0 q 0\ng 0 r 1\n"

-- all twenty turns
abbrev pub turns : List ℕ
turns = ended (until_data ++ codes "g 0 q 0\ng 0 d\nh 0 0\n")

pub record TwoWriters : Type 0 where
  pub trace :
      trace_in tree image turns
      ≡ codes "t 0 h 0 0 retired plain\nt 1 h 0 0 issued read 1\n"
      ++ codes "t 2 g 0 q 0 granted read 1 from child 0 to child 1\n"
      ++ codes "t 3 g 0 r 1 granted data 1 from child 1 to child 0\n"
      ++ codes "t 4 h 0 0 retired load 00020000 00000005\nt 5 h 0 0 retired plain\n"
      ++ codes "t 6 h 0 0 issued erase 1\nt 7 h 1 0 retired plain\n"
      ++ codes "t 8 h 1 0 retired load 00020000 00000005\nt 9 h 1 0 retired plain\n"
      ++ codes "t 10 h 1 0 issued erase 1\nt 11 g 0 q 1 granted erase 1 from child 1 to all\n"
      ++ codes "t 12 g 0 q 0 busy item 0 1 uperase 1\n"
      ++ codes "t 13 g 0 d granted exclusive 1 from parent to child 1\n"
      ++ codes "t 14 h 1 0 retired store 00020000 00000005 00000002\n"
      ++ codes "t 15 g 0 q 0 granted read 1 from child 0 to child 1\n"
      ++ codes "t 16 g 0 r 1 granted data 1 from child 1 to child 0\n"
      ++ codes "t 17 g 0 q 0 granted erase 1 from child 0 to all\n"
      ++ codes "t 18 g 0 d granted exclusive 1 from parent to child 0\n"
      ++ codes "t 19 h 0 0 retired store 00020000 00000002 00000001\n"
  pub counts : counts_in tree image turns ≡ codes "turns 20 retired 8 granted 8 busy 1\n"
  pub traffic : traffic_in tree image turns ≡ codes "bus 0 read 2 data 2 erase 2 exclusive 2 out 0 inject 0\n"
  -- leaf 0 lost the item while it waited: it is reading-and-waiting
  pub reading_and_waiting : letters_in 1 tree image (ended until_erase) ≡ codes "BW"
  -- leaf 0 is waiting again
  pub waiting : letters_in 1 tree image (ended until_data) ≡ codes "WS"
  pub item : item_in 1 tree image turns ≡ codes "item 1 00020000 00000001 00000000 00000000 00000000 leaf 0 way 1 E-\n"
  -- the keys of the witness
  pub keys : keys_in tree image turns ≡ codes "0.0.0\n2.0.1\n2.0.2\n2.1.0\n2.1.1\n2.1.2\n4.1.3\n8.0.3\n"
