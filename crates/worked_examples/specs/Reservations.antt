-- An LR and an SC: the reservation is kept, or lost to another hart.
use Rattle.std.specs.Prelude.{◌≡◌, ℕ, List, [], ◌∷◌, ◌++◌, codes}
use Rattle.worked_examples.specs.TreeModel.Start.Sources.{ImageValue, TreeValue}
use Rattle.worked_examples.specs.Programs.{program, tree_of, trace_in, completed_keys_in}

abbrev pub tree : TreeValue
tree = tree_of ((2 ∷ []) ∷ []) 4 1 1 1

abbrev pub image : ImageValue
image = program (0x000202b7 ∷ 0x1002a3af ∷ 0x1872a32f ∷ []) (0x00000005 ∷ []) 16

-- hart 1 alone
abbrev pub kept : List ℕ
kept = codes "h 1 0\nh 1 0\nh 1 0\nend\n"

-- hart 0 stores in between
abbrev pub lost : List ℕ
lost = codes "h 1 0\nh 1 0\nh 0 0\nh 0 0\ng 0 q 0\ng 0 r 1\nh 0 0\nh 0 0\ng 0 q 0\ng 0 d\nh 0 0\nh 1 0\nend\n"

pub record Reservations : Type 0 where
  pub trace_kept :
      trace_in tree image kept
      ≡ codes
      "t 0 h 1 0 retired plain\nt 1 h 1 0 retired lr 00020000 00000005\nt 2 h 1 0 retired scok 00020000 00000005 00000005\n"
  pub trace_lost :
      trace_in tree image lost
      ≡ codes "t 0 h 1 0 retired plain\nt 1 h 1 0 retired lr 00020000 00000005\nt 2 h 0 0 retired plain\n"
      ++ codes "t 3 h 0 0 issued read 1\nt 4 g 0 q 0 granted read 1 from child 0 to child 1\n"
      ++ codes "t 5 g 0 r 1 granted data 1 from child 1 to child 0\nt 6 h 0 0 retired lr 00020000 00000005\n"
      ++ codes "t 7 h 0 0 issued erase 1\nt 8 g 0 q 0 granted erase 1 from child 0 to all\n"
      ++ codes "t 9 g 0 d granted exclusive 1 from parent to child 0\n"
      ++ codes "t 10 h 0 0 retired scok 00020000 00000005 00000005\nt 11 h 1 0 retired scfail 00020000\n"
  pub keys_lost : completed_keys_in tree image lost ≡ codes "0.1.0\n0.1.1\n0.0.0\n2.0.1\n4.0.2\n4.1.2\n"
