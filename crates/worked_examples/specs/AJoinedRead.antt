-- A read joins a read that is under way, and the data goes to both.
use Rattle.std.specs.Prelude.{◌≡◌, ℕ, List, [], ◌∷◌, ◌++◌, codes}
use Rattle.worked_examples.specs.TreeModel.Start.Sources.{TreeValue}
use Rattle.worked_examples.specs.Programs.{tree_of, trace_in, letters_in, completed_keys_in}
use Rattle.worked_examples.specs.OneRead.{image}

abbrev pub tree : TreeValue
tree = tree_of ((3 ∷ []) ∷ []) 4 1 1 1

-- eleven turns
abbrev pub turns : List ℕ
turns = codes "h 0 0\nh 0 0\nh 2 0\nh 2 0\ng 0 q 0\ng 0 q 2\nh 2 0\ng 0 d\ng 0 r 1\nh 0 0\nh 2 0\nend\n"

pub record AJoinedRead : Type 0 where
  pub trace :
      trace_in tree image turns
      ≡ codes "t 0 h 0 0 retired plain\nt 1 h 0 0 issued read 1\nt 2 h 2 0 retired plain\n"
      ++ codes "t 3 h 2 0 issued read 1\nt 4 g 0 q 0 granted read 1 from child 0 to child 1\n"
      ++ codes "t 5 g 0 q 2 granted read 1 from child 2 to joined\nt 6 h 2 0 waiting 1\nt 7 g 0 d empty\n"
      ++ codes "t 8 g 0 r 1 granted data 1 from child 1 to readers\n"
      ++ codes "t 9 h 0 0 retired load 00020000 00000005\nt 10 h 2 0 retired load 00020000 00000005\n"
  -- the keys of the loads
  pub keys : completed_keys_in tree image turns ≡ codes "0.0.0\n0.2.0\n3.0.1\n3.2.1\n"
  pub letters : letters_in 1 tree image turns ≡ codes "SSS"
