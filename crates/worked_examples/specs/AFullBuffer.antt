-- A victim goes to the buffer; a second one finds it full, until the copy in it leaves.
use Rattle.std.specs.Prelude.{◌≡◌, ℕ, List, [], ◌∷◌, ◌++◌, codes}
use Rattle.worked_examples.specs.TreeModel.Start.Sources.{ImageValue, TreeValue}
use Rattle.worked_examples.specs.Programs.{program, tree_of, trace_in, completed_keys_in, ended}

abbrev pub tree : TreeValue
tree = tree_of ((4 ∷ []) ∷ []) 1 1 1 1

abbrev pub image : ImageValue
image = program (0x000202b7 ∷ 0x0002a383 ∷ 0x0102a403 ∷ 0x00000073 ∷ []) (5 ∷ 0 ∷ 0 ∷ 0 ∷ 6 ∷ 0 ∷ 0 ∷ 0 ∷ []) 32

-- the lines of the turns until a copy leaves the buffer, or finds no room
abbrev pub until_out : List ℕ
until_out = codes "h 0 0\nh 0 0\ng 0 q 0\ng 0 r 1\nh 0 0\nh 0 0\ng 0 l 0 0\n"

-- on four leaves
abbrev pub turns : List ℕ
turns = ended (until_out ++ codes "h 0 0\n")

-- on three leaves, which are all full
abbrev pub no_room : List ℕ
no_room = ended until_out

-- what both print until the buffer is found full
abbrev pub first_lines : List ℕ
first_lines =
    codes "t 0 h 0 0 retired plain\nt 1 h 0 0 issued read 1\n"
    ++ codes "t 2 g 0 q 0 granted read 1 from child 0 to child 1\n"
    ++ codes "t 3 g 0 r 1 granted data 1 from child 1 to child 0\n"
    ++ codes "t 4 h 0 0 retired load 00020000 00000005\nt 5 h 0 0 busy buffer 0\n"

pub record AFullBuffer : Type 0 where
  pub trace :
      trace_in tree image turns
      ≡ first_lines ++ codes "t 6 g 0 l 0 0 granted inject 0 from child 0 to child 3\nt 7 h 0 0 issued read 2\n"
  pub keys : completed_keys_in tree image turns ≡ codes "0.0.0\n2.0.1\n"
  pub no_room_trace :
      trace_in (tree_of ((3 ∷ []) ∷ []) 1 1 1 1) image no_room
      ≡ first_lines
      ++ codes "t 6 g 0 l 0 0 busy room 0\n"
