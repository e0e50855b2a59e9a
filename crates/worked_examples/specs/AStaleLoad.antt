-- A load of the old word is later in turns than the store, and earlier in the witness. Then the old word can't be read after the flag.
use Rattle.std.specs.Prelude.{◌≡◌, ℕ, List, [], ◌∷◌, ◌++◌, codes}
use Rattle.worked_examples.specs.TreeModel.Start.Sources.{ImageValue, TreeValue}
use Rattle.worked_examples.specs.Programs.{program, tree_of, with_down, trace_in, completed_keys_in, ended}

abbrev pub tree : TreeValue
tree = tree_of ((2 ∷ []) ∷ (2 ∷ 2 ∷ []) ∷ []) 4 1 1 1

abbrev pub image : ImageValue
image =
    program
    (0x000202b7 ∷ 0x0002a383 ∷ 0x00050863 ∷ 0x0002a403 ∷ 0x0102a483 ∷ 0x0002a603 ∷ 0x00b2a023 ∷ 0x00b2a823 ∷ [])
    (0x00000005 ∷ []) 32

-- the lines of the turns until the stale load
abbrev pub until_load : List ℕ
until_load =
    codes "h 3 0\nh 3 0\ng 2 q 1\ng 2 r 0\nh 3 0\nh 3 0\nh 0 0\nh 0 0\ng 1 q 0\ng 0 q 0\ng 2 d\n"
    ++ codes "g 2 r 0\ng 0 r 1\ng 1 d\nh 0 0\nh 0 0\nh 0 0\ng 1 q 0\ng 0 q 0\ng 0 d\ng 1 d\nh 0 0\nh 3 0\n"

-- and until bus 2 has taken the erase
abbrev pub until_erase : List ℕ
until_erase = until_load ++ codes "h 0 0\ng 1 q 0\ng 0 q 0\ng 2 d\n"

-- the schedule that ends with the stale load
abbrev pub turns : List ℕ
turns = ended until_load

-- one in which hart 3 then reads the flag and asks for the word again
abbrev pub longer : List ℕ
longer =
    ended (
    until_erase
    ++ codes "g 2 d\ng 2 r 1\ng 0 r 1\ng 1 d\ng 1 q 0\ng 0 q 0\ng 0 d\ng 1 d\nh 0 0\ng 2 d\nh 3 0\n"
    ++ codes "g 2 q 1\ng 0 q 1\ng 1 d\ng 1 r 0\ng 0 r 0\ng 2 d\nh 3 0\nh 3 0\n")

-- one for a down list of one place, where the read waits until the erase was taken
abbrev pub short : List ℕ
short = ended (until_erase ++ codes "g 0 q 0\n")

-- what all three print first
abbrev pub first_lines : List ℕ
first_lines =
    codes "t 0 h 3 0 retired plain\nt 1 h 3 0 issued read 2\n"
    ++ codes "t 2 g 2 q 1 granted read 2 from child 1 to child 0\n"
    ++ codes "t 3 g 2 r 0 granted data 2 from child 0 to child 1\n"
    ++ codes "t 4 h 3 0 retired load 00020000 00000005\nt 5 h 3 0 retired plain\nt 6 h 0 0 retired plain\n"
    ++ codes "t 7 h 0 0 issued read 2\nt 8 g 1 q 0 granted read 2 from child 0 to parent\n"
    ++ codes "t 9 g 0 q 0 granted read 2 from child 0 to child 1\n"
    ++ codes "t 10 g 2 d granted read 2 from parent to child 0\n"
    ++ codes "t 11 g 2 r 0 granted data 2 from child 0 to parent\n"
    ++ codes "t 12 g 0 r 1 granted data 2 from child 1 to child 0\n"
    ++ codes "t 13 g 1 d granted data 2 from parent to child 0\n"
    ++ codes "t 14 h 0 0 retired load 00020000 00000005\nt 15 h 0 0 retired plain\n"
    ++ codes "t 16 h 0 0 issued erase 2\nt 17 g 1 q 0 granted erase 2 from child 0 to all\n"
    ++ codes "t 18 g 0 q 0 granted erase 2 from child 0 to all\n"
    ++ codes "t 19 g 0 d granted exclusive 2 from parent to child 0\n"
    ++ codes "t 20 g 1 d granted exclusive 2 from parent to child 0\n"
    ++ codes "t 21 h 0 0 retired store 00020000 00000005 00000004\n"
    ++ codes "t 22 h 3 0 retired load 00020000 00000005\n"

-- the keys in order of completion: that of the load is less than that of the store
abbrev pub first_keys : List ℕ
first_keys = codes "0.1.0.1.0\n0.1.2.1.1\n0.1.2.1.2\n0.0.0.0.0\n2.0.2.0.1\n2.0.2.0.2\n4.0.4.0.3\n1.1.4.1.3\n"

pub record AStaleLoad : Type 0 where
  pub trace : trace_in tree image turns ≡ first_lines
  pub keys : completed_keys_in tree image turns ≡ first_keys
  -- after the flag the old word can't be read: the last turn asks for the item
  pub longer_trace :
      trace_in tree image longer
      ≡ first_lines
      ++ codes "t 23 h 0 0 issued read 3\nt 24 g 1 q 0 granted read 3 from child 0 to parent\n"
      ++ codes "t 25 g 0 q 0 granted read 3 from child 0 to child 1\n"
      ++ codes "t 26 g 2 d granted erase 2 from parent to all\n"
      ++ codes "t 27 g 2 d granted read 3 from parent to child 1\n"
      ++ codes "t 28 g 2 r 1 granted data 3 from child 1 to parent\n"
      ++ codes "t 29 g 0 r 1 granted data 3 from child 1 to child 0\n"
      ++ codes "t 30 g 1 d granted data 3 from parent to child 0\n"
      ++ codes "t 31 g 1 q 0 granted erase 3 from child 0 to all\n"
      ++ codes "t 32 g 0 q 0 granted erase 3 from child 0 to all\n"
      ++ codes "t 33 g 0 d granted exclusive 3 from parent to child 0\n"
      ++ codes "t 34 g 1 d granted exclusive 3 from parent to child 0\n"
      ++ codes "t 35 h 0 0 retired store 00020010 00000000 00000004\n"
      ++ codes "t 36 g 2 d granted erase 3 from parent to all\nt 37 h 3 0 issued read 3\n"
      ++ codes "t 38 g 2 q 1 granted read 3 from child 1 to parent\n"
      ++ codes "t 39 g 0 q 1 granted read 3 from child 1 to child 0\n"
      ++ codes "t 40 g 1 d granted read 3 from parent to child 0\n"
      ++ codes "t 41 g 1 r 0 granted data 3 from child 0 to parent\n"
      ++ codes "t 42 g 0 r 0 granted data 3 from child 0 to child 1\n"
      ++ codes "t 43 g 2 d granted data 3 from parent to child 1\n"
      ++ codes "t 44 h 3 0 retired load 00020010 00000004\nt 45 h 3 0 issued read 2\n"
  pub longer_keys : completed_keys_in tree image longer ≡ first_keys ++ codes "8.0.8.0.4\n10.1.10.1.4\n"
  pub short_trace :
      trace_in (with_down 1 tree) image short
      ≡ first_lines
      ++ codes "t 23 h 0 0 issued read 3\nt 24 g 1 q 0 granted read 3 from child 0 to parent\n"
      ++ codes "t 25 g 0 q 0 busy queue down 2\nt 26 g 2 d granted erase 2 from parent to all\n"
      ++ codes "t 27 g 0 q 0 granted read 3 from child 0 to child 1\n"
