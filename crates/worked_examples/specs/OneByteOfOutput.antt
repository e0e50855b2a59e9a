-- A hart puts one byte, and then runs out of code.
use Rattle.std.specs.Prelude.{◌≡◌, ℕ, List, [], ◌∷◌, codes}
use Rattle.worked_examples.specs.TreeModel.Start.Sources.{ImageValue, TreeValue}
use Rattle.worked_examples.specs.Programs.{code_alone, tree_of, trace_in, output_in}

abbrev pub tree : TreeValue
tree = tree_of ((1 ∷ []) ∷ []) 4 1 1 1

abbrev pub image : ImageValue
image = code_alone (0x3e800893 ∷ 0x04800513 ∷ 0x00000073 ∷ [])

-- four turns
abbrev pub turns : List ℕ
turns = codes "h 0 0\nh 0 0\nh 0 0\nh 0 0\nend\n"

pub record OneByteOfOutput : Type 0 where
  pub trace :
      trace_in tree image turns
      ≡ codes
      "t 0 h 0 0 retired plain\nt 1 h 0 0 retired plain\nt 2 h 0 0 retired put 48\nt 3 h 0 0 halted nofetch 0001000c\n"
  pub output : output_in 0 tree image turns ≡ codes "out 0 48\n"
