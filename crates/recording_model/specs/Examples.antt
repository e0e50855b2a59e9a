-- Worked examples: what is recorded of seeds of small trees whose harts load a word of the first item and exit with it. The expected
-- values are those of an independent program.
use Rattle.std.specs.Prelude.{◌≡◌, ℕ, List, [], ◌∷◌, codes, length}
use Rattle.recording_model.specs.TreeModel.State.Values.{MachineValue}
use Rattle.recording_model.specs.TreeModel.Start.Machine.{start_machine}
use Rattle.recording_model.specs.TreeModel.Start.Sources.{TreeValue, bus_widths, leaf_count}
use Rattle.recording_model.specs.TextModel.Schedule.{ShapeView, schedule_text}
use Rattle.outcome_model.specs.Examples.{program, tree_with}
use Rattle.recording_model.specs.declared.RunEnd.{RunEnd}
use Rattle.recording_model.specs.declared.SeedKind.{SeedKind}
use Rattle.recording_model.specs.Recording.{Recording, recording_of}

-- a bus with two leaves
abbrev pub two_leaves : TreeValue
two_leaves = tree_with 2

-- two buses under one, with two leaves each
abbrev pub four_leaves : TreeValue
four_leaves = record two_leaves { levels = (2 ∷ []) ∷ (2 ∷ 2 ∷ []) ∷ [] }

-- auipc t0, 0; lw a0, 0(t0); addi a7, zero, 93; ecall
abbrev pub loads_of : TreeValue → MachineValue
loads_of tree = start_machine tree (program (0x00000297 ∷ 0x0002a503 ∷ 0x05d00893 ∷ 0x00000073 ∷ []))

abbrev pub shape_of : TreeValue → ShapeView
shape_of tree = record { harts = leaf_count tree; buses = bus_widths tree }

abbrev pub recorded_of : SeedKind → TreeValue → ℕ → ℕ → Recording
recorded_of kind tree seed turns = recording_of kind (shape_of tree) seed turns (loads_of tree)

-- a run that ended so, of so many drawn turns, is recorded so
pub record Records (r : Recording) (why : RunEnd) (count : ℕ) (lines : List ℕ) : Type 0 where
  pub end : r.end ≡ why
  pub drawn : length r.drawn ≡ count
  pub text : schedule_text r.turns ≡ lines

pub record SmallRecordings : Type 0 where
  pub even :
      Records (recorded_of SeedKind.Even two_leaves 0 20) RunEnd.Halted 49
      (codes
      "h 0 124\nh 1 239\nh 0 216\nh 0 173\nh 0 204\nh 1 229\ng 0 q 1\ng 0 r 0\nh 1 87\nh 1 31\nh 1 60\nend\n")
  pub skewed :
      Records (recorded_of SeedKind.Skewed two_leaves 0 20) RunEnd.Halted 169
      (codes
      "h 0 124\nh 0 216\nh 0 173\nh 0 204\nh 1 183\nh 1 139\ng 0 q 1\ng 0 r 0\nh 1 97\nh 1 98\nh 1 20\nend\n")
  -- rates of the turns of several buses
  pub deep :
      Records (recorded_of SeedKind.Skewed four_leaves 4 9) RunEnd.Turns 35
      (codes "h 0 100\nh 1 88\nh 2 111\nh 2 9\nh 0 80\nh 1 80\nh 0 85\ng 2 q 0\nh 0 180\nend\n")
  pub none : Records (recorded_of SeedKind.Even two_leaves 0 0) RunEnd.Turns 0 (codes "end\n")
