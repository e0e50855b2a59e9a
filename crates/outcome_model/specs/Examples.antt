-- Worked examples: the outcome of a hart that puts a byte and runs out of code, and the outcomes of eight seeds of two harts that
-- exit with their numbers in two instructions each. How many turns each hart has in six is counted by hand, from the published
-- generator.
use Rattle.std.specs.Prelude.{◌≡◌, ℕ, ◌*◌, ◌/◌, ◌%◌, List, [], ◌∷◌, ◌++◌, codes, flat_map, length}
use Rattle.outcome_model.specs.DdmTypes.declared.turns.Turn.{Turn}
use Rattle.outcome_model.specs.TreeModel.State.Values.{MachineValue}
use Rattle.outcome_model.specs.TreeModel.Start.Machine.{start_machine}
use Rattle.outcome_model.specs.TreeModel.Start.Sources.{ImageValue, TreeValue, bus_widths, leaf_count}
use Rattle.outcome_model.specs.TreeModel.Turns.Machine.{run_of}
use Rattle.text_model.specs.Schedule.{ShapeView, hart_turns}
use Rattle.outcome_model.specs.Outcome.{outcome_of}
use Rattle.outcome_model.specs.Outcomes.{outcomes_text}

-- one bus with so many leaves, and no stacks
abbrev pub tree_with : ℕ → TreeValue
tree_with leaves = record {
  levels = (leaves ∷ []) ∷ [];
  way_count = 4;
  sizes = record { sets = 1; buffer = 1; parking = 1; down = 16; requests = 16; replies = 16 };
  stack_base = 196608;
  stack_bytes = 0;
  item_bytes = 16;
}

abbrev pub shape_with : ℕ → ShapeView
shape_with leaves = record { harts = leaf_count (tree_with leaves); buses = bus_widths (tree_with leaves) }

abbrev word_bytes : ℕ → List ℕ
word_bytes w = w % 256 ∷ w / 256 % 256 ∷ w / 65536 % 256 ∷ w / 16777216 ∷ []

-- code at 0x10000, where the harts begin
abbrev pub program : List ℕ → ImageValue
program code = record {
  entry = 0x10000;
  segments = record {
    header = 0;
    vaddr = 0x10000;
    flags = 5;
    bytes = flat_map word_bytes code;
    memsz = 4 * length code;
  } ∷ [];
}

-- addi a7, zero, 1000; addi a0, zero, 0x48; ecall
abbrev pub one_byte : MachineValue
one_byte = start_machine (tree_with 1) (program (0x3e800893 ∷ 0x04800513 ∷ 0x00000073 ∷ []))

-- addi a7, zero, 93; ecall
abbrev pub two_exits : MachineValue
two_exits = start_machine (tree_with 2) (program (0x05d00893 ∷ 0x00000073 ∷ []))

abbrev pub after_turns : ℕ → MachineValue
after_turns count = (run_of (hart_turns count) one_byte).machine

pub record SmallOutcomes : Type 0 where
  pub before : outcome_of one_byte ≡ codes " hart 0 running out -"
  pub put : outcome_of (after_turns 3) ≡ codes " hart 0 running out 48"
  pub halted : outcome_of (after_turns 4) ≡ codes " hart 0 nofetch 0001000c out 48"
  -- three turns later
  pub stays : outcome_of (after_turns 7) ≡ codes " hart 0 nofetch 0001000c out 48"
  pub eight_seeds :
      outcomes_text (shape_with 2) 6 two_exits 0 8
      ≡ codes "outcomes 4 runs 8\noutcome 4 1 hart 0 exit 0 out - hart 1 exit 1 out -\n"
      ++ codes "outcome 2 3 hart 0 exit 0 out - hart 1 running out -\n"
      ++ codes "outcome 1 0 hart 0 running out - hart 1 running out -\n"
      ++ codes "outcome 1 6 hart 0 running out - hart 1 exit 1 out -\nend\n"
