-- What a run came to, and what the runs of many seeds came to.
-- Letters: m is a machine, e a hart's end.
-- To be believed: it is what is printed of them.
use Rattle.std.specs.Prelude.{ℕ, List, [], ◌∷◌, ◌++◌, map, flat_map, codes, decimal, Option}
use Rattle.std.specs.List.{range_with_len}
use Rattle.outcome_model.specs.DdmTypes.declared.operations.HaltCause.{HaltCause}
use Rattle.outcome_model.specs.DdmTypes.declared.operations.Op.{Op}
use Rattle.outcome_model.specs.TreeModel.State.Values.{LeafValue, MachineValue}
use Rattle.outcome_model.specs.TreeModel.Turns.Machine.{machine_leaves, run_of}
use Rattle.text_model.specs.Report.{or_dash, put_texts}
use Rattle.text_model.specs.Schedule.{ShapeView}
use Rattle.text_model.specs.Seeded.{seeded_turns}
use Rattle.text_model.specs.Words.{state_text}

-- a hart's number, and why it halted if it did
pub record HartEnd : Type 0 where
  pub number : ℕ
  pub halt : Option HaltCause

abbrev pub end_of : LeafValue → HartEnd
end_of v = record { number = v.number; halt = v.hart.halt }

-- how a hart stands, and what it has put out, in the words of a report
unfoldable pub end_text : List Op → HartEnd → List ℕ
end_text ops e = codes " hart " ++ decimal e.number ++ codes " " ++ state_text e.halt ++ codes " out " ++ or_dash (put_texts e.number ops)

unfoldable pub ends_text : List Op → List HartEnd → List ℕ
ends_text ops ends = flat_map (end_text ops) ends

-- the outcome of a machine: the text of all its harts
unfoldable pub outcome_of : MachineValue → List ℕ
outcome_of m = ends_text m.ops (map end_of (machine_leaves m))

-- the outcome of a seed: that of the machine after so many seeded turns
unfoldable pub seed_outcome : ShapeView → ℕ → MachineValue → ℕ → List ℕ
seed_outcome shape turns m seed = outcome_of (run_of (seeded_turns shape seed turns) m).machine

-- those of so many seeds, each from the same machine
abbrev pub seed_outcomes : ShapeView → ℕ → MachineValue → ℕ → ℕ → List (List ℕ)
seed_outcomes shape turns m first count = map (seed_outcome shape turns m) (range_with_len first count)
