-- What the log of a test says, in the words of its reader.
-- Letters: t is a tree, i an image, m its machine, s a flat machine, x an item, k a thread, h a hart's number.
-- To be believed: it is what is claimed of every log.
use Rattle.std.specs.Prelude.{◌≡◌, ℕ, ◌+◌, ◌<◌, Bool, List, length, map, sum_by, Ok, Err, slice_index}
use Rattle.std.specs.List.{AllByRecursion}
use Rattle.std.specs.Option.{option_map_or}
use Rattle.outcome_model.specs.DdmTypes.CodeMap.{CodeWord}
use Rattle.outcome_model.specs.DdmTypes.ItemTable.{ItemTable, item_at}
use Rattle.outcome_model.specs.DdmTypes.declared.operations.HaltCause.{HaltCause}
use Rattle.outcome_model.specs.DdmTypes.declared.operations.Op.{Op}
use Rattle.outcome_model.specs.FlatModel.Flat.{FlatMachine, flat_hart, flat_step, item_words}
use Rattle.outcome_model.specs.FlatModel.Hart.{register}
use Rattle.outcome_model.specs.FlatModel.Legal.{Legal, flat_after}
use Rattle.outcome_model.specs.BusLaws.IsTree.{IsTree}
use Rattle.outcome_model.specs.TableLaws.{IsTable}
use Rattle.recording_model.specs.TreeModel.State.Values.{MachineValue}
use Rattle.recording_model.specs.TreeModel.Start.Machine.{flat_start_of, start_of}
use Rattle.recording_model.specs.TreeModel.Start.Sources.{ImageValue, TreeValue}
use Rattle.recording_model.specs.TextModel.Schedule.{ShapeView}
use Rattle.recording_model.specs.declared.SeedKind.{SeedKind}
use Rattle.litmus_model.specs.declared.parts.Target.{Target}
use Rattle.litmus_model.specs.declared.parts.Target.TheVariants.{Register, Location}
use Rattle.litmus_model.specs.Image.{address_of}
use Rattle.litmus_model.specs.StatesText.{RunStates, StateLine}
use Rattle.litmus_model.specs.Test.{Test}
use Rattle.litmus_states.specs.States.{run_states, states_in, states_table, test_ends}

-- ---- each state

module _ (test : Test) (item_bytes : ℕ) (places : List ℕ) (code : List CodeWord) (items : ItemTable) where
  -- the word of a target in a flat machine: in its hart's register, or in its memory
  abbrev pub flat_word : FlatMachine → Target → ℕ
  flat_word s (Register k r) = register (flat_hart s (slice_index places k)).hart r
  flat_word s (Location name) =
      option_map_or (λ x. slice_index (item_words s x) 0) (item_at items (address_of test item_bytes name)) 0

  -- there are operations that are legal from s; after them each hart is at its breakpoint, and these words are observed
  pub record IsLegalState (s : FlatMachine) (words : List ℕ) : Type 0 where
    pub ops : List Op
    pub legal : Legal code items s ops
    pub ended :
        (h : ℕ) → h < length s.harts → (sc_ok : Bool) →
        flat_step code items (flat_after code items s ops) h sc_ok ≡ Err HaltCause.Breakpoint
    pub words_are : words ≡ map (flat_word (flat_after code items s ops)) test.observed

-- each state of a log is one of a legal run of the flat machine from the image's start
abbrev pub StatesAreLegal : Type 0
StatesAreLegal = (t : TreeValue) (i : ImageValue) (m : MachineValue) → IsTree t → start_of t i ≡ Ok m
    → (test : Test) (item_bytes : ℕ) (places : List ℕ) (kind : SeedKind) (shape : ShapeView) (turns first count : ℕ)
    → AllByRecursion (λ (l : StateLine). IsLegalState test item_bytes places m.code m.items (flat_start_of t i) l.words)
    (states_in (states_table test item_bytes places kind shape turns m first count))

-- ---- the table

-- exactly the ends that its seeds gave, each once, with how many gave it and the smallest of them, in order
abbrev pub StatesAreCounted : Type 0
StatesAreCounted =
    (test : Test) (item_bytes : ℕ) (places : List ℕ) (kind : SeedKind) (shape : ShapeView) (turns : ℕ) (m : MachineValue)
    (first count : ℕ)
    → IsTable first (test_ends test item_bytes places kind shape turns m first count)
    (states_table test item_bytes places kind shape turns m first count)

abbrev pub state_times : StateLine → ℕ
state_times s = s.times

-- each run is counted once: for the state to which it came, or as one that hadn't ended, or as one in which a hart faulted
abbrev pub RunsAreComplete : Type 0
RunsAreComplete =
    (test : Test) (item_bytes : ℕ) (places : List ℕ) (kind : SeedKind) (shape : ShapeView) (turns : ℕ) (m : MachineValue)
    (first count : ℕ)
    → let r : RunStates = run_states count (states_table test item_bytes places kind shape turns m first count) in
    sum_by state_times r.states + r.unfinished + r.faulted ≡ count
