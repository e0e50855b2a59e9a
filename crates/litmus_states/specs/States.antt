-- What the recorded runs of a test came to: the state in which each ended, and what is printed of them.
-- Letters: m is a machine, x an item, k a thread, l a line of the table.
-- To be believed: it is what is printed of them.
use Rattle.std.specs.Prelude.{ℕ, zero, suc, nat_eq, Bool, true, false, List, [], ◌∷◌, map, flat_map, sum_by}
use Rattle.std.specs.Prelude.{Option, Some, None, slice_index, slice_index_or, if◌then◌else◌}
use Rattle.std.specs.List.{list_any, range_with_len}
use Rattle.std.specs.Option.{option_map_or}
use Rattle.std.specs.Cmp.Lexicographic.{pointwise}
use Rattle.outcome_model.specs.DdmTypes.ItemTable.{item_at}
use Rattle.outcome_model.specs.DdmTypes.declared.operations.HaltCause.{HaltCause}
use Rattle.outcome_model.specs.FlatModel.Hart.{HartValue, register}
use Rattle.outcome_model.specs.Halted.{all_halted}
use Rattle.outcome_model.specs.Table.{OutcomeLine, table_of}
use Rattle.recording_model.specs.TreeModel.State.Blank.{no_hart}
use Rattle.recording_model.specs.TreeModel.State.Values.{LeafValue, MachineValue}
use Rattle.recording_model.specs.TreeModel.Turns.Found.{FoundValue, found_copy}
use Rattle.recording_model.specs.TreeModel.Turns.Machine.{machine_leaves}
use Rattle.recording_model.specs.TextModel.Schedule.{ShapeView}
use Rattle.recording_model.specs.declared.SeedKind.{SeedKind}
use Rattle.recording_model.specs.Recording.{recording_of}
use Rattle.litmus_model.specs.declared.parts.Target.{Target}
use Rattle.litmus_model.specs.declared.parts.Target.TheVariants.{Register, Location}
use Rattle.litmus_model.specs.Image.{address_of}
use Rattle.litmus_model.specs.StatesText.{StateLine, RunStates, states_text}
use Rattle.litmus_model.specs.Test.{Test}

-- ---- how a run's harts ended

-- a hart that halted for another cause than the breakpoint after its thread's instructions
abbrev pub is_fault : Option HaltCause → Bool
is_fault None = false
is_fault (Some HaltCause.Breakpoint) = false
is_fault (Some _) = true

abbrev pub is_faulted : LeafValue → Bool
is_faulted v = is_fault v.hart.halt

unfoldable pub has_faulted : MachineValue → Bool
has_faulted m = list_any is_faulted (machine_leaves m)

-- ---- the words of what is observed

abbrev pub hart_in : LeafValue → HartValue
hart_in v = v.hart

-- the hart on a leaf; leaves are numbered in the order of the tree
unfoldable pub hart_on : ℕ → MachineValue → HartValue
hart_on leaf m = slice_index_or (map hart_in (machine_leaves m)) leaf no_hart

abbrev pub first_word : FoundValue → ℕ
first_word copy = slice_index copy.words 0

-- the first word of the found copy of an item
unfoldable pub item_word : ℕ → MachineValue → ℕ
item_word x m = option_map_or first_word (found_copy x m) 0

-- the word of a target, thread k being on the leaf places[k]
unfoldable pub observed_word : Test → ℕ → List ℕ → MachineValue → Target → ℕ
observed_word test item_bytes places m (Register k r) = register (hart_on (slice_index places k) m) r
observed_word test item_bytes places m (Location name) =
    option_map_or (λ x. item_word x m) (item_at m.items (address_of test item_bytes name)) 0

unfoldable pub observed_words : Test → ℕ → List ℕ → MachineValue → List ℕ
observed_words test item_bytes places m = map (observed_word test item_bytes places m) test.observed

-- ---- the end of a run, as numbers

-- 1 where a hart faulted, 2 where one hasn't halted, else 0 and the words of what is observed
abbrev pub faulted_end : List ℕ
faulted_end = 1 ∷ []

abbrev pub unfinished_end : List ℕ
unfinished_end = 2 ∷ []

unfoldable pub test_end : Test → ℕ → List ℕ → MachineValue → List ℕ
test_end test item_bytes places m =
    if has_faulted m then faulted_end
    else (if all_halted m then 0 ∷ observed_words test item_bytes places m else unfinished_end)

-- of the recorded run of a seed, of so many turns at most
abbrev pub seed_end : Test → ℕ → List ℕ → SeedKind → ShapeView → ℕ → MachineValue → ℕ → List ℕ
seed_end test item_bytes places kind shape turns m seed =
    test_end test item_bytes places (recording_of kind shape seed turns m).machine

-- those of so many seeds, each from the same machine
abbrev pub test_ends : Test → ℕ → List ℕ → SeedKind → ShapeView → ℕ → MachineValue → ℕ → ℕ → List (List ℕ)
test_ends test item_bytes places kind shape turns m first count =
    map (seed_end test item_bytes places kind shape turns m) (range_with_len first count)

-- the table of so many seeds from the first on
unfoldable pub states_table : Test → ℕ → List ℕ → SeedKind → ShapeView → ℕ → MachineValue → ℕ → ℕ → List OutcomeLine
states_table test item_bytes places kind shape turns m first count =
    table_of first (test_ends test item_bytes places kind shape turns m first count)

-- ---- what is printed of them

abbrev pub state_by : ℕ → ℕ → List ℕ → List StateLine
state_by times seed [] = []
state_by times seed (zero ∷ words) = record { times = times; seed = seed; words = words } ∷ []
state_by times seed (suc other ∷ words) = []

-- the state that a line is of, if it is of one
abbrev pub state_of : OutcomeLine → List StateLine
state_of l = state_by l.times l.seed l.outcome

unfoldable pub states_in : List OutcomeLine → List StateLine
states_in lines = flat_map state_of lines

-- how many runs ended so
unfoldable pub times_of : List ℕ → List OutcomeLine → ℕ
times_of end lines = sum_by (λ (l : OutcomeLine). if pointwise nat_eq l.outcome end then l.times else 0) lines

unfoldable pub run_states : ℕ → List OutcomeLine → RunStates
run_states count lines = record {
  states = states_in lines;
  runs = count;
  unfinished = times_of unfinished_end lines;
  faulted = times_of faulted_end lines;
}

-- the log of a test whose threads are on these leaves: of so many seeds from the first on, each from the machine of its image
unfoldable pub litmus_text : Test → ℕ → List ℕ → SeedKind → ShapeView → ℕ → MachineValue → ℕ → ℕ → List ℕ
litmus_text test item_bytes places kind shape turns m first count =
    states_text test item_bytes (run_states count (states_table test item_bytes places kind shape turns m first count))
