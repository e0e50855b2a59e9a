-- What is claimed of the table of a machine: of all outcomes, over every schedule of any length, with any victims and
-- choices.
-- Letters: m is the machine before its first turn, s the search, f is a line, o an outcome, e a kept state, ts and us
-- are turns.
-- To be believed: it is what is claimed of every table.
use Rattle.std.specs.Prelude.{◌≡◌, ◌<◌, ◌≤◌, ℕ, true, false, List, [], ◌++◌, length}
use Rattle.ddm_types.specs.declared.turns.Turn.{Turn}
use Rattle.tree_model.specs.State.Values.{MachineValue}
use Rattle.tree_model.specs.Turns.Machine.{run_of}
use Rattle.outcomes.specs.OutcomeModel.Halted.{all_halted}
use Rattle.outcomes.specs.OutcomeModel.Outcome.{outcome_of}
use Rattle.outcomes.specs.RecordingModel.Doing.{does_something}
use Rattle.search_laws.specs.Search.{Kept, first_length}
use Rattle.search_laws.specs.Space.{IsOneOf}
use Rattle.explorer.specs.SearchModel.Explored.{MachineFound, MachineSearch, lost_states}
use Rattle.explorer.specs.StateKeys.Same.{same_state}

module _ (m : MachineValue) where
  abbrev pub after : List Turn → MachineValue
  after ts = (run_of ts m).machine

  -- after these turns all harts have halted with this outcome
  pub record EndsIn (o : List ℕ) (ts : List Turn) : Type 0 where
    pub ended : all_halted (after ts) ≡ true
    pub outcome : outcome_of (after ts) ≡ o

  -- after them a hart runs, and no turn does anything
  pub record JamsIn (o : List ℕ) (ts : List Turn) : Type 0 where
    pub runs : all_halted (after ts) ≡ false
    pub stuck : (t : Turn) → does_something t (after ts) ≡ false
    pub outcome : outcome_of (after ts) ≡ o

  -- one of these lines has the outcome, and no more turns
  pub record HasLine (fs : List MachineFound) (o : List ℕ) (ts : List Turn) : Type 0 where
    pub line : MachineFound
    pub is_one : IsOneOf fs line
    pub outcome : line.outcome ≡ o
    pub no_longer : length line.schedule ≤ length ts

  -- after these turns, others lead to where all harts have halted
  pub record CanEnd (ts : List Turn) : Type 0 where
    pub later : List Turn
    pub ended : all_halted (after (ts ++ later)) ≡ true

  module _ (s : MachineSearch) where
    -- each line is shown by its schedule, and no schedule is a shorter way to its outcome
    pub record LinesAreShown : Type 0 where
      pub found : (f : MachineFound) → IsOneOf s.found f → EndsIn f.outcome f.schedule
      pub shortest : (f : MachineFound) → IsOneOf s.found f → (ts : List Turn) → EndsIn f.outcome ts →
          length f.schedule ≤ length ts
      pub jams : (f : MachineFound) → IsOneOf s.jams f → JamsIn f.outcome f.schedule
      pub shortest_jam : (f : MachineFound) → IsOneOf s.jams f → (ts : List Turn) → JamsIn f.outcome ts →
          length f.schedule ≤ length ts

    -- where no state was without a place, no schedule comes to an outcome or a jam that has no line
    pub record TableIsComplete : Type 0 where
      pub found : (o : List ℕ) (ts : List Turn) → EndsIn o ts → HasLine s.found o ts
      pub jams : (o : List ℕ) (ts : List Turn) → JamsIn o ts → HasLine s.jams o ts

    -- where the search was ended, none does of as many turns as the schedule of the state that was taken up then; to a
    -- jam, of fewer
    pub record TableReachesFar : Type 0 where
      pub found : (o : List ℕ) (ts : List Turn) → length ts ≤ first_length s.waiting → EndsIn o ts →
          HasLine s.found o ts
      pub jams : (o : List ℕ) (ts : List Turn) → length ts < first_length s.waiting → JamsIn o ts → HasLine s.jams o ts

    -- after the schedule of a lost state, no turns lead to where all harts have halted; where none is lost, some do
    -- after any schedule
    pub record LostAreLost : Type 0 where
      pub never : (e : Kept MachineValue Turn) → IsOneOf (lost_states same_state s) e → (ts : List Turn) →
          all_halted (run_of (e.schedule ++ ts) m).machine ≡ false
      pub none : lost_states same_state s ≡ [] → (ts : List Turn) → CanEnd ts

    pub record TableIsRight : Type 0 where
      pub shown : LinesAreShown
      pub complete : s.full ≡ false → TableIsComplete
      pub far : s.full ≡ true → TableReachesFar
      pub lost : s.full ≡ false → LostAreLost
