-- A flat machine with the size of its items.
use Rattle.std.specs.Prelude.{◌≡◌, ℕ, ◌-◌, ◌/◌, Option, Some, None, Result, Ok, Err, length, slice_index}
use Rattle.rv_flat.specs.DdmTypes.declared.operations.Effect.{Effect}
use Rattle.rv_flat.specs.DdmTypes.declared.operations.HaltCause.{HaltCause}
use Rattle.rv_flat.specs.DdmTypes.ItemTable.{ItemTable, item_at, item_count, row_at}
use Rattle.rv_flat.specs.FlatModel.Flat.{FlatMachine, FlatStepped, item_words}

pub record FlatState : Type 0 where
  pub machine : FlatMachine
  pub size : ℕ

-- items of the same size, and another machine
abbrev pub with_machine : FlatState → FlatMachine → FlatState
with_machine state machine = record state { machine = machine }

-- the machine has the words of these items
pub record HasItems (state : FlatState) (items : ItemTable) : Type 0 where
  pub count : length state.machine.words ≡ item_count items
  pub size : state.size ≡ items.size

-- the effect of a step, or why the hart halts
abbrev pub outcome_of : FlatStepped → Result Effect HaltCause
outcome_of (Ok x) = Ok x.0
outcome_of (Err cause) = Err cause

abbrev pub word_in : ItemTable → FlatMachine → ℕ → Option ℕ → Option ℕ
word_in items m address None = None
word_in items m address (Some x) = Some (slice_index (item_words m x) ((address - (row_at items x).address) / 4))

-- the word that has the byte at this address, where an item has it
abbrev pub word_at : ItemTable → FlatMachine → ℕ → Option ℕ
word_at items m address = word_in items m address (item_at items address)
