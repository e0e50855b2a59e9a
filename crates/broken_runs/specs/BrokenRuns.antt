-- Turns from machines that no run comes to, each with what holds of it: the turns break one promise of a run alone.
use Rattle.std.specs.Prelude.{List, [], ◌∷◌, Some, None}
use Rattle.broken_runs.specs.DdmTypes.declared.answers.TxKind.{TxKind}
use Rattle.broken_runs.specs.DdmTypes.declared.sizes.LeafState.{LeafState}
use Rattle.broken_runs.specs.DdmTypes.declared.turns.Turn.{Turn}
use Rattle.broken_runs.specs.FlatModel.Flat.{FlatMachine}
use Rattle.broken_runs.specs.TreeModel.State.Values.{CopyValue, MachineValue}
use Rattle.broken_runs.specs.TreeModel.Turns.Machine.{run_of}
use Rattle.tree_rules.specs.Small.{entry}
use Rattle.tree_rules.specs.Witness.{IsWitnessed, IsRunWitnessed, EachTurnWitnessed}
use Rattle.broken_runs.specs.Run.{hart_at, leaf_at, machine_of, flat_of}

-- ---- the machine afterwards

-- both harts are at a load; the copy of leaf 1 isn't the one that is found, and has another word
abbrev pub two_words : MachineValue
two_words =
    machine_of
    (leaf_at 0 (hart_at 0x10004 0 None) 0 (entry LeafState.Shared 5)
    ∷ leaf_at 1 (hart_at 0x10004 0 None) 0 (entry LeafState.Shared 3) ∷ []) []

abbrev pub loads_flat : FlatMachine
loads_flat = flat_of (hart_at 0x10004 0 None) (hart_at 0x10004 0 None) 5

abbrev pub turn_of_hart_1 : List Turn
turn_of_hart_1 = (Turn.Hart 1 0) ∷ []

-- hart 1 loads the other word
pub record LoadsAnotherWord : Type 0 where
  pub before : IsWitnessed loads_flat two_words
  pub refused : ¬ IsRunWitnessed loads_flat turn_of_hart_1 two_words
  pub each_refused : ¬ EachTurnWitnessed loads_flat turn_of_hart_1 two_words

-- ---- each turn of it

-- hart 0 is at a load into x7, where 9 stands in place of 0
abbrev pub other_before_load : MachineValue
other_before_load =
    machine_of
    (leaf_at 0 (hart_at 0x10004 9 None) 0 (entry LeafState.Shared 5) ∷ leaf_at 1 (hart_at 0x10004 0 None) 0 None
    ∷ []) []

abbrev pub turn_of_hart_0 : List Turn
turn_of_hart_0 = (Turn.Hart 0 0) ∷ []

-- after the load nothing is wrong any more
pub record WrongAtFirst : Type 0 where
  pub in_the_end : IsRunWitnessed loads_flat turn_of_hart_0 other_before_load
  pub refused : ¬ EachTurnWitnessed loads_flat turn_of_hart_0 other_before_load

-- ---- harts that were halted

-- two leaves of one number, whose harts are behind the last instruction: a turn reaches the first of them alone
abbrev pub twins : MachineValue
twins = machine_of (leaf_at 0 (hart_at 0x1000c 0 None) 0 (entry LeafState.Exclusive 5) ∷ leaf_at 0 (hart_at 0x1000c 0 None) 0 None ∷ []) []

abbrev pub twins_flat : FlatMachine
twins_flat = flat_of (hart_at 0x1000c 0 None) (hart_at 0x1000c 0 None) 5

-- the second one goes on where a turn of its number answered that it halted
pub record GoesOnAfterHalt : Type 0 where
  pub machine : IsWitnessed twins_flat (run_of turn_of_hart_0 twins).machine
  pub refused : ¬ IsRunWitnessed twins_flat turn_of_hart_0 twins

-- ---- causes

abbrev pub reply : CopyValue
reply = record { item = 0; words = 5 ∷ [] }

-- leaf 0 asks to read the item, and leaf 1, which has it, has two replies where there is one place
abbrev pub too_many_replies : MachineValue
too_many_replies = machine_of (
    record (leaf_at 0 (hart_at 0x10004 0 None) 0 (entry LeafState.Reading 0)) { slot = Some (record { kind = TxKind.ReadTx; item = 0 }) }
    ∷ record (leaf_at 1 (hart_at 0x10004 0 None) 0 (entry LeafState.Exclusive 5)) { replies = reply ∷ reply ∷ [] } ∷ []) []

abbrev pub request_of_leaf_0 : List Turn
request_of_leaf_0 = (Turn.Request 0 0) ∷ []

-- the bus is busy as the list is full, and it hasn't as many entries as places
pub record BusyWithoutCause : Type 0 where
  pub machine : IsWitnessed loads_flat (run_of request_of_leaf_0 too_many_replies).machine
  pub refused : ¬ IsRunWitnessed loads_flat request_of_leaf_0 too_many_replies
  -- behind a turn that finds nothing there
  pub later_refused : ¬ IsRunWitnessed loads_flat ((Turn.Down 0) ∷ request_of_leaf_0) too_many_replies
