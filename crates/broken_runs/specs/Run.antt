-- A short run that is in order, told by hand: where it begins, its turns, what they answer, and where it ends. Two harts share
-- one word: hart 0 loads it before hart 1 stores to it.
use Rattle.std.specs.Prelude.{◌≡◌, ℕ, List, [], ◌∷◌, ◌++◌, map, replicate, take, Option, Some, None}
use Rattle.broken_runs.specs.DdmTypes.declared.answers.BusyCause.{BusyCause}
use Rattle.broken_runs.specs.DdmTypes.declared.answers.PendingWhy.{PendingWhy}
use Rattle.broken_runs.specs.DdmTypes.declared.answers.Place.{Place}
use Rattle.broken_runs.specs.DdmTypes.declared.answers.TurnAnswer.{TurnAnswer}
use Rattle.broken_runs.specs.DdmTypes.declared.answers.TxKind.{TxKind}
use Rattle.broken_runs.specs.DdmTypes.declared.keys.Key.{Key}
use Rattle.broken_runs.specs.DdmTypes.declared.operations.Effect.{Effect}
use Rattle.broken_runs.specs.DdmTypes.declared.operations.HaltCause.{HaltCause}
use Rattle.broken_runs.specs.DdmTypes.declared.operations.Op.{Op}
use Rattle.broken_runs.specs.DdmTypes.declared.sizes.LeafState.{LeafState}
use Rattle.broken_runs.specs.DdmTypes.declared.turns.Turn.{Turn}
use Rattle.broken_runs.specs.DdmTypes.CodeMap.{words_from}
use Rattle.broken_runs.specs.DdmTypes.Keys.{key_zero}
use Rattle.broken_runs.specs.FlatModel.Hart.{HartValue}
use Rattle.broken_runs.specs.FlatModel.Flat.{FlatHart, FlatMachine}
use Rattle.broken_runs.specs.TreeModel.State.Values.{WayValue, LeafValue, leaf_node, MachineValue}
use Rattle.broken_runs.specs.TreeModel.Turns.Machine.{no_traffic, run_of}
use Rattle.tree_rules.specs.Witness.{IsWitnessed, IsRunWitnessed}
use Rattle.tree_rules.specs.Small.{leaf_value, entry, machine}

-- ---- where it begins

-- x5 has the word's address, x6 what is stored, x7 what was loaded; a call with 1000 in x17 puts out the byte of x10
abbrev pub hart_at : ℕ → ℕ → Option HaltCause → HartValue
hart_at pc loaded halt =
    record {
      registers = replicate 5 0 ++ 0x20000 ∷ 7 ∷ loaded ∷ 0 ∷ 0 ∷ 0x48 ∷ replicate 6 0 ++ 1000
          ∷ replicate 14 0;
      pc = pc;
      halt = halt;
    }

-- a leaf whose hart has completed so many instructions, with its entry of the word's item
abbrev pub leaf_at : ℕ → HartValue → ℕ → Option WayValue → LeafValue
leaf_at number hart done way = record (leaf_value number 0 done way []) { hart = hart }

-- at 0x10000 a store of x6, then a load into x7, then a call
abbrev pub machine_of : List LeafValue → List Op → MachineValue
machine_of leaves ops =
    record (machine (map leaf_node leaves) ops)
    { code = words_from 0x10000 (0x0062a023 ∷ 0x0002a383 ∷ 0x00000073 ∷ []) }

abbrev pub flat_hart_of : HartValue → FlatHart
flat_hart_of hart = record { hart = hart; reserved = None }

abbrev pub flat_of : HartValue → HartValue → ℕ → FlatMachine
flat_of g h word = record { harts = flat_hart_of g ∷ flat_hart_of h ∷ []; words = (word ∷ []) ∷ [] }

-- hart 0 begins at the load, and hart 1 at the store; leaf 1 has the item
abbrev pub start : MachineValue
start = machine_of (leaf_at 0 (hart_at 0x10004 0 None) 0 None ∷ leaf_at 1 (hart_at 0x10000 0 None) 0 (entry LeafState.Exclusive 5) ∷ []) []

abbrev pub flat_start : FlatMachine
flat_start = flat_of (hart_at 0x10004 0 None) (hart_at 0x10000 0 None) 5

-- ---- its turns

abbrev pub turns : List Turn
turns =
    (Turn.Hart 0 0) ∷ (Turn.Request 0 0) ∷ (Turn.Hart 1 0) ∷ (Turn.Request 0 1) ∷ (Turn.Reply 0 1) ∷
    (Turn.Hart 0 0) ∷ (Turn.Request 0 1) ∷ (Turn.Down 0) ∷ (Turn.Hart 1 0) ∷ (Turn.Hart 1 0) ∷
    (Turn.Hart 1 0) ∷ (Turn.Hart 1 0) ∷ (Turn.Hart 0 0) ∷ []

-- the machine after so many of them
abbrev pub after : ℕ → MachineValue
after count = (run_of (take count turns) start).machine

-- ---- what they answer

-- bus 0 has granted so much, the leaf is this child of it, and its hart had completed so many instructions
abbrev pub key_of : ℕ → ℕ → ℕ → Key
key_of granted child done = record key_zero { s0 = granted; c0 = child; i = done }

abbrev pub first_load : Op
first_load = record { key = key_of 11 0 0; hart = 0; pc = 0x10004; effect = Effect.Load 0x20000 5 }

abbrev pub first_put : Op
first_put = record { key = key_of 13 0 1; hart = 0; pc = 0x10008; effect = Effect.Put 0x48 }

abbrev pub store : Op
store = record { key = key_of 13 1 0; hart = 1; pc = 0x10000; effect = Effect.Store 0x20000 5 7 }

abbrev pub second_load : Op
second_load = record { key = key_of 13 1 1; hart = 1; pc = 0x10004; effect = Effect.Load 0x20000 7 }

abbrev pub second_put : Op
second_put = record { key = key_of 13 1 2; hart = 1; pc = 0x10008; effect = Effect.Put 0x48 }

abbrev pub granted : TxKind → Place → Place → TurnAnswer
granted kind source taker = TurnAnswer.Granted (record { bus = 0; kind = kind; item = 0; source = source; taker = taker })

-- until the erase of leaf 1 is granted
abbrev pub first_answers : List TurnAnswer
first_answers =
    TurnAnswer.Issued TxKind.ReadTx 0 ∷ granted TxKind.ReadTx (Place.Child 0) (Place.Child 1) ∷ TurnAnswer.Issued TxKind.EraseTx 0
    ∷ TurnAnswer.Busy (BusyCause.ItemPending 0 0 (PendingWhy.Local 0)) ∷ granted TxKind.DataTx (Place.Child 1) (Place.Child 0)
    ∷ TurnAnswer.Retired first_load ∷ granted TxKind.EraseTx (Place.Child 1) Place.All ∷ []

-- and to the end, where the turn of the store answers this
abbrev pub answers_with : TurnAnswer → List TurnAnswer
answers_with a =
    first_answers ++ granted TxKind.ExclusiveTx Place.Parent (Place.Child 1) ∷ a ∷ TurnAnswer.Retired second_load
    ∷ TurnAnswer.Retired second_put ∷ TurnAnswer.Halted (HaltCause.FetchOutside 0x1000c) ∷ TurnAnswer.Retired first_put ∷ []

abbrev pub answers : List TurnAnswer
answers = answers_with (TurnAnswer.Retired store)

-- ---- where it ends

abbrev pub ended_0 : LeafValue
ended_0 = leaf_at 0 (hart_at 0x1000c 5 None) 2 None

abbrev pub ended_1 : LeafValue
ended_1 = leaf_at 1 (hart_at 0x1000c 7 (Some (HaltCause.FetchOutside 0x1000c))) 3 (entry LeafState.Exclusive 7)

-- in order of completion; in that of keys the second is the last one here
abbrev pub ended_ops : List Op
ended_ops = first_load ∷ store ∷ second_load ∷ second_put ∷ first_put ∷ []

-- four transactions were granted
abbrev pub ended_with : List LeafValue → List Op → MachineValue
ended_with leaves ops = record (machine_of leaves ops) {
  top = record start.top { count = 13 };
  traffic = record { reads = 1; copies = 1; erases = 1; exclusives = 1; outs = 0; injects = 0 } ∷ replicate 4 no_traffic;
}

abbrev pub ended : MachineValue
ended = ended_with (ended_0 ∷ ended_1 ∷ []) ended_ops

pub record RunInOrder : Type 0 where
  pub run : run_of turns start ≡ record { answers = answers; machine = ended }
  pub witnessed : IsWitnessed flat_start ended
  pub run_witnessed : IsRunWitnessed flat_start turns start
