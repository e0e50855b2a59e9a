-- Machines with their operations of which it doesn't hold that they are witnessed: each is the end of the run that is in order,
-- or its start, with one thing changed.
use Rattle.std.specs.Prelude.{List, [], ◌∷◌, true, Some, None}
use Rattle.broken_runs.specs.DdmTypes.declared.operations.Effect.{Effect}
use Rattle.broken_runs.specs.DdmTypes.declared.operations.HaltCause.{HaltCause}
use Rattle.broken_runs.specs.DdmTypes.declared.operations.Op.{Op}
use Rattle.broken_runs.specs.DdmTypes.declared.sizes.LeafState.{LeafState}
use Rattle.broken_runs.specs.FlatModel.Flat.{FlatMachine}
use Rattle.broken_runs.specs.TreeModel.State.Values.{LeafValue, MachineValue}
use Rattle.tree_rules.specs.Small.{entry}
use Rattle.broken_runs.specs.Run.{hart_at, leaf_at, machine_of, flat_of, key_of, first_load, first_put, store}
use Rattle.broken_runs.specs.Run.{second_load, second_put, ended_0, ended_1, ended_ops, ended_with, ended}

abbrev pub with_ops : List Op → MachineValue
with_ops ops = ended_with (ended_0 ∷ ended_1 ∷ []) ops

abbrev pub with_leaves : LeafValue → LeafValue → MachineValue
with_leaves v w = ended_with (v ∷ w ∷ []) ended_ops

-- ---- keys

-- the second and the last
abbrev pub one_key_twice : MachineValue
one_key_twice = with_ops (first_load ∷ store ∷ second_load ∷ second_put ∷ record first_put { key = store.key } ∷ [])

-- ---- the operations in the order of their keys

-- the flat machine where it ends: from there the operations are none of its steps
abbrev pub flat_end : FlatMachine
flat_end = flat_of ended_0.hart (record ended_1.hart { halt = None }) 7

-- the second put
abbrev pub one_left_out : MachineValue
one_left_out = with_ops (first_load ∷ store ∷ second_load ∷ first_put ∷ [])

-- of hart 1, the store and the load
abbrev pub exchanged_in_hart : MachineValue
exchanged_in_hart =
    with_ops (first_load ∷ record store { key = second_load.key } ∷ record second_load { key = store.key }
    ∷ second_put ∷ first_put ∷ [])

-- the store of hart 1 comes before the load of hart 0, which reads the old word
abbrev pub exchanged_between_harts : MachineValue
exchanged_between_harts = with_ops (first_load ∷ record store { key = key_of 10 1 0 } ∷ second_load ∷ second_put ∷ first_put ∷ [])

abbrev pub other_pc : MachineValue
other_pc = with_ops (first_load ∷ store ∷ second_load ∷ second_put ∷ record first_put { pc = 0x1000c } ∷ [])

abbrev pub other_word_loaded : MachineValue
other_word_loaded = with_ops (first_load ∷ store ∷ record second_load { effect = Effect.Load 0x20000 5 } ∷ second_put ∷ first_put ∷ [])

abbrev pub other_word_stored : MachineValue
other_word_stored = with_ops (first_load ∷ record store { effect = Effect.Store 0x20000 5 8 } ∷ second_load ∷ second_put ∷ first_put ∷ [])

abbrev pub other_byte : MachineValue
other_byte = with_ops (first_load ∷ store ∷ second_load ∷ record second_put { effect = Effect.Put 0x49 } ∷ first_put ∷ [])

-- ---- each hart's own order

-- hart 1 completed its load before its store
abbrev pub completed_otherwise : MachineValue
completed_otherwise = with_ops (first_load ∷ second_load ∷ store ∷ second_put ∷ first_put ∷ [])

-- ---- harts

abbrev pub other_register : MachineValue
other_register = with_leaves ended_0 (record ended_1 { hart = record (hart_at 0x1000c 5 None) { halt = ended_1.hart.halt } })

abbrev pub other_place : MachineValue
other_place = with_leaves (record ended_0 { hart = hart_at 0x10008 5 None }) ended_1

abbrev pub one_more_done : MachineValue
one_more_done = with_leaves ended_0 (record ended_1 { done = 4 })

abbrev pub other_halt : MachineValue
other_halt = with_leaves ended_0 (record ended_1 { hart = hart_at 0x1000c 7 (Some HaltCause.Breakpoint) })

-- the start, where hart 0 has halted at a load that the flat hart completes
abbrev pub halted_at_a_load : MachineValue
halted_at_a_load =
    machine_of
    (leaf_at 0 (hart_at 0x10004 0 (Some HaltCause.Breakpoint)) 0 None
    ∷ leaf_at 1 (hart_at 0x10000 0 None) 0 (entry LeafState.Exclusive 5) ∷ []) []

-- the flat start, where hart 0 has halted
abbrev pub halted_flat_start : FlatMachine
halted_flat_start = flat_of (hart_at 0x10004 0 (Some HaltCause.Breakpoint)) (hart_at 0x10000 0 None) 5

-- ---- copies

-- leaf 0 has kept the word that it loaded, and its copy is the one that is found
abbrev pub stale_copy : MachineValue
stale_copy = with_leaves (record ended_0 { ways = entry LeafState.Shared 5 ∷ [] }) ended_1

abbrev pub no_copy : MachineValue
no_copy = with_leaves ended_0 (record ended_1 { ways = None ∷ [] })

-- there is a second item, and no leaf has it
abbrev pub no_copy_of_the_second : MachineValue
no_copy_of_the_second =
    record ended {
      items = record {
        size = 4;
        rows = record { address = 0x20000; writable = true }
            ∷ record { address = 0x20004; writable = true } ∷ [];
      };
    }
