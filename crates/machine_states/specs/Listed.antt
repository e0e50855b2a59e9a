-- The turns of a hart and of a bus by their numbers.
-- Letters: m is a machine, k a number.
-- To be believed with the contracts: they speak of it.
use Rattle.std.specs.Prelude.{ℕ, List, [], map, slice_index_or}
use Rattle.std.specs.List.{range_with_len}
use Rattle.ddm_types.specs.declared.turns.Turn.{Turn}
use Rattle.tree_model.specs.State.Values.{LeafValue, MachineValue, root_of}
use Rattle.tree_model.specs.Turns.Machine.{machine_leaves}
use Rattle.explorer.specs.SearchModel.Tried.{BusParts, buses_of, in_order}

-- the bus of a number, with its children
abbrev pub parts_at : ℕ → MachineValue → BusParts
parts_at k m = slice_index_or (in_order (buses_of (root_of m) [])) k (record { number = k; kids = [] })

-- a hart's turns, by victim
abbrev pub hart_turns : ℕ → ℕ → List Turn
hart_turns ways hart = map (λ victim. Turn.Hart hart victim) (range_with_len 0 ways)

-- the first turn of each hart, the leaves from left to right
abbrev pub first_victims : MachineValue → List Turn
first_victims m = map (λ (v : LeafValue). Turn.Hart v.number 0) (machine_leaves m)
