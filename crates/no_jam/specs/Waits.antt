-- What is asked of a leaf: whether an entry of it waits.
-- Letters: m is a machine, v a leaf.
-- To be believed with the contracts: they speak of it.
use Rattle.std.specs.Prelude.{ℕ, Bool, false, Option}
use Rattle.no_jam.specs.TreeModel.State.Values.{MachineValue}
use Rattle.no_jam.specs.TreeModel.Turns.Machine.{ask_leaf}
use Rattle.jam_laws.specs.GoesOn.{leaf_is_waiting}

abbrev pub waits_of : ℕ → MachineValue → Option Bool
waits_of leaf m = ask_leaf leaf (λ w v. leaf_is_waiting v) false m
