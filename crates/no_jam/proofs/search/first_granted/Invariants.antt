use Rattle.std.proofs.Common.{◌≡◌}
use Rattle.std.specs.Prelude.{unwrap_or}
use Rattle.no_jam.specs.TreeModel.State.Shape.{tree_counts}
use Rattle.no_jam.specs.TreeModel.Turns.Machine.{child_count}
use Rattle.any_machine.specs.Any.{machine_state}
use Rattle.jam_laws.specs.GoesOn.{first_granted, turns_of_bus, would_grant}
use Rattle.no_jam.proofs.Searching.{given_from}
use Rattle.no_jam.proofs.search.first_granted.Given as goal

-- what is found is found on the buses that are left
abbrev pub invariant-loop-bus : goal.invariant-loop-bus
invariant-loop-bus l =
    let m = (machine_state l.machine).machine in
    first_granted m ≡ given_from (would_grant m) (λ bus. turns_of_bus bus (unwrap_or (child_count bus m) 0)) l.bus (tree_counts m).buses
