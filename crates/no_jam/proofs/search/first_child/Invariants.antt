use Rattle.std.proofs.Common.{◌≡◌, map}
use Rattle.std.specs.Prelude.{find}
use Rattle.std.specs.List.{range_with_len}
use Rattle.any_machine.specs.Any.{machine_state}
use Rattle.jam_laws.specs.GoesOn.{would_grant}
use Rattle.no_jam.specs.Asked.{child_turn}
use Rattle.no_jam.proofs.Searching.{found_from}
use Rattle.no_jam.proofs.search.first_child.Given as goal

-- what is found is found among the children that are left
abbrev pub invariant-loop-child : goal.invariant-loop-child
invariant-loop-child l =
    let p = would_grant (machine_state l.machine).machine in
    let f = child_turn l.asked l.bus in
    find p (map f (range_with_len 0 l.kids)) ≡ found_from p f l.child l.kids
