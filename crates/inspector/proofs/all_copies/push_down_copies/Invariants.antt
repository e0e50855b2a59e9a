use Rattle.std.proofs.Common.{◌≡◌, ◌++◌, [], take}
use Rattle.std.specs.Prelude.{unwrap_or}
use Rattle.inspector.specs.Copies.{down_copies, down_of}
use Rattle.inspector.proofs.all_copies.push_down_copies.Given as goal

abbrev pub invariant-loop-place : goal.invariant-loop-place
invariant-loop-place g l = l.places.items ≡ l.initial.places.items ++ down_copies l.item l.bus 0 (take l.place (unwrap_or (down_of l.bus l.machine.machine) []))
