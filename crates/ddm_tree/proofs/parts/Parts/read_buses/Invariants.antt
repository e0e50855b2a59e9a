use Rattle.std.proofs.Common.{◌≤◌, length}
use Rattle.ddm_tree.proofs.BusesRead.{BusesSoFar}
use Rattle.ddm_tree.proofs.parts.Parts.read_buses.Given as goal

-- the buses so far
abbrev pub invariant-loop-bus : goal.invariant-loop-bus
invariant-loop-bus g l = record { so_far : BusesSoFar l.words l.from l.fn.self l.parts l.bus l.at; inside : l.at ≤ length l.words }
