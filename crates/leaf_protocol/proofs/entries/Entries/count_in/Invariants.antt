use Rattle.std.proofs.Common.{◌≡◌, ◌≤◌, length}
use Rattle.leaf_protocol.specs.StateWords.Parts.{standing_in}
use Rattle.leaf_protocol.proofs.entries.Entries.count_in.Given as goal

abbrev pub invariant-loop-way : goal.invariant-loop-way
invariant-loop-way g l = (l.count ≡ length (standing_in l.self.sets l.self.ways l.way l.set)) × (l.count ≤ l.way)
