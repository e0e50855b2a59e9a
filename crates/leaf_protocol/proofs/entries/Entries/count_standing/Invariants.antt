use Rattle.std.proofs.Common.{◌≡◌, ◌≤◌, ◌*◌, length}
use Rattle.leaf_protocol.proofs.Standing.{first_sets}
use Rattle.leaf_protocol.proofs.entries.Entries.count_standing.Given as goal

abbrev pub invariant-loop-set : goal.invariant-loop-set
invariant-loop-set g l = (l.count ≡ length (first_sets l.self.sets l.self.ways g.row.WAYS l.set)) × (l.count ≤ l.set * g.row.WAYS)
