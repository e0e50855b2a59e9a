use Rattle.std.proofs.Common.{◌≤◌}
use Rattle.std.specs.List.{position_or_len}
use Rattle.replacement.specs.TreeModel.State.Lists.{names_item}
use Rattle.replacement.proofs.arrivals.Arrivals.index_of.Given as goal

abbrev pub invariant-loop-index : goal.invariant-loop-index
invariant-loop-index g l = l.index ≤ position_or_len (names_item g.T.Named.named l.item) l.self.list
