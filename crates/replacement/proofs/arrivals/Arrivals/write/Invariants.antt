use Rattle.std.proofs.Common.{take}
use Rattle.std.specs.List.{flat_map}
use Rattle.replacement.specs.DdmText.Adds.{Adds}
use Rattle.replacement.proofs.arrivals.Arrivals.write.Given as goal

abbrev pub invariant-loop-index : goal.invariant-loop-index
invariant-loop-index g l = Adds l.initial.out.items l.out.items (flat_map g.T.Spelled.words (take l.index l.self.list))
