use Rattle.std.proofs.Common.{map}
use Rattle.std.specs.List.{flat_map}
use Rattle.leaf_protocol.specs.DdmText.Adds.{Adds}
use Rattle.leaf_protocol.proofs.replies.write_each.Given as goal

abbrev pub invariant-loop-entry : goal.invariant-loop-entry
invariant-loop-entry g l = Adds l.initial.out.items l.out.items (flat_map g.T.Spelled.words (map (λ r. r.now) l.yielded))
