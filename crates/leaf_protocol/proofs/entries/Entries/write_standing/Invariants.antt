use Rattle.std.specs.List.{flat_map}
use Rattle.leaf_protocol.specs.DdmText.Adds.{Adds}
use Rattle.leaf_protocol.specs.StateWords.Parts.{standing_words}
use Rattle.leaf_protocol.proofs.Standing.{first_sets}
use Rattle.leaf_protocol.proofs.entries.Entries.write_standing.Given as goal

abbrev pub invariant-loop-set : goal.invariant-loop-set
invariant-loop-set g l = Adds l.initial.out.items l.out.items (flat_map standing_words (first_sets l.self.sets l.self.ways g.row.WAYS l.set))
