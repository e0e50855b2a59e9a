use Rattle.std.specs.List.{flat_map}
use Rattle.leaf_protocol.specs.DdmText.Adds.{Adds}
use Rattle.leaf_protocol.specs.StateWords.Parts.{standing_in, standing_words}
use Rattle.leaf_protocol.proofs.entries.Entries.write_set.Given as goal

abbrev pub invariant-loop-way : goal.invariant-loop-way
invariant-loop-way g l = Adds l.initial.out.items l.out.items (flat_map standing_words (standing_in l.self.sets l.self.ways l.way l.set))
