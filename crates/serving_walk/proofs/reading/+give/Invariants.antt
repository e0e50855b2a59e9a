use Rattle.serving_walk.specs.Parts.{bus_count, part_at}
use Rattle.serving_walk.proofs.reading.+give.Given as goal

abbrev pub decreases-give : goal.decreases-give
decreases-give g l = bus_count (part_at l.part (g.T.Tree.value l.tree.now))
