use Rattle.serving_walk.specs.Parts.{bus_count, part_at}
use Rattle.serving_walk.proofs.reading.+ask.Given as goal

abbrev pub decreases-ask : goal.decreases-ask
decreases-ask g l = bus_count (part_at l.part (g.T.Tree.value l.tree.now))
