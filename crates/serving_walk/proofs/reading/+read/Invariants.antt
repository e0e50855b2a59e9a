use Rattle.serving_walk.specs.Parts.{bus_count, part_at}
use Rattle.serving_walk.proofs.reading.+read.Given as goal

abbrev pub decreases-read : goal.decreases-read
decreases-read g l = bus_count (part_at l.part (g.T.Tree.value l.tree.now))
