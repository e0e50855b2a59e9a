use Rattle.serving_walk.specs.Parts.{bus_count, part_at}
use Rattle.serving_walk.proofs.erasing.+erase.Given as goal

abbrev pub decreases-erase : goal.decreases-erase
decreases-erase g l = bus_count (part_at l.part (g.T.Tree.value l.tree.now))
