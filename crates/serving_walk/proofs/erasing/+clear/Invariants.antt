use Rattle.serving_walk.specs.Parts.{bus_count, part_at}
use Rattle.serving_walk.proofs.erasing.+clear.Given as goal

abbrev pub decreases-clear : goal.decreases-clear
decreases-clear g l = bus_count (part_at l.part (g.T.Tree.value l.tree.now))
