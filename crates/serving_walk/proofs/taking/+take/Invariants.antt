use Rattle.serving_walk.specs.Parts.{bus_count, part_at}
use Rattle.serving_walk.proofs.taking.+take.Given as goal

abbrev pub decreases-take : goal.decreases-take
decreases-take g l = bus_count (part_at l.part (g.T.Tree.value l.tree.now))
