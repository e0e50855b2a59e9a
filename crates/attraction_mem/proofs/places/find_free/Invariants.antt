use Rattle.attraction_mem.specs.Places.{AreTaken}
use Rattle.attraction_mem.proofs.places.find_free.Given as goal

abbrev pub invariant-loop-way : goal.invariant-loop-way
invariant-loop-way g l = AreTaken l.tags l.first l.way
