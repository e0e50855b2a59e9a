use Rattle.std.proofs.Common.{[], None}
use Rattle.attraction_mem.specs.Copying.{IsCopied}
use Rattle.attraction_mem.proofs.copying.copy_set.Given as goal

abbrev pub invariant-loop-way : goal.invariant-loop-way
invariant-loop-way g l = IsCopied None l.initial.tags l.from_tags l.tags l.first l.way × IsCopied [] l.initial.words l.from_words l.words l.first l.way
