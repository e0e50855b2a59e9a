use Rattle.std.proofs.Common.{◌*◌, None}
use Rattle.attraction_mem.specs.Copying.{IsCopied}
use Rattle.attraction_mem.proofs.Copied.{AreCopiedBelow}
use Rattle.attraction_mem.proofs.copying.copy_sets.Given as goal

abbrev pub invariant-loop-set : goal.invariant-loop-set
invariant-loop-set g l =
    IsCopied None l.initial.tags l.from_tags l.tags 0 (l.set * g.row.WAYS)
    × AreCopiedBelow l.from_tags l.initial.words l.from_words l.words (l.set * g.row.WAYS)
    × IsCopied 0 l.initial.marks l.from_marks l.marks 0 l.set
