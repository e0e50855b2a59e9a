use Rattle.std.proofs.Common.{◌≡◌}
use Rattle.rv_flat.specs.ItemWords.{words_by_item}
use Rattle.rv_flat.proofs.memory.cut_into_items.Given as goal

abbrev pub invariant-loop-item : goal.invariant-loop-item
invariant-loop-item g l = l.all.items ≡ words_by_item g.row.WORDS l.item l.words
