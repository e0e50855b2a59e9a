use Rattle.std.proofs.Common.{◌≡◌}
use Rattle.run_engine.proofs.ItemWords.{first_item_words}
use Rattle.run_engine.proofs.contents.words.Given as goal

abbrev pub invariant-loop-item : goal.invariant-loop-item
invariant-loop-item g l = l.words.items ≡ first_item_words g.row.WORDS l.segments l.items.rows l.item
