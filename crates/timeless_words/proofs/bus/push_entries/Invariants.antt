use Rattle.std.proofs.Common.{◌≡◌, ◌++◌, ◌-◌}
use Rattle.timeless_words.specs.Struck.{entries_struck}
use Rattle.timeless_words.proofs.bus.push_entries.Given as goal

-- what is there and what is left come to what is to be there
abbrev pub invariant-loop-entry : goal.invariant-loop-entry
invariant-loop-entry l = l.out.items ++ entries_struck l.item_words (l.count - l._entry) l.left ≡ l.initial.out.items ++ entries_struck l.item_words l.count l.words
