use Rattle.std.proofs.Common.{◌≡◌, take}
use Rattle.joining.specs.Said.{AreAlike}
use Rattle.join_model.specs.Joined.{with_table}
use Rattle.joining.proofs.lines.LineSet.add_all.Given as goal

abbrev pub invariant-loop-line : goal.invariant-loop-line
invariant-loop-line l = record {
  sum : l.self.lines.items ≡ with_table (take l.line-index l.lines) l.initial.self.lines.items;
  alike : AreAlike l.self;
}
