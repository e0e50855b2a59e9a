use Rattle.std.proofs.Common.{◌∙◌, sym, append-nil}
use Rattle.measure_model.specs.Text.{item_counts_line}
use Rattle.measuring.proofs.lines.push_item.Goals as goal

pub returns-then-is_nothing : goal.returns-then-is_nothing
unfolding item_counts_line
returns-then-is_nothing c = λ row is. rw (sym c.is_nothing.ensures ∙ c.if-is_nothing.true) (record { is = sym (append-nil c.args.out.now.items) })

pub returns : goal.returns
unfolding item_counts_line
returns c = λ row is. rw (sym c.is_nothing.ensures ∙ c.if-is_nothing.false, is) c.in_ok-push_told_item.ensures
