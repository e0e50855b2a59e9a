use Rattle.std.proofs.Common.{rules}
use Rattle.std.proofs.lemmas.Fn.{always_returns_same}
use Rattle.joining.specs.OutcomeModel.Table.{stands_before}
use Rattle.joining.proofs.Sorting.{is-order, sorted-in_order}
use Rattle.joining.proofs.ordering.put_in_order.Goals as goal

pub returns : goal.returns
returns c =
    let same = always_returns_same _ _ _ (λ a r f k. search rules) in
    sorted-in_order c.args.lines.now.items c.sort_by.new.self.items (c.in_ok-sort_by.ensures.sorted stands_before is-order same) (c.in_ok-sort_by.ensures.stable stands_before is-order same)
