use Rattle.std.proofs.Common.{◌∙◌, ap, ◌<◌, length, arith}
use Rattle.std.specs.List.{list_any}
use Rattle.tx_queue.specs.TreeModel.State.Lists.{names_item}
use Rattle.tx_queue.proofs.Steps.{some_named}
use Rattle.tx_queue.proofs.queue.Queue.holds_item.Goals as goal

pub returns : goal.returns
returns g c =
    let below : c.item.inside.0 < length c.self.inside.counts.items = omega (arith, c.requires, c.item.view_is, ap (λ q. q.items) c.self.view_is) in
    some_named g.T.Named.named _ _ _ c.args.item _ _ c.self.invariant c.item.view_is below c.index.ensures
    ∙ ap (λ q. list_any (names_item g.T.Named.named c.args.item) q.list) c.self.view_is
