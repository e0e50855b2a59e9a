use Rattle.std.proofs.Common.{◌∙◌, ap, rules, ◌<◌, ◌+◌, ◌^◌, length, arith}
use Rattle.tx_queue.proofs.Steps.{push_fits, push_counted}
use Rattle.tx_queue.proofs.queue.Queue.push.Goals as goal

pub overflow_add-index_mut : goal.overflow_add-index_mut
overflow_add-index_mut g c =
    let below : g.T.Named.named c.args.entry < length c.self.inside.counts.items = omega (arith, c.requires, ap (λ q. q.items) c.self.view_is) in
    let room : length c.self.inside.ring.items < c.self.inside.ring.capacity = search rules in
    let fits : c.index_mut.result.now + 1 < 2 ^ 32 = push_fits g.T.Named.named _ _ _ c.args.entry _ _ c.self.invariant (c.item.view_is ∙ c.item-item.ensures) below c.index_mut.ensures.value room in
    search rules

pub invariant_of-self : goal.invariant_of-self
invariant_of-self g c =
    let below : g.T.Named.named c.args.entry < length c.self.inside.counts.items = omega (arith, c.requires, ap (λ q. q.items) c.self.view_is) in
    let room : length c.self.inside.ring.items < c.self.inside.ring.capacity = search rules in
    rw c.in-Ok.ensures.ok
    (push_counted g.T.Named.named _ _ _ c.args.entry _ _ c.self.invariant (c.item.view_is ∙ c.item-item.ensures) below c.index_mut.ensures.value room)
