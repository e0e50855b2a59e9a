use Rattle.std.proofs.Common.{◌∙◌, ap, sym, ◌<◌, length, arith}
use Rattle.tx_queue.specs.Requests.{is_request}
use Rattle.tx_queue.proofs.Counts.{counted_still}
use Rattle.tx_queue.proofs.Steps.{remove_some, remove_counted}
use Rattle.tx_queue.proofs.requests.Queue+tuple2+TxKind+ItemId.remove_request.Goals as goal

pub overflow_sub-index_mut : goal.overflow_sub-index_mut
overflow_sub-index_mut c =
    let below : c.item.inside.0 < length c.self.inside.counts.items = omega (arith, c.requires, c.item.view_is, ap (λ q. q.items) c.self.view_is) in
    remove_some _ _ _ c.args.kind c.args.item _ _ c.self.invariant c.item.view_is below c.index_mut.ensures.value (sym c.remove_first-found.ensures.found ∙ c.if-found.true)

pub invariant_of-self : goal.invariant_of-self
invariant_of-self c =
    let below : c.item.inside.0 < length c.self.inside.counts.items = omega (arith, c.requires, c.item.view_is, ap (λ q. q.items) c.self.view_is) in
    rw c.remove_first-found.ensures.rest
    (remove_counted _ _ _ c.args.kind c.args.item _ _ c.self.invariant c.item.view_is below c.index_mut.ensures.value (sym c.remove_first-found.ensures.found ∙ c.if-found.true))

pub invariant_of-self-else-found : goal.invariant_of-self-else-found
invariant_of-self-else-found c =
    rw c.remove_first-found.ensures.rest
    (counted_still _ _ _ _ (is_request c.args.kind c.args.item) c.self.invariant (sym c.remove_first-found.ensures.found ∙ c.if-found.false))
