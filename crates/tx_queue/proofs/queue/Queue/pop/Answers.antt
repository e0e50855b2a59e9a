use Rattle.std.proofs.Common.{◌∙◌, sym}
use Rattle.tx_queue.proofs.Steps.{pop_some, pop_counted}
use Rattle.tx_queue.proofs.queue.Queue.pop.Goals as goal

pub overflow_sub-index_mut : goal.overflow_sub-index_mut
overflow_sub-index_mut g c =
    pop_some g.T.Named.named _ _ _ c.in-Some.entry _ _ c.self.invariant (c.item.view_is ∙ c.item-item.ensures) (sym c.in-Some.ensures.value) c.index_mut.ensures.value

pub invariant_of-self : goal.invariant_of-self
invariant_of-self g c =
    rw c.in-Some.ensures.items
    (pop_counted g.T.Named.named _ _ _ c.in-Some.entry _ _ c.self.invariant (c.item.view_is ∙ c.item-item.ensures) (sym c.in-Some.ensures.value) c.index_mut.ensures.value)
