use Rattle.std.proofs.Common.{◌<◌, ◌∷◌, ◌+◌, drop, length, sym, ap, ◌∙◌, arith}
use Rattle.std.proofs.lemmas.List.{drop_more}
use Rattle.operation_list.proofs.iter.IterIterator.next.Goals as goal

pub returns-then-self-len-clause-steps : goal.returns-then-self-len-clause-steps
returns-then-self-len-clause-steps c =
    let ops = c.self.inside.ops.now.items in
    let place = c.self.inside.place in
    let op = c.get-op.result in
    let inside : place < length ops = omega (arith, c.len.ensures.length, c.if-self-len.true) in
    sym c.self.view_is ∙ drop_more ops place op inside ∙ ap (λ o. o ∷ drop (place + 1) ops) (sym (c.get-op.ensures op))
