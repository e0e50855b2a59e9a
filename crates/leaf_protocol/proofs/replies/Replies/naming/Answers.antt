use Rattle.std.proofs.Common.{◌≡◌, ◌+◌, ◌++◌, cond, length, sym, ap, ◌∙◌, arith}
use Rattle.std.proofs.lemmas.List.{length-append}
use Rattle.std.proofs.lemmas.List.Sums.{sum_by-append}
use Rattle.leaf_protocol.specs.TreeModel.State.Lists.{names_item}
use Rattle.tx_queue.specs.QueueList.{count_naming}
use Rattle.leaf_protocol.specs.Leaf.{copied_item}
use Rattle.leaf_protocol.proofs.replies.Replies.naming.Goals as goal

pub count_naming-requires : goal.count_naming-requires
count_naming-requires g c =
    let whole = ap length c.as_slices.ensures in
    let parts = length-append c.as_slices.result.0.now c.as_slices.result.1.now in
    omega (arith, whole, parts, c.self.invariant.0, c.self.invariant.1)

pub count_naming-requires-2 : goal.count_naming-requires-2
count_naming-requires-2 g c =
    let whole = ap length c.as_slices.ensures in
    let parts = length-append c.as_slices.result.0.now c.as_slices.result.1.now in
    omega (arith, whole, parts, c.self.invariant.0, c.self.invariant.1)

pub overflow_add-result : goal.overflow_add-result
overflow_add-result g c =
    let whole = ap length c.as_slices.ensures in
    let parts = length-append c.as_slices.result.0.now c.as_slices.result.1.now in
    omega (arith, whole, parts, c.count_naming.ensures.most, c.count_naming-2.ensures.most, c.self.invariant.0, c.self.invariant.1)

pub returns : goal.returns
returns g c =
    let parts = sum_by-append (λ r. cond (names_item copied_item c.args.item r) 1 0) c.as_slices.result.0.now c.as_slices.result.1.now in
    let both : c.count_naming.result + c.count_naming-2.result ≡ count_naming copied_item c.args.item (c.as_slices.result.0.now ++ c.as_slices.result.1.now) = ap (λ n. n + c.count_naming-2.result) c.count_naming.ensures.naming ∙ ap (λ n. count_naming copied_item c.args.item c.as_slices.result.0.now + n) c.count_naming-2.ensures.naming ∙ sym parts in
    both ∙ ap (count_naming copied_item c.args.item) c.as_slices.ensures ∙ ap (λ q. count_naming copied_item c.args.item q.list) c.self.view_is
