use Rattle.std.proofs.Common.{◌≡◌, ◌≤◌, ◌+◌, length, take, refl, sym, ap, ◌∙◌, arith}
use Rattle.std.proofs.lemmas.List.{length-take-le, take_all}
use Rattle.std.proofs.lemmas.List.Sums.{count_by-le-length, count_by_more_yes, count_by_more_no}
use Rattle.leaf_protocol.specs.TreeModel.State.Lists.{names_item}
use Rattle.tx_queue.specs.QueueList.{count_naming}
use Rattle.leaf_protocol.specs.Leaf.{copied_item}
use Rattle.leaf_protocol.proofs.replies.count_naming.Goals.{then-names_item, else-names_item}
use Rattle.leaf_protocol.proofs.replies.count_naming.Goals as goal

pub loop-reply-init : goal.loop-reply-init
loop-reply-init g c = refl

pub overflow_add-count : goal.overflow_add-count
overflow_add-count g c =
    let seen = take c.loop-reply.reply-index c.args.replies.now in
    let few : count_naming copied_item c.args.item seen ≤ length seen = count_by-le-length (names_item copied_item c.args.item) seen in
    let size : length seen ≡ c.loop-reply.reply-index = length-take-le c.loop-reply.reply-index c.args.replies.now (omega (arith, c.loop-reply-test.true)) in
    omega (arith, few, size, c.loop-reply.invariant, c.loop-reply-test.true, c.requires)

pub loop-reply-preserved : goal.loop-reply-preserved
loop-reply-preserved g c =
    let xs = c.args.replies.now in
    let k = c.loop-reply.reply-index in
    let here = ap (names_item copied_item c.args.item) (sym c.reply-item.is) in
    elim c.if-names_item.branch [
      | then-names_item w ↦ w.count-is ∙ ap (λ n. n + 1) c.loop-reply.invariant ∙ sym (count_by_more_yes (names_item copied_item c.args.item) xs k c.reply-item.result c.loop-reply-test.true (here ∙ sym c.names_item.ensures ∙ w.if-names_item.true))
      | else-names_item w ↦ w.count-is ∙ c.loop-reply.invariant ∙ sym (count_by_more_no (names_item copied_item c.args.item) xs k c.reply-item.result c.loop-reply-test.true (here ∙ sym c.names_item.ensures ∙ w.if-names_item.false))
    ]

pub returns-clause-naming : goal.returns-clause-naming
returns-clause-naming g c = c.loop-reply.invariant ∙ ap (count_naming copied_item c.args.item) (take_all c.loop-reply.reply-index c.args.replies.now c.loop-reply-test.false)

pub returns-clause-most : goal.returns-clause-most
returns-clause-most g c =
    let all : c.loop-reply.count ≡ count_naming copied_item c.args.item c.args.replies.now = returns-clause-naming g c in
    let few : count_naming copied_item c.args.item c.args.replies.now ≤ length c.args.replies.now = count_by-le-length (names_item copied_item c.args.item) c.args.replies.now in
    omega (arith, all, few)
