use Rattle.std.proofs.Common.{◌≡◌, ◌∙◌, ap, sym, arith}
use Rattle.std.specs.Prelude.{count_by, slice_index}
use Rattle.bus_judging.specs.Parent.{request_facts}
use Rattle.directory.proofs.EntryKinds.{pair_item, pair_kind, requests-kinds}
use Rattle.directory.specs.TreeModel.State.Lists.{names_item}
use Rattle.directory.proofs.Walks.{entry-more, walk-ended}
use Rattle.directory.proofs.listed.told_asked_facts.Goals as goal

pub overflow_add-least : goal.overflow_add-least
overflow_add-least c = omega (arith, c.asks_next.ensures.word, c.from-least.ensures)

pub loop-number-preserved : goal.loop-number-preserved
loop-number-preserved c =
    entry-more pair_kind pair_item c.args.item request_facts c.args.requests.now.list c.loop-number._number c.loop-number.least c.loop-number.place c.from-least.result c.loop-number.facts c.with_request.new.facts
    c.loop-number.invariant (sym c.asks_next.ensures.stands ∙ c.if-not-asks_next.false) c.with_request.ensures c.from-least.ensures

pub returns : goal.returns
returns c =
    let count : slice_index c.counts.result.now c.item.inside.0 ≡ count_by (names_item pair_item c.args.item) c.args.requests.now.list = ap (λ i. slice_index c.counts.result.now i) c.item.view_is ∙ c.counts.ensures.counts c.args.item c.requires in
    let all : c.loop-number._number ≡ count_by (names_item pair_item c.args.item) c.args.requests.now.list = omega (arith, count, c.loop-number.auto._number-end, c.loop-number-test.false) in
    walk-ended pair_kind (names_item pair_item c.args.item) request_facts c.args.requests.now.list c.loop-number._number c.loop-number.least c.loop-number.facts c.loop-number.invariant all
    ∙ ap request_facts (sym (requests-kinds c.args.item c.args.requests.now.list))
