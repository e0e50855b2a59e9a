use Rattle.std.proofs.Common.{◌≡◌, ◌∙◌, ap, sym, arith}
use Rattle.std.specs.Prelude.{count_by, slice_index}
use Rattle.bus_judging.specs.Queue.{facts_of}
use Rattle.directory.specs.TreeModel.State.Directory.{entry_item, entry_kind, queue_of}
use Rattle.directory.specs.TreeModel.State.Lists.{names_item}
use Rattle.directory.proofs.Walks.{entry-more, walk-ended}
use Rattle.directory.proofs.listed.told_down_facts.Goals as goal

pub overflow_add-least : goal.overflow_add-least
overflow_add-least g c = omega (arith, c.stands_next.ensures.word, c.from-least.ensures)

pub loop-number-preserved : goal.loop-number-preserved
loop-number-preserved g c =
    entry-more entry_kind entry_item c.args.item facts_of c.args.down.now.list c.loop-number._number c.loop-number.least c.loop-number.place c.from-least.result c.loop-number.facts c.with_entry.new.facts
    c.loop-number.invariant (sym c.stands_next.ensures.stands ∙ c.if-not-stands_next.false) c.with_entry.ensures c.from-least.ensures

pub returns : goal.returns
unfolding queue_of
returns g c =
    let count : slice_index c.counts.result.now c.item.inside.0 ≡ count_by (names_item entry_item c.args.item) c.args.down.now.list = ap (λ i. slice_index c.counts.result.now i) c.item.view_is ∙ c.counts.ensures.counts c.args.item c.requires in
    let all : c.loop-number._number ≡ count_by (names_item entry_item c.args.item) c.args.down.now.list = omega (arith, count, c.loop-number.auto._number-end, c.loop-number-test.false) in
    walk-ended entry_kind (names_item entry_item c.args.item) facts_of c.args.down.now.list c.loop-number._number c.loop-number.least c.loop-number.facts c.loop-number.invariant all
