use Rattle.std.proofs.Common.{◌≡◌, ◌∙◌, ◌<◌, ◌≤◌, length, ap, sym, get_or, arith}
use Rattle.std.proofs.lemmas.List.{take_all}
use Rattle.ddm_types.specs.ItemTable.{item_count, no_row, row_at}
use Rattle.report.specs.DdmText.Adds.{◌▸◌}
use Rattle.recording.specs.AnyMachine.Any.{state_in}
use Rattle.recording.proofs.InspectorCrate.OneMore.{got-some}
use Rattle.measure_model.specs.Text.{item_counts_line}
use Rattle.measuring.specs.Tally.{no_item_counts}
use Rattle.measuring.proofs.Listed.{items-paired, pair-next}
use Rattle.measuring.proofs.text.push_items.Goals as goal

pub loop-item-preserved : goal.loop-item-preserved
loop-item-preserved g c =
    let rows = (state_in c.args.machine.now).machine.items.rows in
    let k = c.loop-item.item in
    let row = get_or rows k no_row in
    let count = c.len-item-end.ensures ∙ ap item_count c.items.ensures in
    let inside : k < length rows = omega (arith, count, c.loop-item-test.true) in
    let counted : k < length c.args.items.now = omega (arith, count, c.requires, c.loop-item-test.true) in
    let address : row.address ≡ c.address-address.result = sym (c.address-address.ensures ∙ ap (λ t. (row_at t k).address) c.items-in-loop-item.ensures) in
    rw (pair-next item_counts_line k rows c.args.items.now row (get_or c.args.items.now k no_item_counts) (got-some rows k no_row inside) (got-some c.args.items.now k no_item_counts counted))
    (c.loop-item.invariant ▸ c.in_ok-push_item.ensures row address)

pub returns : goal.returns
returns g c =
    let rows = (state_in c.args.machine.now).machine.items.rows in
    let count = c.len-item-end.ensures ∙ ap item_count c.items.ensures in
    let past : length rows ≤ c.loop-item.item = omega (arith, count, c.loop-item-test.false) in
    let counted : length c.args.items.now ≤ c.loop-item.item = omega (arith, count, c.requires, c.loop-item-test.false) in
    rw (items-paired 0 rows c.args.items.now) (rw (take_all c.loop-item.item rows past, take_all c.loop-item.item c.args.items.now counted) at c.loop-item.invariant)
