use Rattle.std.proofs.Common.{length, arith, ap, sym, ◌∙◌, ◌<◌, ◌≤◌, ◌+◌}
use Rattle.rv_flat.specs.DdmTypes.ItemTable.{row_at}
use Rattle.rv_flat.proofs.FlatModel.Items.{item_at_inside}
use Rattle.rv_hart.proofs.Accesses.{item_at_from, item_at_below}
use Rattle.rv_flat.specs.FlatState.{FlatState}
use Rattle.rv_flat.proofs.machine.FlatMachine.word.Goals as goal

pub address-requires : goal.address-requires
address-requires c = item_at_inside c.args.items.now c.args.address c.in_ok-item.item (sym c.find.ensures ∙ c.in_ok-item.was)

pub overflow_sub-place : goal.overflow_sub-place
overflow_sub-place c = rw c.address.ensures (item_at_from c.args.items.now c.args.address c.in_ok-item.item (sym c.find.ensures ∙ c.in_ok-item.was))

pub word-requires-clause-item : goal.word-requires-clause-item
word-requires-clause-item c = rw (ap (λ (s : FlatState). length s.machine.words) c.self.view_is ∙ c.requires.count) (item_at_inside c.args.items.now c.args.address c.in_ok-item.item (sym c.find.ensures ∙ c.in_ok-item.was))

pub word-requires-clause-place : goal.word-requires-clause-place
word-requires-clause-place c =
    let below : c.args.address < (row_at c.args.items.now c.in_ok-item.item).address + c.args.items.now.size = item_at_below c.args.items.now c.args.address c.in_ok-item.item (sym c.find.ensures ∙ c.in_ok-item.was) in
    let from : (row_at c.args.items.now c.in_ok-item.item).address ≤ c.args.address = item_at_from c.args.items.now c.args.address c.in_ok-item.item (sym c.find.ensures ∙ c.in_ok-item.was) in
    rw (ap (λ (s : FlatState). s.size) c.self.view_is ∙ c.requires.size) (omega arith)
