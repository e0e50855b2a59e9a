use Rattle.std.proofs.Common.{◌≡◌, ◌<◌, ◌≤◌, length, sym, arith, rules}
use Rattle.ddm_types.specs.ItemTable.{item_at}
use Rattle.ddm_types.proofs.item_table.Items.if_there.Goals as goal
use Rattle.ddm_types.proofs.Rows.{only}

-- the row has the byte
pub returns-then-address-row : goal.returns-then-address-row
unfolding item_at
returns-then-address-row c =
    rw (sym c.self.view_is)
    (only c.self.inside.item_bytes c.self.inside.rows.items c.args.address c.args.number c.self.invariant.in_order c.index-row.result.now (omega (arith, c.if-number-len.false, c.len.ensures)) c.index-row.ensures c.if-row-address.true c.if-address-row.true)
