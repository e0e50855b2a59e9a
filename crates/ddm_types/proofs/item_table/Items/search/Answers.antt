use Rattle.std.proofs.Common.{◌≡◌, ◌≤◌, leb, true, false, length, sym, arith, rules}
use Rattle.std.specs.List.Sorted.{IsPartitionPoint, IsPartitionedBy}
use Rattle.std.proofs.lemmas.List.Sorted.{IsPartitionPoint-from_clause, IsPartitionedBy-leb}
use Rattle.ddm_types.specs.ItemTable.{item_at}
use Rattle.ddm_types.proofs.item_table.Items.search.Goals as goal
use Rattle.ddm_types.proofs.item_table.Items.search.Goals.{After-partition_point-after, After-index-row}
use Rattle.ddm_types.proofs.Rows.{rows-rise, started, none_started, found, missed}

-- the rows before the answer start at the address or below
point : (c : After-partition_point-after) → IsPartitionPoint (λ r. leb r.address c.args.address ≡ true) (λ r. leb r.address c.args.address ≡ false) c.self.inside.rows.items c.partition_point-after.result
point c =
    let parted = IsPartitionedBy-leb (λ r. r.address) c.self.inside.rows.items c.args.address (rows-rise c.self.inside.item_bytes c.self.inside.rows.items c.self.invariant.in_order) in
    let same = c.deref.ensures.value in
    let parted' : IsPartitionedBy (λ r. leb r.address c.args.address) c.deref.result.now = rw same parted in
    rw same at (IsPartitionPoint-from_clause (λ r. leb r.address c.args.address) _ _ c.partition_point-after.ensures.partitioned parted' (λ a r q k. search rules))

in_list : (c : After-index-row) → c.partition_point-after.result ≤ length c.self.inside.rows.items
in_list c = rw c.deref.ensures.value at c.partition_point-after.ensures.bound

-- the row starts at the address or below
low : (c : After-index-row) → c.index-row.result.now.address ≤ c.args.address
low c =
    started c.self.inside.item_bytes c.self.inside.rows.items c.args.address c.partition_point-after.result c.self.invariant.in_order (point (goal.at.overflow_sub-address c).After-partition_point-after)
    c.index-row.result.now (omega arith) (in_list c) c.index-row.ensures

pub returns-then-after-eq0 : goal.returns-then-after-eq0
unfolding item_at
returns-then-after-eq0 c =
    rw (sym c.self.view_is)
    (sym (none_started c.self.inside.item_bytes c.self.inside.rows.items c.args.address c.partition_point-after.result c.self.invariant.in_order (point (goal.at.returns-then-after-eq0 c).After-partition_point-after) c.if-after-eq0.true))

pub overflow_sub-address : goal.overflow_sub-address
overflow_sub-address c = low c

pub returns-then-address-row : goal.returns-then-address-row
unfolding item_at
returns-then-address-row c =
    let d = (goal.at.returns-then-address-row c).After-index-row in
    rw (sym c.self.view_is)
    (sym (found c.self.inside.item_bytes c.self.inside.rows.items c.args.address c.partition_point-after.result c.self.invariant.in_order (point (goal.at.overflow_sub-address d).After-partition_point-after)
    c.index-row.result.now (omega arith) (in_list d) c.index-row.ensures c.if-address-row.true))

pub returns-else-address-row : goal.returns-else-address-row
unfolding item_at
returns-else-address-row c =
    let d = (goal.at.returns-else-address-row c).After-index-row in
    rw (sym c.self.view_is)
    (sym (missed c.self.inside.item_bytes c.self.inside.rows.items c.args.address c.partition_point-after.result c.self.invariant.in_order (point (goal.at.overflow_sub-address d).After-partition_point-after)
    c.index-row.result.now (omega arith) (in_list d) c.index-row.ensures c.if-address-row.false))
