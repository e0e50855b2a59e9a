use Rattle.std.proofs.Common.{◌≡◌, ◌-◌, ℕ, map, ◌++◌, ap, ◌∙◌, arith}
use Rattle.std.specs.List.{range_with_len}
use Rattle.ddm_types.specs.ItemTable.{item_row}
use Rattle.ddm_types.specs.ItemRows.{row_of}
use Rattle.ddm_types.proofs.item_table.push_items.Goals as goal
use Rattle.ddm_types.proofs.Rows.{made_more}

pub loop-number-preserved : goal.loop-number-preserved
loop-number-preserved c = record {
  made =
      made_more c.args.item_bytes c.args.run.first c.loop-number.number c.args.spans.now c.args.rows.now.items c.loop-number.rows.items c.push.new.self.items c.is_writable-writable.result
      c.in_ok-push.ensures.items c.is_writable-writable.ensures c.loop-number.auto.number c.loop-number.invariant.made;
  within = omega arith;
}

pub returns : goal.returns
returns c =
    let all : c.loop-number.number - c.args.run.first ≡ c.args.run.end - c.args.run.first = omega arith in
    c.loop-number.invariant.made ∙
    ap (λ (n : ℕ). map row_of c.args.rows.now.items ++ map (item_row c.args.item_bytes c.args.spans.now) (range_with_len c.args.run.first n)) all
