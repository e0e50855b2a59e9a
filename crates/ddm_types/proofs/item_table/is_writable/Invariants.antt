use Rattle.std.proofs.Common.{◌≡◌, false, take}
use Rattle.std.specs.List.{list_any}
use Rattle.ddm_types.specs.ItemTable.{writes}
use Rattle.ddm_types.proofs.item_table.is_writable.Given as goal

abbrev pub invariant-loop-span : goal.invariant-loop-span
invariant-loop-span l = list_any (writes l.item_bytes l.address) (take l.span-index l.spans) ≡ false
