-- A tree and an image that are accepted have few items.
use Rattle.std.proofs.Common.{◌≡◌, ℕ, ◌*◌, ◌/◌, ◌≤◌, Bool, true, false, List, ◌++◌, map, Option, Some, None, refl, sym, arith, cond}
use Rattle.std.specs.Prelude.{nat_lt}
use Rattle.std.proofs.lemmas.Bool.Decides.{nat_tests}
use Rattle.run_engine.specs.DdmTypes.declared.sizes.Span.{Span}
use Rattle.run_engine.specs.DdmTypes.ItemTable.{items_of, item_count}
use Rattle.run_engine.specs.TreeModel.Start.Sources.{TreeValue, ImageValue, segment_span, stack_spans}
use Rattle.run_engine.specs.TreeModel.Start.Machine.{StartRefusal, start_refusal}
use Rattle.run_engine.specs.TreeModel.Start.Memory.{start_items}

pub accepted_few : (t : TreeValue) (i : ImageValue) → start_refusal t i ≡ None → item_count (start_items t i) ≤ 65536
unfolding start_refusal
accepted_few t i accepted = by_tests _ _ (nat_lt 65536 (item_count (start_items t i))) refl accepted where
  by_tests : (x : StartRefusal) (rest : Option StartRefusal) (many : Bool) → nat_lt 65536 (item_count (start_items t i)) ≡ many → cond many (Some x) rest ≡ None → item_count (start_items t i) ≤ 65536
  by_tests x rest true is e = cc
  by_tests x rest false is e = grind (arith, nat_tests)

-- the table of items is made of few enough
pub few_from : (t : TreeValue) (i : ImageValue) (size : ℕ) (spans : List Span) → start_refusal t i ≡ None → size ≡ t.item_bytes → spans ≡ map segment_span i.segments ++ stack_spans t → item_count (items_of size spans) ≤ 65536
unfolding start_items
few_from t i size spans accepted a b = rw (a, b) (accepted_few t i accepted)

pub quarter : (width bytes : ℕ) → 4 * width ≡ bytes → bytes / 4 ≡ width
quarter width bytes is = rw (sym is) (omega arith)
