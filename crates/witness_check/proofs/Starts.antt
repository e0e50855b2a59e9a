-- The start that operations are judged from is that of the tables.
use Rattle.std.proofs.Common.{◌≡◌, ℕ, Bool, true, false, cond, Option, Some, None, refl, nat_lt}
use Rattle.std.specs.Prelude.{option_and_then}
use Rattle.witness_check.specs.DdmTypes.ItemTable.{item_count}
use Rattle.witness_check.specs.TreeModel.State.Lists.{first_some}
use Rattle.witness_check.specs.TreeModel.Start.Sources.{TreeValue, ImageValue, place_count, stack_spans}
use Rattle.witness_check.specs.TreeModel.Start.Memory.{start_items}
use Rattle.witness_check.specs.TreeModel.Start.Machine.{StartRefusal, no_place, overlap_from, start_refusal as tables_refusal, too_many_items}
use Rattle.start_memory.specs.Memory.{memory_items}
use Rattle.witness_check.specs.declared.refusal.CheckRefusal.TheVariants.{TooManyItems}
use Rattle.witness_check.specs.Reader.{setting_of}
use Rattle.witness_check.specs.Start.{judged, start_refusal}

by : (many : Bool) (met : Option StartRefusal) (full : Bool) (n places : ℕ)
    → cond many (Some (TooManyItems n)) (option_and_then judged met) ≡ option_and_then judged (cond many (Some (too_many_items n)) (first_some met (cond full (Some (no_place places)) None)))
by true met full n places = refl
by false (Some met) full n places = refl
by false None true n places = refl
by false None false n places = refl

pub start_refusal-tables : (t : TreeValue) (i : ImageValue) → start_refusal (setting_of t i) ≡ option_and_then judged (tables_refusal t i)
unfolding start_refusal tables_refusal start_items memory_items
start_refusal-tables t i =
    let n = item_count (start_items t i) in
    by (nat_lt 65536 n) (overlap_from i.segments 0 (stack_spans t)) (nat_lt (place_count t) n) n (place_count t)
