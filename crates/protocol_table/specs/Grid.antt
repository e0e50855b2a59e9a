-- The states of a leaf's entry, a row each: what the leaf holds of the item, and what becomes of the entry when its bus
-- tells the leaf something.
use Rattle.std.specs.Prelude.{Bool, true, false, Option, Some, None}
use Rattle.protocol_table.specs.DdmTypes.declared.answers.TxKind.{TxKind}
use Rattle.protocol_table.specs.DdmTypes.declared.answers.TxKind.TheVariants.{ReadTx, EraseTx}
use Rattle.protocol_table.specs.DdmTypes.declared.sizes.Hold.{Hold}
use Rattle.protocol_table.specs.DdmTypes.declared.sizes.LeafState.{LeafState}
use Rattle.protocol_table.specs.DdmTypes.declared.sizes.LeafState.TheVariants.{Shared, Exclusive, Waiting, Reading}
use Rattle.protocol_table.specs.DdmTypes.declared.sizes.LeafState.TheVariants.{ReadingWaiting}

-- The state after it, if there is one, and what the leaf then asks for. No state after `lost` is the end of the entry;
-- no state after anything else says that the entry doesn't wait for it, and nothing changes.
pub record Becomes : Type 0 where
  pub state : Option LeafState
  pub asks : Option TxKind

pub record StateRow : Type 0 where
  -- what the leaf holds of the item
  pub holds : Hold
  -- told to lose the item; told data; told exclusive; told inject; told to answer a read
  pub lost : Becomes
  pub data_comes : Becomes
  pub exclusive_comes : Becomes
  pub inject_comes : Becomes
  pub answers : Becomes
  -- it waits for a transaction of its own; it may leave the buffer
  pub waits : Bool
  pub may_leave : Bool

abbrev pub nothing : Becomes
nothing = record { state = None; asks = None }

abbrev pub to : LeafState → Becomes
to t = record { state = Some t; asks = None }

abbrev pub to_and_asks : LeafState → TxKind → Becomes
to_and_asks t kind = record { state = Some t; asks = Some kind }

abbrev pub row_of : LeafState → StateRow
row_of Shared = record {
  holds = Hold.Shared;
  lost = nothing;
  data_comes = nothing;
  exclusive_comes = nothing;
  inject_comes = nothing;
  answers = to Shared;
  waits = false;
  may_leave = true;
}
row_of Exclusive = record {
  holds = Hold.Exclusive;
  lost = nothing;
  data_comes = nothing;
  exclusive_comes = nothing;
  inject_comes = nothing;
  answers = to Shared;
  waits = false;
  may_leave = true;
}
row_of Waiting = record {
  holds = Hold.Shared;
  lost = to_and_asks ReadingWaiting ReadTx;
  data_comes = nothing;
  exclusive_comes = to Exclusive;
  inject_comes = nothing;
  answers = to Waiting;
  waits = true;
  may_leave = false;
}
row_of Reading = record {
  holds = Hold.Invalid;
  lost = to Reading;
  data_comes = to Shared;
  exclusive_comes = nothing;
  inject_comes = to Exclusive;
  answers = nothing;
  waits = true;
  may_leave = false;
}
row_of ReadingWaiting = record {
  holds = Hold.Invalid;
  lost = to ReadingWaiting;
  data_comes = to_and_asks Waiting EraseTx;
  exclusive_comes = nothing;
  inject_comes = to Exclusive;
  answers = nothing;
  waits = true;
  may_leave = false;
}
