-- What one more turn adds to the measures of a run.
-- Letters: t is a turn, a its answer, c counts, n a counter, s measures.
use Rattle.std.specs.Prelude.{ℕ, ◌+◌, Bool, true, min, List, slice_index_or, slice_set, if◌then◌else◌}
use Rattle.ddm_types.specs.declared.answers.TurnAnswer.{TurnAnswer}
use Rattle.ddm_types.specs.declared.answers.TxKind.{TxKind}
use Rattle.ddm_types.specs.declared.turns.Turn.{Turn}
use Rattle.measure_model.specs.Counts.{has_effect, is_amo, is_busy, is_erase, is_failed, is_granted, is_halted}
use Rattle.measure_model.specs.Counts.{is_inject, is_issued, is_load, is_read, is_retired, is_store, asks}
use Rattle.measure_model.specs.declared.HartCounts.{HartCounts}
use Rattle.measure_model.specs.declared.ItemCounts.{ItemCounts}
use Rattle.measure_model.specs.declared.RunTotals.{RunTotals}

-- one more where this is so; a counter that is full stays so
abbrev pub more : Bool → ℕ → ℕ
more so n = if so then min (n + 1) 4294967295 else n

-- ---- harts

abbrev pub no_hart_counts : HartCounts
no_hart_counts = record { loads = 0; stores = 0; amos = 0; failed = 0; reads = 0; erases = 0; busy = 0 }

abbrev pub hart_after : TurnAnswer → HartCounts → HartCounts
hart_after a c = record {
  loads = more (has_effect is_load a) c.loads;
  stores = more (has_effect is_store a) c.stores;
  amos = more (has_effect is_amo a) c.amos;
  failed = more (has_effect is_failed a) c.failed;
  reads = more (asks is_read a) c.reads;
  erases = more (asks is_erase a) c.erases;
  busy = more (is_busy a) c.busy;
}

-- of the hart whose turn it is
abbrev pub harts_after : Turn → TurnAnswer → List HartCounts → List HartCounts
harts_after (Turn.Hart hart victim) a cs = slice_set cs hart (hart_after a (slice_index_or cs hart no_hart_counts))
harts_after (Turn.Down bus) a cs = cs
harts_after (Turn.Request bus child) a cs = cs
harts_after (Turn.Reply bus child) a cs = cs
harts_after (Turn.Leave bus child choice) a cs = cs

-- ---- items

abbrev pub no_item_counts : ItemCounts
no_item_counts = record { reads = 0; erases = 0; injects = 0 }

abbrev pub item_asked : TxKind → ItemCounts → ItemCounts
item_asked kind c = record c { reads = more (is_read kind) c.reads; erases = more (is_erase kind) c.erases }

abbrev pub item_granted : TxKind → ItemCounts → ItemCounts
item_granted kind c = record c { injects = more (is_inject kind) c.injects }

-- of the item that was asked for or granted
abbrev pub items_after : TurnAnswer → List ItemCounts → List ItemCounts
items_after (TurnAnswer.Retired op) cs = cs
items_after (TurnAnswer.Issued kind x) cs = slice_set cs x (item_asked kind (slice_index_or cs x no_item_counts))
items_after (TurnAnswer.Waiting x) cs = cs
items_after (TurnAnswer.Halted cause) cs = cs
items_after (TurnAnswer.Granted entry) cs = slice_set cs entry.item (item_granted entry.kind (slice_index_or cs entry.item no_item_counts))
items_after TurnAnswer.Empty cs = cs
items_after (TurnAnswer.Busy cause) cs = cs

-- ---- buses that are busy

abbrev pub busy_after : Turn → List ℕ → List ℕ
busy_after (Turn.Hart hart victim) ns = ns
busy_after (Turn.Down bus) ns = slice_set ns bus (more true (slice_index_or ns bus 0))
busy_after (Turn.Request bus child) ns = slice_set ns bus (more true (slice_index_or ns bus 0))
busy_after (Turn.Reply bus child) ns = slice_set ns bus (more true (slice_index_or ns bus 0))
busy_after (Turn.Leave bus child choice) ns = slice_set ns bus (more true (slice_index_or ns bus 0))

-- ---- all turns

-- of a turn that did something
abbrev pub totals_after : TurnAnswer → RunTotals → RunTotals
totals_after a t = record t {
  turns = more true t.turns;
  retired = more (is_retired a) t.retired;
  issued = more (is_issued a) t.issued;
  granted = more (is_granted a) t.granted;
  halted = more (is_halted a) t.halted;
}
