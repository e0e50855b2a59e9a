-- What one drawn turn makes of the measures that are kept, and what a run that is measured needs.
-- Letters: t is a turn, a its answer, m the machine after it, s are measures, c counts.
use Rattle.std.specs.Prelude.{◌≡◌, ◌≤◌, ◌+◌, true, List, All, length, slice_index_or, slice_set}
use Rattle.ddm_types.specs.declared.answers.TurnAnswer.{TurnAnswer}
use Rattle.ddm_types.specs.declared.turns.Turn.{Turn}
use Rattle.recording.specs.DdmTree.Machine.{MachineState}
use Rattle.recording.specs.declared.making.Came.{Came}
use Rattle.recording_model.specs.LetBy.{Draw}
use Rattle.recording_model.specs.TreeModel.State.Values.{MachineValue}
use Rattle.recording_model.specs.TreeModel.Turns.Machine.{names_part}
use Rattle.measure_model.specs.Measures.{Measures}
use Rattle.measure_model.specs.declared.HartCounts.{HartCounts}
use Rattle.measuring.specs.Seen.{turn_in, turn_over}
use Rattle.measuring.specs.Tally.{busy_after, harts_after, items_after, more, no_hart_counts, totals_after}

-- a turn of a hart was busy
abbrev pub hart_busy : HartCounts → HartCounts
hart_busy c = record c { busy = more true c.busy }

abbrev pub harts_busy : Turn → List HartCounts → List HartCounts
harts_busy (Turn.Hart hart victim) cs = slice_set cs hart (hart_busy (slice_index_or cs hart no_hart_counts))
harts_busy (Turn.Down bus) cs = cs
harts_busy (Turn.Request bus child) cs = cs
harts_busy (Turn.Reply bus child) cs = cs
harts_busy (Turn.Leave bus child choice) cs = cs

abbrev pub after_came : Came → Turn → TurnAnswer → MachineValue → Measures → Measures
after_came Came.ToNothing t a m s = s
after_came Came.ToBusy t a m s =
    record s {
      totals = record s.totals { busy = more true s.totals.busy };
      harts = harts_busy t s.harts;
      busy = busy_after t s.busy;
    }
after_came Came.ToDoing t a m s =
    record s {
      totals = totals_after a s.totals;
      harts = harts_after t a s.harts;
      most = turn_over m t s.most;
      leaf_most = turn_in m t s.leaf_most;
      items = items_after a s.items;
    }

-- each drawn turn names a part of the machine, and so many turns more can be counted
pub record CanMeasure (draws : List Draw) (s : MachineState) : Type 0 where
  pub known : All (λ (d : Draw). names_part d.turn s.machine ≡ true) draws
  pub few : s.turns + length draws ≤ 4294967295
