-- The texts of a run: from a machine and its turns to the bytes that are printed.
use Rattle.std.specs.Prelude.{◌≡◌, ℕ, ◌+◌, List, [], ◌∷◌, ◌++◌, map, take, Option, Some, None}
use Rattle.text_model.specs.DdmTypes.declared.answers.TurnAnswer.{TurnAnswer}
use Rattle.text_model.specs.DdmTypes.declared.turns.Turn.{Turn}
use Rattle.text_model.specs.DdmTypes.ItemTable.{ItemRow}
use Rattle.tree_model.specs.declared.CopyPlace.{CopyPlace}
use Rattle.tree_model.specs.State.Values.{LeafValue, MachineValue}
use Rattle.tree_model.specs.Turns.Machine.{run_of, machine_leaves}
use Rattle.tree_model.specs.Turns.Witness.{sorted_ops}
use Rattle.tree_model.specs.Turns.Found.{FoundValue, found_copy, states_of}
use Rattle.text_model.specs.declared.RunCounts.{RunCounts}
use Rattle.text_model.specs.Report.{put_texts, HartView, ItemView, ReportView, report_of, summary_of}
use Rattle.text_model.specs.Trace.{trace_text}

-- ---- counts

abbrev pub no_counts : RunCounts
no_counts = record { turns = 0; retired = 0; granted = 0; busy = 0 }

-- one answer more
abbrev pub counted_answer : TurnAnswer → RunCounts → RunCounts
counted_answer (TurnAnswer.Retired op) c = record c { turns = c.turns + 1; retired = c.retired + 1 }
counted_answer (TurnAnswer.Granted e) c = record c { turns = c.turns + 1; granted = c.granted + 1 }
counted_answer (TurnAnswer.Busy cause) c = record c { turns = c.turns + 1; busy = c.busy + 1 }
counted_answer _ c = record c { turns = c.turns + 1 }

-- the number of turns, and among their answers of those that retired, were granted and were busy
unfoldable pub counts_of : List TurnAnswer → RunCounts
counts_of [] = no_counts
counts_of (a ∷ rest) = counted_answer a (counts_of rest)

-- ---- the view of a machine

abbrev hart_view : LeafValue → HartView
hart_view v = record { number = v.number; hart = v.hart; done = v.done }

abbrev found_or : Option FoundValue → FoundValue
found_or None = record { place = CopyPlace.Parking 0 0; words = [] }
found_or (Some f) = f

abbrev pub item_view : MachineValue → ℕ → ItemRow → ItemView
item_view m x row =
    let f = found_or (found_copy x m) in
    record { number = x; address = row.address; words = f.words; place = f.place; states = states_of x m }

abbrev pub item_views : MachineValue → ℕ → List ItemRow → List ItemView
item_views m x [] = []
item_views m x (row ∷ rows) = item_view m x row ∷ item_views m (x + 1) rows

unfoldable pub view_of : ℕ → RunCounts → MachineValue → ReportView
view_of depth counts m = record {
  counts = counts;
  depth = depth;
  harts = map hart_view (machine_leaves m);
  traffic = m.traffic;
  items = item_views m 0 m.items.rows;
  completed = m.ops;
  ops = sorted_ops m.ops;
}

-- ---- texts

-- the report of a run from a machine
unfoldable pub report_text_of : ℕ → List Turn → MachineValue → List ℕ
report_text_of depth turns m = let r = run_of turns m in report_of (view_of depth (counts_of r.answers) r.machine)

-- its summary
unfoldable pub summary_text_of : ℕ → List Turn → MachineValue → List ℕ
summary_text_of depth turns m = let r = run_of turns m in summary_of (view_of depth (counts_of r.answers) r.machine)

-- its trace, then its report
unfoldable pub trace_and_report_of : ℕ → List Turn → MachineValue → List ℕ
trace_and_report_of depth turns m =
    let r = run_of turns m in
    trace_text turns r.answers ++ report_of (view_of depth (counts_of r.answers) r.machine)

-- ---- output

-- what each hart has put out, in the order of completion, is what it puts out in the witness
abbrev pub HasWitnessedOutput : MachineValue → Type 0
HasWitnessedOutput m = (hart : ℕ) → put_texts hart (sorted_ops m.ops) ≡ put_texts hart m.ops

-- after each of the turns
abbrev pub EachOutputWitnessed : List Turn → MachineValue → Type 0
EachOutputWitnessed turns m = (k : ℕ) → HasWitnessedOutput (run_of (take k turns) m).machine
