-- What is saved of a run is read back.
-- Letters: m is a machine, t a turn, ts are turns, a is an answer.
use Rattle.std.specs.Prelude.{◌≡◌, ℕ, ◌+◌, ◌/◌, ◌<◌, ◌≤◌, true, List, [], ◌∷◌, length, Option, Some, None, Ok, refl}
use Rattle.std.proofs.Common.{ap, sym, ◌∙◌, subst, arith, length-append}
use Rattle.checkpoint.specs.DdmTypes.declared.answers.TurnAnswer.{TurnAnswer}
use Rattle.checkpoint.specs.DdmTypes.declared.turns.Turn.{Turn}
use Rattle.checkpoint.specs.DdmTypes.ItemTable.{item_count}
use Rattle.checkpoint.specs.TreeModel.State.Values.{Node, leaf_node, dir_node, MachineValue}
use Rattle.checkpoint.specs.TreeModel.State.Shape.{Frame, frame_of, leaf_numbers_of, buses_of}
use Rattle.checkpoint.specs.TreeModel.Start.Sources.{ImageValue, TreeValue}
use Rattle.checkpoint.specs.TreeModel.Start.Machine.{start_machine, start_refusal, start_or, start_of}
use Rattle.checkpoint.specs.TreeModel.Turns.Machine.{turn_answer, turn_root, with_root, recorded, turned_by, turn_of, run_of}
use Rattle.checkpoint.proofs.TreeModel.FrameKept.{run-frame}
use Rattle.checkpoint.specs.TextModel.declared.RunCounts.{RunCounts}
use Rattle.checkpoint.specs.TextModel.Run.{counted_answer, counts_of}
use Rattle.checkpoint.specs.BusLaws.IsTree.{IsTree}
use Rattle.checkpoint.specs.ValueLaws.Images.{IsOfBytes}
use Rattle.checkpoint.proofs.ValueLaws.RunForm.{every-run-form, greater-form}
use Rattle.checkpoint.proofs.HeadlineCrate.Runs.{run-in_order}
use Rattle.checkpoint.specs.StateReading.Parts.{most_counted}
use Rattle.checkpoint.proofs.StateJudging.Judging.{kept_rules_are_judged_so}
use Rattle.checkpoint.proofs.StateJudging.Started.{started_machines_can_be_read}
use Rattle.spelling_laws.specs.Small.{rooms_small, IsSmall, HasSmallSizes}
use Rattle.spelling_laws.proofs.Ruled.{ruled-spelled}
use Rattle.spelling_laws.proofs.StartSmall.{started-small}
use Rattle.checkpoint.specs.Saved.{saved}
use Rattle.checkpoint.specs.Resumed.{resumed}
use Rattle.checkpoint.proofs.ReadBack.{saved-read}

-- ---- operations of a run

abbrev retired_by : TurnAnswer → ℕ
retired_by (TurnAnswer.Retired op) = 1
retired_by _ = 0

ops-recorded : (a : TurnAnswer) (m : MachineValue) → length (recorded a m).ops ≡ length m.ops + retired_by a
ops-recorded (TurnAnswer.Retired op) m = length-append m.ops (op ∷ [])
ops-recorded (TurnAnswer.Issued kind x) m = omega arith
ops-recorded (TurnAnswer.Waiting x) m = omega arith
ops-recorded (TurnAnswer.Halted cause) m = omega arith
ops-recorded (TurnAnswer.Granted e) m = omega arith
ops-recorded TurnAnswer.Empty m = omega arith
ops-recorded (TurnAnswer.Busy cause) m = omega arith

ops-rooted : (n : Node) (m : MachineValue) → (with_root n m).ops ≡ m.ops
ops-rooted (leaf_node v) m = refl
ops-rooted (dir_node d ns) m = refl

ops-turned : (o : Option TurnAnswer) (root : Node) (m : MachineValue) → length (turned_by o root m).machine.ops ≡ length m.ops + retired_by (turned_by o root m).answer
ops-turned None root m = omega arith
ops-turned (Some a) root m = ops-recorded a (with_root root m) ∙ ap (λ ops. length ops + retired_by a) (ops-rooted root m)

turn-ops : (t : Turn) (m : MachineValue) → length (turn_of t m).machine.ops ≡ length m.ops + retired_by (turn_of t m).answer
unfolding turn_of
turn-ops t m = ops-turned (turn_answer t m) (turn_root t m) m

-- ---- counts of a run

record OneCounted (a : TurnAnswer) (c : RunCounts) : Type 0 where
  turns : (counted_answer a c).turns ≤ c.turns + 1
  retired : (counted_answer a c).retired ≡ c.retired + retired_by a
  few : (counted_answer a c).retired ≤ c.retired + 1
  granted : (counted_answer a c).granted ≤ c.granted + 1
  busy : (counted_answer a c).busy ≤ c.busy + 1

one-counted : (a : TurnAnswer) (c : RunCounts) → OneCounted a c
one-counted (TurnAnswer.Retired op) c = record { turns = omega arith; retired = omega arith; few = omega arith; granted = omega arith; busy = omega arith }
one-counted (TurnAnswer.Issued kind x) c = record { turns = omega arith; retired = omega arith; few = omega arith; granted = omega arith; busy = omega arith }
one-counted (TurnAnswer.Waiting x) c = record { turns = omega arith; retired = omega arith; few = omega arith; granted = omega arith; busy = omega arith }
one-counted (TurnAnswer.Halted cause) c = record { turns = omega arith; retired = omega arith; few = omega arith; granted = omega arith; busy = omega arith }
one-counted (TurnAnswer.Granted e) c = record { turns = omega arith; retired = omega arith; few = omega arith; granted = omega arith; busy = omega arith }
one-counted TurnAnswer.Empty c = record { turns = omega arith; retired = omega arith; few = omega arith; granted = omega arith; busy = omega arith }
one-counted (TurnAnswer.Busy cause) c = record { turns = omega arith; retired = omega arith; few = omega arith; granted = omega arith; busy = omega arith }

record RunCounted (ts : List Turn) (m : MachineValue) : Type 0 where
  ops : length (run_of ts m).machine.ops ≡ length m.ops + (counts_of (run_of ts m).answers).retired
  turns : (counts_of (run_of ts m).answers).turns ≤ length ts
  retired : (counts_of (run_of ts m).answers).retired ≤ length ts
  granted : (counts_of (run_of ts m).answers).granted ≤ length ts
  busy : (counts_of (run_of ts m).answers).busy ≤ length ts

run-counted : (ts : List Turn) (m : MachineValue) → RunCounted ts m
unfolding run_of counts_of
run-counted [] m = record { ops = omega arith; turns = omega arith; retired = omega arith; granted = omega arith; busy = omega arith }
run-counted (t ∷ ts) m =
    let now = turn_of t m in
    let more = run-counted ts now.machine in
    let one = one-counted now.answer (counts_of (run_of ts now.machine).answers) in
    let here = turn-ops t m in record {
      ops = omega (arith, more.ops, here, one.retired);
      turns = omega (arith, more.turns, one.turns);
      retired = omega (arith, more.retired, one.few);
      granted = omega (arith, more.granted, one.granted);
      busy = omega (arith, more.busy, one.busy);
    }

no-ops : (t : TreeValue) (i : ImageValue) (m : MachineValue) → start_of t i ≡ Ok m → length m.ops ≡ 0
unfolding start_of start_machine
no-ops t i m built =
    elim (start_refusal t i) as (λ o. start_or o t i ≡ Ok m → length m.ops ≡ 0) [
      | None ↦ λ built. let same : start_machine t i ≡ m = cc in ap (λ m. length m.ops) (sym same)
      | Some r ↦ λ built. cc
    ] built

-- ---- as few items and places as before the first turn

still-small : (fresh m : MachineValue) → frame_of m ≡ frame_of fresh → IsSmall fresh → length m.ops < 4294967296 → IsSmall m
still-small fresh m frame small ops =
    let back : frame_of fresh ≡ frame_of m = sym frame in record {
      items = subst (λ (f : Frame). item_count f.items < 4294967296) back small.items;
      item_words = subst (λ (f : Frame). f.items.size / 4 < 4294967296) back small.item_words;
      leaves = subst (λ (f : Frame). length (leaf_numbers_of f.bones []) < 4294967296) back small.leaves;
      buses = subst (λ (f : Frame). length (buses_of f.bones []) < 4294967296) back small.buses;
      rooms = subst (λ (f : Frame). rooms_small f.bones ≡ true) back small.rooms;
      ops = ops;
    }

-- ---- the run

pub run-read : (t : TreeValue) (i : ImageValue) (fresh : MachineValue) (ts : List Turn) → IsTree t → IsOfBytes i → start_of t i ≡ Ok fresh → HasSmallSizes t → length ts ≤ most_counted
    → length (saved (run_of ts fresh).machine (counts_of (run_of ts fresh).answers)) ≤ 536870912
    → resumed fresh (saved (run_of ts fresh).machine (counts_of (run_of ts fresh).answers)) ≡ Ok (record { machine = (run_of ts fresh).machine; counts = counts_of (run_of ts fresh).answers })
run-read t i fresh ts tree of_bytes built sizes few most =
    let can = started_machines_can_be_read t i fresh tree built in
    let small = started-small t i fresh tree sizes built in
    let m = (run_of ts fresh).machine in
    let c = counts_of (run_of ts fresh).answers in
    let rules = run-in_order t i fresh tree built ts in
    let form = greater-form (length ts) most_counted m few (every-run-form t i fresh tree of_bytes built ts) in
    let frame = run-frame ts fresh in
    let counted = run-counted ts fresh in
    let none = no-ops t i fresh built in
    let ops : c.retired ≡ length m.ops = omega (arith, counted.ops, none) in
    let short : length m.ops < 4294967296 = omega (arith, ops, counted.retired, few) in
    saved-read fresh m c can frame (ruled-spelled m rules.0 rules.1.timed form) (still-small fresh m frame small short) (kept_rules_are_judged_so m rules.0 rules.1.timed) ops
    (record { turns = omega (arith, counted.turns, few); retired = omega (arith, counted.retired, few); granted = omega (arith, counted.granted, few); busy = omega (arith, counted.busy, few) }) most
