-- A run of a machine that keeps the rules: it goes on keeping them, and after it the machine's witness is one run of the flat
-- machine, of the operations that were answered.
use Rattle.std.proofs.Common.{◌≡◌, Bool, true, false, ◌||◌, List, [], ◌∷◌, ◌++◌, None, refl, sym, ap, ◌∙◌, append_assoc}
use Rattle.std.specs.Prelude.{take}
use Rattle.std.proofs.lemmas.List.{append-nil}
use Rattle.headline.specs.DdmTypes.declared.answers.TurnAnswer.{TurnAnswer}
use Rattle.headline.specs.DdmTypes.declared.operations.Op.{Op}
use Rattle.headline.specs.DdmTypes.declared.turns.Turn.{Turn}
use Rattle.headline.specs.FlatModel.Flat.{FlatMachine}
use Rattle.headline.specs.TreeModel.State.Values.{MachineValue}
use Rattle.headline.specs.TreeModel.Turns.Machine.{turn_of, run_of}
use Rattle.headline.specs.TreeModel.Start.Sources.{TreeValue, ImageValue}
use Rattle.headline.specs.TreeModel.Start.Machine.{start_machine, flat_start_of, start_refusal, start_or, start_of}
use Rattle.headline.specs.TreeRules.Order.Places.{LeafAt, leaves_at}
use Rattle.headline.specs.TreeRules.Witness.{EachCauseHolds, op_of_answer, ops_of_answers, halts_hart, some_halts, IsHaltedByTurn, IsRunWitnessed, EachTurnWitnessed}
use Rattle.headline.specs.BusLaws.IsTree.{IsTree}
use Rattle.order_laws.specs.EveryTurn.{IsOrderly}
use Rattle.order_laws.proofs.EveryTurn.{turn-orderly, run-orderly}
use Rattle.order_laws.specs.Pairs.{Pairs}
use Rattle.order_laws.proofs.Hart.HartMachine.{ops_with, ops_after}
use Rattle.headline.specs.Runs.{EveryRunIsWitnessed, EveryRunIsInOrder}
use Rattle.headline.proofs.Leaves.{each_leaf}
use Rattle.headline.proofs.Witnessed.{witnessed}
use Rattle.headline.proofs.Written.{written-follows}
use Rattle.headline.proofs.StartOrder.{start-orderly}
use Rattle.headline.proofs.BusyCauses.{busy-has_cause}
use Rattle.headline.proofs.GoesOn.{GoesOn, turn-goes_on, pairs-each_same, pairs-joined, pairs-second}

-- ---- operations

answer-ops : (a : TurnAnswer) (ops : List Op) → ops_with a ops ≡ ops ++ op_of_answer a
answer-ops (TurnAnswer.Retired op) ops = refl
answer-ops (TurnAnswer.Issued kind x) ops = sym (append-nil ops)
answer-ops (TurnAnswer.Waiting x) ops = sym (append-nil ops)
answer-ops (TurnAnswer.Halted cause) ops = sym (append-nil ops)
answer-ops (TurnAnswer.Granted e) ops = sym (append-nil ops)
answer-ops TurnAnswer.Empty ops = sym (append-nil ops)
answer-ops (TurnAnswer.Busy cause) ops = sym (append-nil ops)

-- a run's operations are those of its answers, behind those before
pub run-ops : (ts : List Turn) (m : MachineValue) → (run_of ts m).machine.ops ≡ m.ops ++ ops_of_answers (run_of ts m).answers
unfolding run_of
run-ops [] m = sym (append-nil m.ops)
run-ops (t ∷ ts) m =
    let next : MachineValue = (turn_of t m).machine in
    run-ops ts next ∙ ap (λ ops. ops ++ ops_of_answers (run_of ts next).answers) (ops_after t m ∙ answer-ops (turn_of t m).answer m.ops) ∙ append_assoc m.ops (op_of_answer (turn_of t m).answer) (ops_of_answers (run_of ts next).answers)

-- ---- harts

-- a hart that hasn't halted after the turns was halted by none of them
record RunsOn (ts : List Turn) (answers : List TurnAnswer) (before after : LeafAt) : Type 0 where
  number : after.leaf.number ≡ before.leaf.number
  running : after.leaf.hart.halt ≡ None → (before.leaf.hart.halt ≡ None) × (some_halts after.leaf.number ts answers ≡ false)

neither : (a b : Bool) → a ≡ false → b ≡ false → (a || b) ≡ false
neither false b e k = k
neither true b e k = absurd (let wrong : ⊥ = cc in wrong)

on-joined : (t : Turn) (ts : List Turn) (a : TurnAnswer) (answers : List TurnAnswer) (x y z : LeafAt) → GoesOn t a x y → RunsOn ts answers y z → RunsOn (t ∷ ts) (a ∷ answers) x z
on-joined t ts a answers x y z g r = record {
  number = r.number ∙ g.number;
  running = λ e.
      let later = r.running e in
      let here = g.running later.0 in
      (here.0, neither (halts_hart z.leaf.number t a) (some_halts z.leaf.number ts answers) (ap (λ n. halts_hart n t a) r.number ∙ here.1) later.1);
}

run-on : (s : FlatMachine) (ts : List Turn) (m : MachineValue) → IsOrderly s m → Pairs (RunsOn ts (run_of ts m).answers) (leaves_at m) (leaves_at (run_of ts m).machine)
unfolding run_of
run-on s [] m r = pairs-each_same _ (λ a. record { number = refl; running = λ e. (e, refl) }) (leaves_at m)
run-on s (t ∷ ts) m r =
    let next : MachineValue = (turn_of t m).machine in
    pairs-joined (GoesOn t (turn_of t m).answer) (RunsOn ts (run_of ts next).answers) _ (λ x y z g k. on-joined t ts (turn_of t m).answer (run_of ts next).answers x y z g k) (leaves_at m) (leaves_at next) (leaves_at (run_of ts next).machine)
    (turn-goes_on s m t r) (run-on s ts next (turn-orderly s m t r))

-- ---- whole runs

causes-hold : (s : FlatMachine) (ts : List Turn) (m : MachineValue) → IsOrderly s m → EachCauseHolds ts m
causes-hold s [] m r = tt
causes-hold s (t ∷ ts) m r = (busy-has_cause t m r.shaped r.buses, causes-hold s ts (turn_of t m).machine (turn-orderly s m t r))

pub run-witnessed : (s : FlatMachine) (ts : List Turn) (m : MachineValue) → IsOrderly s m → IsRunWitnessed s ts m
run-witnessed s ts m r =
    let after = run-orderly s m ts r in
    record {
      machine = witnessed s (run_of ts m).machine after.shaped after.buses after.timed after.core;
      ops = run-ops ts m;
      running = each_leaf (run_of ts m).machine (IsHaltedByTurn ts (run_of ts m).answers) (pairs-second (RunsOn ts (run_of ts m).answers) _ (λ a b k e. (k.running e).1) (leaves_at m) (leaves_at (run_of ts m).machine) (run-on s ts m r));
      causes = causes-hold s ts m r;
    }

-- after each of the turns from the start
pub each-turn : EveryRunIsWitnessed
each-turn t i m tree built ts k = run-witnessed (flat_start_of t i) (take k ts) m (start-orderly t i m tree built)

-- the same of the machine that is made where nothing is refused
pub start-witnessed : (t : TreeValue) (i : ImageValue) (ts : List Turn) → IsTree t → start_refusal t i ≡ None → EachTurnWitnessed (flat_start_of t i) ts (start_machine t i)
unfolding start_of
start-witnessed t i ts tree none = each-turn t i (start_machine t i) tree (ap (λ o. start_or o t i) none) ts

-- all rules at the end of a run
pub run-in_order : EveryRunIsInOrder
run-in_order t i m tree built ts =
    let after = run-orderly (flat_start_of t i) m ts (start-orderly t i m tree built) in
    (after.buses, record { timed = after.timed; core = after.core; written = written-follows (flat_start_of t i) (run_of ts m).machine after.shaped after.buses after.timed after.core })
