-- What runs keep of a start.
-- Letters: m is a machine, t a turn, ts are turns, n is a node, v a leaf, d a directory, k a number.
use Rattle.std.proofs.Common.{◌≡◌, ℕ, ◌+◌, ◌≤◌, List, [], ◌∷◌, ◌++◌, length, Option, Some, None, refl, ap, ◌∙◌, arith, length-append}
use Rattle.ddm_types.specs.declared.answers.TurnAnswer.{TurnAnswer}
use Rattle.ddm_types.specs.declared.turns.Turn.{Turn}
use Rattle.outcomes.specs.TextModel.Run.{counts_of}
use Rattle.tree_model.specs.State.Shape.{Skeleton}
use Rattle.tree_model.specs.State.Values.{Node, leaf_node, dir_node, MachineValue}
use Rattle.tree_model.specs.Turns.Machine.{recorded, run_of, turn_answer, turn_of, turn_root, turned_by, with_root}
use Rattle.tree_model.proofs.FrameKept.{run-frame}
use Rattle.tree_model.proofs.RoomsKept.{run-rooms}
use Rattle.value_laws.proofs.RunForm.{every-run-form}
use Rattle.machine_states.specs.Places.{few_places, HasFewPlaces}
use Rattle.machine_states.specs.Started.{IsStarted}
use Rattle.machine_states.specs.Words.{HasForms, HasItemWords}

-- ---- a run of one turn more

pub run-more : (ts : List Turn) (t : Turn) (m : MachineValue) → (run_of (ts ++ t ∷ []) m).machine ≡ (turn_of t (run_of ts m).machine).machine
unfolding run_of
run-more [] t m = refl
run-more (u ∷ ts) t m = run-more ts t (turn_of u m).machine

pub run-both : (ts us : List Turn) (m : MachineValue) → (run_of (ts ++ us) m).machine ≡ (run_of us (run_of ts m).machine).machine
unfolding run_of
run-both [] us m = refl
run-both (t ∷ ts) us m = run-both ts us (turn_of t m).machine

pub run-one : (t : Turn) (m : MachineValue) → (run_of (t ∷ []) m).machine ≡ (turn_of t m).machine
unfolding run_of
run-one t m = refl

pub run-none : (m : MachineValue) → (run_of [] m).machine ≡ m
unfolding run_of
run-none m = refl

-- ---- operations

root-ops : (n : Node) (m : MachineValue) → (with_root n m).ops ≡ m.ops
root-ops (leaf_node v) m = refl
root-ops (dir_node d ns) m = refl

recorded-few : (a : TurnAnswer) (m : MachineValue) → length (recorded a m).ops ≤ length m.ops + 1
recorded-few (TurnAnswer.Retired op) m = omega (arith, length-append m.ops (op ∷ []))
recorded-few (TurnAnswer.Issued kind x) m = omega arith
recorded-few (TurnAnswer.Waiting x) m = omega arith
recorded-few (TurnAnswer.Halted cause) m = omega arith
recorded-few (TurnAnswer.Granted e) m = omega arith
recorded-few TurnAnswer.Empty m = omega arith
recorded-few (TurnAnswer.Busy cause) m = omega arith

turned-few : (o : Option TurnAnswer) (n : Node) (m : MachineValue) → length (turned_by o n m).machine.ops ≤ length m.ops + 1
turned-few None n m = omega arith
turned-few (Some a) n m = omega (arith, recorded-few a (with_root n m), ap length (root-ops n m))

pub turn-few : (t : Turn) (m : MachineValue) → length (turn_of t m).machine.ops ≤ length m.ops + 1
unfolding turn_of
turn-few t m = turned-few (turn_answer t m) (turn_root t m) m

pub run-few : (ts : List Turn) (m : MachineValue) → length (run_of ts m).machine.ops ≤ length m.ops + length ts
unfolding run_of
run-few [] m = omega arith
run-few (t ∷ ts) m =
    let first = turn-few t m in
    let rest = run-few ts (turn_of t m).machine in
    omega (arith, first, rest)

-- ---- places and words

pub places-later : (ways : ℕ) (ts : List Turn) (m : MachineValue) → HasFewPlaces ways m → HasFewPlaces ways (run_of ts m).machine
places-later ways ts m places = record {
  few = ap (λ f. few_places ways f.bones) (run-frame ts m) ∙ places.few;
  items = places.items;
  within = run-rooms places.items ts m places.within;
}

abbrev top-width : Skeleton → ℕ
top-width (Rattle.tree_model.specs.State.Shape.leaf_bone number sizes) = 0
top-width (Rattle.tree_model.specs.State.Shape.dir_bone bus level sizes bones) = sizes.width

pub width-later : (width : ℕ) (ts : List Turn) (m : MachineValue) → HasItemWords width m → HasItemWords width (run_of ts m).machine
width-later width ts m is = ap (λ f. top-width f.bones) (run-frame ts m) ∙ is

-- ---- the form of values

pub form-later : (m : MachineValue) → IsStarted m → (ts : List Turn) → HasForms (run_of ts m).machine
form-later m s ts = (length ts, every-run-form s.tree s.image m s.accepted s.of_bytes s.built ts)

-- ---- answers

retired-most : (answers : List TurnAnswer) → (counts_of answers).retired ≤ length answers
unfolding counts_of
retired-most [] = omega arith
retired-most (TurnAnswer.Retired op ∷ answers) = let rest = retired-most answers in omega (arith, rest)
retired-most (TurnAnswer.Issued kind x ∷ answers) = let rest = retired-most answers in omega (arith, rest)
retired-most (TurnAnswer.Waiting x ∷ answers) = let rest = retired-most answers in omega (arith, rest)
retired-most (TurnAnswer.Halted cause ∷ answers) = let rest = retired-most answers in omega (arith, rest)
retired-most (TurnAnswer.Granted e ∷ answers) = let rest = retired-most answers in omega (arith, rest)
retired-most (TurnAnswer.Empty ∷ answers) = let rest = retired-most answers in omega (arith, rest)
retired-most (TurnAnswer.Busy cause ∷ answers) = let rest = retired-most answers in omega (arith, rest)

answers-counted : (ts : List Turn) (m : MachineValue) → length (run_of ts m).answers ≡ length ts
unfolding run_of
answers-counted [] m = refl
answers-counted (t ∷ ts) m = let rest = answers-counted ts (turn_of t m).machine in omega (arith, rest)

-- no more than one instruction a turn completes
pub retired-few : (ts : List Turn) (m : MachineValue) → (counts_of (run_of ts m).answers).retired ≤ length ts
retired-few ts m = omega (arith, retired-most (run_of ts m).answers, answers-counted ts m)
