-- Turns don't read the operations: without those so far they answer the same, and leave the same but for these.
-- Letters: m and n are machines, a an answer, o whether there is one.
use Rattle.std.proofs.Common.{◌≡◌, List, [], ◌∷◌, Option, Some, None, refl, sym, ap, ◌∙◌}
use Rattle.any_runs.specs.DdmTypes.declared.answers.TurnAnswer.{TurnAnswer}
use Rattle.any_runs.specs.DdmTypes.declared.turns.Turn.{Turn}
use Rattle.any_runs.specs.TreeModel.State.Values.{MachineValue, Node, leaf_node, dir_node}
use Rattle.any_runs.specs.TreeModel.Turns.Machine.{names_part, recorded, run_of, turn_answer, turn_of, turn_root, turned_by, with_root}
use Rattle.any_runs.specs.DdmTree.Machine.{without_ops}

root-without : (root : Node) (m : MachineValue) → with_root root (without_ops m) ≡ without_ops (with_root root m)
root-without (leaf_node v) m = refl
root-without (dir_node d ns) m = refl

recorded-without : (a : TurnAnswer) (m : MachineValue) → without_ops (recorded a (without_ops m)) ≡ without_ops (recorded a m)
recorded-without (TurnAnswer.Retired op) m = refl
recorded-without (TurnAnswer.Issued kind x) m = refl
recorded-without (TurnAnswer.Waiting x) m = refl
recorded-without (TurnAnswer.Halted cause) m = refl
recorded-without (TurnAnswer.Granted entry) m = refl
recorded-without TurnAnswer.Empty m = refl
recorded-without (TurnAnswer.Busy cause) m = refl

turned-answer : (o : Option TurnAnswer) (root : Node) (m : MachineValue) → (turned_by o root (without_ops m)).answer ≡ (turned_by o root m).answer
turned-answer None root m = refl
turned-answer (Some a) root m = refl

turned-machine : (o : Option TurnAnswer) (root : Node) (m : MachineValue) → without_ops (turned_by o root (without_ops m)).machine ≡ without_ops (turned_by o root m).machine
turned-machine None root m = refl
turned-machine (Some a) root m = ap (λ k. without_ops (recorded a k)) (root-without root m) ∙ recorded-without a (with_root root m)

turn-answer : (t : Turn) (m : MachineValue) → (turn_of t (without_ops m)).answer ≡ (turn_of t m).answer
unfolding turn_of
turn-answer t m = turned-answer (turn_answer t m) (turn_root t m) m

turn-machine : (t : Turn) (m : MachineValue) → without_ops (turn_of t (without_ops m)).machine ≡ without_ops (turn_of t m).machine
unfolding turn_of
turn-machine t m = turned-machine (turn_answer t m) (turn_root t m) m

-- of two machines that have all but their operations in common
turn-alike : (t : Turn) (m n : MachineValue) → without_ops m ≡ without_ops n → without_ops (turn_of t m).machine ≡ without_ops (turn_of t n).machine
turn-alike t m n same = sym (turn-machine t m) ∙ ap (λ k. without_ops (turn_of t k).machine) same ∙ turn-machine t n

pub run-machines : (ts : List Turn) (m n : MachineValue) → without_ops m ≡ without_ops n → without_ops (run_of ts m).machine ≡ without_ops (run_of ts n).machine
unfolding run_of
run-machines [] m n same = same
run-machines (t ∷ ts) m n same = run-machines ts (turn_of t m).machine (turn_of t n).machine (turn-alike t m n same)

pub run-answers : (ts : List Turn) (m n : MachineValue) → without_ops m ≡ without_ops n → (run_of ts m).answers ≡ (run_of ts n).answers
unfolding run_of
run-answers [] m n same = refl
run-answers (t ∷ ts) m n same =
    let first : (turn_of t m).answer ≡ (turn_of t n).answer = sym (turn-answer t m) ∙ ap (λ k. (turn_of t k).answer) same ∙ turn-answer t n in
    ap (λ a. a ∷ (run_of ts (turn_of t m).machine).answers) first ∙ ap (λ l. (turn_of t n).answer ∷ l) (run-answers ts (turn_of t m).machine (turn_of t n).machine (turn-alike t m n same))

-- nor does what a turn names hang on them
names-without : (t : Turn) (m : MachineValue) → names_part t (without_ops m) ≡ names_part t m
names-without (Turn.Hart hart victim) m = refl
names-without (Turn.Down bus) m = refl
names-without (Turn.Request bus child) m = refl
names-without (Turn.Reply bus child) m = refl
names-without (Turn.Leave bus child choice) m = refl

pub names-alike : (t : Turn) (m n : MachineValue) → without_ops m ≡ without_ops n → names_part t m ≡ names_part t n
names-alike t m n same = sym (names-without t m) ∙ ap (names_part t) same ∙ names-without t n
