-- A turn that changes nothing leaves the machine as it is, but for the number of turns.
-- Letters: t is a turn, s a machine with its room for operations, m a machine, path the path to the node that t names, a an answer, busy
-- whether it is counted as a busy one.
use Rattle.std.proofs.Common.{◌≡◌, ℕ, ◌+◌, Bool, false, List, Some, refl, ap, ◌∙◌}
use Rattle.ddm_tree.specs.DdmTypes.declared.answers.TurnAnswer.{TurnAnswer}
use Rattle.ddm_tree.specs.DdmTypes.declared.turns.Turn.{Turn}
use Rattle.ddm_tree.specs.DdmTypes.Keys.{stamp_zero}
use Rattle.ddm_tree.specs.TreeModel.State.Values.{MachineValue, root_of}
use Rattle.ddm_tree.specs.TreeModel.Turns.Machine.{named_by, recorded, turn_of, with_root}
use Rattle.ddm_tree.specs.Machine.{MachineState, spare_after, state_after}
use Rattle.ddm_tree.specs.Path.{present_at}
use Rattle.ddm_tree.specs.Ready.{Leads}
use Rattle.ddm_tree.proofs.Along.{root_answer, root_turned, turn-along}
use Rattle.ddm_tree.specs.Quiet.{is_hart_turn, passed_as}
use Rattle.ddm_tree.proofs.QuietTurns.{IsPassed}

-- ---- the answer of a turn that may be passed

nothing-recorded : (a : TurnAnswer) (busy : Bool) (m : MachineValue) → passed_as a ≡ Some busy → recorded a m ≡ m
nothing-recorded (TurnAnswer.Retired op) busy m e = cc
nothing-recorded (TurnAnswer.Issued kind x) busy m e = refl
nothing-recorded (TurnAnswer.Waiting x) busy m e = refl
nothing-recorded (TurnAnswer.Halted cause) busy m e = refl
nothing-recorded (TurnAnswer.Granted entry) busy m e = cc
nothing-recorded TurnAnswer.Empty busy m e = refl
nothing-recorded (TurnAnswer.Busy cause) busy m e = refl

nothing-spent : (a : TurnAnswer) (busy : Bool) (room : ℕ) → passed_as a ≡ Some busy → spare_after a room ≡ room
nothing-spent (TurnAnswer.Retired op) busy room e = cc
nothing-spent (TurnAnswer.Issued kind x) busy room e = refl
nothing-spent (TurnAnswer.Waiting x) busy room e = refl
nothing-spent (TurnAnswer.Halted cause) busy room e = refl
nothing-spent (TurnAnswer.Granted entry) busy room e = refl
nothing-spent TurnAnswer.Empty busy room e = refl
nothing-spent (TurnAnswer.Busy cause) busy room e = refl

-- ---- a turn that is passed

-- the turn answers this, and leaves the machine
turned-passed : (t : Turn) (busy : Bool) (m : MachineValue) (path : List ℕ)
    → Leads (named_by t) path (root_of m)
    → IsPassed m.code m.items t busy path (present_at path stamp_zero (root_of m)) (root_of m)
    → turn_of t m ≡ record { answer = root_answer t path m; machine = m }
turned-passed t busy m path leads passed =
    let same : recorded (root_answer t path m) (with_root (root_turned t path m) m) ≡ m = nothing-recorded (root_answer t path m) busy (with_root (root_turned t path m) m) passed.counts ∙ ap (λ n. with_root n m) passed.leaves in
    turn-along t path m leads ∙ rw same refl

pub passed-turn : (t : Turn) (busy : Bool) (s : MachineState) (path : List ℕ)
    → Leads (named_by t) path (root_of s.machine)
    → IsPassed s.machine.code s.machine.items t busy path (present_at path stamp_zero (root_of s.machine)) (root_of s.machine)
    → (state_after t s ≡ record { machine = s.machine; spare = s.spare; turns = s.turns + 1 }) × (passed_as (turn_of t s.machine).answer ≡ Some busy) × (is_hart_turn t ≡ false → (turn_of t s.machine).answer ≡ TurnAnswer.Empty)
passed-turn t busy s path leads passed =
    let turned = turned-passed t busy s.machine path leads passed in
    let answers : (turn_of t s.machine).answer ≡ root_answer t path s.machine = ap (λ o. o.answer) turned in
    let counts : passed_as (turn_of t s.machine).answer ≡ Some busy = ap passed_as answers ∙ passed.counts in
    let machine : (turn_of t s.machine).machine ≡ s.machine = ap (λ o. o.machine) turned in
    let spare : spare_after (turn_of t s.machine).answer s.spare ≡ s.spare = nothing-spent (turn_of t s.machine).answer busy s.spare counts in
    (rw (machine, spare) refl, counts, λ bus. answers ∙ passed.empty bus)
