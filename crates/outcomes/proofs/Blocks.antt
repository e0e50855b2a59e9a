-- A run in blocks of turns, which may end where all harts have halted.
-- Letters: m is a machine, s one as the code has it.
use Rattle.std.proofs.Common.{◌≡◌, ◌∙◌, ap, sym, subst, refl, ℕ, ◌+◌, ◌≤◌, true, List, [], ◌∷◌, ◌++◌, length, take, drop, append_assoc, arith}
use Rattle.std.specs.Prelude.{All}
use Rattle.std.proofs.Math.Seq.{drop-append_seam, take-append_seam}
use Rattle.std.proofs.lemmas.List.{append-nil, length-append, take-append-drop}
use Rattle.std.proofs.lemmas.List.Elements.{All-drop, All-take, All-weaker}
use Rattle.outcomes.specs.DdmTypes.declared.answers.TurnAnswer.{TurnAnswer}
use Rattle.outcomes.specs.DdmTypes.declared.turns.Turn.{Turn}
use Rattle.outcomes.specs.TreeModel.Turns.Machine.{names_part, run_of}
use Rattle.outcomes.specs.TreeRules.Witness.{ops_of_answers}
use Rattle.outcomes.proofs.HeadlineCrate.Runs.{run-ops}
use Rattle.outcomes.specs.TextModel.Run.{counts_of}
use Rattle.outcomes.specs.DdmTree.Machine.{MachineState}
use Rattle.outcomes.specs.AnyMachine.Any.{machine_state}
use Rattle.outcomes.specs.AnyMachine.Kind.{kind_of}
use Rattle.measuring.specs.AnyRuns.Run.{CanRun, NameParts, answers_in, ran}
use Rattle.outcomes.specs.AnyMachine.declared.machine.AnyMachine.{AnyMachine}
use Rattle.outcomes.proofs.StartParts.Names.{run-names}
use Rattle.measuring.proofs.AnyRuns.RunMore.{answers-length}
use Rattle.outcomes.specs.TreeModel.State.Shape.{frame_of}
use Rattle.outcomes.proofs.TreeModel.FrameKept.{run-frame}
use Rattle.outcomes.specs.Runs.{KeepsRoom}
use Rattle.outcome_model.specs.Halted.{all_halted}
use Rattle.outcome_model.specs.Outcome.{outcome_of}
use Rattle.outcome_model.proofs.Halted.{joined, later-turns-change-nothing}

-- ---- the room for operations

answered-ops : (answers : List TurnAnswer) → length (ops_of_answers answers) ≡ (counts_of answers).retired
unfolding counts_of
answered-ops [] = refl
answered-ops (TurnAnswer.Retired op ∷ answers) = let rest = answered-ops answers in omega (arith, rest)
answered-ops (TurnAnswer.Issued kind x ∷ answers) = answered-ops answers
answered-ops (TurnAnswer.Waiting x ∷ answers) = answered-ops answers
answered-ops (TurnAnswer.Halted cause ∷ answers) = answered-ops answers
answered-ops (TurnAnswer.Granted e ∷ answers) = answered-ops answers
answered-ops (TurnAnswer.Empty ∷ answers) = answered-ops answers
answered-ops (TurnAnswer.Busy cause ∷ answers) = answered-ops answers

retired-most : (answers : List TurnAnswer) → (counts_of answers).retired ≤ length answers
unfolding counts_of
retired-most [] = omega arith
retired-most (TurnAnswer.Retired op ∷ answers) = let rest = retired-most answers in omega (arith, rest)
retired-most (TurnAnswer.Issued kind x ∷ answers) = let rest = retired-most answers in omega (arith, rest)
retired-most (TurnAnswer.Waiting x ∷ answers) = let rest = retired-most answers in omega (arith, rest)
retired-most (TurnAnswer.Halted cause ∷ answers) = let rest = retired-most answers in omega (arith, rest)
retired-most (TurnAnswer.Granted e ∷ answers) = let rest = retired-most answers in omega (arith, rest)
retired-most (TurnAnswer.Empty ∷ answers) = let rest = retired-most answers in omega (arith, rest)
retired-most (TurnAnswer.Busy cause ∷ answers) = let rest = retired-most answers in omega (arith, rest)

-- what turns leave of the room: none is lost, and each takes the room of one operation at most
pub record RoomAfter (count : ℕ) (s after : MachineState) : Type 0 where
  pub all : length s.machine.ops + s.spare ≤ length after.machine.ops + after.spare
  pub left : s.spare ≤ after.spare + count

pub room-after : (ts : List Turn) (s : MachineState) → RoomAfter (length ts) s (ran ts s)
room-after ts s =
    let answers = answers_in ts s in
    let ops : length (ran ts s).machine.ops ≡ length s.machine.ops + (counts_of answers).retired = ap length (run-ops ts s.machine) ∙ length-append s.machine.ops (ops_of_answers answers) ∙ ap (λ n. length s.machine.ops + n) (answered-ops answers) in
    let most = retired-most answers in
    let size = answers-length ts s.machine in
    record { all = omega (arith, ops); left = omega (arith, most, size) }

-- ---- the machine after some of the turns

-- some turns were made, and the others are left
pub record AfterBlocks (turns left : List Turn) (before after : AnyMachine) : Type 0 where
  pub made : List Turn
  pub parts : made ++ left ≡ turns
  pub machine : (machine_state after).machine ≡ (run_of made (machine_state before).machine).machine
  pub counted : (machine_state after).turns ≡ (machine_state before).turns + length made
  pub room : length (machine_state before).machine.ops + (machine_state before).spare ≤ length (machine_state after).machine.ops + (machine_state after).spare
  pub spare : length left ≤ (machine_state after).spare
  pub kind : kind_of after ≡ kind_of before

pub no-blocks : (turns : List Turn) (before : AnyMachine) → length turns ≤ (machine_state before).spare → AfterBlocks turns turns before before
unfolding run_of
no-blocks turns before spare = record { made = []; parts = refl; machine = refl; counted = omega arith; room = omega arith; spare = spare; kind = refl }

-- a block, and those behind it
pub next-parts : (count : ℕ) (block left rest : List Turn) → take count block ≡ take count left → rest ≡ drop count left → take count block ++ rest ≡ left
next-parts count block left rest front back = ap (λ us. us ++ rest) front ∙ ap (λ us. take count left ++ us) back ∙ take-append-drop count left

module _ (turns left : List Turn) (before here : AnyMachine) (is : AfterBlocks turns left before here) where
  -- one block more
  pub more-blocks : (block rest : List Turn) (after : AnyMachine) → block ++ rest ≡ left → machine_state after ≡ ran block (machine_state here) → kind_of after ≡ kind_of here → AfterBlocks turns rest before after
  more-blocks block rest after parts came kind =
      let room = room-after block (machine_state here) in
      let ops_made = ap (λ s. length s.machine.ops) came in
      let spare_made = ap (λ s. s.spare) came in
      let turns_made = ap (λ s. s.turns) came in
      let sizes : length block + length rest ≡ length left = sym (length-append block rest) ∙ ap length parts in
      let all : length (is.made ++ block) ≡ length is.made + length block = length-append is.made block in
      record {
        made = is.made ++ block;
        parts = append_assoc is.made block rest ∙ ap (λ us. is.made ++ us) parts ∙ is.parts;
        machine = ap (λ s. s.machine) came ∙ ap (λ m. (run_of block m).machine) is.machine ∙ sym (joined is.made block (machine_state before).machine);
        counted = omega (arith, turns_made, all, is.counted);
        room = omega (arith, ops_made, spare_made, room.all, is.room);
        spare = omega (arith, spare_made, room.left, sizes, is.spare);
        kind = kind ∙ is.kind;
      }

  -- what the next block needs
  pub block-named : (block rest : List Turn) → block ++ rest ≡ left → NameParts turns (machine_state before).machine → NameParts block (machine_state here).machine
  block-named block rest parts named =
      let P : Turn → Type 0 = λ t. names_part t (machine_state before).machine ≡ true in
      let whole : is.made ++ (block ++ rest) ≡ turns = ap (λ us. is.made ++ us) parts ∙ is.parts in
      let behind : All P (block ++ rest) = subst (All P) (drop-append_seam is.made (block ++ rest)) (All-drop P (length is.made) (is.made ++ (block ++ rest)) (subst (All P) (sym whole) named)) in
      let each : All P block = subst (All P) (take-append_seam block rest) (All-take P (length block) (block ++ rest) behind) in
      All-weaker P (λ t. names_part t (machine_state here).machine ≡ true) (λ t name. ap (names_part t) is.machine ∙ run-names t is.made (machine_state before).machine ∙ name) block each

  pub block-few : (block rest : List Turn) → block ++ rest ≡ left → CanRun turns (machine_state before) → CanRun block (machine_state here)
  block-few block rest parts few =
      let sizes : length block + length rest ≡ length left = sym (length-append block rest) ∙ ap length parts in
      let all : length is.made + length left ≡ length turns = sym (length-append is.made left) ∙ ap length is.parts in
      omega (arith, sizes, all, is.counted, few)

  pub block-spared : (block rest : List Turn) → block ++ rest ≡ left → length block ≤ (machine_state here).spare
  block-spared block rest parts =
      let sizes : length block + length rest ≡ length left = sym (length-append block rest) ∙ ap length parts in
      omega (arith, sizes, is.spare)

  pub blocks-keep : KeepsRoom (machine_state before) (machine_state here)
  blocks-keep = record { frame = ap frame_of is.machine ∙ run-frame is.made (machine_state before).machine; room = is.room }

  -- ---- the outcome

  -- the machine after some of the turns, where all harts have halted, has the outcome of all of them
  pub halted-early : all_halted (machine_state here).machine ≡ true → outcome_of (machine_state here).machine ≡ outcome_of (run_of turns (machine_state before).machine).machine
  halted-early halted =
      let m = (machine_state before).machine in
      ap outcome_of is.machine ∙ sym (later-turns-change-nothing is.made left m (ap all_halted (sym is.machine) ∙ halted)) ∙ ap (λ us. outcome_of (run_of us m).machine) is.parts

  -- and so has the one after all of them
  pub all-made : left ≡ [] → outcome_of (machine_state here).machine ≡ outcome_of (run_of turns (machine_state before).machine).machine
  all-made none =
      let whole : is.made ≡ turns = sym (append-nil is.made) ∙ ap (λ us. is.made ++ us) (sym none) ∙ is.parts in
      ap outcome_of is.machine ∙ ap (λ us. outcome_of (run_of us (machine_state before).machine).machine) whole
