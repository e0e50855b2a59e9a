-- What holds of the turns of a run, from the machine that it starts from or goes on from.
-- Letters: s is the flat machine at the start, m the machine, t a turn; in the last two t is a tree and i an image.
-- To be believed: it is what is claimed of every run.
use Rattle.std.specs.Prelude.{◌≡◌, ℕ, List, [], ◌∷◌, None, take, ⊤}
use Rattle.headline.specs.DdmTypes.declared.turns.Turn.{Turn}
use Rattle.headline.specs.FlatModel.Flat.{FlatMachine}
use Rattle.headline.specs.TreeModel.Start.Sources.{TreeValue, ImageValue}
use Rattle.headline.specs.TreeModel.Start.Machine.{flat_start_of, start_machine, start_refusal}
use Rattle.headline.specs.TreeModel.State.Values.{MachineValue}
use Rattle.headline.specs.TreeModel.Turns.Machine.{run_of, turn_of}
use Rattle.headline.specs.TreeModel.Turns.Witness.{sorted_ops}
use Rattle.headline.specs.TreeRules.Witness.{EachTurnWitnessed}
use Rattle.headline.specs.BusLaws.IsTree.{IsTree}
use Rattle.text_model.specs.Run.{EachOutputWitnessed}
use Rattle.busy_laws.specs.Reasons.{EachBusyForItsReason}
use Rattle.lr_sc_laws.specs.Between.{EachScHasItsLr}
use Rattle.lr_sc_laws.specs.Failing.{fails_unreserved, sc_failed}

-- ---- turn by turn

-- each of the turns completes an SC as failed exactly where it comes to one whose item isn't its leaf's reservation
abbrev pub EachFailsUnreserved : List Turn → MachineValue → Type 0
EachFailsUnreserved [] m = ⊤
EachFailsUnreserved (t ∷ ts) m = (sc_failed (turn_of t m).answer ≡ fails_unreserved t m) × EachFailsUnreserved ts (turn_of t m).machine

pub record AreJudged (turns : List Turn) (m : MachineValue) : Type 0 where
  -- each is busy exactly where it has a reason, and names the first
  pub busy : EachBusyForItsReason turns m
  pub failing : EachFailsUnreserved turns m

-- ---- after each of the turns

pub record RunInOrder (s : FlatMachine) (m : MachineValue) (turns : List Turn) : Type 0 where
  -- the operations, in the order of their keys, are one legal run of the flat machine from its start, and each hart and the found copy
  -- of every item are that run's
  pub witnessed : EachTurnWitnessed s turns m
  -- and so is what each hart has put out
  pub output : EachOutputWitnessed turns m
  -- before each SC that stores there is its LR, and between them no store of another hart to its item
  pub pairs : (k : ℕ) → let after = (run_of (take k turns) m).machine in EachScHasItsLr after.items (sorted_ops after.ops)
  pub judged : AreJudged turns m

-- ---- of every run

abbrev pub AllRunsInOrder : Type 0
AllRunsInOrder =
    (t : TreeValue) (i : ImageValue) → IsTree t → start_refusal t i ≡ None → (first turns : List Turn) →
    RunInOrder (flat_start_of t i) (run_of first (start_machine t i)).machine turns

abbrev pub AllTurnsJudged : Type 0
AllTurnsJudged = (turns : List Turn) (m : MachineValue) → AreJudged turns m
