-- A machine that is served, and why a list isn't.
-- To be believed with the contracts: they speak of it.
use Rattle.std.specs.Prelude.{◌≡◌, Bool, true, false, List, ◌∷◌, Option, Some, None, Result, Err}
use Rattle.serving.specs.DdmTypes.declared.answers.TurnAnswer.{TurnAnswer}
use Rattle.serving.specs.DdmTypes.declared.sizes.LeafState.{LeafState}
use Rattle.serving.specs.DdmTypes.declared.turns.Turn.{Turn}
use Rattle.serving.specs.FlatModel.Flat.{FlatMachine}
use Rattle.serving.specs.TreeModel.State.Values.{MachineValue}
use Rattle.serving.specs.ServingModel.Serving.{ServingRefusal, not_served, too_many_turns}
use Rattle.serving.specs.ServingModel.Shows.{Shows}
use Rattle.serving.specs.declared.completing.Issued.{Issued}
use Rattle.serving.specs.declared.refusal.ServeRefusal.{ServeRefusal}
use Rattle.serving.specs.declared.refusal.ServeRefusal.TheVariants.{NotServed, TooManyTurns, NoMemory}

-- it shows some flat machine, and its top is over bus 0
pub record IsShown (m : MachineValue) : Type 0 where
  pub flat : FlatMachine
  pub shows : Shows m flat
  pub top : m.top.bus ≡ 0

-- an entry in this state waits to be written
abbrev pub waits_to_write : Option LeafState → Bool
waits_to_write (Some LeafState.Waiting) = true
waits_to_write _ = false

-- the request that the first of some turns issued, if it did
abbrev pub issued_first : List TurnAnswer → Option Issued
issued_first (TurnAnswer.Issued kind x ∷ answers) = Some (record { kind = kind; item = x })
issued_first _ = None

-- what the list comes to where it isn't served, or nothing where memory is wanting
abbrev pub Refuses : ServeRefusal → Result (List Turn) ServingRefusal → Type 0
Refuses (NotServed line) r = r ≡ Err (not_served line)
Refuses (TooManyTurns line) r = r ≡ Err (too_many_turns line)
Refuses NoMemory r = Unit {0}
