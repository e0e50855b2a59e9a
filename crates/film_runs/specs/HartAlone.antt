-- Answers by which a turn changed a hart alone, and what it left as it was.
-- Letters: a is an answer, v and w a leaf before and after the turn, m and k machines before and after it, t a turn.
-- To be believed with the contracts: they speak of it.
use Rattle.std.specs.Prelude.{◌≡◌, ℕ, Bool, true, false, List, [], ◌∷◌, ◌++◌, Option, Some, None, length, if◌then◌else◌}
use Rattle.film_runs.specs.DdmTypes.declared.answers.TurnAnswer.{TurnAnswer}
use Rattle.film_runs.specs.DdmTypes.declared.operations.Effect.{Effect}
use Rattle.film_runs.specs.DdmTypes.declared.turns.Turn.{Turn}
use Rattle.film_runs.specs.FilmModel.Part.{Part}
use Rattle.film_runs.specs.FilmModel.Still.{bus_parts, place_part, still}
use Rattle.film_runs.specs.TreeModel.State.Values.{LeafValue, MachineValue}
use Rattle.film_runs.specs.TreeModel.Turns.Machine.{machine_leaves}

-- an instruction of this effect changes no word and no reservation
abbrev pub is_own : Effect → Bool
is_own Effect.Plain = true
is_own (Effect.Put byte) = true
is_own (Effect.Load address word) = true
is_own _ = false

abbrev pub hart_alone : TurnAnswer → Bool
hart_alone (TurnAnswer.Retired op) = is_own op.effect
hart_alone (TurnAnswer.Halted cause) = true
hart_alone _ = false

-- but for its hart the leaf is what it was
abbrev pub IsHartOf : LeafValue → LeafValue → Type 0
IsHartOf v w = w ≡ record v { hart = w.hart; done = w.done }

-- the machine is what it was, but for the hart of the leaf of this number
pub record IsAlone (number : ℕ) (m k : MachineValue) : Type 0 where
  pub first : List LeafValue
  pub leaf : LeafValue
  pub now : LeafValue
  pub last : List LeafValue
  pub numbered : leaf.number ≡ number
  pub before : machine_leaves m ≡ first ++ leaf ∷ last
  pub after : machine_leaves k ≡ first ++ now ∷ last
  pub hart : IsHartOf leaf now
  pub buses : (bus : ℕ) → bus_parts k bus ≡ bus_parts m bus
  pub places : (x : ℕ) → place_part k x ≡ place_part m x
  pub traffic : length k.traffic ≡ length m.traffic
  pub items : k.items ≡ m.items

-- a still was that of a machine which, but for this hart, is what the machine was
pub record CameFrom (number : ℕ) (parts : List Part) (k : MachineValue) : Type 0 where
  pub before : MachineValue
  pub told : parts ≡ still before
  pub alone : IsAlone number before k
  pub registers : length alone.leaf.hart.registers ≡ 32

-- the hart that a turn changed, by its answers, where it changed that alone
abbrev pub hart_changed : Turn → List TurnAnswer → Option ℕ
hart_changed (Turn.Hart hart victim) (a ∷ []) = if hart_alone a then Some hart else None
hart_changed _ _ = None
