-- Which turns a schedule may have, so that its text is read back.
use Rattle.std.specs.Prelude.{◌≡◌, ℕ, ◌+◌, ◌<◌, ◌≤◌, List, length, All, None, Ok}
use Rattle.text_model.specs.DdmTypes.declared.turns.Turn.{Turn}
use Rattle.text_model.specs.DdmTypes.declared.turns.Turn.TheVariants.{Hart, Down, Request, Reply, Leave}
use Rattle.text_model.specs.Schedule.{ShapeView, turn_fault, schedule_of, schedule_text}

-- the victim or the choice of a turn
abbrev pub choice_of : Turn → ℕ
choice_of (Hart hart victim) = victim
choice_of (Down bus) = 0
choice_of (Request bus child) = 0
choice_of (Reply bus child) = 0
choice_of (Leave bus child choice) = choice

-- a turn of this tree, with a victim or choice of one byte
pub record IsTurnOf (shape : ShapeView) (turn : Turn) : Type 0 where
  pub of_shape : turn_fault shape turn ≡ None
  pub choice : choice_of turn < 256

-- Its numbers have at most three digits, so each turn's text is short.
pub record IsSmallShape (shape : ShapeView) : Type 0 where
  pub harts : shape.harts ≤ 1000
  pub buses : length shape.buses ≤ 1000
  pub children : All (λ n. n ≤ 1000) shape.buses

-- The text of turns is read back, where `made` turns are there before it.
abbrev pub IsReadBack : ShapeView → ℕ → List Turn → Type 0
IsReadBack shape made turns = schedule_of shape made (schedule_text turns) ≡ Ok turns

-- turns of this tree, and with those made before not too many
pub record GivesTurnsOf (shape : ShapeView) (made : ℕ) (turns : List Turn) : Type 0 where
  pub each : All (IsTurnOf shape) turns
  pub room : made + length turns ≤ 1048576
