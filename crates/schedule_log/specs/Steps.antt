-- What a text begins with.
use Rattle.std.specs.Prelude.{◌≡◌, ℕ, ◌+◌, ◌<◌, ◌≤◌, List, ◌∷◌, ◌++◌, length, take, drop, Option, Some, None}
use Rattle.schedule_log.specs.DdmTypes.declared.turns.Turn.{Turn as OneTurn}
use Rattle.text_model.specs.Schedule.{ShapeView, nothing_but, with_turn, reading_on, held_of}
use Rattle.text_model.specs.declared.ScheduleRefusal.{ScheduleRefusal}
use Rattle.text_model.specs.Lines.{Lacks}
use Rattle.schedule_log.specs.declared.standing.Standing.{Standing}
use Rattle.schedule_log.specs.declared.standing.Standing.TheVariants.{InLine, AtEnd, Refused}
use Rattle.schedule_log.specs.declared.steps.Step.{Step}
use Rattle.schedule_log.specs.declared.steps.Step.TheVariants.{Turn, Stop}
use Rattle.schedule_log.specs.Standings.{standing_of}

-- the first line of a text has so many bytes, and not too many
pub record IsLine (text : List ℕ) (end : ℕ) : Type 0 where
  pub few : end ≤ 24
  pub inside : end < length text
  pub lacks : Lacks 10 (take end text)
  pub is : text ≡ take end text ++ 10 ∷ drop (end + 1) text

-- where `made` turns are there, of which so many are lines before it, a text begins with the line of a turn, with so many bytes
pub record BeginsWithTurn (shape : ShapeView) (lines made : ℕ) (text : List ℕ) (turn : OneTurn) (used : ℕ) : Type 0 where
  pub reading : reading_on shape (lines + 1) made text ≡ with_turn turn (reading_on shape (lines + 1 + 1) (made + 1) (drop used text))
  pub held : held_of text ≡ held_of (drop used text)
  pub some : 0 < used
  pub within : used ≤ length text
  pub room : made < 1048576

-- a text that is in a line is that line
abbrev pub HoldsAll : Standing → List ℕ → Type 0
HoldsAll InLine text = held_of text ≡ text
HoldsAll AtEnd text = Unit {0}
HoldsAll (Refused line refusal) text = Unit {0}

-- there it begins with no turn, and stands so
pub record StopsAt (shape : ShapeView) (lines made : ℕ) (text : List ℕ) (standing : Standing) : Type 0 where
  pub reading : reading_on shape (lines + 1) made text ≡ nothing_but (standing_of lines standing)
  pub held : HoldsAll standing text

-- what a text begins with
abbrev pub StepGives : ShapeView → ℕ → ℕ → List ℕ → Step → Type 0
StepGives shape lines made text (Turn turn used) = BeginsWithTurn shape lines made text turn used
StepGives shape lines made text (Stop standing) = StopsAt shape lines made text standing

-- the step of a turn that may be refused
abbrev pub step_by : Option ScheduleRefusal → ℕ → OneTurn → ℕ → Step
step_by None lines turn used = Turn turn used
step_by (Some refusal) lines turn used = Stop (Refused (lines + 1) refusal)
