-- The run of a seed in which the turns that do something are recorded.
-- Letters: d is a drawn turn, m a machine.
-- To be believed: it is what is recorded of a run.
use Rattle.std.specs.Prelude.{ℕ, ◌+◌, ◌-◌, Bool, ◌&&◌, nat_eq, List, [], ◌∷◌, filter, map, Option, Some, None, if◌then◌else◌}
use Rattle.recording_model.specs.DdmTypes.declared.turns.Turn.{Turn}
use Rattle.recording_model.specs.TreeModel.State.Values.{MachineValue}
use Rattle.recording_model.specs.TreeModel.Turns.Machine.{turn_of}
use Rattle.recording_model.specs.TextModel.Schedule.{ShapeView, schedule_text}
use Rattle.outcome_model.specs.Halted.{all_halted}
use Rattle.recording_model.specs.declared.RunEnd.{RunEnd}
use Rattle.recording_model.specs.declared.SeedKind.{SeedKind}
use Rattle.recording_model.specs.Doing.{does_something}
use Rattle.recording_model.specs.LetBy.{Draw, seed_draws}

-- after so many drawn turns in a row that did nothing, those that weren't let by among them, a run is stuck
abbrev pub idle_limit : ℕ
idle_limit = 16777216

-- so many turns of a seed are drawn at most
abbrev pub drawn_limit : ℕ
drawn_limit = 4294967294

-- why a run ended, the turns that were drawn, those of them that are recorded, and the machine at the end
pub record Recording : Type 0 where
  pub end : RunEnd
  pub drawn : List Draw
  pub turns : List Turn
  pub machine : MachineValue

-- why it ends before the next turn is drawn, if it does: so many turns may still be recorded, and so many in a row did nothing
abbrev pub end_before : ℕ → ℕ → MachineValue → Option RunEnd
end_before left idle m =
    if all_halted m then Some RunEnd.Halted
    else (if nat_eq left 0 then Some RunEnd.Turns
    else (if nat_eq idle idle_limit then Some RunEnd.Stuck
    else None))

-- a turn that is let by is made
abbrev pub after_draw : Draw → MachineValue → MachineValue
after_draw d m = if d.let_by then (turn_of d.turn m).machine else m

-- and may do something
abbrev pub draw_does : Draw → MachineValue → Bool
draw_does d m = d.let_by && does_something d.turn m

abbrev pub ended : RunEnd → MachineValue → Recording
ended end m = record { end = end; drawn = []; turns = []; machine = m }

-- one more turn in front of a run, recorded if it did something
abbrev pub with_draw : Draw → Bool → Recording → Recording
with_draw d did rest = record rest { drawn = d ∷ rest.drawn; turns = if did then d.turn ∷ rest.turns else rest.turns }

-- the run ends here, or else goes on so
abbrev pub unless_ended : Option RunEnd → MachineValue → Recording → Recording
unless_ended None m goes_on = goes_on
unless_ended (Some end) m goes_on = ended end m

-- the run of these drawn turns, of which so many may be recorded, where so many in a row did nothing before
unfoldable pub recording_from : ℕ → ℕ → List Draw → MachineValue → Recording
recording_from left idle [] m = unless_ended (end_before left idle m) m (ended RunEnd.Drawn m)
recording_from left idle (d ∷ ds) m =
    let did = draw_does d m in
    unless_ended (end_before left idle m) m
    (with_draw d did (recording_from (if did then left - 1 else left) (if did then 0 else idle + 1) ds
    (after_draw d m)))

-- the run of a seed's first so many turns, of which so many may be recorded
abbrev pub recording_within : ℕ → SeedKind → ShapeView → ℕ → ℕ → MachineValue → Recording
recording_within count kind shape seed turns m = recording_from turns 0 (seed_draws kind shape seed count) m

-- the recorded run of a seed
unfoldable pub recording_of : SeedKind → ShapeView → ℕ → ℕ → MachineValue → Recording
recording_of kind shape seed turns m = recording_within drawn_limit kind shape seed turns m

-- the turns that were made: those drawn that were let by
abbrev pub made_turns : List Draw → List Turn
made_turns ds = map (λ (d : Draw). d.turn) (filter (λ (d : Draw). d.let_by) ds)

-- its text
unfoldable pub record_text : SeedKind → ShapeView → ℕ → ℕ → MachineValue → List ℕ
record_text kind shape seed turns m = schedule_text (recording_of kind shape seed turns m).turns
