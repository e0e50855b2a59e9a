-- A reader that was given a text, in whatever pieces.
-- Letters: made is how many turns were there before the text.
use Rattle.std.specs.Prelude.{ℕ, ◌+◌, List, length}
use Rattle.schedule_log.specs.DdmTypes.declared.turns.Turn.{Turn}
use Rattle.text_model.specs.Schedule.{ShapeView, reading_of}
use Rattle.schedule_log.specs.Standings.{held_in}
use Rattle.schedule_log.specs.Reader.{ReaderView}

-- the turns of a text's lines, up to the first that is refused
abbrev pub turns_of : ShapeView → ℕ → List ℕ → List Turn
turns_of shape made text = (reading_of shape made text).turns

-- the reader after a text
abbrev pub reader_after : ShapeView → ℕ → List ℕ → ReaderView
reader_after shape made text = record {
  made = made + length (turns_of shape made text);
  lines = length (turns_of shape made text);
  held = held_in (reading_of shape made text).standing text;
  standing = (reading_of shape made text).standing;
}
