-- A reader of a schedule's text, and what it gives for more bytes.
use Rattle.std.specs.Prelude.{◌≡◌, ℕ, ◌+◌, ◌-◌, ◌≤◌, List, [], ◌++◌, length, take, drop, Result, Ok, Err}
use Rattle.schedule_log.specs.DdmTypes.declared.turns.Turn.{Turn}
use Rattle.text_model.specs.declared.ScheduleRefusal.{ScheduleRefusal}
use Rattle.text_model.specs.declared.ScheduleRefusal.TheVariants.{NoEnd}
use Rattle.text_model.specs.Schedule.{ShapeView, Standing, in_line, at_end, refused_at, Reading, reading_on, held_of, resumed}
use Rattle.schedule_log.specs.declared.standing.Standing.{Standing as Place}
use Rattle.schedule_log.specs.declared.standing.Standing.TheVariants.{InLine, AtEnd, Refused}
use Rattle.schedule_log.specs.declared.refusal.FeedError.{FeedError}
use Rattle.schedule_log.specs.declared.refusal.FeedError.TheVariants as error
use Rattle.schedule_log.specs.declared.reading.Lines.{Lines}
use Rattle.schedule_log.specs.Standings.{standing_of, held_in}

-- what a contract sees of a reader
pub record ReaderView : Type 0 where
  -- how many turns there are, with those that were made before the text
  pub made : ℕ
  -- how many of them are lines of the text
  pub lines : ℕ
  -- the bytes of the line that isn't whole
  pub held : List ℕ
  pub standing : Standing

-- before the first byte of a text that comes behind so many turns
abbrev pub begun_behind : ℕ → ReaderView
begun_behind made = record { made = made; lines = 0; held = []; standing = in_line 1 }

-- before the first byte of a whole schedule
abbrev pub begun : ReaderView
begun = begun_behind 0

-- what a reader gives for more bytes: their turns, and how far the text has come
abbrev pub given : ShapeView → ReaderView → List ℕ → Reading
given shape reader more = resumed shape reader.made reader.held more [] reader.standing

-- a reader after more bytes
abbrev pub fed : ShapeView → ReaderView → List ℕ → ReaderView
fed shape reader more = let reading = given shape reader more in record {
  made = reader.made + length reading.turns;
  lines = reader.lines + length reading.turns;
  held = held_in reading.standing (reader.held ++ more);
  standing = reading.standing;
}

-- what a call answers after which the text has come so far
abbrev pub answer_of : Standing → Result (Unit {0}) FeedError
answer_of (in_line line) = Ok tt
answer_of (at_end line) = Ok tt
answer_of (refused_at line refusal) = Err (error.Refused line refusal)

-- the text ends here
abbrev pub finish_of : Standing → Result (Unit {0}) (ℕ × ScheduleRefusal)
finish_of (in_line line) = Err (line, NoEnd)
finish_of (at_end line) = Ok tt
finish_of (refused_at line refusal) = Err (line, refusal)

-- more bytes were read: the reader goes on, and their turns are at the end
pub record Fed (shape : ShapeView) (old : ReaderView) (more : List ℕ) (new : ReaderView) (before after : List Turn) : Type 0 where
  pub reader : new ≡ fed shape old more
  pub turns : after ≡ before ++ (given shape old more).turns

-- what a call of `feed` does, by its answer
abbrev pub FeedGives : ShapeView → ReaderView → List ℕ → ReaderView → List Turn → List Turn → Result (Unit {0}) FeedError → Type 0
FeedGives shape old more new before after (Ok u) = Fed shape old more new before after × (answer_of new.standing ≡ Ok u)
FeedGives shape old more new before after (Err (error.Refused line refusal)) =
    Fed shape old more new before after × (answer_of new.standing ≡ Err (error.Refused line refusal))
FeedGives shape old more new before after (Err error.NoMemory) = (new ≡ old) × (after ≡ before)

-- ---- parts

abbrev pub IsInLine : Standing → Type 0
IsInLine (in_line line) = Unit {0}
IsInLine (at_end line) = ⊥
IsInLine (refused_at line refusal) = ⊥

-- the bytes that count
abbrev pub held_by : Place → List ℕ → List ℕ
held_by InLine bytes = bytes
held_by AtEnd bytes = []
held_by (Refused line refusal) bytes = []

-- the rest of a text that is in a line is what is held of it
abbrev pub KeepsHeld : Place → List ℕ → List ℕ → Type 0
KeepsHeld InLine text rest = held_of text ≡ rest
KeepsHeld AtEnd text rest = Unit {0}
KeepsHeld (Refused line refusal) text rest = Unit {0}

-- the lines of a text were read where `made` turns were there, of which so many were lines before it
pub record LinesRead (shape : ShapeView) (before_lines made : ℕ) (text : List ℕ) (before after : List Turn) (lines : Lines) : Type 0 where
  pub turns : after ≡ before ++ (reading_on shape (before_lines + 1) made text).turns
  pub standing : standing_of lines.lines lines.standing ≡ (reading_on shape (before_lines + 1) made text).standing
  pub count : lines.made ≡ made + length (reading_on shape (before_lines + 1) made text).turns
  pub count_lines : lines.lines ≡ before_lines + length (reading_on shape (before_lines + 1) made text).turns
  pub held : KeepsHeld lines.standing text (drop lines.kept text)
  pub within : lines.kept ≤ length text
  pub of_text : lines.lines ≤ lines.made
  pub few : lines.made ≤ 1048576

-- the lines of a text's front were read where `first` turns were there, of which so many were lines before it: now there are `made`, and
-- these bytes are left
pub record ReadUpTo (shape : ShapeView) (before_lines first : ℕ) (text : List ℕ) (before : List Turn) (made : ℕ)
    (left : List ℕ) (after : List Turn) : Type 0 where
  pub turns :
      after ++ (reading_on shape (before_lines + (made - first) + 1) made left).turns
      ≡ before ++ (reading_on shape (before_lines + 1) first text).turns
  pub standing :
      (reading_on shape (before_lines + (made - first) + 1) made left).standing
      ≡ (reading_on shape (before_lines + 1) first text).standing
  pub count :
      made + length (reading_on shape (before_lines + (made - first) + 1) made left).turns
      ≡ first + length (reading_on shape (before_lines + 1) first text).turns
  pub held : held_of text ≡ held_of left
  pub is_rest : left ≡ drop (length text - length left) text
  pub within : length left ≤ length text
  pub of_text : first ≤ made
  pub few : made ≤ 1048576
  pub front : take (length before) after ≡ before
