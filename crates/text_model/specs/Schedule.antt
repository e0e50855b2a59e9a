-- The text of a schedule: a line for each turn, then the line `end`. Each line ends with a line feed.
use Rattle.std.specs.Prelude.{ℕ, ◌+◌, ◌&&◌, nat_eq, nat_lt, bytes_eq, List, [], ◌∷◌, ◌++◌, length, Option, Some, None}
use Rattle.std.specs.Prelude.{Result, Ok, Err, codes, decimal, flat_map, replicate, slice_get, if◌then◌else◌}
use Rattle.std.specs.Result.{result_ok}
use Rattle.text_model.specs.DdmTypes.declared.turns.Turn.{Turn}
use Rattle.text_model.specs.DdmTypes.declared.turns.Turn.TheVariants.{Hart, Down, Request, Reply, Leave}
use Rattle.ddm_text.specs.Numbers.{number_of}
use Rattle.text_model.specs.declared.ScheduleRefusal.{ScheduleRefusal}
use Rattle.text_model.specs.declared.ScheduleRefusal.TheVariants.{BadTurn, TooManyTurns, NoSuchHart, NoSuchBus}
use Rattle.text_model.specs.declared.ScheduleRefusal.TheVariants.{NoSuchChild, NoEnd, AfterEnd}

-- ---- writing

-- a turn
unfoldable pub turn_text : Turn → List ℕ
turn_text (Hart hart victim) = codes "h " ++ decimal hart ++ codes " " ++ decimal victim
turn_text (Down bus) = codes "g " ++ decimal bus ++ codes " d"
turn_text (Request bus child) = codes "g " ++ decimal bus ++ codes " q " ++ decimal child
turn_text (Reply bus child) = codes "g " ++ decimal bus ++ codes " r " ++ decimal child
turn_text (Leave bus child choice) = codes "g " ++ decimal bus ++ codes " l " ++ decimal child ++ codes " " ++ decimal choice

-- the line of a turn
unfoldable pub turn_line : Turn → List ℕ
turn_line turn = turn_text turn ++ codes "\n"

-- the lines of turns
unfoldable pub turn_lines : List Turn → List ℕ
turn_lines turns = flat_map turn_line turns

-- a whole schedule
unfoldable pub schedule_text : List Turn → List ℕ
schedule_text turns = turn_lines turns ++ codes "end\n"

-- ---- a line

-- pieces of a text, with a byte in front that may be the one that separates them
abbrev pub with_byte_before : ℕ → ℕ → List (List ℕ) → List (List ℕ)
with_byte_before separator byte [] = (byte ∷ []) ∷ []
with_byte_before separator byte (piece ∷ pieces) =
    if nat_eq byte separator then [] ∷ piece ∷ pieces else (byte ∷ piece) ∷ pieces

-- the pieces of a text between the places where a byte stands; there is always a last one, which may be empty
unfoldable pub pieces_at : ℕ → List ℕ → List (List ℕ)
pieces_at separator [] = [] ∷ []
pieces_at separator (byte ∷ bytes) = with_byte_before separator byte (pieces_at separator bytes)

-- the number that a word is, if it is one and not above the limit
abbrev pub number_in : ℕ → List ℕ → Option ℕ
number_in most word = result_ok (number_of word most)

-- numbers of harts, buses and children
abbrev pub place_in : List ℕ → Option ℕ
place_in word = number_in 4294967295 word

-- victims and choices
abbrev pub choice_in : List ℕ → Option ℕ
choice_in word = number_in 255 word

-- a hart's turn, of its two numbers
abbrev pub hart_turn_of : Option ℕ → Option ℕ → Option Turn
hart_turn_of (Some hart) (Some victim) = Some (Hart hart victim)
hart_turn_of (Some hart) None = None
hart_turn_of None victim = None

-- a turn that takes the first entry of a down list
abbrev pub down_turn_of : Option ℕ → Option Turn
down_turn_of (Some bus) = Some (Down bus)
down_turn_of None = None

-- a turn that grants a request
abbrev pub request_turn_of : Option ℕ → Option ℕ → Option Turn
request_turn_of (Some bus) (Some child) = Some (Request bus child)
request_turn_of (Some bus) None = None
request_turn_of None child = None

-- a turn that grants a reply
abbrev pub reply_turn_of : Option ℕ → Option ℕ → Option Turn
reply_turn_of (Some bus) (Some child) = Some (Reply bus child)
reply_turn_of (Some bus) None = None
reply_turn_of None child = None

-- a turn that lets a copy leave
abbrev pub leave_turn_of : Option ℕ → Option ℕ → Option ℕ → Option Turn
leave_turn_of (Some bus) (Some child) (Some choice) = Some (Leave bus child choice)
leave_turn_of (Some bus) (Some child) None = None
leave_turn_of (Some bus) None choice = None
leave_turn_of None child choice = None

-- the turn that three words are
abbrev pub turn_of_three : List ℕ → List ℕ → List ℕ → Option Turn
turn_of_three mark second third =
    if bytes_eq mark (codes "h") then hart_turn_of (place_in second) (choice_in third)
    else (if bytes_eq mark (codes "g") && bytes_eq third (codes "d") then down_turn_of (place_in second)
    else None)

-- the turn that four words are
abbrev pub turn_of_four : List ℕ → List ℕ → List ℕ → List ℕ → Option Turn
turn_of_four mark bus kind child =
    if bytes_eq mark (codes "g") && bytes_eq kind (codes "q") then request_turn_of (place_in bus) (place_in child)
    else (if bytes_eq mark (codes "g") && bytes_eq kind (codes "r") then reply_turn_of (place_in bus) (place_in child)
    else None)

-- the turn that five words are
abbrev pub turn_of_five : List ℕ → List ℕ → List ℕ → List ℕ → List ℕ → Option Turn
turn_of_five mark bus kind child choice =
    if bytes_eq mark (codes "g") && bytes_eq kind (codes "l") then leave_turn_of (place_in bus) (place_in child) (choice_in choice)
    else None

-- the turn that words are
unfoldable pub turn_of_words : List (List ℕ) → Option Turn
turn_of_words [] = None
turn_of_words (a ∷ []) = None
turn_of_words (a ∷ b ∷ []) = None
turn_of_words (a ∷ b ∷ c ∷ []) = turn_of_three a b c
turn_of_words (a ∷ b ∷ c ∷ d ∷ []) = turn_of_four a b c d
turn_of_words (a ∷ b ∷ c ∷ d ∷ e ∷ []) = turn_of_five a b c d e
turn_of_words (a ∷ b ∷ c ∷ d ∷ e ∷ f ∷ words) = None

-- the most bytes of a line
abbrev pub line_limit : ℕ
line_limit = 24

-- the most turns of a schedule
abbrev pub turn_limit : ℕ
turn_limit = 1048576

-- what a line says: a turn, the end, or neither
pub data LineMeaning : Type 0 where
  turn_line_of : Turn → LineMeaning
  end_line : LineMeaning
  no_line : LineMeaning

-- a line of words that may be a turn
abbrev pub line_of_turn : Option Turn → LineMeaning
line_of_turn (Some turn) = turn_line_of turn
line_of_turn None = no_line

-- a line, without its line feed
unfoldable pub meaning_of : List ℕ → LineMeaning
meaning_of line =
    if nat_lt line_limit (length line) then no_line
    else (if bytes_eq line (codes "end") then end_line
    else line_of_turn (turn_of_words (pieces_at 32 line)))

-- ---- the tree that the turns are for

-- what a schedule is judged by
pub record ShapeView : Type 0 where
  pub harts : ℕ
  -- for each bus the number of its children
  pub buses : List ℕ

-- the tree `(L)`: one bus with one leaf
abbrev pub one_leaf : ShapeView
one_leaf = record { harts = 1; buses = 1 ∷ [] }

-- so many turns of hart 0, each with the victim 0
abbrev pub hart_turns : ℕ → List Turn
hart_turns n = replicate n (Hart 0 0)

-- why a tree doesn't have this child of a bus that has this many, or no such bus
abbrev pub child_fault : ℕ → Option ℕ → Option ScheduleRefusal
child_fault child None = Some NoSuchBus
child_fault child (Some children) = if nat_lt child children then None else Some NoSuchChild

-- what a turn names that the tree doesn't have
unfoldable pub turn_fault : ShapeView → Turn → Option ScheduleRefusal
turn_fault shape (Hart hart victim) = if nat_lt hart shape.harts then None else Some NoSuchHart
turn_fault shape (Down bus) = if nat_lt bus (length shape.buses) then None else Some NoSuchBus
turn_fault shape (Request bus child) = child_fault child (slice_get shape.buses bus)
turn_fault shape (Reply bus child) = child_fault child (slice_get shape.buses bus)
turn_fault shape (Leave bus child choice) = child_fault child (slice_get shape.buses bus)

-- why a turn is refused that comes when `made` turns are there
abbrev pub refusal_of_turn : ShapeView → ℕ → Turn → Option ScheduleRefusal
refusal_of_turn shape made turn = if nat_lt made turn_limit then turn_fault shape turn else Some TooManyTurns

-- ---- a text

-- How far a text has come: in a line that isn't whole, at its end, which is the front of this line, or refused in a line.
-- Lines are counted from 1.
pub data Standing : Type 0 where
  in_line : ℕ → Standing
  at_end : ℕ → Standing
  refused_at : ℕ → ScheduleRefusal → Standing

-- the turns of the lines before that, and how far the text has come
pub record Reading : Type 0 where
  pub turns : List Turn
  pub standing : Standing

-- no turns
abbrev pub nothing_but : Standing → Reading
nothing_but standing = record { turns = []; standing = standing }

-- a turn before those of a reading
abbrev pub with_turn : Turn → Reading → Reading
with_turn turn more = record { turns = turn ∷ more.turns; standing = more.standing }

-- what follows the line `end`: the last piece must be empty
abbrev pub after_end : ℕ → List ℕ → List (List ℕ) → Reading
after_end line [] [] = nothing_but (at_end line)
after_end line [] (piece ∷ pieces) = nothing_but (refused_at line AfterEnd)
after_end line (byte ∷ bytes) pieces = nothing_but (refused_at line AfterEnd)

-- a turn that may be refused, with what the lines behind it make
abbrev pub unless_refused : ℕ → Option ScheduleRefusal → Reading → Reading
unless_refused line None more = more
unless_refused line (Some refusal) more = nothing_but (refused_at line refusal)

-- a line, with what follows it: the next piece, those behind, and what the lines from the next one on make
abbrev pub line_reading : ShapeView → ℕ → ℕ → LineMeaning → List ℕ → List (List ℕ) → Reading → Reading
line_reading shape line made (turn_line_of turn) piece pieces more =
    unless_refused line (refusal_of_turn shape made turn) (with_turn turn more)
line_reading shape line made end_line piece pieces more = after_end (line + 1) piece pieces
line_reading shape line made no_line piece pieces more = nothing_but (refused_at line BadTurn)

-- the pieces between line feeds, from a line on, when `made` turns are there; the last piece has no line feed
unfoldable pub reading_from : ShapeView → ℕ → ℕ → List (List ℕ) → Reading
reading_from shape line made [] = nothing_but (in_line line)
reading_from shape line made (piece ∷ []) =
    nothing_but (if nat_lt line_limit (length piece) then refused_at line BadTurn else in_line line)
reading_from shape line made (piece ∷ next ∷ pieces) =
    line_reading shape line made (meaning_of piece) next pieces (reading_from shape (line + 1) (made + 1) (next ∷ pieces))

-- a text so far, when `made` turns are there before it
unfoldable pub reading_of : ShapeView → ℕ → List ℕ → Reading
reading_of shape made text = reading_from shape 1 made (pieces_at 10 text)

-- where no more bytes come: the turns, or the line and the refusal
abbrev pub finished : List Turn → Standing → Result (List Turn) (ℕ × ScheduleRefusal)
finished turns (in_line line) = Err (line, NoEnd)
finished turns (at_end line) = Ok turns
finished turns (refused_at line refusal) = Err (line, refusal)

-- the turns that a whole text gives for a tree, or its first refusal
unfoldable pub schedule_of : ShapeView → ℕ → List ℕ → Result (List Turn) (ℕ × ScheduleRefusal)
schedule_of shape made text = let reading = reading_of shape made text in finished reading.turns reading.standing

-- ---- a text in parts

-- the last of some pieces
abbrev pub last_piece : List (List ℕ) → List ℕ
last_piece [] = []
last_piece (piece ∷ []) = piece
last_piece (piece ∷ next ∷ pieces) = last_piece (next ∷ pieces)

-- the bytes of a text's last line, which has no line feed
unfoldable pub held_of : List ℕ → List ℕ
held_of text = last_piece (pieces_at 10 text)

-- a text from a line on, when `made` turns are there
abbrev pub reading_on : ShapeView → ℕ → ℕ → List ℕ → Reading
reading_on shape line made text = reading_from shape line made (pieces_at 10 text)

-- turns before those of a reading
abbrev pub with_turns : List Turn → Reading → Reading
with_turns turns more = record { turns = turns ++ more.turns; standing = more.standing }

-- more bytes behind the end
abbrev pub end_with : ℕ → List ℕ → Standing
end_with line [] = at_end line
end_with line (byte ∷ bytes) = refused_at line AfterEnd

-- a line that says this, with the bytes behind its line feed
abbrev pub reading_of_line : ShapeView → ℕ → ℕ → LineMeaning → List ℕ → Reading
reading_of_line shape line made (turn_line_of turn) more =
    unless_refused line (refusal_of_turn shape made turn)
    (with_turn turn (reading_on shape (line + 1) (made + 1) more))
reading_of_line shape line made end_line more = nothing_but (end_with (line + 1) more)
reading_of_line shape line made no_line more = nothing_but (refused_at line BadTurn)

-- turns that a text has given so far, and how far it has come, with more bytes behind: `made` turns were there before
-- those, and `held` are the bytes of the last line
unfoldable pub resumed : ShapeView → ℕ → List ℕ → List ℕ → List Turn → Standing → Reading
resumed shape made held more turns (in_line line) = with_turns turns (reading_on shape line (made + length turns) (held ++ more))
resumed shape made held more turns (at_end line) = record { turns = turns; standing = end_with line more }
resumed shape made held more turns (refused_at line refusal) = record { turns = turns; standing = refused_at line refusal }
