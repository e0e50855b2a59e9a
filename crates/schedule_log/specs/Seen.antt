-- Lines of a schedule that are told by the front of a text: its first eight bytes and the last four of its first line.
use Rattle.std.specs.Prelude.{◌≡◌, ℕ, ◌+◌, ◌-◌, ◌≤◌, List, length, drop, take, None}
use Rattle.std.specs.Int.{to_le_bytes, w32, w64}
use Rattle.schedule_log.specs.DdmTypes.declared.turns.Turn.{Turn}
use Rattle.text_model.specs.Schedule.{ShapeView, turn_fault, turn_text}
use Rattle.schedule_log.specs.declared.front.Front.{Front}
use Rattle.schedule_log.specs.declared.seen.Seen.{Seen}
use Rattle.schedule_log.specs.Spelled.{BeginsWithLine}

-- a text begins with the line of a turn that the tree has, and so many bytes are that line with its line feed
pub record IsSeenLine (shape : ShapeView) (text : List ℕ) (turn : Turn) (used : ℕ) : Type 0 where
  pub line : BeginsWithLine text turn (drop used text)
  pub many : used ≡ length (turn_text turn) + 1
  pub fault : turn_fault shape turn ≡ None

-- a text has this front
pub record IsFrontOf (text : List ℕ) (front : Front) : Type 0 where
  pub head : to_le_bytes w64 front.head ≡ take 8 text
  pub last : to_le_bytes w32 front.last ≡ take 4 (drop (front.used - 4) text)
  pub some : 5 ≤ front.used

-- each text that has this front begins with the line of this turn
abbrev pub IsSeen : ShapeView → Front → Turn → Type 0
IsSeen shape front turn = (text : List ℕ) → IsFrontOf text front → IsSeenLine shape text turn front.used

-- what is remembered at a place is so
abbrev pub IsSeenAt : ShapeView → Seen → Type 0
IsSeenAt shape line = IsSeen shape line.front line.turn
