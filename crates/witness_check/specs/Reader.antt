-- A reader of a witness's text, and what more bytes make of it.
use Rattle.std.specs.Prelude.{◌≡◌, ℕ, ◌+◌, ◌≤◌, ◌<◌, Bool, true, false, nat_lt, min, List, [], length, Option, Some}
use Rattle.std.specs.Prelude.{None, Result, Ok, Err, if◌then◌else◌}
use Rattle.witness_check.specs.DdmTypes.declared.sizes.Start.{Start}
use Rattle.witness_check.specs.DdmTypes.ItemTable.{ItemTable}
use Rattle.witness_check.specs.FlatModel.Flat.{FlatMachine}
use Rattle.rv_flat.specs.FlatState.{FlatState, HasItems}
use Rattle.witness_check.specs.TreeModel.Start.Sources.{ImageValue, TreeValue, start_of_harts}
use Rattle.witness_check.specs.declared.refusal.CheckRefusal.{CheckRefusal}
use Rattle.witness_check.specs.declared.refusal.CheckRefusal.TheVariants.{TooLong, TooManyItems, StackOverlap}
use Rattle.witness_check.specs.declared.refusal.CheckRefusal.TheVariants.{BadLine, TooManyLines, NotLegal, NoMemory}
use Rattle.witness_check.specs.Judging.{Program, Standing, going, refused, lines_limit, line_limit, text_limit, lines_of, standing_of}
use Rattle.witness_check.specs.Start.{Setting, program_of, machine_of}

abbrev pub setting : ImageValue → Start → ℕ → Setting
setting image start item_bytes = record { image = image; start = start; item_bytes = item_bytes }

-- the setting of a tree and an image
abbrev pub setting_of : TreeValue → ImageValue → Setting
setting_of t i = setting i (start_of_harts t i) t.item_bytes

-- what a contract sees of a reader
pub record ReaderView : Type 0 where
  pub program : Program
  -- how many bytes came, up to the limit
  pub size : ℕ
  pub standing : Standing

-- before the first byte
abbrev pub begun : Setting → ReaderView
begun s = record { program = program_of s; size = 0; standing = going (machine_of s) 0 [] }

-- behind a piece
unfoldable pub fed : ReaderView → List ℕ → ReaderView
fed reader piece = record {
  program = reader.program;
  size = min (reader.size + length piece) text_limit;
  standing = if nat_lt text_limit (reader.size + length piece) then refused TooLong else lines_of reader.program reader.standing piece;
}

-- behind a text, in whatever pieces
abbrev pub reader_after : Setting → List ℕ → ReaderView
reader_after s text = record {
  program = program_of s;
  size = min (length text) text_limit;
  standing = standing_of (program_of s) (machine_of s) text;
}

-- what `feed` answers: whether the text is too long
abbrev pub refusal_answer : CheckRefusal → Result (Unit {0}) CheckRefusal
refusal_answer TooLong = Err TooLong
refusal_answer (TooManyItems n) = Ok tt
refusal_answer (StackOverlap hart header) = Ok tt
refusal_answer (BadLine n) = Ok tt
refusal_answer (TooManyLines n) = Ok tt
refusal_answer (NotLegal n) = Ok tt
refusal_answer NoMemory = Ok tt

abbrev pub feed_answer : Standing → Result (Unit {0}) CheckRefusal
feed_answer (going machine made line) = Ok tt
feed_answer (refused refusal) = refusal_answer refusal

-- ---- parts

abbrev pub with_standing : Standing → ReaderView → ReaderView
with_standing standing reader = record reader { standing = standing }

abbrev pub standing_by : Option CheckRefusal → FlatMachine → ℕ → List ℕ → Standing
standing_by None machine made line = going machine made line
standing_by (Some refusal) machine made line = refused refusal

-- a line may end here
abbrev pub IsAtLineEnd : Standing → Type 0
IsAtLineEnd (going machine made line) = made < lines_limit
IsAtLineEnd (refused refusal) = ⊥

pub record IsReader (len made size : ℕ) : Type 0 where
  pub line : len ≤ line_limit
  pub lines : made ≤ lines_limit
  pub text : size ≤ text_limit

-- what a contract sees of the machine that takes the steps
pub record JudgeView : Type 0 where
  pub program : Program
  pub machine : FlatMachine

abbrev pub judge_at_start : Setting → JudgeView
judge_at_start s = record { program = program_of s; machine = machine_of s }

-- the machine has the words of the items, and so many harts
pub record HasProgram (state : FlatState) (items : ItemTable) (harts : ℕ) : Type 0 where
  pub words : HasItems state items
  pub count : length state.machine.harts ≡ harts

-- whether there is a step, and the machine after it
abbrev pub StepGives : Option FlatMachine → Bool → FlatMachine → Type 0
StepGives (Some next) true after = after ≡ next
StepGives (Some next) false after = ⊥
StepGives None true after = ⊥
StepGives None false after = Unit {0}
