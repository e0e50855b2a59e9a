-- How a text stands that is read as a witness, byte by byte.
use Rattle.std.specs.Prelude.{ℕ, ◌+◌, Bool, true, false, nat_eq, nat_lt, List, [], ◌∷◌, ◌++◌, fold, length, Option}
use Rattle.std.specs.Prelude.{Some, None, Result, Ok, Err, if◌then◌else◌}
use Rattle.witness_check.specs.DdmTypes.declared.operations.Op.{Op}
use Rattle.witness_check.specs.DdmTypes.CodeMap.{CodeWord}
use Rattle.witness_check.specs.DdmTypes.ItemTable.{ItemTable}
use Rattle.witness_check.specs.FlatModel.Flat.{FlatMachine}
use Rattle.witness_check.specs.FlatModel.Legal.{legal_step}
use Rattle.witness_check.specs.declared.refusal.CheckRefusal.{CheckRefusal}
use Rattle.witness_check.specs.declared.refusal.CheckRefusal.TheVariants.{TooLong, BadLine, TooManyLines, NotLegal}
use Rattle.witness_check.specs.Lines.{op_in}

-- the most bytes of a line before its line feed
abbrev pub line_limit : ℕ
line_limit = 160

-- the most lines of a text
abbrev pub lines_limit : ℕ
lines_limit = 1048576

-- the most bytes of a text: so many lines, with their line feeds
abbrev pub text_limit : ℕ
text_limit = 168820736

-- the code and the items that the operations are of
pub record Program : Type 0 where
  pub code : List CodeWord
  pub items : ItemTable

-- How a text stands: behind legal operations, with the flat machine after them, their number, and the bytes of the next
-- line so far; or refused.
pub data Standing : Type 0 where
  going : FlatMachine → ℕ → List ℕ → Standing
  refused : CheckRefusal → Standing

-- behind an operation: the machine after it, if it is a step of the machine
abbrev pub after_step : ℕ → Option FlatMachine → Standing
after_step made None = refused (NotLegal (made + 1))
after_step made (Some machine) = going machine (made + 1) []

-- behind a line that is this operation
abbrev pub after_line : Program → FlatMachine → ℕ → Option Op → Standing
after_line p machine made None = refused (BadLine (made + 1))
after_line p machine made (Some op) = after_step made (legal_step p.code p.items machine op)

-- a line with one byte more, which isn't its line feed
abbrev pub longer_line : Bool → FlatMachine → ℕ → List ℕ → ℕ → Standing
longer_line true machine made line byte = going machine made (line ++ byte ∷ [])
longer_line false machine made line byte = refused (BadLine (made + 1))

-- a byte of a line: its line feed, or another
abbrev pub in_line : Bool → Program → FlatMachine → ℕ → List ℕ → ℕ → Standing
in_line true p machine made line byte = after_line p machine made (op_in line)
in_line false p machine made line byte = longer_line (nat_lt (length line) line_limit) machine made line byte

-- a byte where there may be a line more, and where there may not
abbrev pub in_text : Bool → Program → FlatMachine → ℕ → List ℕ → ℕ → Standing
in_text true p machine made line byte = in_line (nat_eq byte 10) p machine made line byte
in_text false p machine made line byte = refused (TooManyLines (made + 1))

-- one byte more
unfoldable pub with_byte : Program → Standing → ℕ → Standing
with_byte p (going machine made line) byte = in_text (nat_lt made lines_limit) p machine made line byte
with_byte p (refused refusal) byte = refused refusal

-- the lines of a text, behind a standing
abbrev pub lines_of : Program → Standing → List ℕ → Standing
lines_of p standing text = fold (with_byte p) standing text

-- a text that begins with this machine: its length comes first
unfoldable pub standing_of : Program → FlatMachine → List ℕ → Standing
standing_of p machine text = if nat_lt text_limit (length text) then refused TooLong else lines_of p (going machine 0 []) text

-- the text ends here: the number of its lines, if the last one is whole
abbrev pub answer_of : Standing → Result ℕ CheckRefusal
answer_of (going machine made []) = Ok made
answer_of (going machine made (byte ∷ line)) = Err (BadLine (made + 1))
answer_of (refused refusal) = Err refusal
