-- What is accepted: a text of the lines of operations that are legal, from a start that isn't refused; and what is refused.
-- To be believed: it is what a check promises.
use Rattle.std.specs.Prelude.{◌≡◌, ◌≢◌, ℕ, ◌+◌, ◌<◌, ◌≤◌, List, [], ◌∷◌, ◌++◌, length, Some, None}
use Rattle.witness_check.specs.DdmTypes.declared.operations.Effect.{Effect}
use Rattle.witness_check.specs.DdmTypes.declared.operations.Effect.TheVariants.{Plain, Put, Load, Store, Lr, ScOk, ScFail, Amo}
use Rattle.witness_check.specs.DdmTypes.declared.operations.Op.{Op}
use Rattle.witness_check.specs.DdmTypes.declared.keys.Key.{Key}
use Rattle.witness_check.specs.FlatModel.Legal.{Legal}
use Rattle.text_model.specs.Report.{op_line}
use Rattle.witness_check.specs.declared.refusal.CheckRefusal.{CheckRefusal}
use Rattle.witness_check.specs.declared.refusal.CheckRefusal.TheVariants.{TooLong, TooManyItems, StackOverlap}
use Rattle.witness_check.specs.declared.refusal.CheckRefusal.TheVariants.{BadLine, TooManyLines, NotLegal, NoMemory}
use Rattle.witness_check.specs.Judging.{lines_limit, text_limit}
use Rattle.witness_check.specs.Start.{Setting, program_of, machine_of, start_refusal}

-- a number of 32 bits
abbrev pub IsWord : ℕ → Type 0
IsWord n = n < 4294967296

pub record HasWords (key : Key) : Type 0 where
  pub level0 : IsWord key.s0 × IsWord key.c0
  pub level1 : IsWord key.s1 × IsWord key.c1
  pub level2 : IsWord key.s2 × IsWord key.c2
  pub level3 : IsWord key.s3 × IsWord key.c3
  pub last : IsWord key.i

-- the numbers of an effect are words, or a byte
abbrev pub IsEffect : Effect → Type 0
IsEffect Plain = Unit {0}
IsEffect (Put byte) = byte < 256
IsEffect (Load address word) = IsWord address × IsWord word
IsEffect (Store address before after) = IsWord address × IsWord before × IsWord after
IsEffect (Lr address word) = IsWord address × IsWord word
IsEffect (ScOk address before after) = IsWord address × IsWord before × IsWord after
IsEffect (ScFail address) = IsWord address
IsEffect (Amo address before after) = IsWord address × IsWord before × IsWord after

-- an operation of numbers that code has
pub record IsOp (op : Op) : Type 0 where
  pub key : HasWords op.key
  pub hart : IsWord op.hart
  pub pc : IsWord op.pc
  pub effect : IsEffect op.effect

-- the bytes are the line that a report of some depth has of the operation
pub record IsLineOf (line : List ℕ) (op : Op) : Type 0 where
  pub depth : ℕ
  pub least : 1 ≤ depth
  pub most : depth ≤ 4
  pub fits : IsOp op
  pub is : line ++ 10 ∷ [] ≡ op_line depth op

-- the text is the lines of these operations, and this rest behind them
abbrev pub BeginsWith : List ℕ → List Op → List ℕ → Type 0
BeginsWith text [] rest = text ≡ rest
BeginsWith text (op ∷ ops) rest =
    (line : List ℕ) × (more : List ℕ) × (text ≡ line ++ 10 ∷ more) × IsLineOf line op × BeginsWith more ops rest

-- operations that are legal from the start
abbrev pub AreLegal : Setting → List Op → Type 0
AreLegal s ops = Legal (program_of s).code (program_of s).items (machine_of s) ops

-- the text is accepted, with so many lines
pub record IsAccepted (s : Setting) (text : List ℕ) (lines : ℕ) : Type 0 where
  pub start : start_refusal s ≡ None
  pub ops : List Op
  pub text_is : BeginsWith text ops []
  pub count : length ops ≡ lines
  pub few : lines ≤ lines_limit
  pub legal : AreLegal s ops

-- line n is there: the text is the lines of n - 1 legal operations, and a rest that isn't empty
pub record HasLine (s : Setting) (text : List ℕ) (n : ℕ) (ops : List Op) (rest : List ℕ) : Type 0 where
  pub text_is : BeginsWith text ops rest
  pub number : length ops + 1 ≡ n
  pub legal : AreLegal s ops
  pub some : rest ≢ []

-- the rest begins with the line of this operation
abbrev pub BeginsWithLine : List ℕ → Op → Type 0
BeginsWithLine rest op = (line : List ℕ) × (more : List ℕ) × (rest ≡ line ++ 10 ∷ more) × IsLineOf line op

-- line n isn't that of an operation, or the text ends before its line feed
pub record IsBadLine (s : Setting) (text : List ℕ) (n : ℕ) : Type 0 where
  pub ops : List Op
  pub rest : List ℕ
  pub line : HasLine s text n ops rest
  pub few : n ≤ lines_limit
  pub bad : (op : Op) → BeginsWithLine rest op → ⊥

-- line n is there, and is one too many
pub record IsBehindLimit (s : Setting) (text : List ℕ) (n : ℕ) : Type 0 where
  pub ops : List Op
  pub rest : List ℕ
  pub line : HasLine s text n ops rest
  pub number : n ≡ lines_limit + 1

-- line n is that of an operation that isn't legal behind those before it
pub record IsNotLegal (s : Setting) (text : List ℕ) (n : ℕ) : Type 0 where
  pub ops : List Op
  pub rest : List ℕ
  pub op : Op
  pub line : HasLine s text n ops rest
  pub few : n ≤ lines_limit
  pub begins : BeginsWithLine rest op
  pub illegal : AreLegal s (ops ++ op ∷ []) → ⊥

-- what each refusal says
abbrev pub IsRefused : Setting → List ℕ → CheckRefusal → Type 0
IsRefused s text (TooManyItems n) = start_refusal s ≡ Some (TooManyItems n)
IsRefused s text (StackOverlap hart header) = start_refusal s ≡ Some (StackOverlap hart header)
IsRefused s text TooLong = (start_refusal s ≡ None) × (text_limit < length text)
IsRefused s text (BadLine n) = (start_refusal s ≡ None) × (length text ≤ text_limit) × IsBadLine s text n
IsRefused s text (TooManyLines n) = (start_refusal s ≡ None) × (length text ≤ text_limit) × IsBehindLimit s text n
IsRefused s text (NotLegal n) = (start_refusal s ≡ None) × (length text ≤ text_limit) × IsNotLegal s text n
IsRefused s text NoMemory = ⊥
