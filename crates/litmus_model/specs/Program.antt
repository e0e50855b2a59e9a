-- The program: rows of cells, a cell for each thread.
use Rattle.std.specs.Prelude.{ℕ, ◌+◌, Bool, true, false, not, ◌&&◌, nat_eq, bytes_eq, decimal, List, [], ◌∷◌, ◌++◌}
use Rattle.std.specs.Prelude.{length, map, filter, drop, Option, Some, None, Ok, if◌then◌else◌}
use Rattle.std.specs.List.{list_any, filter_map, range_with_len}
use Rattle.std.specs.Option.{option_map_or}
use Rattle.litmus_model.specs.declared.parts.Part.{Part}
use Rattle.litmus_model.specs.declared.parts.Part.TheVariants.{Word, Mark}
use Rattle.litmus_model.specs.declared.parts.Token.{Token}
use Rattle.litmus_model.specs.declared.parts.Step.{Step}
use Rattle.litmus_model.specs.declared.parts.Step.TheVariants.{Label, Plain, Branch, Jump}
use Rattle.litmus_model.specs.declared.parts.PlacedStep.{PlacedStep}
use Rattle.litmus_model.specs.Tokens.{Piece}
use Rattle.litmus_model.specs.declared.refusal.Fault.TheVariants.{OpenRow, NoThreads, TooManyRows, BadRow, BadOperands, SameLabel, NoLabel}
use Rattle.litmus_model.specs.Refusing.{Judged, ◌>>=◌, refused}
use Rattle.litmus_model.specs.Tokens.{parts_of, pieces_at}
use Rattle.litmus_model.specs.Words.{begins_with_digit}
use Rattle.litmus_model.specs.Mnemonics.{form_of}
use Rattle.litmus_model.specs.Steps.{form_steps}

-- ---- a cell: labels, and then an instruction or nothing

-- the parts of each operand, which commas separate; nothing behind a mnemonic is no operand
unfoldable pub operands_of : ℕ → List Token → List (List Part)
operands_of line [] = []
operands_of line (t ∷ ts) = map (λ (p : Piece). parts_of p.tokens) (pieces_at 44 line (t ∷ ts))

unfoldable pub instruction_steps : ℕ → List ℕ → List Token → Judged (List Step)
instruction_steps line mnemonic operands =
    form_of line mnemonic >>= (λ form.
    form_steps line form (operands_of line operands) >>= (λ steps.
    option_map_or Ok steps (refused line BadOperands)))

-- an instruction or nothing
unfoldable pub steps_behind_labels : ℕ → Part → List Token → Judged (List Step)
steps_behind_labels line (Word w) operands = instruction_steps line w operands
steps_behind_labels line (Mark b) operands = refused line BadOperands

-- the name of a label, with what follows it: a colon
abbrev pub label_name : Part → Part → Option (List ℕ)
label_name (Word w) (Word v) = None
label_name (Word w) (Mark m) = if nat_eq m 58 && not (begins_with_digit w) then Some w else None
label_name (Mark b) next = None

unfoldable pub cell_steps : ℕ → List Token → Judged (List Step)
cell_steps line [] = Ok []
cell_steps line (t ∷ []) = steps_behind_labels line t.part []
cell_steps line (t ∷ u ∷ ts) =
    option_map_or (λ name. cell_steps line ts >>= (λ steps. Ok (Label name ∷ steps)))
    (label_name t.part u.part) (steps_behind_labels line t.part (u ∷ ts))

-- ---- rows

-- the name of a thread is `P` and its number
abbrev pub thread_name : ℕ → List ℕ
thread_name k = 80 ∷ decimal k

abbrev pub is_thread_name : ℕ → List Part → Bool
is_thread_name k [] = false
is_thread_name k (Word w ∷ []) = bytes_eq w (thread_name k)
is_thread_name k (Mark b ∷ []) = false
is_thread_name k (p ∷ q ∷ parts) = false

-- cells that name the threads from a number on
unfoldable pub name_threads : ℕ → List Piece → Bool
name_threads k [] = true
name_threads k (cell ∷ cells) = is_thread_name k (parts_of cell.tokens) && name_threads (k + 1) cells

abbrev pub cells_of : Piece → List Piece
cells_of row = pieces_at 124 row.line row.tokens

-- how many threads the first row names; `line` is for a program without rows
unfoldable pub thread_count : ℕ → List Piece → Judged ℕ
thread_count line [] = refused line NoThreads
thread_count line (row ∷ rows) =
    if name_threads 0 (cells_of row) then Ok (length (cells_of row)) else refused row.line NoThreads

-- a cell's steps, of a thread
abbrev pub placed : ℕ → ℕ → List Step → List PlacedStep
placed thread line steps = map (λ step. record { thread = thread; line = line; step = step }) steps

-- the steps of a row's cells, of the threads from a number on
unfoldable pub row_steps : ℕ → ℕ → List Piece → Judged (List PlacedStep)
row_steps line thread [] = Ok []
row_steps line thread (cell ∷ cells) =
    cell_steps line cell.tokens >>= (λ steps.
    row_steps line (thread + 1) cells >>= (λ others.
    Ok (placed thread line steps ++ others)))

-- the steps of rows that have so many cells
unfoldable pub rows_steps : ℕ → List Piece → Judged (List PlacedStep)
rows_steps threads [] = Ok []
rows_steps threads (row ∷ rows) =
    (if nat_eq (length (cells_of row)) threads then row_steps row.line 0 (cells_of row) else refused row.line BadRow) >>= (λ steps.
    rows_steps threads rows >>= (λ others.
    Ok (steps ++ others)))

-- what stands behind the last row must be nothing
abbrev pub no_open_row : List Token → Judged (List Piece)
no_open_row [] = Ok []
no_open_row (t ∷ ts) = refused t.line OpenRow

-- rows, each ended by its mark
unfoldable pub whole_rows : List Piece → Judged (List Piece)
whole_rows [] = Ok []
whole_rows (p ∷ []) = no_open_row p.tokens
whole_rows (p ∷ q ∷ ps) = whole_rows (q ∷ ps) >>= (λ rows. Ok (p ∷ rows))

-- the rows that are too many: there must be none
abbrev pub unless_more : List Piece → List Piece → Judged (List Piece)
unless_more [] further = Ok further
unless_more (row ∷ rows) further = refused row.line TooManyRows

-- at most 256 rows behind the first
unfoldable pub not_too_many : List Piece → Judged (List Piece)
not_too_many rows = unless_more (drop 257 rows) (drop 1 rows)

-- ---- labels

abbrev pub label_of : Step → Option (List ℕ)
label_of (Label name) = Some name
label_of (Plain i) = None
label_of (Branch op rs1 rs2 label) = None
label_of (Jump label) = None

-- the label to which a step goes
abbrev pub goal_of : Step → Option (List ℕ)
goal_of (Label name) = None
goal_of (Plain i) = None
goal_of (Branch op rs1 rs2 label) = Some label
goal_of (Jump label) = Some label

abbrev pub labels_of : List PlacedStep → List (List ℕ)
labels_of steps = filter_map (λ (s : PlacedStep). label_of s.step) steps

-- a label that isn't there yet, or no label
abbrev pub is_new : List (List ℕ) → Option (List ℕ) → Bool
is_new labels None = true
is_new labels (Some name) = not (list_any (bytes_eq name) labels)

abbrev pub is_there : List (List ℕ) → Option (List ℕ) → Bool
is_there labels None = true
is_there labels (Some name) = list_any (bytes_eq name) labels

-- each step behind these ones has a label that no earlier one has
unfoldable pub labels_differ : List PlacedStep → List PlacedStep → Judged ℕ
labels_differ before [] = Ok 0
labels_differ before (s ∷ ss) =
    if is_new (labels_of before) (label_of s.step) then labels_differ (before ++ s ∷ []) ss else refused s.line SameLabel

-- each step goes to one of these labels
unfoldable pub goals_are_there : List (List ℕ) → List PlacedStep → Judged ℕ
goals_are_there labels [] = Ok 0
goals_are_there labels (s ∷ ss) =
    if is_there labels (goal_of s.step) then goals_are_there labels ss else refused s.line NoLabel

-- the steps of one thread, from top to bottom
unfoldable pub steps_of : ℕ → List PlacedStep → List PlacedStep
steps_of thread program = filter (λ (s : PlacedStep). nat_eq s.thread thread) program

abbrev pub thread_labels : List PlacedStep → Judged ℕ
thread_labels steps = labels_differ [] steps >>= (λ done. goals_are_there (labels_of steps) steps)

-- thread by thread
unfoldable pub program_labels : List ℕ → List PlacedStep → Judged (List PlacedStep)
program_labels [] program = Ok program
program_labels (k ∷ ks) program = thread_labels (steps_of k program) >>= (λ done. program_labels ks program)

-- ---- all of it

pub record Program : Type 0 where
  pub threads : ℕ
  -- row by row, in a row thread by thread
  pub steps : List PlacedStep

-- `line` is that of the token behind the program
unfoldable pub program_of : ℕ → List Token → Judged Program
program_of line tokens =
    whole_rows (pieces_at 59 line tokens) >>= (λ rows.
    thread_count line rows >>= (λ threads.
    not_too_many rows >>= (λ further.
    rows_steps threads further >>= (λ steps.
    program_labels (range_with_len 0 threads) steps >>= (λ program.
    Ok (record { threads = threads; steps = program }))))))
