-- The text of a table, and what the bytes of a file are read as: a table, or the first refusal.
-- Letters: n is the number of a line, counted from 1; l is a line of a table.
-- To be believed: it is what is printed, and what is accepted.
use Rattle.std.specs.Prelude.{ℕ, zero, suc, ◌+◌, ◌-◌, ◌&&◌, nat_eq, nat_le, nat_lt, bytes_eq, List, [], ◌∷◌, ◌++◌}
use Rattle.std.specs.Prelude.{length, flat_map, codes, decimal, Option, Some, None, Result, Ok, Err, if◌then◌else◌}
use Rattle.std.specs.Result.{result_ok}
use Rattle.join_model.specs.DdmText.Numbers.{number_of}
use Rattle.join_model.specs.TextModel.Schedule.{pieces_at}
use Rattle.outcome_model.specs.Table.{OutcomeLine, line_text}
use Rattle.join_model.specs.declared.table.TableKind.{TableKind}
use Rattle.join_model.specs.declared.table.TableKind.TheVariants.{Outcomes, Survey}
use Rattle.join_model.specs.declared.table.TableRefusal.{TableRefusal}
use Rattle.join_model.specs.declared.table.TableRefusal.TheVariants.{TooLong, BadLine, NoEnd, AfterEnd}

-- a table of so many runs. In one of recorded runs an outcome begins with how its run ended.
pub record Table : Type 0 where
  pub kind : TableKind
  pub runs : ℕ
  pub lines : List OutcomeLine

-- ---- writing

abbrev pub kind_name : TableKind → List ℕ
kind_name Outcomes = codes "outcomes"
kind_name Survey = codes "survey"

unfoldable pub text_of : Table → List ℕ
text_of t =
    kind_name t.kind ++ codes " " ++ decimal (length t.lines) ++ codes " runs " ++ decimal t.runs ++ codes "\n"
    ++ flat_map line_text t.lines ++ codes "end\n"

-- ---- a line

-- the number that a word spells, if it is at most so much
abbrev pub number_in : ℕ → List ℕ → Option ℕ
number_in most word = result_ok (number_of word most)

-- numbers of runs, and seeds
abbrev pub most_number : ℕ
most_number = 18446744073709551615

-- the first line: of so many runs so many lines follow
pub record Heading : Type 0 where
  pub kind : TableKind
  pub lines : ℕ
  pub runs : ℕ

abbrev pub kind_named : List ℕ → Option TableKind
kind_named word = if bytes_eq word (codes "outcomes") then Some Outcomes else (if bytes_eq word (codes "survey") then Some Survey else None)

abbrev pub heading_with : Option TableKind → Option ℕ → Option ℕ → Option Heading
heading_with (Some kind) (Some lines) (Some runs) = Some (record { kind = kind; lines = lines; runs = runs })
heading_with (Some kind) (Some lines) None = None
heading_with (Some kind) None runs = None
heading_with None lines runs = None

unfoldable pub heading_of_words : List (List ℕ) → Option Heading
heading_of_words [] = None
heading_of_words (kind ∷ []) = None
heading_of_words (kind ∷ lines ∷ []) = None
heading_of_words (kind ∷ lines ∷ mark ∷ []) = None
heading_of_words (kind ∷ lines ∷ mark ∷ runs ∷ []) =
    if bytes_eq mark (codes "runs") then heading_with (kind_named kind) (number_in most_number lines) (number_in most_number runs) else None
heading_of_words (kind ∷ lines ∷ mark ∷ runs ∷ word ∷ words) = None

-- the words of an outcome, each with a space before it
unfoldable pub outcome_in : List (List ℕ) → List ℕ
outcome_in [] = []
outcome_in (word ∷ words) = (32 ∷ word) ++ outcome_in words

abbrev pub line_with : Option ℕ → Option ℕ → List ℕ → Option OutcomeLine
line_with (Some times) (Some seed) outcome =
    if nat_le 1 times then Some (record { times = times; seed = seed; outcome = outcome }) else None
line_with (Some times) None outcome = None
line_with None seed outcome = None

-- a line of a table, where so many runs are left
unfoldable pub line_of_words : ℕ → List (List ℕ) → Option OutcomeLine
line_of_words left [] = None
line_of_words left (mark ∷ []) = None
line_of_words left (mark ∷ times ∷ []) = None
line_of_words left (mark ∷ times ∷ seed ∷ words) =
    if bytes_eq mark (codes "outcome") then line_with (number_in left times) (number_in most_number seed) (outcome_in words) else None

-- ---- a text

abbrev pub with_line_before : OutcomeLine → Result (List OutcomeLine) TableRefusal → Result (List OutcomeLine) TableRefusal
with_line_before l (Ok ls) = Ok (l ∷ ls)
with_line_before l (Err r) = Err r

-- what follows the line `end`: the last piece must be empty
abbrev pub after_end : ℕ → List ℕ → List (List ℕ) → Result (List OutcomeLine) TableRefusal
after_end n [] [] = Ok []
after_end n [] (piece ∷ pieces) = Err (AfterEnd n)
after_end n (byte ∷ bytes) pieces = Err (AfterEnd n)

-- a line, if it is one of a table, before the lines behind it
abbrev pub on_line : ℕ → Option OutcomeLine → (ℕ → Result (List OutcomeLine) TableRefusal) → Result (List OutcomeLine) TableRefusal
on_line n None more = Err (BadLine n)
on_line n (Some l) more = with_line_before l (more l.times)

-- the pieces between line feeds from a line on, where so many lines are to come, of so many runs; the last piece has no line feed
unfoldable pub lines_from : ℕ → ℕ → ℕ → List (List ℕ) → Result (List OutcomeLine) TableRefusal
lines_from n count left [] = Err (NoEnd n)
lines_from n count left (piece ∷ []) = Err (NoEnd n)
lines_from n zero left (piece ∷ next ∷ pieces) =
    if nat_eq left 0 && bytes_eq piece (codes "end") then after_end (n + 1) next pieces else Err (BadLine n)
lines_from n (suc count) left (piece ∷ next ∷ pieces) =
    on_line n (line_of_words left (pieces_at 32 piece)) (λ times. lines_from (n + 1) count (left - times) (next ∷ pieces))

abbrev pub table_with : TableKind → ℕ → Result (List OutcomeLine) TableRefusal → Result Table TableRefusal
table_with kind runs (Ok ls) = Ok (record { kind = kind; runs = runs; lines = ls })
table_with kind runs (Err r) = Err r

abbrev pub table_behind : Option Heading → List (List ℕ) → Result Table TableRefusal
table_behind None pieces = Err (BadLine 1)
table_behind (Some h) pieces = table_with h.kind h.runs (lines_from 2 h.lines h.runs pieces)

unfoldable pub table_of_pieces : List (List ℕ) → Result Table TableRefusal
table_of_pieces [] = Err (NoEnd 1)
table_of_pieces (piece ∷ []) = Err (NoEnd 1)
table_of_pieces (piece ∷ next ∷ pieces) = table_behind (heading_of_words (pieces_at 32 piece)) (next ∷ pieces)

-- the most bytes of a file
abbrev pub most_bytes : ℕ
most_bytes = 67108864

unfoldable pub table_in : List ℕ → Result Table TableRefusal
table_in file = if nat_lt most_bytes (length file) then Err TooLong else table_of_pieces (pieces_at 10 file)
