-- The tables of several files, put together as one.
-- Letters: s is what the tables so far come to, t is a table.
-- To be believed: it is what is printed of them, and what is refused.
use Rattle.std.specs.Prelude.{ℕ, ◌+◌, Bool, true, false, ◌&&◌, not, nat_lt, List, [], fold, Result, Ok, Err, if◌then◌else◌}
use Rattle.outcome_model.specs.Table.{OutcomeLine, in_order}
use Rattle.join_model.specs.Joined.{with_table}
use Rattle.join_model.specs.Table.{Table, most_number, table_in, text_of}
use Rattle.join_model.specs.declared.table.TableKind.{TableKind}
use Rattle.join_model.specs.declared.table.TableKind.TheVariants.{Outcomes, Survey}
use Rattle.join_model.specs.declared.table.TableRefusal.{TableRefusal}
use Rattle.join_model.specs.declared.table.TableRefusal.TheVariants.{OtherKind, TooManyRuns}

-- how many tables there were, their kind, their runs, and the lines of all, which aren't in order yet
pub record Sum : Type 0 where
  pub tables : ℕ
  pub kind : TableKind
  pub runs : ℕ
  pub lines : List OutcomeLine

-- the first table may be of either kind
abbrev pub no_tables : Sum
no_tables = record { tables = 0; kind = Outcomes; runs = 0; lines = [] }

abbrev pub same_kind : TableKind → TableKind → Bool
same_kind Outcomes Outcomes = true
same_kind Outcomes Survey = false
same_kind Survey Outcomes = false
same_kind Survey Survey = true

abbrev pub sum_with : Sum → Table → Sum
sum_with s t = record { tables = s.tables + 1; kind = t.kind; runs = s.runs + t.runs; lines = with_table t.lines s.lines }

-- one table more
unfoldable pub added : Sum → Table → Result Sum TableRefusal
added s t =
    if nat_lt 0 s.tables && not (same_kind s.kind t.kind) then Err OtherKind
    else (if nat_lt most_number (s.runs + t.runs) then Err TooManyRuns
    else Ok (sum_with s t))

-- a refusal has the number of its file, counted from 1
abbrev pub FileRefusal : Type 0
FileRefusal = ℕ × TableRefusal

abbrev pub in_file : ℕ → Result Sum TableRefusal → Result Sum FileRefusal
in_file n (Ok s) = Ok s
in_file n (Err r) = Err (n, r)

abbrev pub with_read : Sum → Result Table TableRefusal → Result Sum FileRefusal
with_read s (Ok t) = in_file (s.tables + 1) (added s t)
with_read s (Err r) = Err (s.tables + 1, r)

-- one file more
abbrev pub with_file : Result Sum FileRefusal → List ℕ → Result Sum FileRefusal
with_file (Ok s) file = with_read s (table_in file)
with_file (Err r) file = Err r

-- what files come to, or the first refusal
unfoldable pub sum_of : List (List ℕ) → Result Sum FileRefusal
sum_of files = fold with_file (Ok no_tables) files

-- ---- what is printed

unfoldable pub sum_text : Sum → List ℕ
sum_text s = text_of (record { kind = s.kind; runs = s.runs; lines = in_order s.lines })

abbrev pub text_with : Result Sum FileRefusal → Result (List ℕ) FileRefusal
text_with (Ok s) = Ok (sum_text s)
text_with (Err r) = Err r

abbrev pub joined_text : List (List ℕ) → Result (List ℕ) FileRefusal
joined_text files = text_with (sum_of files)
