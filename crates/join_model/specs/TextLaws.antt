-- What holds of the texts of tables, in the words of their reader.
-- Letters: o is an outcome, l is a line, t a table.
-- To be believed: it is what is claimed of them.
use Rattle.std.specs.Prelude.{◌≡◌, ℕ, ◌+◌, ◌≤◌, List, [], ◌∷◌, length, map, sum_by, Ok, ⊤}
use Rattle.std.specs.List.{AllByRecursion}
use Rattle.text_model.specs.Lines.{Lacks}
use Rattle.outcome_model.specs.Table.{OutcomeLine, table_of}
use Rattle.join_model.specs.JoinLaws.{AreTables, HasOneOutcome, IsTableOf, SeedRun, all_outcomes, all_runs}
use Rattle.join_model.specs.Table.{Table, most_bytes, most_number, table_in, text_of}
use Rattle.join_model.specs.Files.{joined_text}
use Rattle.join_model.specs.declared.table.TableKind.{TableKind}

-- ---- tables whose texts are read back

abbrev pub BeginsWithSpace : List ℕ → Type 0
BeginsWithSpace [] = ⊤
BeginsWithSpace (byte ∷ bytes) = byte ≡ 32

-- an outcome is behind a seed and in one line
pub record IsOutcomeText (o : List ℕ) : Type 0 where
  pub begins : BeginsWithSpace o
  pub one_line : Lacks 10 o

pub record IsPrintedLine (l : OutcomeLine) : Type 0 where
  pub some : 1 ≤ l.times
  pub seed : l.seed ≤ most_number
  pub outcome : IsOutcomeText l.outcome

-- each run is in one line, numbers have 64 bits, and the text is no longer than a file may be
pub record IsPrinted (t : Table) : Type 0 where
  pub lines : AllByRecursion IsPrintedLine t.lines
  pub each : sum_by (λ (l : OutcomeLine). l.times) t.lines ≡ t.runs
  pub runs : t.runs ≤ most_number
  pub short : length (text_of t) ≤ most_bytes

-- such a table is read back
abbrev pub PrintedTables : Type 0
PrintedTables = (t : Table) → IsPrinted t → table_in (text_of t) ≡ Ok t

-- and of what is read each run is in one line
abbrev pub ReadTablesAreCounted : Type 0
ReadTablesAreCounted = (file : List ℕ) (t : Table) → table_in file ≡ Ok t → sum_by (λ (l : OutcomeLine). l.times) t.lines ≡ t.runs

-- ---- tables put together

-- a table of this kind that is printed
pub record IsPrintedAs (kind : TableKind) (t : Table) : Type 0 where
  pub kind_is : t.kind ≡ kind
  pub printed : IsPrinted t

-- tables of these runs, in which no seed gave two outcomes
pub record AreOfRuns (kind : TableKind) (runs : List (List SeedRun)) (tables : List Table) : Type 0 where
  pub printed : AllByRecursion (IsPrintedAs kind) tables
  pub of_runs : AreTables runs (map (λ (t : Table). t.lines) tables)
  pub few : sum_by (λ (t : Table). t.runs) tables ≤ most_number
  pub one : HasOneOutcome (all_runs runs)

-- together their texts are the text of the table of all these runs
abbrev pub JoinedTexts : Type 0
JoinedTexts = (kind : TableKind) (runs : List (List SeedRun)) (t : Table) (ts : List Table) → AreOfRuns kind runs (t ∷ ts)
    → (lines : List OutcomeLine) → IsTableOf (all_runs runs) lines
    → joined_text (map text_of (t ∷ ts))
    ≡ Ok (text_of (record { kind = kind; runs = sum_by (λ (t : Table). t.runs) (t ∷ ts); lines = lines }))

-- ---- ranges of seeds that follow one another

-- the table of the outcomes of a range of seeds
abbrev pub range_table : TableKind → ℕ → List (List ℕ) → Table
range_table kind first outcomes = record { kind = kind; runs = length outcomes; lines = table_of first outcomes }

-- those of ranges, each of which begins behind the one before it
unfoldable pub range_tables : TableKind → ℕ → List (List (List ℕ)) → List Table
range_tables kind first [] = []
range_tables kind first (outcomes ∷ more) = range_table kind first outcomes ∷ range_tables kind (first + length outcomes) more

abbrev pub AreShort : List Table → Type 0
AreShort tables = AllByRecursion (λ (t : Table). length (text_of t) ≤ most_bytes) tables

-- together they are byte for byte the text of the whole range
abbrev pub JoinedRanges : Type 0
JoinedRanges = (kind : TableKind) (first : ℕ) (range : List (List ℕ)) (ranges : List (List (List ℕ)))
    → AllByRecursion (AllByRecursion IsOutcomeText) (range ∷ ranges) → first + length (all_outcomes (range ∷ ranges)) ≤ most_number + 1
    → length (all_outcomes (range ∷ ranges)) ≤ most_number → AreShort (range_tables kind first (range ∷ ranges))
    → joined_text (map text_of (range_tables kind first (range ∷ ranges)))
    ≡ Ok (text_of (range_table kind first (all_outcomes (range ∷ ranges))))
