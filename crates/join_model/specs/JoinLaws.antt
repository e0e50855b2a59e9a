-- What tables say that are put together, in the words of their reader.
-- Letters: r is a run, o and p are outcomes, l is a line, t a table.
-- To be believed: it is what is claimed of them.
use Rattle.std.specs.Prelude.{◌≡◌, ◌⊎◌, ℕ, ◌+◌, ◌≤◌, true, List, [], ◌∷◌, ◌++◌, length, nat_eq, ⊤, if◌then◌else◌}
use Rattle.std.specs.List.{AllByRecursion, list_any}
use Rattle.std.specs.Cmp.Lexicographic.{pointwise}
use Rattle.outcome_model.specs.Table.{OutcomeLine, is_outcome, table_of}
use Rattle.outcome_model.specs.TableLaws.{AreDifferent, AreInOrder}
use Rattle.join_model.specs.Joined.{joined}

-- ---- runs, and their table

-- a seed, and the outcome that it gave
pub record SeedRun : Type 0 where
  pub seed : ℕ
  pub outcome : List ℕ

-- the seed gave this outcome in one of these runs
abbrev pub Ran : List SeedRun → ℕ → List ℕ → Type 0
Ran [] seed o = ⊥
Ran (r ∷ rs) seed o = ((r.seed ≡ seed) × (r.outcome ≡ o)) ⊎ Ran rs seed o

-- how many of them gave it
unfoldable pub times_of : List SeedRun → List ℕ → ℕ
times_of [] o = 0
times_of (r ∷ rs) o = (if pointwise nat_eq o r.outcome then 1 else 0) + times_of rs o

-- the line of an outcome: how many runs gave it, and the smallest seed of these
pub record IsLineOf (runs : List SeedRun) (l : OutcomeLine) : Type 0 where
  pub times : l.times ≡ times_of runs l.outcome
  pub seed : Ran runs l.seed l.outcome
  pub smallest : (seed : ℕ) → Ran runs seed l.outcome → l.seed ≤ seed

-- exactly the outcomes that these runs gave, each once, in order
pub record IsTableOf (runs : List SeedRun) (t : List OutcomeLine) : Type 0 where
  pub lines : AllByRecursion (IsLineOf runs) t
  pub listed : (seed : ℕ) (o : List ℕ) → Ran runs seed o → list_any (is_outcome o) t ≡ true
  pub different : AreDifferent t
  pub ordered : AreInOrder t

-- no seed gave two outcomes
abbrev pub HasOneOutcome : List SeedRun → Type 0
HasOneOutcome runs = (seed : ℕ) (o p : List ℕ) → Ran runs seed o → Ran runs seed p → o ≡ p

-- ---- what is claimed

-- each table is that of its runs
abbrev pub AreTables : List (List SeedRun) → List (List OutcomeLine) → Type 0
AreTables [] [] = ⊤
AreTables (runs ∷ more) (t ∷ ts) = IsTableOf runs t × AreTables more ts
AreTables [] (t ∷ ts) = ⊥
AreTables (runs ∷ more) [] = ⊥

-- the runs of all
unfoldable pub all_runs : List (List SeedRun) → List SeedRun
all_runs [] = []
all_runs (runs ∷ more) = runs ++ all_runs more

abbrev pub JoinedTablesAreRight : Type 0
JoinedTablesAreRight =
    (runs : List (List SeedRun)) (tables : List (List OutcomeLine)) → AreTables runs tables →
    IsTableOf (all_runs runs) (joined tables)

abbrev pub OneTable : Type 0
OneTable = (runs : List SeedRun) → HasOneOutcome runs → (s t : List OutcomeLine) → IsTableOf runs s → IsTableOf runs t → s ≡ t

-- the tables of ranges of seeds, each of which begins behind the one before it
unfoldable pub tables_from : ℕ → List (List (List ℕ)) → List (List OutcomeLine)
tables_from first [] = []
tables_from first (outcomes ∷ more) = table_of first outcomes ∷ tables_from (first + length outcomes) more

-- the outcomes of all
unfoldable pub all_outcomes : List (List (List ℕ)) → List (List ℕ)
all_outcomes [] = []
all_outcomes (outcomes ∷ more) = outcomes ++ all_outcomes more

abbrev pub RangesThatFollow : Type 0
RangesThatFollow = (first : ℕ) (ranges : List (List (List ℕ))) → joined (tables_from first ranges) ≡ table_of first (all_outcomes ranges)
