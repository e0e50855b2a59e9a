-- What a table of outcomes says, in the words of its reader.
-- Letters: o is an outcome, l a line.
-- To be believed: it is what is claimed of every table.
use Rattle.std.specs.Prelude.{◌≡◌, ℕ, ◌+◌, ◌≤◌, true, false, List, [], ◌∷◌, Some, nat_eq, slice_get, count_by, ⊤}
use Rattle.std.specs.List.{AllByRecursion, list_any}
use Rattle.std.specs.Cmp.Lexicographic.{pointwise}
use Rattle.outcome_model.specs.Table.{OutcomeLine, is_outcome, stands_before, table_of}

module _ (first : ℕ) (outcomes : List (List ℕ)) where
  -- the seed gave this outcome
  pub record Gave (seed : ℕ) (o : List ℕ) : Type 0 where
    pub place : ℕ
    pub seed_is : seed ≡ first + place
    pub there : slice_get outcomes place ≡ Some o

  -- how many seeds gave it
  abbrev pub times_given : List ℕ → ℕ
  times_given o = count_by (pointwise nat_eq o) outcomes

  -- the line of an outcome: how many seeds gave it, and the smallest of them
  pub record IsLine (l : OutcomeLine) : Type 0 where
    pub times : l.times ≡ times_given l.outcome
    pub seed : Gave l.seed l.outcome
    pub smallest : (seed : ℕ) → Gave seed l.outcome → l.seed ≤ seed

-- no later line has the outcome of an earlier one
abbrev pub AreDifferent : List OutcomeLine → Type 0
AreDifferent [] = ⊤
AreDifferent (l ∷ ls) = (list_any (is_outcome l.outcome) ls ≡ false) × AreDifferent ls

-- none is to stand before an earlier one
abbrev pub AreInOrder : List OutcomeLine → Type 0
AreInOrder [] = ⊤
AreInOrder (l ∷ ls) = AllByRecursion (λ k. stands_before k l ≡ false) ls × AreInOrder ls

-- exactly the outcomes that seeds gave, each once, in order
pub record IsTable (first : ℕ) (outcomes : List (List ℕ)) (table : List OutcomeLine) : Type 0 where
  pub lines : AllByRecursion (IsLine first outcomes) table
  pub listed : (seed : ℕ) (o : List ℕ) → Gave first outcomes seed o → list_any (is_outcome o) table ≡ true
  pub different : AreDifferent table
  pub ordered : AreInOrder table

abbrev pub TablesAreRight : Type 0
TablesAreRight = (first : ℕ) (outcomes : List (List ℕ)) → IsTable first outcomes (table_of first outcomes)
