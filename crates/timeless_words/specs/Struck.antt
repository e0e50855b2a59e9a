-- Words of a checkpoint in which zeros are put for what is of time.
-- Letters: ws are words, e is an entry of a down list.
-- To be believed with the contracts: they speak of it.
use Rattle.std.specs.Prelude.{◌≡◌, ℕ, zero, suc, ◌+◌, ◌*◌, List, [], ◌∷◌, ◌++◌, length, drop, slice_index, take}
use Rattle.tree_model.specs.State.Values.{DownValue}

-- the copy of an entry has so many words
abbrev pub IsWide : ℕ → DownValue → Type 0
IsWide width e = length e.words ≡ width

-- a hart: how many instructions it has completed is its word 32
abbrev pub hart_struck : List ℕ → List ℕ
hart_struck ws = take 32 ws ++ 0 ∷ drop 1 (drop 32 ws)

module _ (width : ℕ) where
  -- so many entries of a down list: a kind and an item, a stamp, a copy
  unfoldable pub entries_struck : ℕ → List ℕ → List ℕ
  entries_struck zero ws = ws
  entries_struck (suc count) ws =
      take 2 ws ++ (0 ∷ 0 ∷ 0 ∷ 0 ∷ []) ++ take width (drop 4 (drop 2 ws))
      ++ entries_struck count (drop width (drop 4 (drop 2 ws)))

  -- how many there are, and the entries
  abbrev pub list_struck : List ℕ → List ℕ
  list_struck ws = take 1 ws ++ entries_struck (slice_index ws 0) (drop 1 ws)

  -- the records of items, of six words each, and a down list
  abbrev pub records_struck : List ℕ → List ℕ
  records_struck ws = take (1 + 6 * slice_index ws 0) ws ++ list_struck (drop (1 + 6 * slice_index ws 0) ws)

  -- the count and the epoch of a bus, and what is behind them; then its traffic
  abbrev pub bus_struck : List ℕ → List ℕ
  bus_struck ws = (0 ∷ 0 ∷ 0 ∷ 0 ∷ 0 ∷ []) ++ records_struck (drop 5 ws) ++ 0 ∷ 0 ∷ 0 ∷ 0 ∷ 0 ∷ 0 ∷ []
