-- Runs of items that lie one behind the other, by which the items of spans are counted and listed.
use Rattle.std.specs.Prelude.{ℕ, ◌+◌, ◌-◌, ◌/◌, ◌<◌, ◌≤◌, nat_eq, nat_lt, List, [], ◌∷◌, max, if◌then◌else◌}
use Rattle.std.specs.List.{range_with_len}
use Rattle.ddm_types.specs.declared.item_table.Run.{Run}
use Rattle.ddm_types.specs.declared.sizes.Span.{Span}
use Rattle.ddm_types.specs.ItemTable.{span_end}

-- the numbers of a run's items
abbrev pub run_numbers : Run → List ℕ
run_numbers r = range_with_len r.first (r.end - r.first)

-- the run of the items that a span overlaps
abbrev pub run_of : ℕ → Span → Run
run_of size s = record {
  first = s.start / size;
  end = (if nat_eq s.bytes 0 then s.start / size else (span_end s - 1) / size + 1);
}

-- of runs in order of their first items, what is new in each: the items from `next` on that no earlier run has
abbrev pub swept : ℕ → List Run → List Run
swept next [] = []
swept next (r ∷ rs) =
    if nat_lt (max next r.first) r.end then record { first = max next r.first; end = r.end } ∷ swept r.end rs
    else swept next rs

-- the runs begin at m or above, have items, and each begins where the one before it ends or above
abbrev pub AreRunsFrom : ℕ → List Run → Type 0
AreRunsFrom m [] = Unit {0}
AreRunsFrom m (r ∷ rs) = (m ≤ r.first) × (r.first < r.end) × AreRunsFrom r.end rs
