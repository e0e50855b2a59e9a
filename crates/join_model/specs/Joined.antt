-- The tables of the outcomes of several sets of runs, put together as one table.
-- Letters: k and l are lines, t is a table.
-- To be believed: it is what is printed of them.
use Rattle.std.specs.Prelude.{◌+◌, min, List, [], ◌∷◌, if◌then◌else◌}
use Rattle.outcome_model.specs.Table.{OutcomeLine, in_order, is_outcome}

-- the line of an outcome that this many more runs gave, one of them of this seed
abbrev pub with_more : OutcomeLine → OutcomeLine → OutcomeLine
with_more l k = record k { times = k.times + l.times; seed = min k.seed l.seed }

-- a line more
unfoldable pub with_line : OutcomeLine → List OutcomeLine → List OutcomeLine
with_line l [] = l ∷ []
with_line l (k ∷ ks) = if is_outcome l.outcome k then with_more l k ∷ ks else k ∷ with_line l ks

-- the lines of a table more
unfoldable pub with_table : List OutcomeLine → List OutcomeLine → List OutcomeLine
with_table [] ls = ls
with_table (l ∷ t) ls = with_table t (with_line l ls)

-- the lines of all tables more
unfoldable pub with_tables : List (List OutcomeLine) → List OutcomeLine → List OutcomeLine
with_tables [] ls = ls
with_tables (t ∷ ts) ls = with_tables ts (with_table t ls)

-- the table of all
unfoldable pub joined : List (List OutcomeLine) → List OutcomeLine
joined ts = in_order (with_tables ts [])
