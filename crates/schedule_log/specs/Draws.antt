-- What draws the turns of a tree's buses.
use Rattle.std.specs.Prelude.{ℕ, List}
use Rattle.schedule_log.specs.declared.bus_draws.TreeDraws.{TreeDraws}

-- the numbers of children of the buses
abbrev pub widths_drawn : TreeDraws → List ℕ
widths_drawn (TreeDraws.Even widths) = widths
widths_drawn (TreeDraws.Each widths) = widths
