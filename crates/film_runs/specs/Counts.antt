-- What two runs, one after the other, came to.
use Rattle.std.specs.Prelude.{◌+◌}
use Rattle.film_runs.specs.TextModel.declared.RunCounts.{RunCounts}

abbrev pub sum : RunCounts → RunCounts → RunCounts
sum c d = record { turns = c.turns + d.turns; retired = c.retired + d.retired; granted = c.granted + d.granted; busy = c.busy + d.busy }
