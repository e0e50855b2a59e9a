use Rattle.std.proofs.Common.{◌≡◌}
use Rattle.explorer.specs.Losing.{AreWays}
use Rattle.explorer.proofs.losing.all_ways.Given as goal

-- the ways of the states so far are there
abbrev pub invariant-loop-from : goal.invariant-loop-from
invariant-loop-from g l = record {
  start : g.M.States.start l.states ≡ g.M.States.start l.fn.states;
  ways : AreWays (g.M.States.start l.fn.states) l.search l.from l.ways.items;
}
