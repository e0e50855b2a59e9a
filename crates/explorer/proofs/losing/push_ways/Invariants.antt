use Rattle.std.proofs.Common.{◌≡◌, take}
use Rattle.explorer.specs.Searching.{searched_by}
use Rattle.explorer.proofs.Ways.{UnderWay}
use Rattle.explorer.proofs.losing.push_ways.Given as goal

-- the ways of the turns so far are there
abbrev pub invariant-loop-turn : goal.invariant-loop-turn
invariant-loop-turn g l = record {
  start : g.M.States.start l.states ≡ g.M.States.start l.initial.states;
  at : g.M.States.at l.states ≡ g.M.States.at l.initial.states;
  under : UnderWay (g.M.States.start l.initial.states) l.search l.from (g.M.States.at l.initial.states) (take l.turn-index l.turns) l.ways.items;
}
