use Rattle.std.proofs.Common.{◌≡◌}
use Rattle.search_laws.specs.Search.{begun, taken_up}
use Rattle.search_model.specs.Machines.{quiet_space}
use Rattle.state_keys.specs.Same.{same_state}
use Rattle.explorer.specs.Searching.{IsKept, searched_by}
use Rattle.explorer.proofs.looking.search.Given as goal

-- so many states were taken up
abbrev pub invariant-loop-taken : goal.invariant-loop-taken
invariant-loop-taken g l = record {
  start : g.M.States.start l.states ≡ g.M.States.start l.fn.states;
  kept : IsKept (g.M.States.start l.fn.states) l.search;
  searched : searched_by (g.M.States.start l.fn.states) l.search ≡ taken_up (quiet_space same_state) l.most l._taken (begun (quiet_space same_state) l.most (g.M.States.start l.fn.states));
}
