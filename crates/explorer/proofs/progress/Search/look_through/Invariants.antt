use Rattle.std.proofs.Common.{◌≡◌, take}
use Rattle.search_laws.specs.Search.{looked_through}
use Rattle.search_model.specs.Machines.{quiet_space}
use Rattle.state_keys.specs.Same.{same_state}
use Rattle.explorer.specs.Searching.{TakesUp, kept_by, searched_by}
use Rattle.explorer.proofs.progress.Search.look_through.Given as goal

-- the turns so far were looked through
abbrev pub invariant-loop-turn : goal.invariant-loop-turn
invariant-loop-turn g l = record {
  start : g.M.States.start l.states ≡ g.M.States.start l.initial.states;
  at : g.M.States.at l.states ≡ g.M.States.at l.initial.states;
  taking : TakesUp (g.M.States.start l.initial.states) l.schedule l.self;
  searched : searched_by (g.M.States.start l.initial.states) l.self ≡ looked_through (quiet_space same_state) l.most (kept_by (g.M.States.start l.initial.states) l.schedule) (take l.turn-index l.turns) (searched_by (g.M.States.start l.initial.states) l.initial.self);
}
