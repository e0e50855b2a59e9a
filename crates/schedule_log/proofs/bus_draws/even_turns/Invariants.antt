use Rattle.std.proofs.Common.{◌≡◌, map}
use Rattle.std.specs.List.{range_with_len}
use Rattle.schedule_log.specs.Seeding.{even_turn_at}
use Rattle.schedule_log.proofs.bus_draws.even_turns.Given as goal

-- the turns so far
abbrev pub invariant-loop-place : goal.invariant-loop-place
invariant-loop-place l = l.turns.items ≡ map (even_turn_at l.buses l.children) (range_with_len 0 l.place)
