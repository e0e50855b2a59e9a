use Rattle.std.proofs.Common.{◌≡◌, map}
use Rattle.std.specs.List.{range_with_len}
use Rattle.tree_config.specs.Levels.{widths_of}
use Rattle.schedule_log.specs.Seeding.{bus_at}
use Rattle.schedule_log.proofs.bus_draws.all_bus_turns.Given as goal

-- the buses so far
abbrev pub invariant-loop-bus : goal.invariant-loop-bus
invariant-loop-bus l = l.list.items ≡ map (bus_at (widths_of l.fn.shape)) (range_with_len 0 l.bus)
