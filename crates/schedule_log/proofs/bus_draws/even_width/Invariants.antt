use Rattle.std.proofs.Common.{◌≡◌, replicate, take}
use Rattle.tree_config.specs.Levels.{widths_of}
use Rattle.schedule_log.proofs.bus_draws.even_width.Given as goal

-- the buses so far have as many
abbrev pub invariant-loop-bus : goal.invariant-loop-bus
invariant-loop-bus l = take l.bus (widths_of l.fn.shape) ≡ replicate l.bus l.children
