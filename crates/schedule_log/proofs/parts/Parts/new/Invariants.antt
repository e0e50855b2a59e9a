use Rattle.std.proofs.Common.{◌≡◌, length, take}
use Rattle.tree_config.specs.Levels.{widths_of}
use Rattle.schedule_log.proofs.parts.Parts.new.Given as goal

-- the widths of the buses so far
abbrev pub invariant-loop-bus : goal.invariant-loop-bus
invariant-loop-bus l = record {
  front : take l.bus l.widths ≡ take l.bus (widths_of l.fn.shape);
  places : length l.widths ≡ 256;
}
