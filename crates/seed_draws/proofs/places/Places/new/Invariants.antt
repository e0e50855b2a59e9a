use Rattle.std.proofs.Common.{◌≡◌, ◌≤◌, ◌+◌, ◌*◌, map, take}
use Rattle.std.specs.List.{range_with_len}
use Rattle.schedule_log.specs.Shapes.{shape_view}
use Rattle.recording_model.specs.LetBy.{turns_before}
use Rattle.seed_draws.proofs.places.Places.new.Given as goal

-- the buses so far
abbrev pub invariant-loop-bus : goal.invariant-loop-bus
invariant-loop-bus l =
    (l.widths.items ≡ take l.bus (shape_view l.fn.shape).buses) × (l.before.items ≡ map (turns_before (shape_view l.fn.shape)) (range_with_len 0 l.bus)) × (l.count ≡ turns_before (shape_view l.fn.shape) l.bus) × (l.count ≤ 64 + 49 * l.bus)
