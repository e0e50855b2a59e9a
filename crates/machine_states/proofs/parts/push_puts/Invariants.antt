use Rattle.std.proofs.Common.{◌≡◌, ◌≤◌, flat_map, length, take}
use Rattle.time_laws.specs.Forget.{put_by}
use Rattle.machine_states.proofs.parts.push_puts.Given as goal

abbrev pub invariant-loop-place : goal.invariant-loop-place
invariant-loop-place l = (l.part.items ≡ flat_map (put_by l.hart) (take l.place l.ops.items)) × (length l.part.items ≤ l.place)
