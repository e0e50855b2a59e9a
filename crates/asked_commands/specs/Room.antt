-- What a sink in memory keeps that fails only where it is full.
-- To be believed: contracts of code speak of it.
use Rattle.std.specs.Prelude.{◌≡◌, ◌<◌, ℕ, [], length}
use Rattle.ddm_outside.specs.MemorySink.{count_of, failing_writes, held_bytes, room_of}
use Rattle.ddm_outside.specs.declared.memory_sink.MemorySink.{MemorySink}

-- how many bytes it has room for: 1 MiB
abbrev pub room_bytes : ℕ
room_bytes = 1048576

-- none of its writes is told to fail, and while there is room none has
pub record FailsWhereFull (sink : MemorySink) : Type 0 where
  pub room : room_of sink ≡ room_bytes
  pub told : failing_writes sink ≡ []
  pub sound : length (held_bytes sink) < room_bytes → count_of sink ≡ 0
