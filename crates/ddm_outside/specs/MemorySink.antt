-- What a sink in memory holds, and which of its writes fail.
use Rattle.std.specs.Prelude.{◌≡◌, ◌≤◌, ◌⊎◌, ◌-◌, ℕ, min, List, length, Contains}
use Rattle.ddm_outside.specs.Causes.{raised}
use Rattle.ddm_outside.specs.declared.memory_sink.MemorySink.{MemorySink}

-- what a sink in memory holds
abbrev pub held_bytes : MemorySink → List ℕ
held_bytes sink = sink.held.items

-- how many bytes it can hold
abbrev pub room_of : MemorySink → ℕ
room_of sink = sink.room

-- how many bytes it takes in a write at most
abbrev pub take_of : MemorySink → ℕ
take_of sink = sink.take

-- how often a write has failed
abbrev pub count_of : MemorySink → ℕ
count_of sink = sink.faults

-- the number of the next write
abbrev pub next_write : MemorySink → ℕ
next_write sink = sink.calls

-- the numbers of the writes that fail
abbrev pub failing_writes : MemorySink → List ℕ
failing_writes sink = sink.fail.items

-- the next write fails
abbrev pub FailsNext : MemorySink → Type 0
FailsNext sink = (room_of sink ≤ length (held_bytes sink)) ⊎ Contains (failing_writes sink) (next_write sink)

-- how many of so many offered bytes a write takes that doesn't fail
abbrev pub amount_of : MemorySink → ℕ → ℕ
amount_of sink offered = min offered (min (take_of sink) (room_of sink - length (held_bytes sink)))

-- The next write has the next number, and the sink is otherwise what it was made.
pub record NumbersCall (old new : MemorySink) : Type 0 where
  pub number : next_write new ≡ raised (next_write old)
  pub failing : failing_writes new ≡ failing_writes old
  pub room : room_of new ≡ room_of old
  pub take : take_of new ≡ take_of old
