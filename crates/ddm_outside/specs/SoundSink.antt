-- What a sink counts that never fails.
use Rattle.std.specs.Prelude.{ℕ}
use Rattle.ddm_outside.specs.declared.sound_sink.SoundSink.{SoundSink}

-- how many bytes it has taken
abbrev pub taken_by : SoundSink → ℕ
taken_by sink = sink.taken
