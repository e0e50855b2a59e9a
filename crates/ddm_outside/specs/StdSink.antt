-- What is known of standard output and standard error.
use Rattle.std.specs.Prelude.{ℕ}
use Rattle.ddm_outside.specs.declared.std_sink.StdSink.{StdSink}

-- how often a write has failed
abbrev pub count_of : StdSink → ℕ
count_of sink = sink.faults
