use Rattle.std.proofs.Common.{◌≤◌, ◌++◌, length, take}
use Rattle.report.specs.Appends.{IsWrittenFrom}
use Rattle.report.proofs.writing.write_pieces.Given as goal

-- what was written so far, what the buffer holds, and what is left
abbrev pub invariant-writing : goal.invariant-writing
invariant-writing g l = record {
  written : IsWrittenFrom (g.K.Sink.held l.initial.sink) (g.K.Sink.held l.sink) (g.P.Parts.left l.initial.parts) (take l.filled l.buffer ++ g.P.Parts.left l.parts);
  within : l.filled ≤ length l.buffer;
  later : g.K.Sink.faults l.initial.sink ≤ g.K.Sink.faults l.sink;
  room : 1024 ≤ length l.buffer;
}

abbrev pub decreases-writing : goal.decreases-writing
decreases-writing g l = length (g.P.Parts.left l.parts)
