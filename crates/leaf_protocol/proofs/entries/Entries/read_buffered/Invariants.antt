use Rattle.std.specs.Prelude.{[], ◌≤◌, ◌+◌, List, length}
use Rattle.leaf_protocol.specs.StateWords.Parts.{StandingValue}
use Rattle.leaf_protocol.specs.ReadBack.{AreThere, IsSized}
use Rattle.leaf_protocol.proofs.ReadBack.{BufferedSoFar}
use Rattle.leaf_protocol.proofs.entries.Entries.read_buffered.Given as goal

abbrev pub invariant-entries : goal.invariant-entries
invariant-entries g l = record {
  read : (ss : List StandingValue) → AreThere (length l.initial.self.ways) ss [] l.initial.self l.whole → BufferedSoFar g.row.WAYS g.row.WORDS l.words l.initial.self ss l.count l.initial.at l.done l.at l.self l.now;
  sizes : IsSized l.initial.self l.self;
  room : length l.self.buffer ≤ length l.initial.self.buffer + l.done;
  inside : l.at ≤ length l.words;
}
