use Rattle.std.specs.Prelude.{◌≡◌, ◌≤◌, [], length}
use Rattle.leaf_protocol.proofs.ReadBack.{StandingSoFar}
use Rattle.leaf_protocol.proofs.entries.Entries.read_standing.Given as goal

abbrev pub invariant-entries : goal.invariant-entries
invariant-entries g l = record {
  read : StandingSoFar g.row.WAYS g.row.WORDS l.words l.fn.self l.count l.fn.at l.done l.at l.self l.last l.whole;
  buffer : l.self.buffer ≡ [];
  inside : l.at ≤ length l.words;
}
