use Rattle.std.proofs.Common.{◌≡◌, ◌+◌, ◌≤◌, drop}
use Rattle.litmus_model.specs.Sections.{line_feeds}
use Rattle.litmus_text.proofs.header.line_feeds.Given as goal

abbrev pub invariant-loop-byte : goal.invariant-loop-byte
invariant-loop-byte l = record {
  whole : line_feeds l.text ≡ l.count + line_feeds (drop l.byte-index l.text);
  few : l.count ≤ l.byte-index;
}
