use Rattle.std.proofs.Common.{◌≡◌, ◌+◌, ◌++◌, ◌≤◌, [], drop}
use Rattle.litmus_model.specs.Sections.{head_words}
use Rattle.litmus_text.proofs.header.head_words.Given as goal

abbrev pub invariant-loop-byte : goal.invariant-loop-byte
invariant-loop-byte l = record {
  whole : head_words 1 [] l.text ≡ l.words.items ++ head_words l.line l.word.items (drop l.byte-index l.text);
  line : l.line ≤ 1 + l.byte-index;
}
