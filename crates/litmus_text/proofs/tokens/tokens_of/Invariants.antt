use Rattle.std.proofs.Common.{◌≡◌, ◌+◌, ◌≤◌, drop}
use Rattle.litmus_model.specs.Tokens.{judged_tokens, tokens_from, tokens_of}
use Rattle.litmus_text.specs.Reads.{behind}
use Rattle.litmus_text.proofs.tokens.tokens_of.Given as goal

abbrev pub invariant-loop-byte : goal.invariant-loop-byte
invariant-loop-byte l = record {
  whole : tokens_of l.first l.text ≡ behind l.tokens.items (judged_tokens (tokens_from l.line l.word.items (drop l.byte-index l.text)));
  line : l.line ≤ l.first + l.byte-index;
}
