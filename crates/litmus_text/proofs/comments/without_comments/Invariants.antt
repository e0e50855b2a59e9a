use Rattle.std.proofs.Common.{◌≡◌, ◌+◌, ◌≤◌, drop}
use Rattle.litmus_model.specs.Comments.{uncommented, without_comments}
use Rattle.litmus_text.specs.Reads.{behind}
use Rattle.litmus_text.proofs.comments.without_comments.Given as goal

abbrev pub invariant-loop-at : goal.invariant-loop-at
invariant-loop-at l = record {
  whole : without_comments l.text ≡ behind l.bytes.items (uncommented l.so_far (drop l.at l.text));
  line : l.so_far.line ≤ 1 + l.at;
  depth : l.so_far.depth ≤ l.at;
}
