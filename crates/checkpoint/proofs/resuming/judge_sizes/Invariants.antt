use Rattle.std.proofs.Common.{◌≡◌, ◌+◌, drop}
use Rattle.checkpoint.specs.Resumed.{other_machine, size_words}
use Rattle.checkpoint.proofs.resuming.judge_sizes.Given as goal

-- the words so far are the machine's numbers
abbrev pub invariant-loop-number : goal.invariant-loop-number
invariant-loop-number l = record {
  place : l.at ≡ 2 + l.number-index;
  judged : other_machine (size_words l.fn.sizes) 2 (drop 2 l.words) ≡ other_machine (drop l.number-index (size_words l.fn.sizes)) l.at (drop l.at l.words);
}
