use Rattle.std.proofs.Common.{◌≡◌, ◌-◌}
use Rattle.std.specs.List.{range_with_len}
use Rattle.litmus_model.specs.Program.{program_labels}
use Rattle.litmus_read.proofs.labels.judge_labels.Given as goal

abbrev pub invariant-loop-thread : goal.invariant-loop-thread
invariant-loop-thread l = program_labels (range_with_len 0 l.threads) l.program ≡ program_labels (range_with_len l.thread (l.threads - l.thread)) l.program
