use Rattle.std.proofs.Common.{◌≡◌, drop}
use Rattle.litmus_model.specs.Program.{name_threads}
use Rattle.litmus_read.proofs.names.name_threads.Given as goal

abbrev pub invariant-loop-thread : goal.invariant-loop-thread
invariant-loop-thread l = name_threads 0 l.cells ≡ name_threads l.thread (drop l.thread l.cells)
