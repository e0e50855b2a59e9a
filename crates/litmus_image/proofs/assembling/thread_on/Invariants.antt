use Rattle.std.proofs.Common.{◌≡◌, ◌+◌, drop}
use Rattle.std.specs.Prelude.{nat_eq}
use Rattle.std.specs.List.{position_or_len}
use Rattle.litmus_image.proofs.assembling.thread_on.Given as goal

abbrev pub invariant-loop-thread : goal.invariant-loop-thread
invariant-loop-thread l = position_or_len (nat_eq l.leaf) l.places ≡ l.thread + position_or_len (nat_eq l.leaf) (drop l.thread l.places)
