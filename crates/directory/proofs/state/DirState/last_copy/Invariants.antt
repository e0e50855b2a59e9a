use Rattle.std.proofs.Common.{take}
use Rattle.directory.proofs.LastCopy.{IsLast}
use Rattle.directory.proofs.state.DirState.last_copy.Given as goal

abbrev pub invariant-loop-place : goal.invariant-loop-place
invariant-loop-place g l = IsLast l.item (take l.place l.self.down) l.last
