use Rattle.std.proofs.Common.{◌≡◌, ◌≤◌, length, filter, take}
use Rattle.replacement.specs.TreeModel.State.States.{may_leave}
use Rattle.replacement.specs.TreeModel.State.Values.{BufferValue}
use Rattle.replacement.proofs.buffer.count_free.Given as goal

abbrev pub invariant-loop-index : goal.invariant-loop-index
invariant-loop-index g l = (l.count ≡ length (filter (λ (e : BufferValue). may_leave e.state) (take l.index l.entries.list))) × (l.count ≤ l.index)
