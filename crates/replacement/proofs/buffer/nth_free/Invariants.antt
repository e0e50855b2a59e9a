use Rattle.std.proofs.Common.{◌≡◌, filter, drop}
use Rattle.std.specs.List.{slice_get}
use Rattle.replacement.specs.TreeModel.State.States.{may_leave}
use Rattle.replacement.specs.TreeModel.State.Values.{BufferValue}
use Rattle.replacement.proofs.buffer.nth_free.Given as goal

abbrev pub invariant-loop-index : goal.invariant-loop-index
invariant-loop-index g l =
    let p = λ (e : BufferValue). may_leave e.state in
    slice_get (filter p l.entries.list) l.fn.before ≡ slice_get (filter p (drop l.index l.entries.list)) l.left
