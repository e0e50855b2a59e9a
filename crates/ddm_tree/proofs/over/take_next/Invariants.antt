use Rattle.std.proofs.Common.{◌≡◌, ◌++◌, length}
use Rattle.std.specs.Vec.Iter.{into_iter_items, into_iter_len}
use Rattle.ddm_tree.proofs.over.take_next.Given as goal

abbrev pub invariant-loop : goal.invariant-loop
invariant-loop g l = (l.own.items ++ into_iter_items l.rest ≡ into_iter_items l.fn.rest) × (length l.own.items ≡ l.counter) × (into_iter_len l.rest ≡ length (into_iter_items l.rest))
