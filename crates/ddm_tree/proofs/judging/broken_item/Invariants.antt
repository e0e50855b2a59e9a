use Rattle.std.proofs.Common.{◌≡◌, map}
use Rattle.ddm_tree.specs.Judging.{first_broken}
use Rattle.ddm_tree.proofs.JudgedItems.{broken_from}
use Rattle.ddm_tree.proofs.judging.broken_item.Given as goal

abbrev pub invariant-loop-item : goal.invariant-loop-item
invariant-loop-item g l =
    let p = g.P.Parent.state l.fn.parent in
    let ns = map g.C.Agent.value l.fn.children in
    first_broken l.fn.items p ns ≡ broken_from l.fn.items p ns l.item
