use Rattle.std.proofs.Common.{ap, ◌∙◌}
use Rattle.film.specs.DdmTree.Reads.{counted_hart_of}
use Rattle.film.proofs.DdmTree.LeafList.{leaf-number}
use Rattle.film.proofs.EachLeaf.{hart_read, hart_whole}
use Rattle.film.proofs.leaves.add_leaf_hart.Goals as goal

pub returns : goal.returns
returns g c = λ v is.
    let m = c.args.machine.now.machine in
    let same = hart_read m c.args.leaf v c.requires.shape is c.hart-hart.result.now (c.hart-hart.ensures ∙ ap (λ k. counted_hart_of k m) c.leaf.view_is) in
    c.in_ok-add_hart.ensures v (leaf-number c.args.leaf m v c.requires.shape is) (hart_whole v c.hart-hart.result.now _ _ _ same c.registers.ensures c.pc.ensures c.halted.ensures)
