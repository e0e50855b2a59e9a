use Rattle.ddm_tree.proofs.dir.DirSubtree.leaf_below.Goals as goal

pub returns : goal.returns
returns g c = λ k leads. (rw c.deref.ensures.value at c.leaf_under.ensures) c.args.self.now.state k leads
