use Rattle.ddm_tree.proofs.dir.DirSubtree.grants_below.Goals as goal

pub grants_under-requires-clause-askable : goal.grants_under-requires-clause-askable
grants_under-requires-clause-askable g c = rw c.deref.ensures.value c.requires.askable
