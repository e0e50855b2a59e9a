use Rattle.ddm_tree.proofs.dir.DirSubtree.children_below.Goals as goal

pub children_under-requires-clause-buses : goal.children_under-requires-clause-buses
children_under-requires-clause-buses g c = rw c.deref.ensures.value c.requires.buses
