use Rattle.std.proofs.Common.{◌≡◌, map, take}
use Rattle.ddm_tree.specs.TreeModel.State.Directory.{dir_note}
use Rattle.ddm_tree.specs.TreeRules.Bus.Faces.{faces_of}
use Rattle.ddm_tree.specs.BusJudging.Children.{facts_among}
use Rattle.ddm_tree.proofs.judging.children_facts.Given as goal

abbrev pub invariant-loop-i : goal.invariant-loop-i
invariant-loop-i g l = l.facts ≡ facts_among (dir_note l.fn.item (g.P.Parent.state l.fn.parent)) (faces_of l.fn.item (map g.C.Agent.value (take l.i l.fn.children)))
