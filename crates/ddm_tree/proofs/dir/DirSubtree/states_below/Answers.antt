use Rattle.std.proofs.Common.{◌≡◌, All, false, map, sym, subst, ◌∙◌}
use Rattle.ddm_tree.specs.TreeModel.State.Child.{child_holds}
use Rattle.ddm_tree.specs.Ready.{IsRuled}
use Rattle.ddm_tree.proofs.NotHeld.{item-there, ruled-under, unheld-under}
use Rattle.ddm_tree.proofs.dir.DirSubtree.states_below.Goals as goal

pub is_without-requires : goal.is_without-requires
is_without-requires g c = item-there c.args.item c.args.self.now.state (map g.C.Agent.value c.args.self.now.children.items) c.requires.ruled

pub unheld_states_under-requires-clause-ruled : goal.unheld_states_under-requires-clause-ruled
unheld_states_under-requires-clause-ruled g c = subst (λ cs. All (IsRuled c.args.item) (map g.C.Agent.value cs)) (sym c.deref.ensures.value) (ruled-under c.args.item c.args.self.now.state (map g.C.Agent.value c.args.self.now.children.items) c.requires.ruled)

pub unheld_states_under-requires-clause-unheld : goal.unheld_states_under-requires-clause-unheld
unheld_states_under-requires-clause-unheld g c = subst (λ cs. All (λ n. child_holds c.args.item n ≡ false) (map g.C.Agent.value cs)) (sym c.deref.ensures.value) (unheld-under c.args.item c.args.self.now.state (map g.C.Agent.value c.args.self.now.children.items) c.requires.ruled (sym c.is_without.ensures ∙ c.if-is_without.true))

pub states_under-requires-clause-ruled : goal.states_under-requires-clause-ruled
states_under-requires-clause-ruled g c = subst (λ cs. All (IsRuled c.args.item) (map g.C.Agent.value cs)) (sym c.deref-else-is_without.ensures.value) (ruled-under c.args.item c.args.self.now.state (map g.C.Agent.value c.args.self.now.children.items) c.requires.ruled)
