use Rattle.std.proofs.Common.{◌≡◌, map, not, sym, ap, ◌∙◌}
use Rattle.ddm_tree.specs.DdmTypes.Keys.{stamp_zero}
use Rattle.ddm_tree.specs.TreeModel.State.Values.{dir_node, nodes, root_of}
use Rattle.ddm_tree.specs.Path.{node_at, present_at}
use Rattle.ddm_tree.specs.Stamps.{node_stamps_fit}
use Rattle.ddm_tree.proofs.StampsJudged.{top-unbroken, bus-broken}
use Rattle.ddm_tree.proofs.Steps.{own-path}
use Rattle.ddm_tree.proofs.TimedParts.{path-on}
use Rattle.ddm_tree.proofs.parts.Parts.stamps_broken.Goals as goal

pub returns-then-is_empty : goal.returns-then-is_empty
returns-then-is_empty g c =
    top-unbroken c.args.self.now c.args.bus c.leads_to-path.result.now c.leads_to-path.ensures.shaped c.leads_to-path.ensures.leads (own-path c.leads_to-path.result.now c.is_empty.result c.is_empty.ensures c.if-is_empty.true)

pub returns-else-is_empty : goal.returns-else-is_empty
returns-else-is_empty g c =
    let root : dir_node c.self.inside.top (nodes (map g.C.Agent.value c.deref.result.now)) ≡ root_of c.args.self.now = ap (λ cs. dir_node c.self.inside.top (nodes (map g.C.Agent.value cs))) c.deref.ensures.value ∙ ap root_of c.self.view_is in
    let fit = c.stamps_fit_under.ensures stamp_zero ∙ ap (λ n. node_stamps_fit (present_at c.leads_to-path.result.now stamp_zero n) (node_at c.leads_to-path.result.now n)) root in
    ap not fit ∙ bus-broken c.args.self.now c.args.bus c.leads_to-path.result.now c.leads_to-path.ensures.shaped c.leads_to-path.ensures.leads (path-on c.leads_to-path.result.now (sym c.is_empty.ensures ∙ c.if-is_empty.false))
