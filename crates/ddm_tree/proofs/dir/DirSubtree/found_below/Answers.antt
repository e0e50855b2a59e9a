use Rattle.std.proofs.Common.{map, sym, ap, subst, ◌∙◌, rules, All}
use Rattle.ddm_tree.specs.Ready.{IsItemIn}
use Rattle.ddm_tree.proofs.FoundCopy.{copy_among, items-under, own-found, none-own}
use Rattle.ddm_tree.proofs.dir.DirSubtree.found_below.Goals as goal

pub found_among-requires : goal.found_among-requires
found_among-requires g c =
    let below : All (IsItemIn c.args.item) (map g.C.Agent.value c.deref.result.now) = subst (λ cs. All (IsItemIn c.args.item) (map g.C.Agent.value cs)) (sym c.deref.ensures.value) (items-under c.args.item _ _ c.requires) in
    (search rules, below)

pub returns-in-Some : goal.returns-in-Some
returns-in-Some g c = own-found c.args.item c.args.self.now.state (map g.C.Agent.value c.args.self.now.children.items) c.in-Some.found c.in-Some.ensures.place c.in-Some.ensures.words

pub returns-in-None : goal.returns-in-None
returns-in-None g c = c.found_among.ensures ∙ ap (λ cs. copy_among c.args.item (map g.C.Agent.value cs)) c.deref.ensures.value ∙ none-own c.args.item c.args.self.now.state (map g.C.Agent.value c.args.self.now.children.items) c.in-None.ensures.place c.in-None.ensures.words
