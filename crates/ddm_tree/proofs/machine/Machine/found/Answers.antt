use Rattle.std.proofs.Common.{◌≡◌, ◌<◌, map, is_some, sym, ap, subst, ◌∙◌, rules, All}
use Rattle.ddm_tree.specs.DdmTypes.ItemTable.{item_count}
use Rattle.ddm_tree.specs.TreeModel.Turns.Found.{found_copy, found_place, found_words}
use Rattle.ddm_tree.proofs.BusLaws.FoundExists.{found_copy-exists}
use Rattle.ddm_tree.specs.Ready.{IsItemIn}
use Rattle.ddm_tree.specs.Rules.{KeepsRules}
use Rattle.ddm_tree.proofs.FoundCopy.{copy_among, items-under}
use Rattle.ddm_tree.proofs.RulesKept.{rules-buses}
use Rattle.ddm_tree.proofs.machine.Machine.found.Goals as goal

pub found_among-requires : goal.found_among-requires
found_among-requires g c =
    let items : item_count c.self.inside.items ≡ item_count c.args.self.now.machine.items = ap (λ s. item_count s.machine.items) c.self.view_is in
    let own = items-under c.args.item c.self.inside.top (map g.C.Agent.value c.self.inside.children.items) (record { items = item_count c.self.inside.items; within = c.self.invariant.0.rooms; below = subst (λ n. c.args.item < n) (sym items) c.requires }) in
    let below : All (IsItemIn c.args.item) (map g.C.Agent.value c.deref.result.now) = subst (λ cs. All (IsItemIn c.args.item) (map g.C.Agent.value cs)) (sym c.deref.ensures.value) own in
    (search rules, below)

pub unwrap-requires : goal.unwrap-requires
unfolding found_copy found_place found_words
unwrap-requires g c =
    let m = c.args.self.now.machine in
    let found : c.found_among.result ≡ found_copy c.args.item m = c.found_among.ensures ∙ ap (λ cs. copy_among c.args.item (map g.C.Agent.value cs)) c.deref.ensures.value ∙ ap (λ s. found_copy c.args.item s.machine) c.self.view_is in
    let kept : KeepsRules m = subst (λ s. KeepsRules s.machine) c.self.view_is c.self.invariant.0.rules in
    ap (λ o. is_some o) found ∙ found_copy-exists m (rules-buses m kept) c.args.item c.requires

pub returns : goal.returns
unfolding found_copy found_place found_words
returns g c = sym c.unwrap.ensures ∙ c.found_among.ensures ∙ ap (λ cs. copy_among c.args.item (map g.C.Agent.value cs)) c.deref.ensures.value ∙ ap (λ s. found_copy c.args.item s.machine) c.self.view_is
