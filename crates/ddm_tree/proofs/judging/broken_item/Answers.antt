use Rattle.std.proofs.Common.{◌<◌, map, sym, subst}
use Rattle.ddm_tree.specs.Judging.{first_broken}
use Rattle.ddm_tree.proofs.JudgedItems.{broken-here, broken-past, judged-few, judged-kids, judged-own, none-broken, places-broken, places-hold}
use Rattle.ddm_tree.proofs.judging.broken_item.Goals as goal

pub keeps_places-requires : goal.keeps_places-requires
keeps_places-requires g c = judged-own g.C.Agent.value (g.P.Parent.state c.args.parent.now) c.args.children.now c.args.items c.requires

pub returns-then-not-keeps_places : goal.returns-then-not-keeps_places
returns-then-not-keeps_places g c = places-broken c.args.items (g.P.Parent.state c.args.parent.now) (map g.C.Agent.value c.args.children.now) c.keeps_places.result c.keeps_places.ensures c.if-not-keeps_places.true

pub loop-item-init : goal.loop-item-init
loop-item-init g c = places-hold c.args.items (g.P.Parent.state c.args.parent.now) (map g.C.Agent.value c.args.children.now) c.keeps_places.result c.keeps_places.ensures c.if-not-keeps_places.false

pub keeps_rules-requires-clause-in_range : goal.keeps_rules-requires-clause-in_range
keeps_rules-requires-clause-in_range g c = subst (λ n. c.loop-item.item < n) (sym (judged-own g.C.Agent.value (g.P.Parent.state c.args.parent.now) c.args.children.now c.args.items c.requires)) c.loop-item-test.true

pub keeps_rules-requires-clause-kept : goal.keeps_rules-requires-clause-kept
keeps_rules-requires-clause-kept g c = judged-kids g.C.Agent.value (g.P.Parent.state c.args.parent.now) c.args.children.now c.args.items c.requires c.loop-item.item c.loop-item-test.true

pub keeps_rules-requires-clause-few : goal.keeps_rules-requires-clause-few
keeps_rules-requires-clause-few g c = judged-few g.C.Agent.value (g.P.Parent.state c.args.parent.now) c.args.children.now c.args.items c.requires

pub returns-then-not-keeps_rules : goal.returns-then-not-keeps_rules
returns-then-not-keeps_rules g c =
    let p = g.P.Parent.state c.args.parent.now in
    let ns = map g.C.Agent.value c.args.children.now in
    broken-here c.args.items p ns c.loop-item.item c.loop-item-test.true (first_broken c.args.items p ns) c.loop-item.invariant c.keeps_rules.result c.keeps_rules.ensures c.if-not-keeps_rules.true

pub loop-item-preserved : goal.loop-item-preserved
loop-item-preserved g c =
    let p = g.P.Parent.state c.args.parent.now in
    let ns = map g.C.Agent.value c.args.children.now in
    broken-past c.args.items p ns c.loop-item.item c.loop-item-test.true (first_broken c.args.items p ns) c.loop-item.invariant c.keeps_rules.result c.keeps_rules.ensures c.if-not-keeps_rules.false

pub returns : goal.returns
returns g c =
    let p = g.P.Parent.state c.args.parent.now in
    let ns = map g.C.Agent.value c.args.children.now in
    none-broken c.args.items p ns c.loop-item.item (first_broken c.args.items p ns) c.loop-item-test.false c.loop-item.invariant
