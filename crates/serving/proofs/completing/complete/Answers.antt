use Rattle.std.proofs.Common.{◌≡◌, Err, length, sym, ap, subst, ◌∙◌, arith, rules, true, length-append}
use Rattle.std.proofs.lemmas.Result.{on_ok_weaker, IfErr-weaker}
use Rattle.serving.specs.DdmTypes.declared.turns.Turn.{Turn}
use Rattle.serving.specs.TreeModel.Turns.Machine.{names_part}
use Rattle.serving.proofs.Completes.{one-shorter, shaped-then, top-then, named-then, machine-one, turns-one, answers-one, told-for, length-for, turns-for, named-for, machine-for, answers-for}
use Rattle.serving.proofs.completing.complete.Goals as goal

pub returns-in_err-add-clause-many : goal.returns-in_err-add-clause-many
returns-in_err-add-clause-many g c =
    let is : c.from_residual.result ≡ Err c.in_err-add.field-0.0 = search rules in
    rw is (λ e. omega (arith, c.in_err-add.ensures.many e, one-shorter (g.S.Tree.value c.args.server.now) c.args.hart))

pub returns-in_default-clause-after : goal.returns-in_default-clause-after
returns-in_default-clause-after g c = machine-one (g.S.Tree.value c.args.server.now) c.args.hart (g.S.Tree.value c.add.new.server) c.in_ok-add.ensures.after _ c.add.new.answers.items c.deref.result.now c.clear.ensures.items c.in_ok-add.ensures.answers c.deref.ensures.value c.in_default.ensures

pub returns-in_default-clause-turns : goal.returns-in_default-clause-turns
returns-in_default-clause-turns g c = turns-one (g.S.Tree.value c.args.server.now) c.args.hart (g.S.Tree.value c.add.new.server) c.in_ok-add.ensures.after _ c.add.new.answers.items c.deref.result.now c.clear.ensures.items c.in_ok-add.ensures.answers c.deref.ensures.value c.in_default.ensures c.args.turns.now.items c.add.new.turns.items c.in_ok-add.ensures.turns

pub returns-in_default-clause-answers : goal.returns-in_default-clause-answers
returns-in_default-clause-answers g c = answers-one (g.S.Tree.value c.args.server.now) c.args.hart (g.S.Tree.value c.add.new.server) c.in_ok-add.ensures.after _ c.add.new.answers.items c.deref.result.now c.clear.ensures.items c.in_ok-add.ensures.answers c.deref.ensures.value c.in_default.ensures

pub walk-requires-clause-shaped : goal.walk-requires-clause-shaped
walk-requires-clause-shaped g c = shaped-then (g.S.Tree.value c.args.server.now) c.args.hart (g.S.Tree.value c.add.new.server) c.in_ok-add.ensures.after c.requires.shown.shows.shaped

pub walk-requires-clause-top : goal.walk-requires-clause-top
walk-requires-clause-top g c = top-then (g.S.Tree.value c.args.server.now) c.args.hart (g.S.Tree.value c.add.new.server) c.in_ok-add.ensures.after c.requires.shown.top

pub walk-requires-clause-leaf : goal.walk-requires-clause-leaf
walk-requires-clause-leaf g c = subst (λ leaf. names_part (Turn.Hart leaf 0) (g.S.Tree.value c.add.new.server) ≡ true) (sym c.leaf_of.ensures) (named-then (g.S.Tree.value c.args.server.now) c.args.hart (g.S.Tree.value c.add.new.server) c.in_ok-add.ensures.after c.requires.hart)

pub walk-requires-clause-told : goal.walk-requires-clause-told
walk-requires-clause-told g c = told-for (g.S.Tree.value c.args.server.now) c.args.hart (g.S.Tree.value c.add.new.server) c.in_ok-add.ensures.after _ c.add.new.answers.items c.deref.result.now c.clear.ensures.items c.in_ok-add.ensures.answers c.deref.ensures.value c.in-Some.issued c.in-Some.ensures c.leaf_of.result c.leaf_of.ensures c.requires.shown c.requires.hart

pub returns-in_err-walk-clause-many : goal.returns-in_err-walk-clause-many
returns-in_err-walk-clause-many g c =
    let is : c.from_residual-in_err-walk.result ≡ Err c.in_err-walk.field-0.0 = search rules in
    let all = length-for (g.S.Tree.value c.args.server.now) c.args.hart (g.S.Tree.value c.add.new.server) c.in_ok-add.ensures.after _ c.add.new.answers.items c.deref.result.now c.clear.ensures.items c.in_ok-add.ensures.answers c.deref.ensures.value c.in-Some.issued c.in-Some.ensures c.leaf_of.result c.leaf_of.ensures in
    let first = ap (λ ts. length ts) c.in_ok-add.ensures.turns ∙ length-append c.args.turns.now.items _ in
    rw is (λ e. omega (arith, c.in_err-walk.ensures.many e, all, first))

pub add-requires-2-clause-named : goal.add-requires-2-clause-named
add-requires-2-clause-named g c = named-for (g.S.Tree.value c.args.server.now) c.args.hart (g.S.Tree.value c.add.new.server) c.in_ok-add.ensures.after _ c.add.new.answers.items c.deref.result.now c.clear.ensures.items c.in_ok-add.ensures.answers c.deref.ensures.value c.in-Some.issued c.in-Some.ensures c.leaf_of.result c.leaf_of.ensures (g.S.Tree.value c.walk.new.server) c.in_ok-walk.ensures.after c.requires.hart

pub returns-clause-after : goal.returns-clause-after
returns-clause-after g c = on_ok_weaker c.add-2.result (machine-for (g.S.Tree.value c.args.server.now) c.args.hart (g.S.Tree.value c.add.new.server) c.in_ok-add.ensures.after _ c.add.new.answers.items c.deref.result.now c.clear.ensures.items c.in_ok-add.ensures.answers c.deref.ensures.value c.in-Some.issued c.in-Some.ensures c.leaf_of.result c.leaf_of.ensures (g.S.Tree.value c.walk.new.server) c.in_ok-walk.ensures.after (g.S.Tree.value c.add-2.new.server)) c.add-2.ensures.after

pub returns-clause-turns : goal.returns-clause-turns
returns-clause-turns g c = on_ok_weaker c.add-2.result (λ last. turns-for (g.S.Tree.value c.args.server.now) c.args.hart (g.S.Tree.value c.add.new.server) c.in_ok-add.ensures.after _ c.add.new.answers.items c.deref.result.now c.clear.ensures.items c.in_ok-add.ensures.answers c.deref.ensures.value c.in-Some.issued c.in-Some.ensures c.leaf_of.result c.leaf_of.ensures c.args.turns.now.items c.add.new.turns.items c.walk.new.turns.items c.add-2.new.turns.items c.in_ok-add.ensures.turns c.in_ok-walk.ensures.turns last) c.add-2.ensures.turns

pub returns-clause-answers : goal.returns-clause-answers
returns-clause-answers g c = on_ok_weaker c.add-2.result (λ last. answers-for (g.S.Tree.value c.args.server.now) c.args.hart (g.S.Tree.value c.add.new.server) c.in_ok-add.ensures.after _ c.add.new.answers.items c.deref.result.now c.clear.ensures.items c.in_ok-add.ensures.answers c.deref.ensures.value c.in-Some.issued c.in-Some.ensures c.leaf_of.result c.leaf_of.ensures (g.S.Tree.value c.walk.new.server) c.in_ok-walk.ensures.after c.walk.new.answers.items c.add-2.new.answers.items c.in_ok-walk.ensures.answers last) c.add-2.ensures.answers

pub returns-clause-many : goal.returns-clause-many
returns-clause-many g c = IfErr-weaker c.add-2.result _ _ (λ stop many e.
    let all = length-for (g.S.Tree.value c.args.server.now) c.args.hart (g.S.Tree.value c.add.new.server) c.in_ok-add.ensures.after _ c.add.new.answers.items c.deref.result.now c.clear.ensures.items c.in_ok-add.ensures.answers c.deref.ensures.value c.in-Some.issued c.in-Some.ensures c.leaf_of.result c.leaf_of.ensures in
    let first = ap (λ ts. length ts) c.in_ok-add.ensures.turns ∙ length-append c.args.turns.now.items _ in
    let walked = ap (λ ts. length ts) c.in_ok-walk.ensures.turns ∙ length-append c.add.new.turns.items _ in
    omega (arith, many e, all, first, walked)) c.add-2.ensures.many
