use Rattle.std.proofs.Common.{◌≡◌, ◌∙◌, ap, sym, subst, refl, length, map, ◌<◌, arith}
use Rattle.std.specs.Prelude.{slice_set}
use Rattle.std.proofs.lemmas.List.{length-map}
use Rattle.ddm_tree.specs.TreeModel.State.Blank.{no_node}
use Rattle.ddm_tree.specs.TreeModel.Turns.Children.{child_at}
use Rattle.ddm_tree.specs.Copying.{AreAlike}
use Rattle.ddm_tree.proofs.Copies.{copied-all, copied-here, copied-next}
use Rattle.ddm_tree.proofs.copying.copy_children.Goals as goal

pub loop-number-init : goal.loop-number-init
loop-number-init g c = refl

pub copy_child-requires-clause-alike : goal.copy_child-requires-clause-alike
copy_child-requires-clause-alike g c =
    let xs = map g.C.Agent.value c.args.children.now in
    let ys = map g.C.Agent.value c.args.others.now in
    let i = c.loop-number.number in
    let many : length xs ≡ length ys = length-map c.args.children.now g.C.Agent.value ∙ c.requires.as_many ∙ sym (length-map c.args.others.now g.C.Agent.value) in
    let inside : i < length ys = omega (arith, c.loop-number-test.true, length-map c.args.others.now g.C.Agent.value) in
    let here : child_at i (map g.C.Agent.value c.loop-number.children) ≡ child_at i xs = ap (child_at i) c.loop-number.invariant ∙ copied-here no_node i xs ys inside many in
    subst (λ n. AreAlike n (child_at i ys)) (sym here) (c.requires.alike i c.loop-number-test.true)

pub loop-number-preserved : goal.loop-number-preserved
loop-number-preserved g c =
    let xs = map g.C.Agent.value c.args.children.now in
    let ys = map g.C.Agent.value c.args.others.now in
    let i = c.loop-number.number in
    let many : length xs ≡ length ys = length-map c.args.children.now g.C.Agent.value ∙ c.requires.as_many ∙ sym (length-map c.args.others.now g.C.Agent.value) in
    let inside : i < length ys = omega (arith, c.loop-number-test.true, length-map c.args.others.now g.C.Agent.value) in
    c.copy_child.ensures ∙ ap (λ ns. slice_set ns i (child_at i ys)) c.loop-number.invariant ∙ copied-next no_node i xs ys inside many

pub returns : goal.returns
returns g c =
    let xs = map g.C.Agent.value c.args.children.now in
    let ys = map g.C.Agent.value c.args.others.now in
    let many : length xs ≡ length ys = length-map c.args.children.now g.C.Agent.value ∙ c.requires.as_many ∙ sym (length-map c.args.others.now g.C.Agent.value) in
    c.loop-number.invariant ∙ copied-all c.loop-number.number xs ys (omega (arith, c.loop-number-test.false, length-map c.args.others.now g.C.Agent.value)) many
