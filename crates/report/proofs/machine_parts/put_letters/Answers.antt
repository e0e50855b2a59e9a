use Rattle.std.proofs.Common.{◌≡◌, ◌++◌, Some, None, length, set, take, refl, sym, ap, ◌∙◌, arith}
use Rattle.report.proofs.Letters.{letters-all, letters-none, letters-some}
use Rattle.report.proofs.machine_parts.put_letters.Goals as goal
use Rattle.report.proofs.machine_parts.put_letters.Goals.{in-Some, in_default}

pub loop-leaf-init : goal.loop-leaf-init
loop-leaf-init c = refl

pub loop-leaf-preserved : goal.loop-leaf-preserved
loop-leaf-preserved c =
    let k = c.loop-leaf.leaf in
    let all = c.args.states.now in
    elim c.match-states-leaf.branch [
      | in-Some w ↦ w.letters-is ∙ ap (λ xs. set xs k w.letter.result) c.loop-leaf.invariant ∙ letters-some k all (Some w.in-Some.state) c.loop-leaf-test.true c.requires.few (sym w.in-Some.is) w.letter.result w.letter.ensures
      | in_default w ↦ w.letters-is ∙ c.loop-leaf.invariant ∙ letters-none k all None c.loop-leaf-test.true c.requires.few (sym w.in_default.is) refl
    ]

pub returns : goal.returns
returns c =
    let all = c.args.states.now in
    let end : c.loop-leaf.leaf ≡ length all = omega (arith, c.loop-leaf-test.false, c.loop-leaf.auto.leaf-end) in
    c.push.ensures ∙ ap (λ t. t ++ take (length all) c.loop-leaf.letters) c.requires.empty ∙ ap (take (length all)) c.loop-leaf.invariant ∙ letters-all all c.loop-leaf.leaf end
