use Rattle.std.proofs.Common.{◌≡◌, ◌∙◌, ◌<◌, ◌≤◌, length, ap, sym, refl, arith, rules, true, false}
use Rattle.std.specs.Prelude.{is_some}
use Rattle.outcomes.specs.TreeModel.State.Shape.{tree_counts}
use Rattle.outcomes.proofs.DdmTree.LeafList.{leaf-there}
use Rattle.outcomes.specs.AnyMachine.Any.{state_in}
use Rattle.outcomes.proofs.Ends.{all-end, all-failed, all-here, end-shown, end_halted, ends-counted, ends_of, halted-is}
use Rattle.outcomes.proofs.ending.have_halted.Goals as goal

pub loop-leaf-init : goal.loop-leaf-init
loop-leaf-init g c = refl

pub hart-hart-requires : goal.hart-hart-requires
hart-hart-requires g c =
    let leaves = ap (λ n. n.leaves) c.counts-leaf-end.ensures.counts in
    let below : c.loop-leaf.leaf < (tree_counts (state_in c.args.machine.now).machine).leaves = omega (arith, leaves, c.loop-leaf-test.true) in
    (search rules, leaf-there c.loop-leaf.leaf (state_in c.args.machine.now).machine c.counts-leaf-end.ensures.shape below)

pub returns-then-is_none : goal.returns-then-is_none
returns-then-is_none g c =
    let m = (state_in c.args.machine.now).machine in
    let h = c.hart-hart.result.now in
    let shown = end-shown m c.loop-leaf.leaf h c.counts-leaf-end.ensures.shape c.hart-hart.ensures in
    let fails : is_some h.hart.halt ≡ false = ap is_some (sym c.halted.ensures) ∙ c.if-is_none.ensures in
    sym (halted-is m ∙ c.loop-leaf.invariant ∙ all-failed end_halted c.loop-leaf.leaf (ends_of m) (record { number = c.loop-leaf.leaf; halt = h.hart.halt }) shown fails)

pub loop-leaf-preserved : goal.loop-leaf-preserved
loop-leaf-preserved g c =
    let m = (state_in c.args.machine.now).machine in
    let h = c.hart-hart.result.now in
    let shown = end-shown m c.loop-leaf.leaf h c.counts-leaf-end.ensures.shape c.hart-hart.ensures in
    let passes : is_some h.hart.halt ≡ true = ap is_some (sym c.halted.ensures) ∙ c.if-is_none.ensures in
    c.loop-leaf.invariant ∙ all-here end_halted c.loop-leaf.leaf (ends_of m) (record { number = c.loop-leaf.leaf; halt = h.hart.halt }) shown passes

pub returns : goal.returns
returns g c =
    let m = (state_in c.args.machine.now).machine in
    let leaves = ap (λ n. n.leaves) c.counts-leaf-end.ensures.counts in
    let past : length (ends_of m) ≤ c.loop-leaf.leaf = omega (arith, leaves, ends-counted m, c.loop-leaf-test.false) in
    sym (halted-is m ∙ c.loop-leaf.invariant ∙ all-end end_halted c.loop-leaf.leaf (ends_of m) past)
