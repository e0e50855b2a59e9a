use Rattle.std.proofs.Common.{◌≡◌, ◌<◌, ◌≤◌, Some, sym, ap, ◌∙◌, arith, rules}
use Rattle.std.specs.Prelude.{is_some}
use Rattle.any_runs.specs.RvHart.HartState.{HartState}
use Rattle.any_runs.proofs.DdmTree.LeafList.{leaf-there}
use Rattle.any_runs.specs.AnyMachine.Any.{state_in}
use Rattle.outcomes.specs.RecordingModel.Doing.{is_halted}
use Rattle.tree_model.specs.State.Blank.{no_hart}
use Rattle.tree_model.specs.State.Shape.{tree_counts}
use Rattle.tree_model.specs.State.Values.{LeafValue}
use Rattle.machine_states.proofs.Buses.{no-hart, not-less}
use Rattle.machine_states.proofs.Leaves.{leaf-at, leaf-asked}
use Rattle.machine_states.proofs.named.hart_halted.Goals as goal

pub hart-requires : goal.hart-requires
hart-requires g c =
    let m = (state_in c.args.machine.now).machine in
    let leaves = ap (λ n. n.leaves) c.counts.ensures.counts in
    let below : c.args.hart < (tree_counts m).leaves = omega (arith, leaves, c.hart.view_is, c.if-hart-counts.true) in
    (search rules, leaf-there c.args.hart m c.counts.ensures.shape below)

pub returns-then-hart-counts : goal.returns-then-hart-counts
returns-then-hart-counts g c =
    let m = (state_in c.args.machine.now).machine in
    let shaped = c.counts.ensures.shape in
    let leaves = ap (λ n. n.leaves) c.counts.ensures.counts in
    let below : c.args.hart < (tree_counts m).leaves = omega (arith, leaves, c.hart.view_is, c.if-hart-counts.true) in
    let there = leaf-at m shaped c.args.hart below in
    let state : LeafValue → HartState = λ v. record { hart = v.hart; done = v.done } in
    let known : Some c.hart-then-hart-counts.result.now ≡ Some (state there.leaf) = c.hart-then-hart-counts.ensures ∙ leaf-asked m shaped state (record { hart = no_hart; done = 0 }) c.args.hart there in
    let same : c.hart-then-hart-counts.result.now ≡ state there.leaf = cc in
    c.is_some.ensures ∙ ap is_some c.halted.ensures ∙ ap (λ (h : HartState). is_some h.hart.halt) same ∙ sym (ap is_halted (leaf-asked m shaped (λ v. v.hart) no_hart c.args.hart there))

pub returns-else-hart-counts : goal.returns-else-hart-counts
returns-else-hart-counts g c =
    let m = (state_in c.args.machine.now).machine in
    let leaves = ap (λ n. n.leaves) c.counts.ensures.counts in
    let past : (tree_counts m).leaves ≤ c.args.hart = omega (arith, leaves, c.hart.view_is, c.if-hart-counts.false) in
    not-less c.hart.inside.0 c.counts.result.leaves (omega (arith, c.if-hart-counts.false)) ∙ sym (no-hart m c.counts.ensures.shape c.args.hart (not-less c.args.hart (tree_counts m).leaves past))
