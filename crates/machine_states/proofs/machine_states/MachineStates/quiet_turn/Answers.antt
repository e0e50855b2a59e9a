use Rattle.std.proofs.Common.{◌≡◌, ◌<◌, ◌≤◌, true, false, Some, sym, ap, subst, ◌∙◌, arith}
use Rattle.ddm_types.specs.declared.turns.Turn.{Turn}
use Rattle.tree_model.specs.State.Shape.{IsShaped, tree_counts}
use Rattle.explorer.specs.SearchModel.Tried.{is_quiet}
use Rattle.machine_states.specs.Ready.{StatesValue}
use Rattle.machine_states.proofs.Judged.{here-found, later-found, none-found}
use Rattle.machine_states.proofs.machine_states.MachineStates.quiet_turn.Goals as goal

pub returns-then-quiet-clause-turn : goal.returns-then-quiet-clause-turn
returns-then-quiet-clause-turn c =
    let m = c.args.self.now.at.machine in
    let k = c.loop-leaf.leaf in
    let shaped : IsShaped m = subst (λ (v : StatesValue). IsShaped v.at.machine) c.self.view_is c.counts-leaf-end.ensures.shape in
    let leaves = ap (λ n. n.leaves) c.counts-leaf-end.ensures.counts ∙ ap (λ v. (tree_counts v.at.machine).leaves) c.self.view_is in
    let less : k < (tree_counts m).leaves = omega (arith, c.loop-leaf-test.true, leaves) in
    let quiet : is_quiet m (Turn.Hart k 0) ≡ true =
    sym (c.in_ok-quiet.ensures.quiet ∙ ap (λ s. is_quiet s.machine c.first_turn.result) c.loop-leaf.invariant.at ∙ ap (is_quiet m) c.first_turn.ensures) ∙ c.if-quiet.true in
    ap Some c.first_turn-then-quiet.ensures ∙ here-found m shaped k less c.loop-leaf.invariant.found quiet

pub loop-leaf-preserved : goal.loop-leaf-preserved
loop-leaf-preserved c =
    let m = c.args.self.now.at.machine in
    let k = c.loop-leaf.leaf in
    let shaped : IsShaped m = subst (λ (v : StatesValue). IsShaped v.at.machine) c.self.view_is c.counts-leaf-end.ensures.shape in
    let leaves = ap (λ n. n.leaves) c.counts-leaf-end.ensures.counts ∙ ap (λ v. (tree_counts v.at.machine).leaves) c.self.view_is in
    let less : k < (tree_counts m).leaves = omega (arith, c.loop-leaf-test.true, leaves) in
    let quiet : is_quiet m (Turn.Hart k 0) ≡ false =
    sym (c.in_ok-quiet.ensures.quiet ∙ ap (λ s. is_quiet s.machine c.first_turn.result) c.loop-leaf.invariant.at ∙ ap (is_quiet m) c.first_turn.ensures) ∙ c.if-quiet.false in
    record {
      start = c.judge.ensures.start ∙ c.loop-leaf.invariant.start;
      at = c.judge.ensures.at ∙ c.loop-leaf.invariant.at;
      found = later-found m shaped k less c.loop-leaf.invariant.found quiet;
    }

pub returns-clause-turn : goal.returns-clause-turn
returns-clause-turn c =
    let m = c.args.self.now.at.machine in
    let k = c.loop-leaf.leaf in
    let shaped : IsShaped m = subst (λ (v : StatesValue). IsShaped v.at.machine) c.self.view_is c.counts-leaf-end.ensures.shape in
    let leaves = ap (λ n. n.leaves) c.counts-leaf-end.ensures.counts ∙ ap (λ v. (tree_counts v.at.machine).leaves) c.self.view_is in
    let past : (tree_counts m).leaves ≤ k = omega (arith, c.loop-leaf-test.false, leaves) in
    none-found m shaped k past c.loop-leaf.invariant.found
