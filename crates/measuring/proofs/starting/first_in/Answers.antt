use Rattle.std.proofs.Common.{◌<◌, ◌≡◌, ◌++◌, [], ◌∷◌, List, map, ap, sym, ◌∙◌, zero-add, arith}
use Rattle.std.specs.Prelude.{unwrap_or}
use Rattle.std.specs.List.{range_with_len}
use Rattle.std.proofs.lemmas.List.FromFn.{map-range_with_len_more}
use Rattle.recording.specs.AnyMachine.Any.{machine_state}
use Rattle.recording_model.specs.TreeModel.State.Lengths.{no_leaf_lengths}
use Rattle.recording_model.specs.TreeModel.State.Shape.{tree_counts}
use Rattle.recording.proofs.DdmTree.LeafList.{leaf-there}
use Rattle.tree_model.specs.declared.LeafLengths.{LeafLengths}
use Rattle.measure_model.specs.Lengths.{lengths_in}
use Rattle.measuring.proofs.starting.first_in.Goals as goal

pub leaf_lengths-requires : goal.leaf_lengths-requires
leaf_lengths-requires c =
    let leaves = ap (λ n. n.leaves) c.counts-leaf-end.ensures.counts in
    let below : c.loop-leaf.leaf < (tree_counts (machine_state c.args.machine.now).machine).leaves = omega (arith, leaves, c.loop-leaf-test.true) in
    leaf-there c.loop-leaf.leaf (machine_state c.args.machine.now).machine c.counts-leaf-end.ensures.shape below

pub loop-leaf-preserved : goal.loop-leaf-preserved
loop-leaf-preserved c =
    let m = (machine_state c.args.machine.now).machine in
    let k = c.loop-leaf.leaf in
    let length : c.leaf_lengths.result ≡ lengths_in k m = ap (λ o. unwrap_or o no_leaf_lengths) c.leaf_lengths.ensures in
    c.in_ok-push.ensures.items ∙ ap (λ (xs : List LeafLengths). xs ++ c.leaf_lengths.result ∷ []) c.loop-leaf.invariant ∙ ap (λ n. map (λ k. lengths_in k m) (range_with_len 0 k) ++ n ∷ []) length
    ∙ sym (map-range_with_len_more (λ k. lengths_in k m) 0 k k (zero-add k))

pub returns : goal.returns
returns c =
    let leaves = ap (λ n. n.leaves) c.counts-leaf-end.ensures.counts in
    let same : c.loop-leaf.leaf ≡ (tree_counts (machine_state c.args.machine.now).machine).leaves = omega (arith, leaves, c.loop-leaf-test.false, c.loop-leaf.auto.leaf-end) in
    c.loop-leaf.invariant ∙ ap (λ n. map (λ b. lengths_in b (machine_state c.args.machine.now).machine) (range_with_len 0 n)) same
