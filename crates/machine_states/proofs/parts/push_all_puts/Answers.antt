use Rattle.std.proofs.Common.{◌≡◌, ◌<◌, ◌≤◌, ◌++◌, flat_map, length, Some, sym, ap, ◌∙◌, arith, append-nil}
use Rattle.std.specs.Prelude.{slice_get}
use Rattle.std.proofs.lemmas.List.{length-map, take_all}
use Rattle.tree_model.specs.State.Shape.{tree_counts}
use Rattle.tree_model.specs.Turns.Machine.{machine_leaves}
use Rattle.time_laws.specs.Forget.{put_by, put_bytes, puts_of}
use Rattle.explorer.specs.StateKeys.Key.{put_words}
use Rattle.any_runs.proofs.DdmTree.LeafList.{leaves-counted}
use Rattle.machine_states.proofs.Leaves.{leaf-at}
use Rattle.machine_states.proofs.Places.{got}
use Rattle.machine_states.proofs.Loops.{flat-place}
use Rattle.machine_states.proofs.Timeless.{bytes-are}
use Rattle.machine_states.proofs.parts.push_all_puts.Goals as goal

pub loop-leaf-init : goal.loop-leaf-init
loop-leaf-init g c = sym (append-nil c.args.out.now.items)

pub loop-leaf-preserved : goal.loop-leaf-preserved
loop-leaf-preserved g c =
    let m = c.args.machine.now.machine in
    let k = c.loop-leaf.leaf in
    let leaves = ap (λ n. n.leaves) c.counts-leaf-end.ensures.counts in
    let below : k < (tree_counts m).leaves = omega (arith, leaves, c.loop-leaf-test.true) in
    let there = leaf-at m c.counts-leaf-end.ensures.shape k below in
    let here : slice_get (puts_of m) k ≡ Some (put_bytes k m) = got (λ v. put_bytes v.number m) (machine_leaves m) k there.leaf there.at ∙ ap (λ n. Some (put_bytes n m)) there.number in
    c.in_ok-push_puts.ensures ∙ ap (λ ops. c.loop-leaf.out.items ++ put_words (flat_map (put_by k) ops)) c.ops.ensures ∙ ap (λ bytes. c.loop-leaf.out.items ++ put_words bytes) (sym (bytes-are k m))
    ∙ flat-place put_words (puts_of m) k (put_bytes k m) c.args.out.now.items c.loop-leaf.out.items here c.loop-leaf.invariant

pub returns : goal.returns
returns g c =
    let m = c.args.machine.now.machine in
    let leaves = ap (λ n. n.leaves) c.counts-leaf-end.ensures.counts in
    let past : length (puts_of m) ≤ c.loop-leaf.leaf = omega (arith, leaves, leaves-counted m, c.loop-leaf-test.false, length-map (machine_leaves m) (λ v. put_bytes v.number m)) in
    c.loop-leaf.invariant ∙ ap (λ xs. c.args.out.now.items ++ flat_map put_words xs) (take_all c.loop-leaf.leaf (puts_of m) past)
