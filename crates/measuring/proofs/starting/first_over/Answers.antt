use Rattle.std.proofs.Common.{◌<◌, ◌≡◌, ◌++◌, [], ◌∷◌, List, map, ap, sym, ◌∙◌, zero-add, arith}
use Rattle.std.specs.Prelude.{unwrap_or}
use Rattle.std.specs.List.{range_with_len}
use Rattle.std.proofs.lemmas.List.FromFn.{map-range_with_len_more}
use Rattle.recording.specs.AnyMachine.Any.{machine_state}
use Rattle.recording_model.specs.TreeModel.State.Lengths.{no_dir_lengths}
use Rattle.recording_model.specs.TreeModel.State.Shape.{tree_counts}
use Rattle.state_judging.proofs.BusNumbers.{numbered-bus}
use Rattle.tree_model.specs.declared.DirLengths.{DirLengths}
use Rattle.measure_model.specs.Lengths.{lengths_over}
use Rattle.measuring.proofs.starting.first_over.Goals as goal

pub list_lengths-requires : goal.list_lengths-requires
list_lengths-requires c =
    let buses = ap (λ n. n.buses) c.counts-bus-end.ensures.counts in
    let below : c.loop-bus.bus < (tree_counts (machine_state c.args.machine.now).machine).buses = omega (arith, buses, c.loop-bus-test.true) in
    numbered-bus (machine_state c.args.machine.now).machine c.loop-bus.bus c.counts-bus-end.ensures.shape below

pub loop-bus-preserved : goal.loop-bus-preserved
loop-bus-preserved c =
    let m = (machine_state c.args.machine.now).machine in
    let k = c.loop-bus.bus in
    let length : c.list_lengths.result ≡ lengths_over k m = ap (λ o. unwrap_or o no_dir_lengths) c.list_lengths.ensures in
    c.in_ok-push.ensures.items ∙ ap (λ (xs : List DirLengths). xs ++ c.list_lengths.result ∷ []) c.loop-bus.invariant ∙ ap (λ n. map (λ b. lengths_over b m) (range_with_len 0 k) ++ n ∷ []) length
    ∙ sym (map-range_with_len_more (λ b. lengths_over b m) 0 k k (zero-add k))

pub returns : goal.returns
returns c =
    let buses = ap (λ n. n.buses) c.counts-bus-end.ensures.counts in
    let same : c.loop-bus.bus ≡ (tree_counts (machine_state c.args.machine.now).machine).buses = omega (arith, buses, c.loop-bus-test.false, c.loop-bus.auto.bus-end) in
    c.loop-bus.invariant ∙ ap (λ n. map (λ b. lengths_over b (machine_state c.args.machine.now).machine) (range_with_len 0 n)) same
