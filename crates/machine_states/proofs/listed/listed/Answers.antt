use Rattle.std.proofs.Common.{◌≡◌, ◌<◌, ◌≤◌, ◌++◌, flat_map, length, sym, ap, ◌∙◌, arith, append-nil}
use Rattle.std.specs.List.{range_with_len}
use Rattle.std.proofs.lemmas.List.{take_all}
use Rattle.any_runs.specs.AnyMachine.Any.{machine_state}
use Rattle.any_runs.specs.AnyMachine.Kind.{kind_of}
use Rattle.any_runs.proofs.DdmTree.LeafList.{leaf-number, leaves-counted}
use Rattle.tree_model.specs.State.Shape.{tree_counts}
use Rattle.tree_model.specs.Turns.Machine.{machine_leaves}
use Rattle.explorer.specs.SearchModel.Tried.{turns_of_bus, turns_of_leaf}
use Rattle.machine_states.specs.Listed.{hart_turns}
use Rattle.machine_states.proofs.BusOrder.{bus-at, ordered, ordered-counted}
use Rattle.machine_states.proofs.Few.{leaf-ways}
use Rattle.machine_states.proofs.Loops.{flat-place}
use Rattle.machine_states.proofs.Rooms.{harts-listed, parts-are}
use Rattle.machine_states.proofs.listed.listed.Goals as goal

pub loop-bus-init : goal.loop-bus-init
loop-bus-init c = sym (append-nil _)

pub push_bus-requires-clause-bus : goal.push_bus-requires-clause-bus
push_bus-requires-clause-bus c =
    let buses = ap (λ n. n.buses) c.counts-counts.ensures.counts in
    omega (arith, buses, c.loop-bus-test.true)

pub loop-bus-preserved : goal.loop-bus-preserved
loop-bus-preserved c =
    let m = (machine_state c.args.machine.now).machine in
    let k = c.loop-bus.bus in
    let buses = ap (λ n. n.buses) c.counts-counts.ensures.counts in
    let below : k < (tree_counts m).buses = omega (arith, buses, c.loop-bus-test.true) in
    let b = bus-at m c.counts-counts.ensures.shape k below in
    c.in_ok-push_bus.ensures ∙ ap (λ p. c.loop-bus.turns.items ++ turns_of_bus p) (parts-are m k b) ∙ flat-place turns_of_bus (ordered m) k b.parts c.push_harts.new.turns.items c.loop-bus.turns.items b.at c.loop-bus.invariant

pub returns : goal.returns
returns c =
    let m = (machine_state c.args.machine.now).machine in
    let shaped = c.counts-counts.ensures.shape in
    let buses = ap (λ n. n.buses) c.counts-counts.ensures.counts in
    let leaves = ap (λ n. n.leaves) c.counts-counts.ensures.counts in
    let ways = (kind_of c.args.machine.now).ways in
    let past : length (ordered m) ≤ c.loop-bus.bus = omega (arith, buses, ordered-counted m, c.loop-bus-test.false) in
    let count : c.counts-counts.result.leaves ≡ length (machine_leaves m) = leaves ∙ leaves-counted m in
    let harts : c.push_harts.new.turns.items ≡ flat_map turns_of_leaf (machine_leaves m) =
    c.in_ok-push_harts.ensures ∙ ap (λ l. l ++ flat_map (hart_turns c.ways.result) (range_with_len 0 c.counts-counts.result.leaves)) c.new-turns.ensures.items
    ∙ ap (λ n. flat_map (hart_turns n) (range_with_len 0 c.counts-counts.result.leaves)) c.ways.ensures.kind ∙ sym (harts-listed ways c.counts-counts.result.leaves m (leaf-ways ways m c.requires) (λ j v is. leaf-number j m v shaped is) count) in
    c.loop-bus.invariant ∙ ap (λ bs. c.push_harts.new.turns.items ++ flat_map turns_of_bus bs) (take_all c.loop-bus.bus (ordered m) past) ∙ ap (λ l. l ++ flat_map turns_of_bus (ordered m)) harts
