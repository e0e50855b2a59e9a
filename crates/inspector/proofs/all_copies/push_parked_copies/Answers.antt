use Rattle.std.proofs.Common.{◌≡◌, ℕ, ◌<◌, ◌≤◌, length, rules, sym, ap, ◌∙◌, arith}
use Rattle.std.proofs.lemmas.List.{append-nil, append_assoc, take_all}
use Rattle.std.proofs.lemmas.List.FromFn.{length-range_with_len}
use Rattle.inspector.specs.TreeModel.State.Shape.{tree_counts}
use Rattle.inspector.specs.TreeModel.Turns.Machine.{parked_place_of}
use Rattle.inspector.specs.Copies.{buses_of, parked_copies, place_list}
use Rattle.inspector.proofs.StateJudging.BusNumbers.{numbered-bus}
use Rattle.inspector.proofs.CopyLists.{parked-copy}
use Rattle.inspector.proofs.OneMore.{more-of, number-here}
use Rattle.inspector.proofs.all_copies.push_parked_copies.Goals as goal

pub loop-number-init : goal.loop-number-init
loop-number-init g c = sym (append-nil c.args.places.now.items)

pub parked-requires : goal.parked-requires
parked-requires g c =
    let buses = ap (λ n. n.buses) c.counts-number-end.ensures.counts in
    let below : c.loop-number.number < (tree_counts c.args.machine.now.machine).buses = omega (arith, buses, c.loop-number-test.true) in
    (search rules, (search rules, (numbered-bus c.args.machine.now.machine c.loop-number.number c.counts-number-end.ensures.shape below, c.requires.item)))

pub loop-number-preserved : goal.loop-number-preserved
loop-number-preserved g c =
    let m = c.args.machine.now.machine in
    let x = c.args.item in
    let k = c.loop-number.number in
    let buses = ap (λ n. n.buses) c.counts-number-end.ensures.counts in
    let below : k < (tree_counts m).buses = omega (arith, buses, c.loop-number-test.true) in
    let copies = λ (bus : ℕ). parked_copies bus (parked_place_of bus x m) in
    let copy : place_list c.parked_copy.result ≡ copies k = ap place_list c.parked_copy.ensures ∙ parked-copy m k (numbered-bus m k c.counts-number-end.ensures.shape below) x c.parked.result c.parked.ensures in
    c.in_ok-push_place.ensures ∙ rw (c.loop-number.invariant, copy, more-of copies (buses_of m) k k (number-here (tree_counts m).buses k below)) (append_assoc c.args.places.now.items _ (copies k))

pub returns : goal.returns
returns g c =
    let m = c.args.machine.now.machine in
    let buses = ap (λ n. n.buses) c.counts-number-end.ensures.counts in
    let size = length-range_with_len 0 (tree_counts m).buses in
    let past : length (buses_of m) ≤ c.loop-number.number = omega (arith, buses, size, c.loop-number-test.false) in
    rw (take_all c.loop-number.number (buses_of m) past) at c.loop-number.invariant
