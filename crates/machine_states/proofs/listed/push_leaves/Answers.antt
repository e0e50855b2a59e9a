use Rattle.std.proofs.Common.{◌≡◌, ◌<◌, ◌≤◌, ◌+◌, ◌++◌, [], suc, map, length, take, Some, sym, ap, ◌∙◌, arith, append_assoc, append-nil}
use Rattle.std.specs.List.{range_with_len}
use Rattle.std.proofs.lemmas.Bool.{lt-ltb}
use Rattle.std.proofs.lemmas.List.{take_all}
use Rattle.ddm_types.specs.declared.turns.Turn.{Turn}
use Rattle.any_runs.specs.AnyMachine.Any.{machine_state}
use Rattle.any_runs.specs.AnyMachine.Kind.{kind_of}
use Rattle.tree_model.specs.State.Values.{root_of}
use Rattle.tree_model.specs.Turns.Children.{child_at}
use Rattle.tree_model.specs.Turns.Machine.{is_child_of}
use Rattle.explorer.specs.SearchModel.Tried.{buses_of, leaving_count, leave_turns}
use Rattle.machine_states.specs.Listed.{parts_at}
use Rattle.machine_states.proofs.BusOrder.{bus-at, order-back, ordered}
use Rattle.machine_states.proofs.Few.{copies-few}
use Rattle.machine_states.proofs.Places.{get-one}
use Rattle.machine_states.proofs.Rooms.{leave-more, parts-are}
use Rattle.machine_states.proofs.listed.push_leaves.Goals as goal

pub loop-child-init : goal.loop-child-init
loop-child-init c = sym (append-nil c.args.turns.now.items)

pub leaving_count-requires : goal.leaving_count-requires
leaving_count-requires c =
    let m = (machine_state c.args.machine.now).machine in
    let b = bus-at m c.requires.shaped c.args.bus c.requires.bus in
    let size = ap (λ p. length p.kids) (parts-are m c.args.bus b) in
    ap (is_child_of c.loop-child.child) b.count ∙ lt-ltb c.loop-child.child (length b.parts.kids) (omega (arith, size, c.requires.children, c.loop-child-test.true))

pub push_choices-requires : goal.push_choices-requires
push_choices-requires c =
    let m = (machine_state c.args.machine.now).machine in
    let b = bus-at m c.requires.shaped c.args.bus c.requires.bus in
    let size = ap (λ p. length p.kids) (parts-are m c.args.bus b) in
    let below : c.loop-child.child < length b.parts.kids = omega (arith, size, c.requires.children, c.loop-child-test.true) in
    let few = copies-few (kind_of c.args.machine.now).ways m c.requires.places b.parts (order-back (buses_of (root_of m) []) b.parts (get-one (ordered m) c.args.bus b.parts b.at)) c.loop-child.child below in
    let known : Some c.leaving_count.result ≡ Some (leaving_count (child_at c.loop-child.child b.parts.kids)) = c.leaving_count.ensures ∙ b.leaving c.loop-child.child in
    let count : c.leaving_count.result ≡ leaving_count (child_at c.loop-child.child b.parts.kids) = cc in
    omega (arith, count, few)

pub loop-child-preserved : goal.loop-child-preserved
loop-child-preserved c =
    let m = (machine_state c.args.machine.now).machine in
    let bus = c.args.bus in
    let k = c.loop-child.child in
    let old = c.args.turns.now.items in
    let b = bus-at m c.requires.shaped bus c.requires.bus in
    let are = parts-are m bus b in
    let size = ap (λ p. length p.kids) are in
    let below : k < length b.parts.kids = omega (arith, size, c.requires.children, c.loop-child-test.true) in
    let known : Some c.leaving_count.result ≡ Some (leaving_count (child_at k b.parts.kids)) = c.leaving_count.ensures ∙ b.leaving k in
    let count : c.leaving_count.result ≡ leaving_count (child_at k b.parts.kids) = cc in
    let next : k + 1 ≡ suc k = omega arith in
    let more : leave_turns bus 0 (take (k + 1) b.parts.kids) ≡ leave_turns bus 0 (take k b.parts.kids) ++ map (λ choice. Turn.Leave bus k choice) (range_with_len 0 (leaving_count (child_at k b.parts.kids))) =
    ap (λ n. leave_turns bus 0 (take n b.parts.kids)) next ∙ leave-more bus k b.parts.kids below in
    let own = map (λ choice. Turn.Leave bus k choice) (range_with_len 0 (leaving_count (child_at k b.parts.kids))) in
    c.in_ok-push_choices.ensures ∙ ap (λ n. c.loop-child.turns.items ++ map (λ choice. Turn.Leave bus k choice) (range_with_len 0 n)) count
    ∙ ap (λ l. l ++ own) (c.loop-child.invariant ∙ ap (λ p. old ++ leave_turns bus 0 (take k p.kids)) are)
    ∙ append_assoc old (leave_turns bus 0 (take k b.parts.kids)) own ∙ ap (λ l. old ++ l) (sym more) ∙ sym (ap (λ p. old ++ leave_turns bus 0 (take (k + 1) p.kids)) are)

pub returns : goal.returns
returns c =
    let m = (machine_state c.args.machine.now).machine in
    let kids = (parts_at c.args.bus m).kids in
    let past : length kids ≤ c.loop-child.child = omega (arith, c.requires.children, c.loop-child-test.false) in
    c.loop-child.invariant ∙ ap (λ ns. c.args.turns.now.items ++ leave_turns c.args.bus 0 ns) (take_all c.loop-child.child kids past)
