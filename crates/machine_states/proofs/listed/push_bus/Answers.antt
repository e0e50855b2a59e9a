use Rattle.std.proofs.Common.{◌≡◌, ◌++◌, [], ◌∷◌, map, length, Some, sym, ap, ◌∙◌}
use Rattle.std.specs.List.{range_with_len}
use Rattle.ddm_types.specs.declared.turns.Turn.{Turn}
use Rattle.any_runs.specs.AnyMachine.Any.{machine_state}
use Rattle.state_judging.proofs.BusNumbers.{numbered-bus}
use Rattle.explorer.specs.SearchModel.Tried.{leave_turns}
use Rattle.timeless_words.proofs.Forgotten.{when-ok}
use Rattle.machine_states.specs.Listed.{parts_at}
use Rattle.machine_states.proofs.BusOrder.{bus-at}
use Rattle.machine_states.proofs.Loops.{grouped}
use Rattle.machine_states.proofs.Rooms.{parts-are}
use Rattle.machine_states.proofs.listed.push_bus.Goals as goal

pub children-children-requires : goal.children-children-requires
children-children-requires c = numbered-bus (machine_state c.args.machine.now).machine c.args.bus c.requires.shaped c.requires.bus

pub push_leaves-requires-clause-children : goal.push_leaves-requires-clause-children
push_leaves-requires-clause-children c =
    let m = (machine_state c.args.machine.now).machine in
    let b = bus-at m c.requires.shaped c.args.bus c.requires.bus in
    let known : Some c.children-children.result ≡ Some (length b.parts.kids) = c.children-children.ensures ∙ b.count in
    let count : c.children-children.result ≡ length b.parts.kids = cc in
    count ∙ sym (ap (λ p. length p.kids) (parts-are m c.args.bus b))

pub returns : goal.returns
returns c =
    let m = (machine_state c.args.machine.now).machine in
    let bus = c.args.bus in
    let b = bus-at m c.requires.shaped bus c.requires.bus in
    let are = parts-are m bus b in
    let known : Some c.children-children.result ≡ Some (length b.parts.kids) = c.children-children.ensures ∙ b.count in
    let count : c.children-children.result ≡ length (parts_at bus m).kids = (let e : c.children-children.result ≡ length b.parts.kids = cc in e) ∙ sym (ap (λ p. length p.kids) are) in
    let number : bus ≡ (parts_at bus m).number = sym (ap (λ p. p.number) are ∙ b.number) in
    let old = c.args.turns.now.items in
    let numbers = range_with_len 0 c.children-children.result in
    let kids = (parts_at bus m).kids in
    when-ok c.push_leaves.result c.push_leaves.ensures (λ last.
    last ∙ ap (λ l. l ++ leave_turns bus 0 kids) (c.in_ok-push_replies.ensures ∙ ap (λ l. l ++ map (Turn.Reply bus) numbers) (c.in_ok-push_requests.ensures ∙ ap (λ l. l ++ map (Turn.Request bus) numbers) c.in_ok-push.ensures.items))
    ∙ grouped old (Turn.Down bus ∷ []) (map (Turn.Request bus) numbers) (map (Turn.Reply bus) numbers) (leave_turns bus 0 kids)
    ∙ ap (λ n. old ++ (((Turn.Down bus ∷ map (Turn.Request bus) (range_with_len 0 n)) ++ map (Turn.Reply bus) (range_with_len 0 n)) ++ leave_turns bus 0 kids)) count
    ∙ ap (λ k. old ++ (((Turn.Down k ∷ map (Turn.Request k) (range_with_len 0 (length kids))) ++ map (Turn.Reply k) (range_with_len 0 (length kids))) ++ leave_turns k 0 kids)) number)
