use Rattle.std.proofs.Common.{sym, ap, map, ◌∙◌}
use Rattle.std.specs.Prelude.{find}
use Rattle.std.specs.Option.{option_or}
use Rattle.std.specs.List.{range_with_len}
use Rattle.no_jam.specs.TreeModel.Turns.Machine.{child_count}
use Rattle.any_machine.specs.Any.{machine_state}
use Rattle.jam_laws.specs.GoesOn.{would_grant}
use Rattle.no_jam.specs.Asked.{child_turn}
use Rattle.no_jam.specs.declared.search.Asked.{Asked}
use Rattle.no_jam.proofs.Searching.{of-bus}
use Rattle.no_jam.proofs.search.first_of_bus.Goals as goal

pub returns-in-Some : goal.returns-in-Some
returns-in-Some c =
    let p = would_grant (machine_state c.args.machine.now).machine in
    sym (of-bus p c.args.bus c.children-kids.result (child_count c.args.bus (machine_state c.args.machine.now).machine) c.children-kids.ensures (sym c.down_goes.ensures ∙ c.if-down_goes.false) ∙ ap (λ q. option_or q (find p (map (child_turn Asked.Request c.args.bus) (range_with_len 0 c.children-kids.result)))) (sym c.in-Some.ensures))

pub returns-in-None : goal.returns-in-None
returns-in-None c =
    let p = would_grant (machine_state c.args.machine.now).machine in
    c.first_child-in-None.ensures ∙ sym (of-bus p c.args.bus c.children-kids.result (child_count c.args.bus (machine_state c.args.machine.now).machine) c.children-kids.ensures (sym c.down_goes.ensures ∙ c.if-down_goes.false) ∙ ap (λ q. option_or q (find p (map (child_turn Asked.Request c.args.bus) (range_with_len 0 c.children-kids.result)))) (sym c.in-None.ensures))
