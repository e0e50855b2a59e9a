use Rattle.std.proofs.Common.{rules, refl, arith}
use Rattle.any_machine.specs.Any.{state_in}
use Rattle.report.proofs.Shown as shown
use Rattle.report.proofs.report_pieces.put_part.Goals as goal

pub put_hart-requires : goal.put_hart-requires
put_hart-requires g c =
    (search rules, (c.requires.empty, (c.requires.given.shaped, shown.hart-there _ (state_in c.args.machine.now).machine _ _ _ c.requires.given c.in-Hart.hart c.in-Hart.is)))

pub put_output_part-requires : goal.put_output_part-requires
put_output_part-requires g c =
    let m = (state_in c.args.machine.now).machine in
    record {
      empty = c.requires.empty;
      hart = shown.output-hart _ m _ _ _ c.requires.given c.in-Output.hart c.in-Output.from c.in-Output.is;
      from = shown.output-there _ m _ _ _ c.requires.given c.in-Output.hart c.in-Output.from _ c.ops.ensures c.in-Output.is;
    }

pub put_bus-requires : goal.put_bus-requires
put_bus-requires g c = (search rules, (c.requires.empty, shown.bus-there _ (state_in c.args.machine.now).machine _ _ _ c.requires.given c.in-Bus.bus c.in-Bus.is))

pub put_item-requires : goal.put_item-requires
put_item-requires g c =
    (search rules, (c.requires.small, (c.requires.empty, shown.item-there _ (state_in c.args.machine.now).machine _ _ _ c.requires.given c.in-Item.item c.in-Item.is)))

pub put_states-next-requires : goal.put_states-next-requires
put_states-next-requires g c =
    let m = (state_in c.args.machine.now).machine in
    let there = shown.states-there _ m _ _ _ c.requires.given c.in-States.item c.in-States.from c.in-States.is in
    (search rules, (c.requires.empty, (c.requires.given.shaped, (shown.leaves-shown _ m _ _ _ c.requires.given, there.1))))

pub put_operations-next-requires-clause-from : goal.put_operations-next-requires-clause-from
put_operations-next-requires-clause-from g c = shown.operation-there _ (state_in c.args.machine.now).machine _ _ _ c.requires.given c.in-Operation.operation c.in-Operation.is

pub returns-in-Head : goal.returns-in-Head
returns-in-Head g c = shown.head _ (state_in c.args.machine.now).machine _ _ _ c.requires.given _ _ c.in-Head.is c.put_head.ensures c.hart_part.ensures

pub returns-in-Hart : goal.returns-in-Hart
returns-in-Hart g c = shown.hart _ (state_in c.args.machine.now).machine _ _ _ c.requires.given _ _ c.in-Hart.hart c.in-Hart.is c.put_hart.ensures refl

pub returns-in-Output : goal.returns-in-Output
returns-in-Output g c = shown.output _ (state_in c.args.machine.now).machine _ _ _ c.requires.given _ _ c.in-Output.hart c.in-Output.from _ c.ops.ensures c.in-Output.is c.put_output_part.ensures

pub returns-in-Bus : goal.returns-in-Bus
returns-in-Bus g c = shown.bus _ (state_in c.args.machine.now).machine _ _ _ c.requires.given _ _ c.in-Bus.bus c.in-Bus.is c.put_bus.ensures c.bus_part.ensures

pub returns-in-Item : goal.returns-in-Item
returns-in-Item g c = shown.item _ (state_in c.args.machine.now).machine _ _ _ c.requires.given _ _ c.in-Item.item c.in-Item.is c.put_item.ensures refl

pub returns-then-next-size : goal.returns-then-next-size
returns-then-next-size g c =
    let put = c.put_states-next.ensures in
    shown.states _ (state_in c.args.machine.now).machine _ _ _ c.requires.given _ _ c.in-States.item c.in-States.from c.put_states-next.result c.in-States.is put.within put.states (put.long c.if-next-size.true) refl

pub returns-else-next-size : goal.returns-else-next-size
returns-else-next-size g c =
    shown.states-ended _ (state_in c.args.machine.now).machine _ _ _ c.requires.given _ _ c.in-States.item c.in-States.from c.put_states-next.result _ c.in-States.is (omega (arith, c.if-next-size.false)) c.put_states-next.ensures.states c.end_line.ensures c.item_part.ensures

pub returns-in-Operation : goal.returns-in-Operation
returns-in-Operation g c =
    let put = c.put_operations-next.ensures in
    shown.operations _ (state_in c.args.machine.now).machine _ _ _ c.requires.given _ _ c.in-Operation.operation c.put_operations-next.result c.in-Operation.is put.lines put.some c.operation_part.ensures
