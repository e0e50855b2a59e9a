use Rattle.std.proofs.Common.{map, arith, ap}
use Rattle.split_bus.specs.TreeModel.State.Child.{child_request}
use Rattle.split_bus.specs.TreeModel.Turns.Children.{child_at}
use Rattle.split_bus.specs.Outcomes.{grants}
use Rattle.split_bus.proofs.Granting.{asked-turn}
use Rattle.split_bus.proofs.foreseen.request_goes.Goals as goal

pub returns-in-Some : goal.returns-in-Some
returns-in-Some g c above =
    let p = g.P.Parent.state c.args.parent.now in
    let ns = map g.C.Agent.value c.args.children.now in
    let t = ap grants (asked-turn above p ns c.args.c (child_request (child_at c.args.c ns)) c.in-Some.kind c.in-Some.item c.in-Some.ensures.value) in
    let u = c.asked_goes.ensures above in
    grind (arith, t, u)
