use Rattle.std.proofs.Common.{◌≡◌, Some, map, sym}
use Rattle.split_bus.specs.TreeModel.Turns.Children.{holds_item}
use Rattle.split_bus.specs.TreeModel.State.Lists.{find_from}
use Rattle.split_bus.proofs.down.down_read.Goals as goal

pub returns-in-Some : goal.returns-in-Some
returns-in-Some g c =
    let ns = map g.C.Agent.value c.args.children.now in
    let found : find_from (holds_item c.args.entry.now.item) 0 ns ≡ Some c.in-Some.k = rw (← c.entry.view_is) (sym c.in-Some.ensures.value) in
    rw found c.read_by_child.ensures
