use Rattle.std.proofs.Common.{◌≡◌, true, false, map, sym, ◌∙◌}
use Rattle.split_bus.specs.TreeModel.State.Directory.{is_top}
use Rattle.split_bus.proofs.Found.{none-before}
use Rattle.split_bus.proofs.leave.leave_taker.Goals as goal

pub returns-then-is_top : goal.returns-then-is_top
returns-then-is_top g c =
    let top : is_top (g.P.Parent.state c.args.parent.now) ≡ true = sym c.is_top.ensures ∙ c.if-is_top.true in
    rw (← c.in_default.ensures.value, ← c.in-None.ensures.value, top) c.find-then-is_top.ensures.value

pub returns-else-is_top : goal.returns-else-is_top
returns-else-is_top g c =
    let top : is_top (g.P.Parent.state c.args.parent.now) ≡ false = sym c.is_top.ensures ∙ c.if-is_top.false in
    rw (← c.in_default.ensures.value, ← c.in-None.ensures.value, top) (sym (none-before c.args.c c.args.item 0 (map g.C.Agent.value c.args.children.now)))
