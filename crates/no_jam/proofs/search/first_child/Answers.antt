use Rattle.std.proofs.Common.{sym, ◌∙◌, arith}
use Rattle.any_machine.specs.Any.{machine_state}
use Rattle.jam_laws.specs.GoesOn.{would_grant}
use Rattle.no_jam.specs.Asked.{child_turn}
use Rattle.no_jam.proofs.Searching.{found-past}
use Rattle.no_jam.proofs.search.first_child.Goals as goal

pub loop-child-preserved : goal.loop-child-preserved
loop-child-preserved c =
    found-past (would_grant (machine_state c.args.machine.now).machine) (child_turn c.args.asked.now c.args.bus) _ c.loop-child.child c.args.kids (omega (arith, c.loop-child-test.true)) (sym c.child_goes.ensures ∙ c.if-child_goes.false) c.loop-child.invariant
