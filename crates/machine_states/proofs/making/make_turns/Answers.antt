use Rattle.std.proofs.Common.{◌+◌, sym, ap, subst, ◌∙◌}
use Rattle.any_runs.specs.AnyMachine.Any.{machine_state}
use Rattle.any_runs.specs.AnyMachine.Kind.{kind_of}
use Rattle.machine_states.proofs.LeftOut.{HaveMade, none-made, one-made, one-left_out}
use Rattle.machine_states.proofs.Places.{got-own}
use Rattle.machine_states.proofs.making.make_turns.Goals as goal
use Rattle.machine_states.proofs.making.make_turns.Goals.{then-names, else-names}

pub loop-turn-init : goal.loop-turn-init
loop-turn-init c = none-made c.args.turns.now c.args.machine.now

pub loop-turn-preserved : goal.loop-turn-preserved
loop-turn-preserved c =
    let ts = c.args.turns.now in
    let before = c.args.machine.now in
    let here = c.loop-turn.machine in
    let k = c.loop-turn.turn-index in
    let t = c.turn-item.result in
    let there = got-own ts k t c.loop-turn-test.true c.turn-item.is in
    elim c.if-names.branch [
      | then-names w ↦ one-made ts before here k c.loop-turn.invariant t there c.if-names.machine (ap machine_state w.machine-is ∙ w.run_spared.ensures.after) (ap kind_of w.machine-is ∙ w.run_spared.ensures.kind)
      | else-names w ↦ subst (λ m. HaveMade ts before m (k + 1)) (sym w.machine-is) (one-left_out ts before here k c.loop-turn.invariant t there (sym c.names.ensures ∙ w.if-names.false))
    ]
