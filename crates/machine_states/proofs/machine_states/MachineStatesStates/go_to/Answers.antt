use Rattle.std.proofs.Common.{◌+◌, ◌≤◌, length, ap, ◌∙◌, arith}
use Rattle.any_runs.specs.AnyMachine.Any.{machine_state}
use Rattle.machine_states.proofs.Begins.{begin-none}
use Rattle.machine_states.proofs.States.{at-start, gone-on, start-frame}
use Rattle.machine_states.proofs.machine_states.MachineStatesStates.go_to.Goals as goal

pub copy_roomy-requires-clause-frame : goal.copy_roomy-requires-clause-frame
copy_roomy-requires-clause-frame c = start-frame c.self.inside.made c.self.inside.start c.self.inside.at c.self.inside.reached c.self.invariant

pub copy_roomy-requires-clause-few : goal.copy_roomy-requires-clause-few
copy_roomy-requires-clause-few c = omega (arith, ap length (begin-none c.self.inside.start c.self.invariant.can))

pub make_turns-requires-clause-spare : goal.make_turns-requires-clause-spare
make_turns-requires-clause-spare c =
    omega (arith, c.in_ok-copy_roomy.ensures.room, ap (λ m. length m.ops) c.in_ok-copy_roomy.ensures.copied, ap length (begin-none c.self.inside.start c.self.invariant.can))

pub invariant_of-self-2 : goal.invariant_of-self-2
invariant_of-self-2 c =
    let start = c.self.inside.start in
    let is = c.self.invariant in
    let copy = c.copy_roomy.new.machine in
    let after = c.make_turns.new.machine in
    let ts = c.args.schedule.now in
    let kind = c.in_ok-copy_roomy.ensures.kind ∙ is.gone.kind in
    let begun = at-start 0 start copy is.can kind c.in_ok-copy_roomy.ensures.copied c.in_ok-copy_roomy.ensures.turns in
    let turns : (machine_state after).turns ≤ length ts = omega (arith, c.make_turns.ensures.turns, c.in_ok-copy_roomy.ensures.turns, is.can.turns) in
    let few : 0 + length ts ≤ length ts = omega arith in
    record {
      can = is.can;
      few = c.requires;
      gone = gone-on 0 (length ts) start copy after ts begun few (c.make_turns.ensures.kind ∙ kind) c.make_turns.ensures.ran turns;
      later = is.later;
    }
