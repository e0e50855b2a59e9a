use Rattle.std.proofs.Common.{◌∙◌}
use Rattle.ddm_cli.specs.AnyMachine.Any.{machine_state}
use Rattle.ddm_cli.proofs.RunsInPieces.{answers_match}
use Rattle.ddm_cli.proofs.making.make_turns.Goals as goal

pub push_trace-requires : goal.push_trace-requires
push_trace-requires c = answers_match c.args.keep c.clear.new.self.items c.deref.result.now c.args.turns.now (machine_state c.args.machine.now).machine c.if-keep.true c.clear.ensures.items (c.deref.ensures.value ∙ c.in_ok-counts.ensures.answers)
