use Rattle.ddm_cli.specs.AnyMachine.Any.{machine_state}
use Rattle.ddm_cli.proofs.Rests.{refusal_caused}
use Rattle.ddm_cli.proofs.resuming.resumed.Goals as goal

pub returns-in-Err-clause-cause : goal.returns-in-Err-clause-cause
returns-in-Err-clause-cause c = rw c.refused.ensures (refusal_caused (machine_state c.args.fresh).machine c.args.file.now c.in-Err.refusal c.in-Err.ensures.refused)
