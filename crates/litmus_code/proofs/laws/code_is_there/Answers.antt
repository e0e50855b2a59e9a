use Rattle.litmus_code.proofs.Listed.{code-is-there}
use Rattle.litmus_code.proofs.Threads.{leaves-are-there, threads-are-there}
use Rattle.litmus_code.proofs.laws.code_is_there.Goals as goal

pub returns : goal.returns
returns c = record { code = code-is-there; leaves = leaves-are-there; threads = threads-are-there }
