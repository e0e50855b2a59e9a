use Rattle.std.proofs.Common.{map}
use Rattle.std.specs.String.{string_bytes}
use Rattle.asked_commands.proofs.FromClauses.{run-held}
use Rattle.asked_commands.proofs.asked.ask_in_memory.Goals as goal

pub returns : goal.returns
returns c = run-held (map string_bytes c.args.words.now) c.args.files.now c.ddm_main.new.files c.args.out.now c.ddm_main.new.out c.ddm_main.new.out.full c.ddm_main.result c.ddm_main.ensures.came c.ddm_main.ensures.complete
