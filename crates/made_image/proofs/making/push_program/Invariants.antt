use Rattle.std.proofs.Common.{◌≡◌, ◌++◌, drop}
use Rattle.made_image.specs.MadeImage.{program_bytes}
use Rattle.made_image.proofs.making.push_program.Given as goal

abbrev pub invariant-loop-instr : goal.invariant-loop-instr
invariant-loop-instr l = l.fn.code.items ++ program_bytes l.program ≡ l.code.items ++ program_bytes (drop l.instr-index l.program)
