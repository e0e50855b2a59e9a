use Rattle.std.proofs.Common.{◌≡◌, ◌++◌, drop}
use Rattle.litmus_model.specs.Image.{code_bytes}
use Rattle.litmus_image.proofs.assembling.push_words.Given as goal

abbrev pub invariant-loop-instr : goal.invariant-loop-instr
invariant-loop-instr l = l.fn.bytes.items ++ code_bytes l.code ≡ l.bytes.items ++ code_bytes (drop l.instr-index l.code)
