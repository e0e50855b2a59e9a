use Rattle.std.proofs.Common.{◌≡◌, length, take}
use Rattle.rv_flat.proofs.flat_hart.with_count_anew.Given as goal

abbrev pub invariant-loop-number : goal.invariant-loop-number
invariant-loop-number l = (length l.registers ≡ 32) × (take l.number l.registers ≡ take l.number l.hart.hart.registers)
