use Rattle.std.proofs.Common.{◌≡◌, ◌++◌, drop}
use Rattle.film_model.specs.Leaf.{register_part}
use Rattle.film_model.specs.Part.{numbered}
use Rattle.film_parts.proofs.leaves.add_registers.Given as goal

abbrev pub invariant-registers : goal.invariant-registers
invariant-registers l = l.still ++ numbered (register_part l.leaf) l.number (drop l.number l.registers) ≡ l.fn.still ++ numbered (register_part l.leaf) 1 (drop 1 l.registers)
