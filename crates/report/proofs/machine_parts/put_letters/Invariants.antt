use Rattle.std.proofs.Common.{◌≡◌}
use Rattle.report.proofs.Letters.{letters_of}
use Rattle.report.proofs.machine_parts.put_letters.Given as goal

abbrev pub invariant-loop-leaf : goal.invariant-loop-leaf
invariant-loop-leaf l = l.letters ≡ letters_of l.leaf l.states
