use Rattle.std.proofs.Common.{◌≡◌, drop, length}
use Rattle.std.specs.List.{range_with_len}
use Rattle.state_judging.specs.Judged.{broken_among}
use Rattle.ddm_tree.proofs.parts.Parts.broken_rule.Given as goal

abbrev pub invariant-loop-bus : goal.invariant-loop-bus
invariant-loop-bus g l = broken_among l.fn.self (range_with_len 0 (length l.fn.self.traffic)) ≡ broken_among l.fn.self (drop l.bus (range_with_len 0 (length l.fn.self.traffic)))
