use Rattle.std.proofs.Common.{◌≡◌, ◌-◌, length}
use Rattle.std.specs.List.{find, range_with_len}
use Rattle.ddm_tree.specs.TreeRules.Order.Places.{dirs_at}
use Rattle.state_judging.specs.Judged.{stamps_broken}
use Rattle.ddm_tree.proofs.parts.Parts.broken_stamp.Given as goal

abbrev pub invariant-loop-bus : goal.invariant-loop-bus
invariant-loop-bus g l = find (stamps_broken (dirs_at l.self)) (range_with_len l.bus (length l.self.traffic - l.bus)) ≡ find (stamps_broken (dirs_at l.self)) (range_with_len 0 (length l.self.traffic))
