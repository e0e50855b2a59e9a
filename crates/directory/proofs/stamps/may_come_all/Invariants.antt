use Rattle.std.proofs.Common.{◌≡◌, ◌-◌, drop, None}
use Rattle.directory.specs.Stamps.{may_come_all}
use Rattle.directory.proofs.stamps.may_come_all.Given as goal

abbrev pub invariant-loop-place : goal.invariant-loop-place
invariant-loop-place g l = may_come_all (l.numbers - 1) l.taken l.present l.last (drop l.place l.down.list) ≡ may_come_all (l.numbers - 1) l.taken l.present None l.down.list
