-- One try, busy for its reason; an SC fails without its reservation.
use Rattle.std.proofs.Common.{ap, ◌∙◌}
use Rattle.leaf_protocol.specs.BusyLaws.Reasons.{busy_cause}
use Rattle.leaf_protocol.specs.LrScLaws.Failing.{sc_failed}
use Rattle.leaf_protocol.proofs.BusyLaws.Turns.{leaf-step}
use Rattle.leaf_protocol.proofs.LrScLaws.Failing.{leaf-fails}
use Rattle.leaf_protocol.proofs.leaf.Leaf.hart_turn.Goals as goal

pub returns-clause-busy : goal.returns-clause-busy
returns-clause-busy g c = ap busy_cause c.hart_turn_into.ensures.answer ∙ leaf-step c.args.code.now c.args.items.now c.args.now c.args.victim c.args.self.now

pub returns-clause-failing : goal.returns-clause-failing
returns-clause-failing g c = ap sc_failed c.hart_turn_into.ensures.answer ∙ leaf-fails c.args.code.now c.args.items.now c.args.now c.args.victim c.args.self.now
