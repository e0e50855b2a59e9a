use Rattle.std.proofs.Common.{rules}
use Rattle.schedule_log.proofs.Behind.{rest_is}
use Rattle.schedule_log.proofs.reading.hold_rest.Goals as goal

pub returns-clause-ok : goal.returns-clause-ok
returns-clause-ok c = λ h. rest_is c.args.held.now.items c.args.behind.now c.extend_from_slice.new.self.items c.drop_front.new.bytes.items c.args.count c.saturating_sub-passed.result (search rules) (search rules) (search rules)
