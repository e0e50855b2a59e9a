use Rattle.std.proofs.Common.{rules, subst}
use Rattle.hart_tests.specs.RvHart.Steps.{IsReady}
use Rattle.hart_tests.proofs.RvHart.Ready.{ready_unless_halt}
use Rattle.hart_tests.proofs.with_rv_hart.finished.Goals as goal

pub finish-effect-requires : goal.finish-effect-requires
finish-effect-requires c =
    let ready = subst IsReady c.ask.ensures (ready_unless_halt _ c.in_default.not-Halt) in
    (search rules, (search rules, (ready, (search rules, search rules))))
