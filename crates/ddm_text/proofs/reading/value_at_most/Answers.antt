use Rattle.std.proofs.Common.{arith}
use Rattle.ddm_text.proofs.Values.{at_most-next}
use Rattle.ddm_text.proofs.reading.value_at_most.Goals as goal
use Rattle.ddm_text.proofs.reading.value_at_most.Goals.{then-most-digit-via-then-most-digit, then-most-digit-via-else-most-digit+then-most-digit-2}

pub returns-then-most-digit : goal.returns-then-most-digit
returns-then-most-digit c =
    let l = c.digits in
    elim c.then-most-digit.branch [
      | then-most-digit-via-then-most-digit w ↦ at_most-next c.args.most l.value l.byte-index c.args.bytes.now (omega arith) l.invariant.rest (omega arith)
      | then-most-digit-via-else-most-digit+then-most-digit-2 w ↦ at_most-next c.args.most l.value l.byte-index c.args.bytes.now (omega arith) l.invariant.rest (omega arith)
    ]
