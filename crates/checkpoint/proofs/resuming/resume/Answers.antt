use Rattle.std.proofs.Common.{length, ap, arith}
use Rattle.std.proofs.lemmas.Bool.Decides.{nat_tests}
use Rattle.checkpoint.specs.AnyMachine.Any.{machine_state}
use Rattle.checkpoint.proofs.Bytes.{words-many}
use Rattle.checkpoint.proofs.Verdicts.{accepted-at-end, by-head, not-memory, refused-behind-end, refused-by-state}
use Rattle.checkpoint.proofs.resuming.resume.Goals as goal

pub read_state-requires-clause-few : goal.read_state-requires-clause-few
read_state-requires-clause-few c = omega (arith, ap length c.words.ensures, words-many c.args.file.now, c.in-Ok.ensures.short)

pub returns-in-Err-clause-refused : goal.returns-in-Err-clause-refused
returns-in-Err-clause-refused c =
    λ other. by-head (machine_state c.args.fresh).machine c.args.file.now c.sizes.result c.sizes.ensures c.in-Err.refusal c.in-Err.ensures.refused

pub returns-then-from-len-clause-refused : goal.returns-then-from-len-clause-refused
returns-then-from-len-clause-refused c =
    λ other. refused-behind-end (machine_state c.args.fresh).machine c.args.file.now c.sizes.result c.words.result.now (record { sizes = c.sizes.ensures; head = c.in-Ok.ensures.ok; words = c.words.ensures }) _ c.in-Ok-read_state.ensures.ok (grind (arith, nat_tests, c.if-from-len.true, c.from.ensures, c.len.ensures))

pub returns-else-from-len-clause-ok : goal.returns-else-from-len-clause-ok
returns-else-from-len-clause-ok c =
    accepted-at-end (machine_state c.args.fresh).machine c.args.file.now c.sizes.result c.words.result.now (record { sizes = c.sizes.ensures; head = c.in-Ok.ensures.ok; words = c.words.ensures }) c.in-Ok.counts c.in-Ok.ensures.counts _ c.in-Ok-read_state.ensures.ok (grind (arith, nat_tests, c.if-from-len.false, c.from.ensures, c.len.ensures))

pub returns-in-Err-read_state-clause-refused : goal.returns-in-Err-read_state-clause-refused
returns-in-Err-read_state-clause-refused c =
    let m = (machine_state c.args.fresh).machine in
    let e = c.in-Err-read_state.refusal in
    rw c.file_refusal.ensures (λ other. refused-by-state m c.args.file.now c.sizes.result c.words.result.now (record { sizes = c.sizes.ensures; head = c.in-Ok.ensures.ok; words = c.words.ensures }) e (c.in-Err-read_state.ensures.refused (not-memory e other)))
