use Rattle.std.proofs.Common.{◌≤◌, length, arith}
use Rattle.litmus_read.specs.Final.{final_from}
use Rattle.litmus_read.specs.Kept.{program_from}
use Rattle.litmus_test.proofs.Sounds.{whole_test}
use Rattle.litmus_test.proofs.reading.judged_test.Goals as goal

pub returns-clause-test : goal.returns-clause-test
returns-clause-test c =
    let few_seen : length c.in_ok-observed.observed.items ≤ 64 = omega (arith, c.if-targets-gt64.false, c.in_ok-targets.ensures, c.len.ensures, c.in_ok-observed.observed.ok.0) in
    let few_named : length c.in_ok-locations.locations.items ≤ 256 = omega (arith, c.if-names-gt256.false, c.in_ok-names.ensures, c.len-2.ensures, c.in_ok-locations.locations.ok.0) in
    whole_test c.args.name.items (program_from c.args.program) c.args.init.items (final_from c.args.last) c.in_ok-observed.observed.items c.in_ok-locations.locations.items
    (rw (c.deref.ensures.value, c.deref-2.ensures.value) at c.in_ok-observed.ensures) (rw (c.deref-3.ensures.value, c.deref-4.ensures.value, c.deref-5.ensures.value) at c.in_ok-locations.ensures) few_seen few_named
