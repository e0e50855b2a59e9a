use Rattle.std.proofs.Common.{◌∷◌, [], length, ap, arith}
use Rattle.std.proofs.lemmas.List.{length-append}
use Rattle.ddm_cli.proofs.Numbers.{no_numbers, one_number_more}
use Rattle.ddm_cli.proofs.refusal_lines.push_numbers.Goals as goal

pub loop-number-init : goal.loop-number-init
loop-number-init c = record { text = no_numbers c.args.line.now c.args.numbers.now; short = omega arith }

pub loop-number-preserved : goal.loop-number-preserved
loop-number-preserved c = record {
  text = one_number_more c.args.line.now c.loop-number.line c.push.new.self c.push_number.new.self c.args.numbers.now c.loop-number.number-index _ c.loop-number-test.true c.loop-number.invariant.text c.push.ensures c.push_number.ensures.digits;
  short = omega (arith, c.loop-number.invariant.short, c.push_number.ensures.short, ap length c.push.ensures, length-append c.loop-number.line (32 ∷ []));
}
