use Rattle.std.proofs.Common.{◌≡◌, ◌<◌, length, rules, arith}
use Rattle.std.specs.Prelude.{Err}
use Rattle.std.proofs.lemmas.Bool.Decides.{nat_tests}
use Rattle.std.proofs.lemmas.List.{take_rest}
use Rattle.litmus_read.proofs.Quantifiers.{badly_asked, well_asked}
use Rattle.litmus_read.proofs.quantifier.quantifier_of.Goals as goal

pub returns-in_err-asked-clause-asked : goal.returns-in_err-asked-clause-asked
returns-in_err-asked-clause-asked c =
    let is : c.from_residual.result ≡ Err c.in_err-asked.field-0.0 = search rules in
    let some : 0 < length c.args.tokens.now = grind (arith, nat_tests) in
    rw is
    (badly_asked c.args.end c.args.tokens.now _ c.index-tokens-0.result c.in_err-asked.field-0.0 some c.index-tokens-0.is (take_rest c.args.tokens.now 1) c.in_err-asked.ensures.asked)

pub returns-clause-asked : goal.returns-clause-asked
returns-clause-asked c =
    let some : 0 < length c.args.tokens.now = grind (arith, nat_tests) in
    well_asked c.args.end c.args.tokens.now _ c.index-tokens-0.result c.in_ok-asked.asked.quantifier c.in_ok-asked.asked.tokens some c.index-tokens-0.is (take_rest c.args.tokens.now 1)
    c.in_ok-asked.ensures.asked
