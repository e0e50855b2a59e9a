use Rattle.std.proofs.Common.{◌≡◌, ◌<◌, true, length, rules, arith}
use Rattle.std.specs.Prelude.{Err, codes}
use Rattle.std.proofs.lemmas.Bool.Decides.{nat_tests}
use Rattle.std.proofs.lemmas.List.{take_rest}
use Rattle.litmus_model.specs.Condition.{is_part_word}
use Rattle.litmus_read.proofs.NamedTargets.{locations_fail, locations_read}
use Rattle.litmus_read.proofs.named.observed_of.Goals as goal

pub returns-in_err-seen-clause-targets : goal.returns-in_err-seen-clause-targets
returns-in_err-seen-clause-targets c =
    let is : c.from_residual.result ≡ Err c.in_err-seen.field-0.0 = search rules in
    let some : 0 < length c.args.tokens.now = grind (arith, nat_tests) in
    let word : is_part_word (codes "locations") c.index-tokens-0.result.part ≡ true = search rules in
    rw is
    (locations_fail c.args.threads c.args.tokens.now _ c.index-tokens-0.result c.index-tokens-0-2.result c.in_err-seen.field-0.0 some c.index-tokens-0.is (take_rest c.args.tokens.now 1) word
    c.in_err-seen.ensures.targets)

pub returns-clause-targets : goal.returns-clause-targets
returns-clause-targets c =
    let some : 0 < length c.args.tokens.now = grind (arith, nat_tests) in
    let word : is_part_word (codes "locations") c.index-tokens-0.result.part ≡ true = search rules in
    locations_read c.args.threads c.args.tokens.now _ c.index-tokens-0.result c.index-tokens-0-2.result c.in_ok-seen.seen.named.items c.in_ok-seen.seen.tokens some c.index-tokens-0.is
    (take_rest c.args.tokens.now 1) word c.in_ok-seen.ensures.targets
