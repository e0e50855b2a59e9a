use Rattle.std.proofs.Common.{◌≡◌, ◌<◌, true, length, rules, arith}
use Rattle.std.specs.Prelude.{Err}
use Rattle.std.proofs.lemmas.Bool.Decides.{nat_tests}
use Rattle.std.proofs.lemmas.List.{take_rest}
use Rattle.litmus_model.specs.Tokens.{is_mark}
use Rattle.litmus_read.proofs.NamedTargets.{list_fails, list_read}
use Rattle.litmus_read.proofs.named.behind_locations.Goals as goal

pub returns-in_err-seen-clause-targets : goal.returns-in_err-seen-clause-targets
returns-in_err-seen-clause-targets c =
    let is : c.from_residual.result ≡ Err c.in_err-seen.field-0.0 = search rules in
    let some : 0 < length c.args.tokens.now = grind (arith, nat_tests) in
    let bracket : is_mark 91 c.index-tokens-0.result ≡ true = search rules in
    rw is
    (list_fails c.args.threads c.args.line c.args.tokens.now _ c.index-tokens-0.result c.in_err-seen.field-0.0 some c.index-tokens-0.is (take_rest c.args.tokens.now 1) bracket
    c.in_err-seen.ensures.targets)

pub returns-clause-targets : goal.returns-clause-targets
returns-clause-targets c =
    let some : 0 < length c.args.tokens.now = grind (arith, nat_tests) in
    let bracket : is_mark 91 c.index-tokens-0.result ≡ true = search rules in
    list_read c.args.threads c.args.line c.args.tokens.now _ c.index-tokens-0.result c.in_ok-seen.seen.named.items c.in_ok-seen.seen.tokens some c.index-tokens-0.is
    (take_rest c.args.tokens.now 1) bracket c.in_ok-seen.ensures.targets
