use Rattle.std.proofs.Common.{◌<◌, length, sym, ap, ◌∙◌, arith}
use Rattle.std.proofs.lemmas.Bool.Decides.{nat_tests}
use Rattle.std.proofs.lemmas.List.{take_rest}
use Rattle.litmus_model.specs.Words.{value_of}
use Rattle.litmus_read.proofs.Givens.{some_value}
use Rattle.litmus_read.proofs.init.given_value.Goals as goal

pub returns-else-is_empty : goal.returns-else-is_empty
returns-else-is_empty c =
    let some : 0 < length c.args.parts.now = grind (arith, nat_tests) in
    c.value_of.ensures ∙ ap (value_of c.args.line) (take_rest c.args.parts.now 1) ∙ sym (some_value c.args.line c.args.parts.now some)
