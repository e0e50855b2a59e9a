use Rattle.std.proofs.Common.{[], ◌≤◌, length, sym, ◌∙◌, arith}
use Rattle.litmus_read.proofs.AtomParts.{long_two}
use Rattle.litmus_read.proofs.operators.operator_of_two.Goals as goal

pub returns-else-tokens-lt2-clause-operator : goal.returns-else-tokens-lt2-clause-operator
returns-else-tokens-lt2-clause-operator c =
    let many : 2 ≤ length c.args.tokens.now = omega (arith, c.if-tokens-lt2.false) in
    sym
    (long_two c.args.tokens.now c.index-tokens-0.result c.index-tokens-1.result many
    ∙ c.operator_of_both.ensures c.index-tokens-1.result.line [])
