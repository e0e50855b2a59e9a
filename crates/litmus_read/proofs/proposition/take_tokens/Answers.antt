use Rattle.std.proofs.Common.{◌≡◌, sym, ap, drop, rules}
use Rattle.std.specs.Prelude.{Err}
use Rattle.litmus_model.specs.Condition.{chunks_of}
use Rattle.litmus_read.specs.Reading.{from_here}
use Rattle.litmus_read.proofs.Readings.{one_taken_by, takes_fail, two_taken_by}
use Rattle.litmus_read.proofs.proposition.take_tokens.Goals as goal

pub returns-in_err-take_operator-clause-taken : goal.returns-in_err-take_operator-clause-taken
returns-in_err-take_operator-clause-taken c =
    let is : c.from_residual.result ≡ Err c.in_err-take_operator.field-0.0 = search rules in
    rw is
    (λ end.
    takes_fail _ _ (from_here c.args.threads end c.take_operator.new.reading (chunks_of (drop 2 c.args.tokens.now)))
    (λ count. from_here c.args.threads end c.take_operator.new.reading (chunks_of (drop count c.args.tokens.now))) c.in_err-take_operator.field-0.0
    (ap (from_here c.args.threads end c.args.reading.now) (two_taken_by c.args.tokens.now c.index-tokens-0.result c.in-Some.operator c.index-tokens-0.is (sym c.in-Some.ensures.operator)))
    (c.in_err-take_operator.ensures end (chunks_of (drop 2 c.args.tokens.now))))

pub returns-in_err-take_operator-in-Some-operator_of-clause-taken : goal.returns-in_err-take_operator-in-Some-operator_of-clause-taken
returns-in_err-take_operator-in-Some-operator_of-clause-taken c =
    let is : c.from_residual-in_err-take_operator-in-Some-operator_of.result ≡ Err c.in_err-take_operator-in-Some-operator_of.field-0.0 = search rules in
    rw is
    (λ end.
    takes_fail _ _ (from_here c.args.threads end c.take_operator-in-Some-operator_of.new.reading (chunks_of (drop 1 c.args.tokens.now)))
    (λ count. from_here c.args.threads end c.take_operator-in-Some-operator_of.new.reading (chunks_of (drop count c.args.tokens.now))) c.in_err-take_operator-in-Some-operator_of.field-0.0
    (ap (from_here c.args.threads end c.args.reading.now)
    (one_taken_by c.args.tokens.now c.index-tokens-0.result c.in-Some-operator_of.operator c.index-tokens-0.is c.requires (sym c.in_default.ensures.operator) (sym c.in-Some-operator_of.ensures)))
    (c.in_err-take_operator-in-Some-operator_of.ensures end (chunks_of (drop 1 c.args.tokens.now))))
