use Rattle.std.proofs.Common.{◌≡◌, ◌∷◌, refl, rules}
use Rattle.std.specs.Prelude.{Err}
use Rattle.litmus_model.specs.Condition.{operator}
use Rattle.litmus_read.specs.Reading.{from_here}
use Rattle.litmus_read.proofs.Readings.{leads_fail}
use Rattle.litmus_read.proofs.proposition.take_operator.Goals as goal

pub returns-in_err-end_atom : goal.returns-in_err-end_atom
returns-in_err-end_atom c =
    let is : c.from_residual.result ≡ Err c.in_err-end_atom.field-0.0 = search rules in
    rw is
    (λ end cs.
    let next = operator c.args.line c.args.operator.now ∷ cs in
    leads_fail (from_here c.args.threads end c.args.reading.now next) (from_here c.args.threads end c.end_atom.new.reading next) (from_here c.args.threads end c.end_atom.new.reading cs)
    c.in_err-end_atom.field-0.0 (c.in_err-end_atom.ensures.atom end next refl))
