use Rattle.litmus_model.specs.Refusing.{and_then}
use Rattle.litmus_read.proofs.Givens.{short_typed}
use Rattle.litmus_read.proofs.init.type_length.Goals as goal

pub returns-then-parts-lt2-clause-parts : goal.returns-then-parts-lt2-clause-parts
unfolding and_then
returns-then-parts-lt2-clause-parts c = short_typed c.args.line c.args.parts.now c.if-parts-lt2.true
