use Rattle.std.proofs.Common.{ap, ◌∙◌, slice_set}
use Rattle.film_parts.proofs.DirWords.{set_at}
use Rattle.film_parts.proofs.buses.present.Goals as goal

pub returns : goal.returns
returns c = λ stamp is. ap (λ s. slice_set s c.args.level c.args.number) is ∙ set_at c.args.level stamp c.args.number c.requires
