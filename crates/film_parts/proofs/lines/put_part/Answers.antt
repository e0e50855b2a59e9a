use Rattle.film_parts.proofs.PartsPut.{part_stays}
use Rattle.film_parts.proofs.lines.put_part.Goals as goal

pub returns-then-is_there-clause-still : goal.returns-then-is_there-clause-still
returns-then-is_there-clause-still c = part_stays c.args.still.now c.args.parts.now c.args.place c.args.at (c.is_there.ensures c.if-is_there.true)
