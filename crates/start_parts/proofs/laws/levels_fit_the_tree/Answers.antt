use Rattle.start_parts.proofs.EachLevel.{level-wide, level-count, level-held}
use Rattle.start_parts.proofs.laws.levels_fit_the_tree.Goals as goal

pub returns-clause-count : goal.returns-clause-count
returns-clause-count c = level-count

pub returns-clause-held : goal.returns-clause-held
returns-clause-held c = level-held

pub returns-clause-wide : goal.returns-clause-wide
returns-clause-wide c = level-wide
