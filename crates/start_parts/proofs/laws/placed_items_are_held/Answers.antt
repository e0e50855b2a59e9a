use Rattle.start_parts.proofs.LevelsHeld.{leaves-held, dirs-held}
use Rattle.start_parts.proofs.StartNew.{kids-held}
use Rattle.start_parts.proofs.laws.placed_items_are_held.Goals as goal

pub returns-clause-leaves : goal.returns-clause-leaves
returns-clause-leaves c = leaves-held

pub returns-clause-over : goal.returns-clause-over
returns-clause-over c = dirs-held

pub returns-clause-all : goal.returns-clause-all
returns-clause-all c = kids-held
