use Rattle.std.proofs.Common.{refl}
use Rattle.tree_model.specs.Computing.{tree_computes}
use Rattle.protocol_table.proofs.laws.worked_turns.Goals as goal

pub returns-clause-one_read : goal.returns-clause-one_read
unfolding tree_computes
returns-clause-one_read c = record { answers_are = refl }

pub returns-clause-one_write : goal.returns-clause-one_write
unfolding tree_computes
returns-clause-one_write c = record { answers_are = refl }

pub returns-clause-joined_read : goal.returns-clause-joined_read
unfolding tree_computes
returns-clause-joined_read c = record { answers_are = refl }

pub returns-clause-pending_erase : goal.returns-clause-pending_erase
unfolding tree_computes
returns-clause-pending_erase c = record { answers_are = refl }
