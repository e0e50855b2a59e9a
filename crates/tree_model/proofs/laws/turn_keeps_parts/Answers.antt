use Rattle.tree_model.proofs.BusKeeps.{bus_step-keeps}
use Rattle.tree_model.proofs.HartKeeps.{leaf_step-keeps}
use Rattle.tree_model.proofs.laws.turn_keeps_parts.Goals as goal

pub returns-clause-bus : goal.returns-clause-bus
returns-clause-bus c = λ above t p ns. bus_step-keeps above p ns t

pub returns-clause-hart : goal.returns-clause-hart
returns-clause-hart c = leaf_step-keeps
