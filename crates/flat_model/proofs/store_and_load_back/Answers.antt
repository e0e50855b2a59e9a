use Rattle.flat_model.proofs.Programs.{store_and_load_legal}
use Rattle.flat_model.proofs.store_and_load_back.Goals as goal

pub returns-clause-legal : goal.returns-clause-legal
returns-clause-legal c = store_and_load_legal
