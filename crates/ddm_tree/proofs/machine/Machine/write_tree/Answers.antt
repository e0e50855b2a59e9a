use Rattle.ddm_tree.specs.DdmText.Adds.{◌▸◌}
use Rattle.ddm_tree.proofs.machine.Machine.write_tree.Goals as goal

pub returns-clause-ok : goal.returns-clause-ok
returns-clause-ok g c = c.in_ok-write_harts.ensures.ok ▸ c.in_ok-write_buses.ensures.ok ▸ c.in_ok-write_leaves.ensures.ok
