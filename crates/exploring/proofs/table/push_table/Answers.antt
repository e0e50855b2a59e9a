use Rattle.schedule_log.specs.DdmText.Adds.{◌▸◌}
use Rattle.exploring.specs.SearchModel.Explored.{explored_text}
use Rattle.exploring.proofs.table.push_table.Goals as goal

pub returns : goal.returns
unfolding explored_text
returns c s is =
    c.in_ok-push_first.ensures s is ▸ c.in_ok-push_found.ensures s is ▸ c.in_ok-push_jams.ensures s is ▸ c.in_ok-push_lost.ensures s is ▸ c.in_ok-push_bytes.ensures
