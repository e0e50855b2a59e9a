use Rattle.std.proofs.Common.{length, sym, ap, ◌∙◌}
use Rattle.schedule_log.specs.Seeding.{SeededView}
use Rattle.schedule_log.proofs.Seeds.{left_counted}
use Rattle.schedule_log.proofs.seeding.SeededTurns.len.Goals as goal

pub returns : goal.returns
returns c = sym (left_counted _ c.self.inside.words c.self.inside.left) ∙ ap (λ (v : SeededView). length v.left) c.self.view_is
