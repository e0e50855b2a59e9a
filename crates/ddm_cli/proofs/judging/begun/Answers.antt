use Rattle.std.proofs.Common.{ap}
use Rattle.ddm_cli.specs.TreeModel.Start.Sources.{TreeValue}
use Rattle.ddm_cli.proofs.Settings.{many_answered, overlap_answered}
use Rattle.ddm_cli.proofs.judging.begun.Goals as goal

pub returns-in-Err-TooManyItems-clause-cause : goal.returns-in-Err-TooManyItems-clause-cause
returns-in-Err-TooManyItems-clause-cause c = (
  tt,
  many_answered c.args.tree.now c.args.image.now c.harts_start.result c.tree.inside.item_bytes c.harts_start.ensures.start (ap (λ (t : TreeValue). t.item_bytes) c.tree.view_is) c.in-Err-TooManyItems.count (rw c.in-Err-TooManyItems.field-0-is at c.in-Err-TooManyItems.ensures.refused),
)

pub returns-in-Err-StackOverlap-clause-cause : goal.returns-in-Err-StackOverlap-clause-cause
returns-in-Err-StackOverlap-clause-cause c = (
  tt,
  overlap_answered c.args.tree.now c.args.image.now c.harts_start.result c.tree.inside.item_bytes c.harts_start.ensures.start (ap (λ (t : TreeValue). t.item_bytes) c.tree.view_is) c.in-Err-StackOverlap.hart c.in-Err-StackOverlap.header
      (rw c.in-Err-StackOverlap.field-0-is at c.in-Err-StackOverlap.ensures.refused),
)
