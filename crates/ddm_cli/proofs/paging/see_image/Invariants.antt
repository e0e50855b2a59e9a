use Rattle.std.proofs.Common.{◌<◌, take}
use Rattle.std.specs.List.{AllByRecursion}
use Rattle.ddm_cli.specs.TreeModel.Start.Sources.{SegmentValue}
use Rattle.ddm_cli.proofs.paging.see_image.Given as goal

abbrev pub invariant-segments : goal.invariant-segments
invariant-segments l = AllByRecursion (λ (s : SegmentValue). AllByRecursion (λ byte. byte < 256) s.bytes) (take l.segment-index l.fn.image.segments)
