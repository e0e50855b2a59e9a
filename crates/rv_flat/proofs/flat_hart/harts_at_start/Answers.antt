use Rattle.std.proofs.Common.{arith}
use Rattle.std.proofs.lemmas.Grind.{common_steps}
use Rattle.std.proofs.lemmas.List.FromFn.{map-range_with_len_more}
use Rattle.rv_flat.specs.FlatModel.Flat.{flat_hart_start}
use Rattle.rv_flat.proofs.flat_hart.harts_at_start.Goals as goal

pub loop-hart-preserved : goal.loop-hart-preserved
loop-hart-preserved c = rw (map-range_with_len_more (flat_hart_start c.args.start) 0 c.loop-hart.hart c.loop-hart.hart (omega arith)) (grind (arith, common_steps))
