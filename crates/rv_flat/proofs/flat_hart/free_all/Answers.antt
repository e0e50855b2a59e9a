use Rattle.std.proofs.Common.{arith, ap, ◌∙◌, slice_set}
use Rattle.rv_flat.specs.FlatModel.Flat.{FlatHart, without_reserved}
use Rattle.rv_flat.proofs.Lists.{mapped_more}
use Rattle.rv_flat.proofs.flat_hart.free_all.Goals as goal

pub loop-hart-preserved : goal.loop-hart-preserved
loop-hart-preserved c =
    ap (λ (g : FlatHart). slice_set c.loop-hart.hart-items c.loop-hart.hart-index g) c.free.ensures
    ∙ mapped_more (without_reserved c.args.item) c.args.harts.now c.loop-hart.hart-items c.loop-hart.hart-index c.hart-item.result (omega arith) c.loop-hart.invariant
