use Rattle.std.proofs.Common.{◌≡◌, map}
use Rattle.std.specs.List.{range_with_len}
use Rattle.rv_flat.specs.FlatModel.Flat.{flat_hart_start}
use Rattle.rv_flat.proofs.flat_hart.harts_at_start.Given as goal

abbrev pub invariant-loop-hart : goal.invariant-loop-hart
invariant-loop-hart l = l.harts.items ≡ map (flat_hart_start l.start) (range_with_len 0 l.hart)
