use Rattle.std.proofs.Common.{◌≡◌, map, ◌++◌, take, drop}
use Rattle.rv_flat.specs.FlatModel.Flat.{without_reserved}
use Rattle.rv_flat.proofs.flat_hart.free_all.Given as goal

abbrev pub invariant-loop-hart : goal.invariant-loop-hart
invariant-loop-hart l = l.hart-items ≡ map (without_reserved l.item) (take l.hart-index l.initial.hart-items) ++ drop l.hart-index l.initial.hart-items
