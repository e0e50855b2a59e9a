-- The machine that a tree and an image start.
use Rattle.std.proofs.Common.{◌≡◌, None, Ok, refl}
use Rattle.ddm_cli.specs.TreeModel.Start.Sources.{TreeValue, ImageValue}
use Rattle.ddm_cli.specs.TreeModel.Start.Machine.{start_machine, start_of, start_refusal}

pub starts : (t : TreeValue) (i : ImageValue) → start_refusal t i ≡ None → start_of t i ≡ Ok (start_machine t i)
unfolding start_of
starts t i accepted = rw accepted refl
