-- What the parent of a bus is once an erase of one of its children was granted.
use Rattle.std.proofs.Common.{◌≡◌, ℕ, Bool, true, false, List, refl}
use Rattle.std.specs.Prelude.{if◌then◌else◌}
use Rattle.split_bus.specs.DdmTypes.declared.answers.TxKind.TheVariants.{EraseTx, ExclusiveTx}
use Rattle.split_bus.specs.DdmTypes.declared.keys.Stamp.{Stamp}
use Rattle.split_bus.specs.TreeModel.State.Values.{up_erase, DirValue, Node}
use Rattle.split_bus.specs.TreeModel.State.Leaf.{blank}
use Rattle.split_bus.specs.TreeModel.State.Directory.{counted, pushed_down, pushed_request, with_note}
use Rattle.split_bus.specs.TreeModel.Turns.RequestErase.{erase_noted}

module _ (above : Stamp) (c x : ℕ) (p : DirValue) (ns : List Node) where
  pub erase-sent : (exclusive : Bool) → (if exclusive then pushed_down ExclusiveTx x (blank p.sizes.width) above (with_note x (up_erase c) (counted p)) else pushed_request EraseTx x (with_note x (up_erase c) (counted p))) ≡ erase_noted above c x p ns exclusive
  erase-sent true = refl
  erase-sent false = refl

  pub erase-bus : (exclusive : Bool) → (erase_noted above c x p ns exclusive).bus ≡ p.bus
  erase-bus true = refl
  erase-bus false = refl
