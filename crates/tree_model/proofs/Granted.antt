-- A grant, save where a list is full.
use Rattle.std.proofs.Common.{◌≡◌, Some, None, refl}
use Rattle.tree_model.specs.DdmTypes.declared.answers.QueueName.{QueueName}
use Rattle.tree_model.specs.DdmTypes.declared.answers.BusyCause.TheVariants.{QueueFull}
use Rattle.tree_model.specs.Turns.Grant.{Grant, granted, refused, unless_full}

pub unless_full-none : (g : Grant) → unless_full None g ≡ granted g
unfolding unless_full
unless_full-none g = refl

pub unless_full-some : (list : QueueName) (g : Grant) → unless_full (Some list) g ≡ refused (QueueFull list)
unfolding unless_full
unless_full-some list g = refl
