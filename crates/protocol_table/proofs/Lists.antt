-- A full list refuses alike, as the machine says it and as a row does; and a test that is known picks its row.
use Rattle.std.proofs.Common.{◌≡◌, Bool, true, false, Option, Some, None, refl}
use Rattle.std.specs.Prelude.{if◌then◌else◌}
use Rattle.protocol_table.specs.DdmTypes.declared.answers.QueueName.{QueueName}
use Rattle.tree_model.specs.Turns.Grant.{Grant, Judged, unless_full}
use Rattle.protocol_table.specs.Row.{unless_missing, full}

pub lists : (list : Option QueueName) (g : Grant) → unless_full list g ≡ unless_missing (full list) g
unfolding unless_full
lists None g = refl
lists (Some q) g = refl

pub taken : (b : Bool) (a d : Judged) → b ≡ true → a ≡ (if b then a else d)
taken true a d e = refl
taken false a d e = cc

pub skipped : (b : Bool) (a d : Judged) → b ≡ false → d ≡ (if b then a else d)
skipped true a d e = cc
skipped false a d e = refl
