-- A machine at rest that shows a flat machine: each copy has its words, and each leaf its hart and its reservation.
-- Letters: f is a flat machine, h a hart, x an item.
-- To be believed with the laws: it is what they speak of.
use Rattle.std.specs.Prelude.{◌≡◌, ℕ, Bool, true, false, nat_eq, length, Option, Some, None}
use Rattle.bus_laws.specs.FlatModel.Flat.{FlatMachine, flat_hart, item_words}
use Rattle.serving_model.specs.TreeModel.State.Values.{MachineValue}
use Rattle.serving_model.specs.TreeModel.State.Shape.{IsShaped}
use Rattle.serving_model.specs.TreeRules.Bus.Rules.{IsMachineOk, items_of_machine}
use Rattle.serving_model.specs.Rest.{is_at_rest, has_room}
use Rattle.serving_model.specs.Parts.{FlatView, AllHave}

abbrev pub same_reservation : Option ℕ → Option ℕ → Bool
same_reservation None None = true
same_reservation (Some x) (Some y) = nat_eq x y
same_reservation _ _ = false

-- each leaf has the reservation of its hart
abbrev pub view : FlatMachine → FlatView
view f = record { words = item_words f; hart = λ h. (flat_hart f h).hart; may_reserve = λ h r. same_reservation (flat_hart f h).reserved r }

pub record Shows (m : MachineValue) (f : FlatMachine) : Type 0 where
  pub shaped : IsShaped m
  pub rules : IsMachineOk m
  pub rests : is_at_rest m ≡ true
  pub room : has_room m ≡ true
  pub leaves : AllHave (view f) m.kids
  pub words : length f.words ≡ items_of_machine m
