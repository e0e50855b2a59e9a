-- A machine of which a turn can name each way and each copy that may leave.
-- Letters: m is a machine.
-- To be believed with the contracts: they speak of it.
use Rattle.std.specs.Prelude.{◌≡◌, ℕ, Bool, true, ◌&&◌, nat_eq, nat_le}
use Rattle.tree_model.specs.Laws.{IsWithin}
use Rattle.tree_model.specs.State.Shape.{Skeleton, Skeletons, leaf_bone, dir_bone, no_bones, more_bones, skeleton}
use Rattle.tree_model.specs.State.Values.{MachineValue, root_of}

abbrev mutual
  -- each leaf has so many ways, and no more than 255 copies have room in the buffer of a leaf or in the parking of a
  -- directory
  pub few_places : ℕ → Skeleton → Bool
  few_places ways (leaf_bone number sizes) = nat_eq sizes.way_count ways && nat_le sizes.buffer_room 255
  few_places ways (dir_bone bus level sizes bones) = nat_le sizes.parking_room 255 && few_places_among ways bones

  pub few_places_among : ℕ → Skeletons → Bool
  few_places_among ways no_bones = true
  few_places_among ways (more_bones b bs) = few_places ways b && few_places_among ways bs

-- and each list is within its room
pub record HasFewPlaces (ways : ℕ) (m : MachineValue) : Type 0 where
  pub few : few_places ways (skeleton (root_of m)) ≡ true
  pub items : ℕ
  pub within : IsWithin items m
