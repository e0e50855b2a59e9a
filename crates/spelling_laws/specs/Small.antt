-- A machine of which there are so few items, leaves, buses, places and operations that their numbers are words of a checkpoint.
-- To be believed with the laws: it is what they speak of.
use Rattle.std.specs.Prelude.{◌≡◌, ◌/◌, ℕ, Bool, true, nat_lt, ◌&&◌, length}
use Rattle.spelling_laws.specs.TreeModel.State.Values.{MachineValue, root_of}
use Rattle.spelling_laws.specs.TreeModel.State.Shape.{Skeleton, Skeletons, leaf_bone, dir_bone, no_bones, more_bones, skeleton, tree_counts}
use Rattle.spelling_laws.specs.TreeModel.Start.Sources.{TreeValue}
use Rattle.spelling_laws.specs.TreeRules.Bus.Rules.{items_of_machine}
use Rattle.value_laws.specs.Values.{IsWord}

abbrev pub is_word : ℕ → Bool
is_word n = nat_lt n 4294967296

-- how many ways a set has, and how many places each list has, are words
abbrev mutual
  pub rooms_small : Skeleton → Bool
  rooms_small (leaf_bone number sizes) = is_word sizes.way_count && (is_word sizes.buffer_room && is_word sizes.reply_room)
  rooms_small (dir_bone bus level sizes bones) =
      (is_word sizes.down_room
      && (is_word sizes.request_room && (is_word sizes.reply_room && is_word sizes.parking_room)))
      && rooms_small_among bones

  pub rooms_small_among : Skeletons → Bool
  rooms_small_among no_bones = true
  rooms_small_among (more_bones b bs) = rooms_small b && rooms_small_among bs

pub record IsSmall (m : MachineValue) : Type 0 where
  pub items : IsWord (items_of_machine m)
  pub item_words : IsWord (m.items.size / 4)
  pub leaves : IsWord (tree_counts m).leaves
  pub buses : IsWord (tree_counts m).buses
  pub rooms : rooms_small (skeleton (root_of m)) ≡ true
  pub ops : IsWord (length m.ops)

-- the sizes of a tree are words
pub record HasSmallSizes (t : TreeValue) : Type 0 where
  pub ways : IsWord t.way_count
  pub buffer : IsWord t.sizes.buffer
  pub parking : IsWord t.sizes.parking
  pub down : IsWord t.sizes.down
  pub requests : IsWord t.sizes.requests
  pub replies : IsWord t.sizes.replies
