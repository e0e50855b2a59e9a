-- The ranges of a tree's numbers.
use Rattle.std.specs.Prelude.{ℕ, ◌+◌, ◌*◌, ◌%◌, ◌≤◌, Bool, false, ◌&&◌, ◌||◌, nat_eq, nat_le, IsTrue}
use Rattle.tree_config.specs.DdmTypes.declared.sizes.TreeSizes.{TreeSizes}
use Rattle.tree_model.specs.Start.Sources.{TreeValue, leaf_count}
use Rattle.tree_config.specs.declared.refusal.TreeKey.{TreeKey}
use Rattle.tree_config.specs.declared.refusal.TreeKey.TheVariants as key

abbrev pub is_between : ℕ → ℕ → ℕ → Bool
is_between low high n = nat_le low n && nat_le n high

-- a number that the key may have, whatever the other keys have
abbrev pub is_allowed : TreeKey → ℕ → Bool
is_allowed key.Shape n = false
is_allowed key.Ways n = nat_eq n 1 || (nat_eq n 2 || nat_eq n 4)
is_allowed key.Sets n = is_between 1 4096 n
is_allowed key.Buffer n = is_between 1 16 n
is_allowed key.Parking n = is_between 1 64 n
is_allowed key.Down n = is_between 1 4096 n
is_allowed key.Requests n = is_between 1 4096 n
is_allowed key.Replies n = is_between 1 4096 n
is_allowed key.StackBase n = nat_le n 4294967280 && nat_eq (n % 16) 0
is_allowed key.StackBytes n = nat_le n 1048576 && nat_eq (n % 16) 0
is_allowed key.ItemBytes n = nat_eq n 16 || nat_eq n 64

-- where no stack of so many harts goes past this address
abbrev pub highest_end : ℕ
highest_end = 4294967280

-- where the last stack ends
abbrev pub stacks_end : ℕ → ℕ → ℕ → ℕ
stacks_end base harts bytes = base + harts * bytes

-- each size is in its range
pub record AreSizes (s : TreeSizes) : Type 0 where
  pub sets : IsTrue (is_allowed key.Sets s.sets)
  pub buffer : IsTrue (is_allowed key.Buffer s.buffer)
  pub parking : IsTrue (is_allowed key.Parking s.parking)
  pub down : IsTrue (is_allowed key.Down s.down)
  pub requests : IsTrue (is_allowed key.Requests s.requests)
  pub replies : IsTrue (is_allowed key.Replies s.replies)

-- each number is in its range
pub record IsInRange (t : TreeValue) : Type 0 where
  pub ways : IsTrue (is_allowed key.Ways t.way_count)
  pub sizes : AreSizes t.sizes
  pub stack_base : IsTrue (is_allowed key.StackBase t.stack_base)
  pub stack_bytes : IsTrue (is_allowed key.StackBytes t.stack_bytes)
  pub item_bytes : IsTrue (is_allowed key.ItemBytes t.item_bytes)
  pub stacks : stacks_end t.stack_base (leaf_count t) t.stack_bytes ≤ highest_end
