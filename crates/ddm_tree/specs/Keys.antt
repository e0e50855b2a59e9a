-- Whether a key is one of the leaf that an operation's hart has.
-- Letters: depth is how many levels of buses the tree has, now the present key of the leaf, o an operation.
-- To be believed with the contracts: it is what the calls that judge keys give.
use Rattle.std.specs.Prelude.{◌≡◌, ℕ, ◌<◌, Bool, true, ◌&&◌, nat_lt, List, length, Option, Some, None, slice_get, slice_set, if◌then◌else◌}
use Rattle.ddm_tree.specs.DdmTypes.declared.keys.Key.{Key}
use Rattle.ddm_tree.specs.DdmTypes.declared.operations.Op.{Op}
use Rattle.ddm_tree.specs.DdmTypes.Keys.{key_numbers, key_less}
use Rattle.ddm_tree.specs.TreeRules.Order.Moments.{less, key_path, same_numbers}

-- it has the leaf's path, and is less than its present key
unfoldable pub is_key_before : ℕ → Key → Key → Bool
is_key_before depth now key =
    same_numbers (key_path (key_numbers depth key)) (key_path (key_numbers depth now))
    && less (key_numbers depth key) (key_numbers depth now)

-- the key with the numbers of so many levels, and 0 in place of the others
abbrev pub key_cut : ℕ → Key → Key
key_cut depth key = record {
  s0 = key.s0;
  c0 = key.c0;
  s1 = if nat_lt 1 depth then key.s1 else 0;
  c1 = if nat_lt 1 depth then key.c1 else 0;
  s2 = if nat_lt 2 depth then key.s2 else 0;
  c2 = if nat_lt 2 depth then key.c2 else 0;
  s3 = if nat_lt 3 depth then key.s3 else 0;
  c3 = if nat_lt 3 depth then key.c3 else 0;
  i = key.i;
}

-- ---- the last key of each hart

-- a key is greater than the last one, if there is one
abbrev pub comes_behind : Option Key → Key → Bool
comes_behind None key = true
comes_behind (Some last) key = key_less last key

-- an operation's key was made the last one of its hart
pub record IsTaken (o : Op) (lasts next : List (Option Key)) : Type 0 where
  pub inside : o.hart < length lasts
  pub last : Option Key
  pub there : slice_get lasts o.hart ≡ Some last
  pub behind : comes_behind last o.key ≡ true
  pub is : next ≡ slice_set lasts o.hart (Some o.key)
