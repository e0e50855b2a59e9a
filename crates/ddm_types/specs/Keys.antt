-- Stamps and keys: what the calls that make them give, and their numbers in order.
use Rattle.std.specs.Prelude.{ℕ, ◌+◌, ◌*◌, nat_eq, nat_lt, Bool, true, false, ◌&&◌, ◌||◌, List, [], ◌∷◌, ◌++◌, take}
use Rattle.std.specs.Prelude.{slice_index, if◌then◌else◌}
use Rattle.ddm_types.specs.declared.keys.Stamp.{Stamp}
use Rattle.ddm_types.specs.declared.keys.Key.{Key}

-- the stamp before any grant
abbrev pub stamp_zero : Stamp
stamp_zero = record { s0 = 0; s1 = 0; s2 = 0; s3 = 0 }

-- the key whose numbers are all 0
abbrev pub key_zero : Key
key_zero = record { s0 = 0; c0 = 0; s1 = 0; c1 = 0; s2 = 0; c2 = 0; s3 = 0; c3 = 0; i = 0 }

-- the stamp with n as the number of this level
abbrev pub stamp_at : Stamp → ℕ → ℕ → Stamp
stamp_at stamp level n = record {
  s0 = if nat_eq level 0 then n else stamp.s0;
  s1 = if nat_eq level 1 then n else stamp.s1;
  s2 = if nat_eq level 2 then n else stamp.s2;
  s3 = if nat_lt level 3 then stamp.s3 else n;
}

-- the key with the numbers of this stamp, and the child as the child number of this level
abbrev pub key_at : Key → ℕ → Stamp → ℕ → Key
key_at key level stamp child = record {
  s0 = stamp.s0;
  c0 = if nat_eq level 0 then child else key.c0;
  s1 = stamp.s1;
  c1 = if nat_eq level 1 then child else key.c1;
  s2 = stamp.s2;
  c2 = if nat_eq level 2 then child else key.c2;
  s3 = stamp.s3;
  c3 = if nat_lt level 3 then key.c3 else child;
  i = key.i;
}

-- the key with the numbers of a stamp, the child numbers of a path (0 where the path has none), and this last number
abbrev pub key_on : Stamp → List ℕ → ℕ → Key
key_on stamp path n = record {
  s0 = stamp.s0;
  c0 = slice_index path 0;
  s1 = stamp.s1;
  c1 = slice_index path 1;
  s2 = stamp.s2;
  c2 = slice_index path 2;
  s3 = stamp.s3;
  c3 = slice_index path 3;
  i = n;
}

-- the key with this last number
abbrev pub key_counted : Key → ℕ → Key
key_counted key n = record key { i = n }

-- the numbers of a stamp down to this level, from the top
abbrev pub stamp_numbers : ℕ → Stamp → List ℕ
stamp_numbers level stamp = take (level + 1) (stamp.s0 ∷ stamp.s1 ∷ stamp.s2 ∷ stamp.s3 ∷ [])

-- the numbers of a key in a tree with this many levels of buses
abbrev pub key_numbers : ℕ → Key → List ℕ
key_numbers depth key =
    take (2 * depth) (key.s0 ∷ key.c0 ∷ key.s1 ∷ key.c1 ∷ key.s2 ∷ key.c2 ∷ key.s3 ∷ key.c3 ∷ []) ++ key.i ∷ []

-- the first numbers are less than the second ones, compared from the left
abbrev pub numbers_less : List ℕ → List ℕ → Bool
numbers_less ms [] = false
numbers_less [] (n ∷ ns) = true
numbers_less (m ∷ ms) (n ∷ ns) = nat_lt m n || (nat_eq m n && numbers_less ms ns)

-- the first stamp is less than the second one, compared from the left
abbrev pub stamp_less : Stamp → Stamp → Bool
stamp_less a b = numbers_less (stamp_numbers 3 a) (stamp_numbers 3 b)

-- the first key is less than the second one, compared from the left
abbrev pub key_less : Key → Key → Bool
key_less a b = numbers_less (key_numbers 4 a) (key_numbers 4 b)
