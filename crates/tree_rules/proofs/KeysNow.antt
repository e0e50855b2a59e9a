-- The key of an instruction that completes now at a leaf has the numbers of the present moment of its bus, the leaf's child
-- number, and last the count of its hart's instructions.
use Rattle.std.specs.Prelude.{◌≡◌, ℕ, ◌+◌, ◌≤◌, List, [], ◌∷◌, ◌++◌, length, refl}
use Rattle.std.proofs.Common.{arith}
use Rattle.tree_rules.specs.DdmTypes.declared.keys.Stamp.{Stamp}
use Rattle.tree_rules.specs.DdmTypes.Keys.{key_numbers}
use Rattle.tree_model.specs.State.Place.{Spot, at_child, key_at_leaf}
use Rattle.tree_rules.specs.Order.Moments.{spot_moment}

by_path : (above : List ℕ) (number : ℕ) (present : Stamp) (done : ℕ) → length above ≤ 3
    → (let c : Spot = record { above = above; number = number; present = present } in key_numbers (length above + 1) (key_at_leaf (at_child c) done) ≡ spot_moment c ++ number ∷ done ∷ [])
by_path [] number present done h = refl
by_path (a ∷ []) number present done h = refl
by_path (a ∷ b ∷ []) number present done h = refl
by_path (a ∷ b ∷ c ∷ []) number present done h = refl
by_path (a ∷ b ∷ c ∷ d ∷ above) number present done h = absurd (omega (arith, h))

pub key-now : (c : Spot) (done : ℕ) → length c.above ≤ 3 → key_numbers (length c.above + 1) (key_at_leaf (at_child c) done) ≡ spot_moment c ++ c.number ∷ done ∷ []
key-now c done h = by_path c.above c.number c.present done h
