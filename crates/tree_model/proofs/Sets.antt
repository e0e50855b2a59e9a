-- A set of children with one more.
use Rattle.std.proofs.Common.{◌≡◌, ◌≢◌, ℕ, ◌^◌, true, false, refl, arith}
use Rattle.std.specs.Prelude.{bit_or}
use Rattle.std.specs.Int.{bit_at}
use Rattle.std.proofs.lemmas.Bool.{eq-eqb}
use Rattle.std.proofs.lemmas.Nat.Bits.{bit_at-lt, bit_at_or, bit_at-pow_same, bit_at-pow_other, bit_at-zero}
use Rattle.tree_model.specs.State.Directory.{in_set, set_with}

-- the child is in it
pub in_set-with : (c set : ℕ) → in_set c (set_with c set) ≡ true
in_set-with c set =
    let low = bit_at-lt set c in
    let one = bit_at-pow_same c in
    eq-eqb _ 1 (omega (arith, bit_at_or set (2 ^ c) c))

-- the others are in it as before
pub in_set-others : (c i set : ℕ) → i ≢ c → in_set i (set_with c set) ≡ in_set i set
in_set-others c i set other =
    let none = bit_at-pow_other c i other in
    let same : bit_at (bit_or set (2 ^ c)) i ≡ bit_at set i = omega (arith, bit_at_or set (2 ^ c) i) in
    rw same refl

-- no child is in the empty set
pub in_set-empty : (c : ℕ) → in_set c 0 ≡ false
in_set-empty c = rw (bit_at-zero c) refl
