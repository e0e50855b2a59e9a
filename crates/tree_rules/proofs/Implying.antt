-- `implies` by its two equations, and as a function.
use Rattle.std.specs.Prelude.{◌≡◌, Bool, true, false, refl}
use Rattle.tree_rules.specs.Bus.Item.{implies}

pub implies-true : (b : Bool) → implies true b ≡ b
unfolding implies
implies-true b = refl

pub implies-false : (b : Bool) → implies false b ≡ true
unfolding implies
implies-false b = refl

pub implies-use : (a b : Bool) → implies a b ≡ true → a ≡ true → b ≡ true
unfolding implies
implies-use true b h e = h
implies-use false b h e = absurd (let no : ⊥ = cc in no)

pub implies-by : (a b : Bool) → (a ≡ true → b ≡ true) → implies a b ≡ true
unfolding implies
implies-by true b h = h refl
implies-by false b h = refl
