-- How one turn of a bus may move a copy of an item. The bus has this path, and its present moment rises from `old` to `new`;
-- `Has` says of which of its children it is known that they hold the item afterwards.
-- Proofs alone need it.
use Rattle.std.specs.Prelude.{◌≡◌, ℕ, ◌+◌, ◌<◌, true, false, List, [], ◌∷◌, ◌++◌, length, take, Some, IfSome}
use Rattle.std.specs.List.{AllByRecursion}
use Rattle.std.proofs.Common.{◌⊎◌}
use Rattle.order_laws.specs.TreeRules.Order.Moments.{less_at, is_under, moment_length, GoesOn}
use Rattle.order_laws.specs.TreeRules.Order.Copies.{CopyAt}

-- on the bus with j buses above it, over the place: the copy stood under the same child, and its clock hasn't fallen
pub record Kept (j : ℕ) (k k' : CopyAt) : Type 0 where
  pub deep : j < length k.place
  pub same : take (j + 1) k'.place ≡ take (j + 1) k.place
  pub clock : less_at (moment_length j) k'.clock k.clock ≡ false

module _ (path old new : List ℕ) (Has : ℕ → Type 0) where
  -- or that is the bus of the turn, and a child was told the item at the new moment
  pub record Told (j : ℕ) (k' : CopyAt) : Type 0 where
    pub level : j ≡ length path
    pub child : ℕ
    pub under : is_under (path ++ child ∷ []) k'.place ≡ true
    pub clock : take (moment_length j) k'.clock ≡ new
    pub holds : Has child

  -- the new moment is its end now, which before was none or one that the new moment goes on from
  pub record Ended (k k' : CopyAt) : Type 0 where
    pub is : k'.end ≡ Some new
    pub from : is_under path k.place ≡ true
    pub to : is_under path k'.place ≡ true
    pub clock : GoesOn k.clock old
    pub later : IfSome k.end (GoesOn new)

  pub record Moved (k k' : CopyAt) : Type 0 where
    pub words : k'.words ≡ k.words
    pub end : (k'.end ≡ k.end) ⊎ Ended k k'
    pub clock : (j : ℕ) → j < length k'.place → Kept j k k' ⊎ Told j k'

-- ---- lists of copies

-- x is one of them
abbrev pub In : {X : Type 0} → X → List X → Type 0
In x [] = ⊥
In x (y ∷ ys) = (x ≡ y) ⊎ In x ys

-- one of these copies is in the relation to k
pub record From (R : CopyAt → CopyAt → Type 0) (before : List CopyAt) (k : CopyAt) : Type 0 where
  pub source : CopyAt
  pub there : In source before
  pub related : R source k

-- each copy after comes from one before
abbrev pub AllFrom : (CopyAt → CopyAt → Type 0) → List CopyAt → List CopyAt → Type 0
AllFrom R before after = AllByRecursion (From R before) after
