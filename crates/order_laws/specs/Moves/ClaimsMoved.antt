-- A turn of a bus: where the claims on an item come from. The bus has this path, and its new present moment is `new`.
-- Proofs alone need it.
use Rattle.std.specs.Prelude.{◌≡◌, ℕ, false, List, [], ◌∷◌, ◌++◌, length, take}
use Rattle.std.proofs.Common.{◌⊎◌}
use Rattle.std.specs.List.{AllByRecursion}
use Rattle.order_laws.specs.TreeRules.Order.Claims.{ClaimAt}
use Rattle.order_laws.specs.TreeRules.Order.Core.{claim_level}
use Rattle.order_laws.specs.TreeRules.Order.Moments.{less_at, moment_length}
use Rattle.order_laws.specs.Moves.Moved.{In}

-- the claim of the same child, which as far as its bus knows hasn't fallen
pub record ClaimKept (t t' : ClaimAt) : Type 0 where
  pub child : t'.child ≡ t.child
  pub moment : less_at (moment_length (claim_level t')) t'.moment t.moment ≡ false

module _ (path new : List ℕ) where
  -- that of a child of the bus, and as far as the bus knows it is of the new moment
  pub record ClaimNew (t' : ClaimAt) : Type 0 where
    pub number : ℕ
    pub child : t'.child ≡ path ++ number ∷ []
    pub moment : take (moment_length (length path)) t'.moment ≡ new

  pub record KeptFrom (before : List ClaimAt) (t' : ClaimAt) : Type 0 where
    pub source : ClaimAt
    pub there : In source before
    pub kept : ClaimKept source t'

  abbrev pub ClaimFrom : List ClaimAt → ClaimAt → Type 0
  ClaimFrom before t' = KeptFrom before t' ⊎ ClaimNew t'

  -- each claim after is one before, or new
  abbrev pub ClaimsFrom : List ClaimAt → List ClaimAt → Type 0
  ClaimsFrom before after = AllByRecursion (ClaimFrom before) after
