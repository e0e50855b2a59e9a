-- Whether the entry at a place is one of an item.
-- Letters: x is an item.
-- To be believed with the contracts: code that looks for an item's entries speaks of it.
use Rattle.std.specs.Prelude.{ℕ, Bool, false, Option, Some, None}
use Rattle.directory.specs.TreeModel.State.Lists.{names_item}

module _ {X : Type 0} where
  abbrev pub is_of_item : (X → ℕ) → ℕ → Option X → Bool
  is_of_item named x None = false
  is_of_item named x (Some e) = names_item named x e
