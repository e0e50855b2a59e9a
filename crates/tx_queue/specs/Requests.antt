-- Requests of a list by kind and item, and how the first of them is taken out of a ring.
use Rattle.std.specs.Prelude.{ℕ, Bool, not, ◌&&◌, ◌||◌, nat_eq, List, [], ◌∷◌, ◌++◌, if◌then◌else◌}
use Rattle.tx_queue.specs.DdmTypes.declared.answers.TxKind.{TxKind}
use Rattle.tx_queue.specs.TreeModel.State.Kinds.{is_kind}

-- the request is of this kind and item
abbrev pub is_request : TxKind → ℕ → (TxKind × ℕ) → Bool
is_request kind x r = is_kind kind r.0 && nat_eq x r.1

module _ {X : Type 0} where
  -- the first element goes to the end; it is taken out if it passes and none was taken out before
  abbrev pub rotated : (X → Bool) → Bool → List X → List X
  rotated p found [] = []
  rotated p found (x ∷ xs) = if not found && p x then xs else xs ++ x ∷ []

  -- an element was taken out before, or now
  abbrev pub found_so_far : (X → Bool) → Bool → List X → Bool
  found_so_far p found [] = found
  found_so_far p found (x ∷ xs) = found || p x
