-- The copies of a word and the claims on it, in the run with the stale load: item 2 after each of the turns that move it.
use Rattle.std.specs.Prelude.{◌≡◌, ℕ, List, [], ◌∷◌, Option, Some, None}
use Rattle.tree_rules.specs.Order.Copies.{CopyAt, copies_of}
use Rattle.tree_rules.specs.Order.Claims.{ClaimAt, claims_of}
use Rattle.tree_rules.specs.Examples.{stale_load_after}

-- of the item's four words only the first is ever changed
abbrev pub copy : List ℕ → List ℕ → Option (List ℕ) → ℕ → CopyAt
copy place clock end word = record { place = place; clock = clock; end = end; words = word ∷ 0 ∷ 0 ∷ 0 ∷ [] }

abbrev pub claimed : List ℕ → List ℕ → ClaimAt
claimed child moment = record { child = child; moment = moment }

-- that of leaf 0, whose clock is this, with this word
abbrev pub at_leaf_0 : List ℕ → ℕ → CopyAt
at_leaf_0 clock word = copy (0 ∷ 0 ∷ []) clock None word

-- and those of leaves 2 and 3, which keep the word 5, with this end
abbrev pub at_leaves_2_and_3 : Option (List ℕ) → List CopyAt
at_leaves_2_and_3 end = copy (1 ∷ 0 ∷ []) (1 ∷ 1 ∷ 4 ∷ []) end 5 ∷ copy (1 ∷ 1 ∷ []) (1 ∷ 1 ∷ 4 ∷ []) end 5 ∷ []

pub record Copies : Type 0 where
  -- hart 0 has read the word over the buses: three copies, none ends
  pub read : copies_of 2 (stale_load_after 14) ≡ at_leaf_0 (2 ∷ 0 ∷ 2 ∷ []) 5 ∷ at_leaves_2_and_3 None
  -- its erase has gone up to bus 0
  pub asked : copies_of 2 (stale_load_after 18) ≡ at_leaf_0 (2 ∷ 0 ∷ 3 ∷ []) 5 ∷ at_leaves_2_and_3 None
  -- bus 0 granted the erase: the copies under bus 2 will end at 3
  pub erased : copies_of 2 (stale_load_after 19) ≡ at_leaf_0 (2 ∷ 0 ∷ 3 ∷ []) 5 ∷ at_leaves_2_and_3 (Some (3 ∷ []))
  -- hart 0 has the word alone
  pub alone : copies_of 2 (stale_load_after 21) ≡ at_leaf_0 (4 ∷ 0 ∷ 4 ∷ []) 5 ∷ at_leaves_2_and_3 (Some (3 ∷ []))
  -- it has stored 4: the other copies keep the word before 3
  pub stored : copies_of 2 (stale_load_after 22) ≡ at_leaf_0 (4 ∷ 0 ∷ 4 ∷ []) 4 ∷ at_leaves_2_and_3 (Some (3 ∷ []))
  -- hart 3 has loaded 5 from its copy
  pub loaded : copies_of 2 (stale_load_after 23) ≡ at_leaf_0 (4 ∷ 0 ∷ 4 ∷ []) 4 ∷ at_leaves_2_and_3 (Some (3 ∷ []))

pub record Claims : Type 0 where
  pub none_when_read : claims_of 2 (stale_load_after 14) ≡ []
  pub none_when_erased : claims_of 2 (stale_load_after 19) ≡ []
  -- exclusive is on its way down to bus 1: a claim since 4, after the end 3
  pub granted : claims_of 2 (stale_load_after 20) ≡ claimed (0 ∷ []) (4 ∷ []) ∷ []
  -- hart 0 has the word alone
  pub alone : claims_of 2 (stale_load_after 21) ≡ claimed (0 ∷ []) (4 ∷ 0 ∷ 4 ∷ []) ∷ claimed (0 ∷ 0 ∷ []) (4 ∷ 0 ∷ 4 ∷ []) ∷ []
  pub when_stored : claims_of 2 (stale_load_after 22) ≡ claimed (0 ∷ []) (4 ∷ 0 ∷ 4 ∷ []) ∷ claimed (0 ∷ 0 ∷ []) (4 ∷ 0 ∷ 4 ∷ []) ∷ []
