-- The words that a leaf has of an item, by its entry.
-- Proofs alone need it.
use Rattle.std.specs.Prelude.{ℕ, List, [], ◌∷◌, Option, None, Some, if◌then◌else◌}
use Rattle.order_laws.specs.TreeModel.State.States.{is_held, entry_hold}
use Rattle.order_laws.specs.TreeModel.State.Leaf.{LeafEntry}

abbrev pub held_words : Option LeafEntry → List (List ℕ)
held_words None = []
held_words (Some e) = if is_held (entry_hold (Some e.state)) then e.words ∷ [] else []
