-- What a hart's turn keeps of its leaf.
-- To be believed where a rule is relied on; the order of the witness needs no reader here.
use Rattle.std.specs.Prelude.{◌≡◌, ℕ}
use Rattle.bus_laws.specs.TreeModel.State.Values.{LeafValue}
use Rattle.tree_rules.specs.Bus.Faces.{leaf_face}
use Rattle.tree_rules.specs.Bus.Own.{IsLeafOk}

-- the leaf keeps its own rules, and its bus sees the same of each item
pub record KeepsLeafRules (n : ℕ) (before after : LeafValue) : Type 0 where
  pub own : IsLeafOk n after
  pub seen : (x : ℕ) → leaf_face x after ≡ leaf_face x before
