-- The words of a machine without its time, part by part.
-- Letters: m is a machine, v a leaf.
-- To be believed with the contracts: they speak of it.
use Rattle.std.specs.Prelude.{◌≡◌, ℕ, List}
use Rattle.tree_model.specs.State.Values.{LeafValue, MachineValue}
use Rattle.state_words.specs.Parts.{hart_words}
use Rattle.time_laws.specs.Forget.{forget_leaf}
use Rattle.value_laws.specs.Values.{HasForm}

-- a hart that has completed no instruction
abbrev pub timeless_hart : LeafValue → List ℕ
timeless_hart v = hart_words (forget_leaf v)

-- an item has so many words
abbrev pub HasItemWords : ℕ → MachineValue → Type 0
HasItemWords width m = m.top.sizes.width ≡ width

-- its values have the form of those of a run
abbrev pub HasForms : MachineValue → Type 0
HasForms m = (most : ℕ) × HasForm most m
