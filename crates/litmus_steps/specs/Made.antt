-- The steps of an instruction: one or two.
use Rattle.std.specs.Prelude.{Bool, true, nat_lt, List, [], ◌∷◌, Option, Some, None}
use Rattle.litmus_model.specs.declared.parts.Step.{Step}
use Rattle.litmus_model.specs.declared.test.Form.{Form}
use Rattle.litmus_model.specs.declared.test.Form.TheVariants.{FixedFence}
use Rattle.litmus_model.specs.Sound.{IsSoundStep}

abbrev pub with_second : Step → Option Step → List Step
with_second first None = first ∷ []
with_second first (Some second) = first ∷ second ∷ []

-- one or two steps that a word can be
abbrev pub IsMade : List Step → Type 0
IsMade [] = ⊥
IsMade (s ∷ []) = IsSoundStep s
IsMade (s ∷ t ∷ []) = IsSoundStep s × IsSoundStep t
IsMade (s ∷ t ∷ u ∷ ss) = ⊥

-- a form whose fence, where it has one, is 12 bits
abbrev pub is_form : Form → Bool
is_form (FixedFence bits) = nat_lt bits 4096
is_form f = true
