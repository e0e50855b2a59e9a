-- The words by which a search tells one state of a machine from another: those of the machine without its time, as a checkpoint has
-- them, and the bytes that each hart has put out.
-- Letters: m is a machine.
-- To be believed with the laws: it is what they speak of.
use Rattle.std.specs.Prelude.{ℕ, List, ◌∷◌, ◌++◌, length, flat_map}
use Rattle.state_keys.specs.TreeModel.State.Values.{MachineValue}
use Rattle.state_keys.specs.StateWords.Machine.{state_words}
use Rattle.time_laws.specs.Forget.{forget, puts_of}

-- how many bytes a hart has put out, and the bytes
abbrev pub put_words : List ℕ → List ℕ
put_words bytes = length bytes ∷ bytes

unfoldable pub state_key : MachineValue → List ℕ
state_key m = state_words (forget m) ++ flat_map put_words (puts_of m)
