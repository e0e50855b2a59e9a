-- The two laws of checkpoints, as statements and as a test of one state.
-- Letters: m is a machine, fresh the one before its first turn of the same tree and image.
use Rattle.std.specs.Prelude.{◌≡◌, ◌<◌, ◌≤◌, ℕ, Bool, true, false, ◌&&◌, nat_eq, List, [], ◌∷◌, length, Result, Ok, Err}
use Rattle.std.specs.List.{AllByRecursion}
use Rattle.checkpoint.specs.DdmTypes.declared.turns.Turn.{Turn}
use Rattle.checkpoint.specs.TreeModel.State.Values.{MachineValue}
use Rattle.checkpoint.specs.TreeModel.Turns.Machine.{run_of}
use Rattle.checkpoint.specs.TreeModel.Start.Sources.{ImageValue, TreeValue}
use Rattle.checkpoint.specs.TreeModel.Start.Machine.{start_of}
use Rattle.checkpoint.specs.BusLaws.IsTree.{IsTree}
use Rattle.checkpoint.specs.ValueLaws.Images.{IsOfBytes}
use Rattle.checkpoint.specs.TextModel.Run.{counts_of}
use Rattle.checkpoint.specs.StateWords.Machine.{state_words}
use Rattle.checkpoint.specs.StateReading.declared.StateRefusal.{StateRefusal}
use Rattle.checkpoint.specs.StateReading.Reading.{Read}
use Rattle.checkpoint.specs.StateJudging.Judged.{read_state}
use Rattle.checkpoint.specs.StateJudging.Read.{CanRead}
use Rattle.spelling_laws.specs.Small.{HasSmallSizes}
use Rattle.checkpoint.specs.Saved.{saved}
use Rattle.checkpoint.specs.Resumed.{Resumed, resumed}

-- what is saved of a run of at most so many turns is read back, where the sizes of the tree are words and the file isn't too long
abbrev pub SavedIsReadBack : Type 0
SavedIsReadBack =
    (t : TreeValue) (i : ImageValue) (fresh : MachineValue) (turns : List Turn) → IsTree t → IsOfBytes i →
    start_of t i ≡ Ok fresh → HasSmallSizes t → length turns ≤ 1048576
    → let r = run_of turns fresh in length (saved r.machine (counts_of r.answers)) ≤ 536870912
    → resumed fresh (saved r.machine (counts_of r.answers)) ≡ Ok (record { machine = r.machine; counts = counts_of r.answers })

-- a file that is accepted is what is saved of the machine that it gives: so a state has one spelling
abbrev pub AcceptedIsSaved : Type 0
AcceptedIsSaved = (fresh : MachineValue) (bytes : List ℕ) (r : Resumed) → CanRead fresh → AllByRecursion (λ b. b < 256) bytes
    → resumed fresh bytes ≡ Ok r → saved r.machine r.counts ≡ bytes

-- ---- the first law in one state, as a test: its words are read to their end, and what was read is spelled by the same words

abbrev pub same_words : List ℕ → List ℕ → Bool
same_words [] [] = true
same_words [] (b ∷ bs) = false
same_words (a ∷ more) [] = false
same_words (a ∷ more) (b ∷ bs) = nat_eq a b && same_words more bs

abbrev pub spells_again : List ℕ → Result (Read MachineValue) StateRefusal → Bool
spells_again ws (Err e) = false
spells_again ws (Ok r) = same_words [] r.rest && same_words ws (state_words r.value)

abbrev pub is_read_back : MachineValue → Bool
is_read_back m = let ws = state_words m in spells_again ws (read_state m (length m.ops) 11 ws)
