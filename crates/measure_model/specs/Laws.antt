-- What is claimed of the measures of every recorded run.
-- Letters: m is a machine, r a recorded run, k a number of turns.
-- To be believed: it is what is claimed of them.
use Rattle.std.specs.Prelude.{◌≡◌, ◌≤◌, ℕ, ◌+◌, false, List, map, take}
use Rattle.recording_model.specs.DdmTypes.declared.turns.Turn.{Turn}
use Rattle.recording_model.specs.TreeModel.State.Values.{MachineValue}
use Rattle.recording_model.specs.TreeModel.Turns.Machine.{run_of, turn_of}
use Rattle.recording_model.specs.TreeModel.Turns.Tree.{bus_of_number, leaf_of_number}
use Rattle.recording_model.specs.TextModel.Run.{counts_of}
use Rattle.recording_model.specs.LetBy.{Draw}
use Rattle.recording_model.specs.Recording.{Recording, made_turns, recording_from}
use Rattle.measure_model.specs.Counts.{Made, made_of, totals_of}
use Rattle.measure_model.specs.Lengths.{lengths_in, lengths_over, most_in, most_over}
use Rattle.measure_model.specs.Near.{is_near}

-- ---- counts

-- What is counted are the turns that were made, each with its answer. Every recorded turn is one of four kinds; of all that were made
-- as many completed an instruction and as many were granted, and the others that count were busy.
pub record AreOfAnswers (m : MachineValue) (r : Recording) : Type 0 where
  pub turns : map (λ (k : Made). k.turn) (made_of (made_turns r.drawn) m) ≡ made_turns r.drawn
  pub answers : map (λ (k : Made). k.answer) (made_of (made_turns r.drawn) m) ≡ (run_of (made_turns r.drawn) m).answers
  pub four_kinds : (let t = totals_of r m in t.turns ≡ t.retired + t.issued + t.granted + t.halted)
  pub retired : (totals_of r m).retired ≡ (counts_of (run_of (made_turns r.drawn) m).answers).retired
  pub granted : (totals_of r m).granted ≡ (counts_of (run_of (made_turns r.drawn) m).answers).granted
  pub busy : (totals_of r m).busy ≡ (counts_of (run_of (made_turns r.drawn) m).answers).busy

-- whatever turns are drawn, and whichever of them are let by
abbrev pub CountsAnswers : Type 0
CountsAnswers = (turns : ℕ) (draws : List Draw) (m : MachineValue) → AreOfAnswers m (recording_from turns 0 draws m)

-- ---- greatest lengths

-- after no number of turns is more read of the machine, and after some number it is as much
pub record IsGreatest (read : MachineValue → ℕ) (ts : List Turn) (m : MachineValue) (most : ℕ) : Type 0 where
  pub never_more : (k : ℕ) → read (run_of (take k ts) m).machine ≤ most
  pub reached : (k : ℕ) × (read (run_of (take k ts) m).machine ≡ most)

-- of the lists over a bus
pub record AreMostOver (b : ℕ) (ts : List Turn) (m : MachineValue) : Type 0 where
  pub down : IsGreatest (λ k. (lengths_over b k).down) ts m (most_over ts m b).down
  pub requests : IsGreatest (λ k. (lengths_over b k).requests) ts m (most_over ts m b).requests
  pub replies : IsGreatest (λ k. (lengths_over b k).replies) ts m (most_over ts m b).replies
  pub parking : IsGreatest (λ k. (lengths_over b k).parking) ts m (most_over ts m b).parking

-- and of those of a leaf
pub record AreMostIn (leaf : ℕ) (ts : List Turn) (m : MachineValue) : Type 0 where
  pub replies : IsGreatest (λ k. (lengths_in leaf k).replies) ts m (most_in ts m leaf).replies
  pub buffer : IsGreatest (λ k. (lengths_in leaf k).buffer) ts m (most_in ts m leaf).buffer

pub record AreReached (ts : List Turn) (m : MachineValue) : Type 0 where
  pub over : (b : ℕ) → AreMostOver b ts m
  pub inside : (leaf : ℕ) → AreMostIn leaf ts m

abbrev pub ReachesMost : Type 0
ReachesMost = (ts : List Turn) (m : MachineValue) → AreReached ts m

-- ---- which lists a turn changes

-- elsewhere all lists are as long as before
pub record StaysElsewhere (t : Turn) (m : MachineValue) : Type 0 where
  pub over : (b : ℕ) → is_near (bus_of_number b) t m ≡ false → lengths_over b (turn_of t m).machine ≡ lengths_over b m
  pub inside : (leaf : ℕ) → is_near (leaf_of_number leaf) t m ≡ false → lengths_in leaf (turn_of t m).machine ≡ lengths_in leaf m

abbrev pub ChangesNear : Type 0
ChangesNear = (t : Turn) (m : MachineValue) → StaysElsewhere t m
