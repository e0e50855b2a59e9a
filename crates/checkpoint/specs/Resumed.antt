-- What a file's bytes are as a checkpoint of a machine of this tree and image: the machine and the counts of its run, or the first
-- refusal in the order in which files are judged.
-- Letters: m is the machine before its first turn, k the number of a word, ws are words.
-- To be believed: it is how a checkpoint is judged.
use Rattle.std.specs.Prelude.{ℕ, ◌+◌, ◌*◌, nat_eq, nat_lt, nat_le, List, [], ◌∷◌, drop, length, Option, Some, None}
use Rattle.std.specs.Prelude.{Result, Ok, Err, slice_index, if◌then◌else◌}
use Rattle.std.specs.Int.{w32, from_le_bytes}
use Rattle.checkpoint.specs.TreeModel.State.Lists.{first_some}
use Rattle.checkpoint.specs.TreeModel.State.Values.{MachineValue}
use Rattle.checkpoint.specs.TextModel.declared.RunCounts.{RunCounts}
use Rattle.checkpoint.specs.StateWords.declared.MachineSizes.{MachineSizes}
use Rattle.checkpoint.specs.StateWords.Machine.{sizes_of}
use Rattle.checkpoint.specs.StateReading.declared.StateRefusal.{StateRefusal}
use Rattle.checkpoint.specs.StateReading.Parts.{most_counted}
use Rattle.checkpoint.specs.StateReading.Reading.{Read}
use Rattle.checkpoint.specs.declared.ResumeRefusal.{ResumeRefusal}
use Rattle.checkpoint.specs.StateJudging.Judged.{read_state}

-- the words of which all four bytes are there
abbrev pub whole_words : List ℕ → List ℕ
whole_words [] = []
whole_words (a ∷ []) = []
whole_words (a ∷ b ∷ []) = []
whole_words (a ∷ b ∷ c ∷ []) = []
whole_words (a ∷ b ∷ c ∷ d ∷ rest) = from_le_bytes w32 (a ∷ b ∷ c ∷ d ∷ []) ∷ whole_words rest

-- what the words from the third on have to be, and the four counts behind them
abbrev pub size_words : MachineSizes → List ℕ
size_words s = s.leaves ∷ s.buses ∷ s.items ∷ s.item_words ∷ s.ways ∷ []

abbrev pub other_machine : List ℕ → ℕ → List ℕ → Option ResumeRefusal
other_machine [] k ws = None
other_machine (n ∷ ns) k [] = Some (ResumeRefusal.Cut k)
other_machine (n ∷ ns) k (w ∷ ws) =
    first_some (if nat_eq w n then None else Some (ResumeRefusal.OtherMachine k)) (other_machine ns (k + 1) ws)

abbrev pub bad_count : ℕ → List ℕ → Option ResumeRefusal
bad_count k [] = Some (ResumeRefusal.Cut k)
bad_count k (w ∷ ws) = if nat_le w most_counted then None else Some (ResumeRefusal.BadWord k)

abbrev pub bad_head : MachineSizes → List ℕ → Option ResumeRefusal
bad_head s ws =
    first_some (other_machine (size_words s) 2 (drop 2 ws))
    (first_some (bad_count 7 (drop 7 ws))
    (first_some (bad_count 8 (drop 8 ws)) (first_some (bad_count 9 (drop 9 ws)) (bad_count 10 (drop 10 ws)))))

abbrev pub file_refusal : StateRefusal → ResumeRefusal
file_refusal (StateRefusal.Cut k) = ResumeRefusal.Cut k
file_refusal (StateRefusal.BadWord k) = ResumeRefusal.BadWord k
file_refusal (StateRefusal.BrokenLeaf leaf) = ResumeRefusal.BrokenLeaf leaf
file_refusal (StateRefusal.BrokenRule bus item) = ResumeRefusal.BrokenRule bus item
file_refusal (StateRefusal.BrokenStamp bus) = ResumeRefusal.BrokenStamp bus
file_refusal (StateRefusal.BrokenKey op) = ResumeRefusal.BrokenKey op
file_refusal StateRefusal.NoMemory = ResumeRefusal.NoMemory

pub record Resumed : Type 0 where
  pub machine : MachineValue
  pub counts : RunCounts

-- nothing may follow the end word
abbrev pub resumed_by : ℕ → RunCounts → Result (Read MachineValue) StateRefusal → Result Resumed ResumeRefusal
resumed_by bytes counts (Ok r) =
    if nat_lt (4 * r.at) bytes then Err ResumeRefusal.AfterEnd
    else Ok (record { machine = r.value; counts = counts })
resumed_by bytes counts (Err e) = Err (file_refusal e)

abbrev pub counts_in : List ℕ → RunCounts
counts_in ws = record { turns = slice_index ws 7; retired = slice_index ws 8; granted = slice_index ws 9; busy = slice_index ws 10 }

abbrev pub resumed_unless : Option ResumeRefusal → MachineValue → ℕ → List ℕ → Result Resumed ResumeRefusal
resumed_unless (Some r) m bytes ws = Err r
resumed_unless None m bytes ws = resumed_by bytes (counts_in ws) (read_state m (slice_index ws 8) 11 (drop 11 ws))

abbrev pub bad_name : ℕ → List ℕ → Option ResumeRefusal
bad_name bytes ws =
    if nat_lt 536870912 bytes then Some ResumeRefusal.TooLong
    else (if nat_lt bytes 8 then Some ResumeRefusal.NotCheckpoint
    else (if nat_eq (slice_index ws 0) 0x434d4444
    then (if nat_eq (slice_index ws 1) 1 then None
    else Some (ResumeRefusal.WrongVersion (slice_index ws 1)))
    else Some ResumeRefusal.NotCheckpoint))

-- a file's length, its name and its head, for a machine of these sizes
abbrev pub judged_head : MachineSizes → List ℕ → Option ResumeRefusal
judged_head s bytes = first_some (bad_name (length bytes) (whole_words bytes)) (bad_head s (whole_words bytes))

unfoldable pub resumed : MachineValue → List ℕ → Result Resumed ResumeRefusal
resumed m bytes = resumed_unless (judged_head (sizes_of m) bytes) m (length bytes) (whole_words bytes)
