-- Machines that are saved: the words of a checkpoint after a run.
use Rattle.std.specs.Prelude.{◌≡◌, ℕ, List, [], ◌∷◌, codes, drop, length, take}
use Rattle.worked_examples.specs.TreeModel.Turns.Machine.{Ran}
use Rattle.worked_examples.specs.TreeModel.Start.Sources.{ImageValue, TreeValue}
use Rattle.text_model.specs.declared.RunCounts.{RunCounts}
use Rattle.text_model.specs.Run.{counts_of}
use Rattle.state_words.specs.Machine.{checkpoint_words, checkpoint_bytes}
use Rattle.worked_examples.specs.Programs.{run_in, with_wide_items}
use Rattle.worked_examples.specs.StoreAndLoadBack.{tree, image, turns}

abbrev words_after : Ran → RunCounts → List ℕ
words_after r c = checkpoint_words r.machine c.turns c.retired c.granted c.busy

abbrev bytes_after : Ran → RunCounts → List ℕ
bytes_after r c = checkpoint_bytes r.machine c.turns c.retired c.granted c.busy

unfoldable pub saved_words_in : TreeValue → ImageValue → List ℕ → List ℕ
saved_words_in tree image schedule = let r = run_in tree image schedule in words_after r (counts_of r.answers)

unfoldable pub saved_in : TreeValue → ImageValue → List ℕ → List ℕ
saved_in tree image schedule = let r = run_in tree image schedule in bytes_after r (counts_of r.answers)

-- One leaf that stores 7, loads it back and exits with it: before its first turn and after its eighth.
pub record OneLeafSaved : Type 0 where
  -- 99 words, which begin with the name of the format and its version
  pub size : length (saved_in tree image (codes "end\n")) ≡ 396
  pub head : take 8 (saved_in tree image (codes "end\n")) ≡ 68 ∷ 68 ∷ 77 ∷ 67 ∷ 1 ∷ 0 ∷ 0 ∷ 0 ∷ []
  -- 1 leaf, 1 bus, 4 items of 4 words, 4 ways; 8 turns, of which 6 completed an instruction
  pub machine : take 9 (drop 2 (saved_words_in tree image turns)) ≡ 1 ∷ 1 ∷ 4 ∷ 4 ∷ 4 ∷ 8 ∷ 6 ∷ 0 ∷ 0 ∷ []
  -- the hart behind its registers: its pc, what it has completed, and that it exited with 7
  pub exited : take 4 (drop 42 (saved_words_in tree image turns)) ≡ 0x10018 ∷ 6 ∷ 1 ∷ 7 ∷ []
  -- the third item in its way of set 0, with the word that was stored
  pub stored : take 7 (drop 81 (saved_words_in tree image turns)) ≡ 2 ∷ 2 ∷ 2 ∷ 7 ∷ 0 ∷ 0 ∷ 0 ∷ []
  -- items of 64 bytes are told by the sixth word
  pub wide : take 2 (drop 4 (saved_words_in (with_wide_items tree) image turns)) ≡ 3 ∷ 16 ∷ []

-- ---- stored checkpoints: what an independent model was given, and the words of the file that it wrote

pub record StoredCheckpoint : Type 0 where
  pub tree : TreeValue
  pub image : ImageValue
  pub schedule : List ℕ
  pub words : List ℕ

-- the definitions give the same words
abbrev pub IsSaved : StoredCheckpoint → Type 0
IsSaved stored = saved_words_in stored.tree stored.image stored.schedule ≡ stored.words
