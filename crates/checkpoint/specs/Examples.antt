-- Two harts that store to one word, saved and read back after each turn; and the file before the first turn with one mistake.
use Rattle.std.specs.Prelude.{◌≡◌, ℕ, true, List, [], ◌∷◌, ◌++◌, length, slice_set, take, Result, Ok, Err}
use Rattle.std.specs.List.{list_all, range_with_len}
use Rattle.checkpoint.specs.TreeRules.Examples.{two_writers_after}
use Rattle.checkpoint.specs.TextModel.Run.{no_counts}
use Rattle.checkpoint.specs.declared.ResumeRefusal.{ResumeRefusal}
use Rattle.checkpoint.specs.Saved.{saved}
use Rattle.checkpoint.specs.Resumed.{Resumed, resumed}
use Rattle.checkpoint.specs.Laws.{is_read_back}

-- before the first turn: two leaves under one bus, two items of four words
unfoldable pub untouched : List ℕ
untouched = saved (two_writers_after 0) no_counts

unfoldable pub judgement : List ℕ → Result Resumed ResumeRefusal
judgement bytes = resumed (two_writers_after 0) bytes

pub record SmallFiles : Type 0 where
  -- after each of the turns
  pub read_back : list_all (λ k. is_read_back (two_writers_after k)) (range_with_len 0 21) ≡ true
  pub accepted : judgement untouched ≡ Ok (record { machine = two_writers_after 0; counts = no_counts })
  -- 126 words; one byte less, and one more
  pub size : length untouched ≡ 504
  pub cut : judgement (take 503 untouched) ≡ Err (ResumeRefusal.Cut 125)
  pub longer : judgement (untouched ++ 0 ∷ []) ≡ Err ResumeRefusal.AfterEnd
  pub short : judgement (take 7 untouched) ≡ Err ResumeRefusal.NotCheckpoint
  pub version : judgement (slice_set untouched 4 2) ≡ Err (ResumeRefusal.WrongVersion 2)
  -- three leaves
  pub other : judgement (slice_set untouched 8 3) ≡ Err (ResumeRefusal.OtherMachine 2)
  -- 1,114,112 turns
  pub counts : judgement (slice_set untouched 30 17) ≡ Err (ResumeRefusal.BadWord 7)
  -- leaf 0 asks to read the item that it has
  pub slot : judgement (slice_set untouched 396 1) ≡ Err (ResumeRefusal.BrokenLeaf 0)
  -- it waits to erase it, and no bus knows of that
  pub waiting : judgement (slice_set untouched 416 3) ≡ Err (ResumeRefusal.BrokenRule 0 0)
