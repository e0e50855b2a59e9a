-- What the sources of a command are told to hold, and the counts of their failed reads. What is made in place of a file is always
-- told, and never fails.
use Rattle.std.specs.Prelude.{ℕ, List, [], ◌∷◌, Option, Some, option_and_then}
use Rattle.std.specs.Option.{option_map}
use Rattle.ddm_cli.specs.MadeImage.MadeImage.{made_image}
use Rattle.ddm_words.specs.Commands.{ImageFrom, TurnsFrom, image_named, image_made, schedule_named, paged_named, turns_seeded}

-- the bytes of a schedule file; those of one that a page is made of; or a seed and a number of turns
pub data ScheduleGiven : Type 0 where
  written : List ℕ → ScheduleGiven
  paged : List ℕ → ScheduleGiven
  seeded : ℕ → ℕ → ScheduleGiven

module _ (told : List ℕ → Option (List ℕ)) where
  -- the bytes of an image
  abbrev pub image_told : ImageFrom → Option (List ℕ)
  image_told (image_named name) = told name
  image_told (image_made seed rounds) = Some (made_image seed rounds)

  abbrev pub schedule_told : TurnsFrom → Option ScheduleGiven
  schedule_told (schedule_named name) = option_map written (told name)
  schedule_told (paged_named name) = option_map paged (told name)
  schedule_told (turns_seeded seed count) = Some (seeded seed count)

  -- the bytes of all of these files
  abbrev pub files_told : List (List ℕ) → Option (List (List ℕ))
  files_told [] = Some []
  files_told (name ∷ names) = option_and_then (λ file. option_map (λ files. file ∷ files) (files_told names)) (told name)

module _ (faults : List ℕ → ℕ) where
  abbrev pub image_faults : ImageFrom → ℕ
  image_faults (image_named name) = faults name
  image_faults (image_made seed rounds) = 0

  abbrev pub schedule_faults : TurnsFrom → ℕ
  schedule_faults (schedule_named name) = faults name
  schedule_faults (paged_named name) = faults name
  schedule_faults (turns_seeded seed count) = 0
