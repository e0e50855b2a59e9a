-- The commands, and the words that say them.
-- Letters: k is the index of a word, counted from 0.
-- To be believed with the contracts: they speak of it.
use Rattle.std.specs.Prelude.{ℕ, ◌+◌, ◌-◌, ◌*◌, ◌≤◌, Bool, false, min, nat_le, nat_lt, List, [], ◌∷◌, drop, length, Result, Ok}
use Rattle.std.specs.Prelude.{Err, Option, Some, None, slice_get, option_and_then, if◌then◌else◌, bytes_eq, codes}
use Rattle.std.specs.Option.{option_map}
use Rattle.std.specs.Result.{result_ok}
use Rattle.ddm_text.specs.Numbers.{number_of}
use Rattle.recording_model.specs.declared.SeedKind.{SeedKind}
use Rattle.ddm_words.specs.LitmusModel.declared.test.Runs.{Runs}
use Rattle.ddm_words.specs.LitmusModel.declared.test.Runs.TheVariants.{OfSeeds, All}
use Rattle.ddm_words.specs.LitmusFiles.Places.{places_in}
use Rattle.ddm_words.specs.declared.command.About.{About}
use Rattle.ddm_words.specs.declared.command.About.TheVariants as about
use Rattle.ddm_words.specs.declared.command.Prints.{Prints}
use Rattle.ddm_words.specs.declared.command.Prints.TheVariants.{Report, Trace, Summary, Unjamming, Checkpoint}

-- ---- what a command is

-- where an image comes from: a file of this name, or the random program of a seed with so many rounds
pub data ImageFrom : Type 0 where
  image_named : List ℕ → ImageFrom
  image_made : ℕ → ℕ → ImageFrom

-- where turns come from: a schedule file of this name; one that a page is made of, which has fewer turns; or a seed that gives so many
pub data TurnsFrom : Type 0 where
  schedule_named : List ℕ → TurnsFrom
  paged_named : List ℕ → TurnsFrom
  turns_seeded : ℕ → ℕ → TurnsFrom

-- what is made has 1 to 50,000 rounds
abbrev pub IsMakeable : ImageFrom → Type 0
IsMakeable (image_named name) = Unit {0}
IsMakeable (image_made seed rounds) = (1 ≤ rounds) × (rounds ≤ 50000)

-- and there are few enough turns
abbrev pub AreFew : TurnsFrom → Type 0
AreFew (schedule_named name) = Unit {0}
AreFew (paged_named name) = Unit {0}
AreFew (turns_seeded seed count) = count ≤ 1048576

-- what a machine is made of and which turns it makes
pub record Run : Type 0 where
  pub image : ImageFrom
  pub tree : List ℕ
  pub turns : TurnsFrom

-- what a witness is judged for: the files of an image, of a tree and of the witness
pub record Check : Type 0 where
  pub image : List ℕ
  pub tree : List ℕ
  pub witness : List ℕ

-- what a run goes on from: the files of an image, of a tree, of a checkpoint and of a schedule with the rest of the turns
pub record Resumption : Type 0 where
  pub image : List ℕ
  pub tree : List ℕ
  pub checkpoint : List ℕ
  pub schedule : List ℕ

-- whose outcomes are counted: the files of an image and of a tree, the first seed, how many there are, and how many turns each makes
pub record Seeds : Type 0 where
  pub image : List ℕ
  pub tree : List ℕ
  pub first : ℕ
  pub count : ℕ
  pub turns : ℕ

-- whose recorded run is written or measured: the files of an image and of a tree, the kind of the seed and the seed,
-- and how many turns may be
-- recorded
pub record Recorded : Type 0 where
  pub image : List ℕ
  pub tree : List ℕ
  pub kind : SeedKind
  pub seed : ℕ
  pub turns : ℕ

-- whose recorded runs are surveyed: the files of an image and of a tree, the kind of the seeds, the first of them, how many there are,
-- and how many turns of each may be recorded
pub record Survey : Type 0 where
  pub image : List ℕ
  pub tree : List ℕ
  pub kind : SeedKind
  pub first : ℕ
  pub count : ℕ
  pub turns : ℕ

-- what a page is made of: the files of an image, of a tree and of a schedule
pub record Paged : Type 0 where
  pub image : List ℕ
  pub tree : List ℕ
  pub schedule : List ℕ

-- whose image is put out: the files of a test and of a tree, the runs that it is for, and the leaves of its threads where they are said
pub record Assembly : Type 0 where
  pub test : List ℕ
  pub tree : List ℕ
  pub runs : Runs
  pub places : Option (List ℕ)

pub data Command : Type 0 where
  -- to run a machine and print this of it
  to_run : Prints → Run → Command
  -- to print the schedule of a seed, so many turns for the tree of this file
  to_list : List ℕ → ℕ → ℕ → Command
  -- to judge a witness
  to_check : Check → Command
  -- to go on with a run
  to_resume : Resumption → Command
  -- to count the outcomes of many seeds
  to_survey : Seeds → Command
  -- to write a recorded run
  to_record : Recorded → Command
  -- to measure one
  to_measure : Recorded → Command
  -- to count the ends of the recorded runs of many seeds
  to_survey_runs : Survey → Command
  -- to put the tables of these files together
  to_join : List (List ℕ) → Command
  -- to print the page of a run
  to_page : Paged → Command
  -- to print the image of a litmus test
  to_assemble : Assembly → Command
  -- to say something of the program itself
  to_say : About → Command

abbrev run_value : ImageFrom → List ℕ → TurnsFrom → Run
run_value image tree turns = record { image = image; tree = tree; turns = turns }

abbrev check_value : List ℕ → List ℕ → List ℕ → Check
check_value image tree witness = record { image = image; tree = tree; witness = witness }

abbrev resumption_value : List ℕ → List ℕ → List ℕ → List ℕ → Resumption
resumption_value image tree checkpoint schedule = record { image = image; tree = tree; checkpoint = checkpoint; schedule = schedule }

abbrev seeds_value : List ℕ → List ℕ → ℕ → ℕ → ℕ → Seeds
seeds_value image tree first count turns = record { image = image; tree = tree; first = first; count = count; turns = turns }

abbrev recorded_value : List ℕ → List ℕ → SeedKind → ℕ → ℕ → Recorded
recorded_value image tree kind seed turns = record { image = image; tree = tree; kind = kind; seed = seed; turns = turns }

abbrev survey_value : List ℕ → List ℕ → SeedKind → ℕ → ℕ → ℕ → Survey
survey_value image tree kind first count turns =
    record { image = image; tree = tree; kind = kind; first = first; count = count; turns = turns }

abbrev paged_value : List ℕ → List ℕ → List ℕ → Paged
paged_value image tree schedule = record { image = image; tree = tree; schedule = schedule }

abbrev assembly_value : List ℕ → List ℕ → Runs → Option (List ℕ) → Assembly
assembly_value test tree runs places = record { test = test; tree = tree; runs = runs; places = places }

-- the run of the first of them
abbrev pub first_run : Seeds → Run
first_run s = run_value (image_named s.image) s.tree (turns_seeded s.first s.turns)

-- a run of the same files
abbrev pub recorded_run : Recorded → Run
recorded_run r = run_value (image_named r.image) r.tree (turns_seeded r.seed r.turns)

abbrev pub surveyed_run : Survey → Run
surveyed_run s = run_value (image_named s.image) s.tree (turns_seeded s.first s.turns)

abbrev pub paged_run : Paged → Run
paged_run p = run_value (image_named p.image) p.tree (paged_named p.schedule)

-- a seed has 64 bits
abbrev pub most_seeds : ℕ → ℕ
most_seeds first = min 1000000 (18446744073709551616 - first)

-- its numbers are in their ranges
abbrev pub IsInRange : Command → Type 0
IsInRange (to_run prints r) = IsMakeable r.image × AreFew r.turns
IsInRange (to_list tree seed count) = count ≤ 1048576
IsInRange (to_check c) = Unit {0}
IsInRange (to_resume r) = Unit {0}
IsInRange (to_survey s) = (1 ≤ s.count) × (s.count ≤ 1000000) × (s.first + s.count ≤ 18446744073709551616) × (s.turns ≤ 1048576)
IsInRange (to_record r) = r.turns ≤ 1048576
IsInRange (to_measure r) = r.turns ≤ 1000000000
IsInRange (to_survey_runs s) = (1 ≤ s.count) × (s.count ≤ 1000000) × (s.first + s.count ≤ 18446744073709551616) × (s.turns ≤ 1048576)
IsInRange (to_join names) = (2 ≤ length names) × (length names ≤ 256)
IsInRange (to_page p) = Unit {0}
IsInRange (to_assemble a) = Unit {0}
IsInRange (to_say a) = Unit {0}

-- ---- words in their order: the command that they say, or the index of the first word at fault or of the first that is missing

-- the number that a word spells, from the least to the most
unfoldable pub number_in : ℕ → ℕ → List ℕ → Option ℕ
number_in least most word = option_and_then (λ n. if nat_le least n then Some n else None) (result_ok (number_of word most))

-- on with what was found at this index
abbrev pub on_found : {A : Type 0} → ℕ → Option A → (A → Result Command ℕ) → Result Command ℕ
on_found k None next = Err k
on_found k (Some a) next = next a

-- on with the word there
abbrev pub word_at : List (List ℕ) → ℕ → (List ℕ → Result Command ℕ) → Result Command ℕ
word_at words k next = on_found k (slice_get words k) next

-- on with the number there
abbrev pub number_at : List (List ℕ) → ℕ → ℕ → ℕ → (ℕ → Result Command ℕ) → Result Command ℕ
number_at words k least most next = on_found k (option_and_then (number_in least most) (slice_get words k)) next

abbrev pub seed_at : List (List ℕ) → ℕ → (ℕ → Result Command ℕ) → Result Command ℕ
seed_at words k next = number_at words k 0 18446744073709551615 next

abbrev pub count_at : List (List ℕ) → ℕ → (ℕ → Result Command ℕ) → Result Command ℕ
count_at words k next = number_at words k 0 1048576 next

-- there are just so many words
abbrev pub ends_at : List (List ℕ) → ℕ → Command → Result Command ℕ
ends_at words k command = if nat_lt k (length words) then Err k else Ok command

-- run IMAGE TREE SCHEDULE, and so trace, unjam and save
unfoldable pub file_run : Prints → List (List ℕ) → Result Command ℕ
file_run prints words =
    word_at words 1 (λ image. word_at words 2 (λ tree. word_at words 3 (λ schedule.
    ends_at words 4 (to_run prints (run_value (image_named image) tree (schedule_named schedule))))))

-- seed IMAGE TREE SEED TURNS
unfoldable pub seed_run : List (List ℕ) → Result Command ℕ
seed_run words =
    word_at words 1 (λ image. word_at words 2 (λ tree. seed_at words 3 (λ seed. count_at words 4 (λ count.
    ends_at words 5 (to_run Report (run_value (image_named image) tree (turns_seeded seed count)))))))

-- schedule TREE SEED TURNS
unfoldable pub seed_list : List (List ℕ) → Result Command ℕ
seed_list words =
    word_at words 1 (λ tree. seed_at words 2 (λ seed. count_at words 3 (λ count. ends_at words 4 (to_list tree seed count))))

-- make SEED ROUNDS TREE
unfoldable pub made_run : List (List ℕ) → Result Command ℕ
made_run words =
    seed_at words 1 (λ seed. number_at words 2 1 50000 (λ rounds. word_at words 3 (λ tree.
    ends_at words 4 (to_run Summary (run_value (image_made seed rounds) tree (turns_seeded seed (20 * rounds + 1000)))))))

-- check IMAGE TREE WITNESS
unfoldable pub file_check : List (List ℕ) → Result Command ℕ
file_check words =
    word_at words 1 (λ image. word_at words 2
    (λ tree. word_at words 3
    (λ witness. ends_at words 4 (to_check (check_value image tree witness)))))

-- resume IMAGE TREE CHECKPOINT SCHEDULE
unfoldable pub file_resume : List (List ℕ) → Result Command ℕ
file_resume words =
    word_at words 1 (λ image. word_at words 2 (λ tree. word_at words 3 (λ checkpoint. word_at words 4 (λ schedule.
    ends_at words 5 (to_resume (resumption_value image tree checkpoint schedule))))))

-- outcomes IMAGE TREE FIRST COUNT TURNS
unfoldable pub seeds_survey : List (List ℕ) → Result Command ℕ
seeds_survey words =
    word_at words 1 (λ image. word_at words 2
    (λ tree. seed_at words 3
    (λ first. number_at words 4 1 (most_seeds first) (λ count. count_at words 5 (λ turns.
    ends_at words 6 (to_survey (seeds_value image tree first count turns)))))))

-- the kind of a seed that a word says
unfoldable pub kind_named : List ℕ → Option SeedKind
kind_named word =
    if bytes_eq word (codes "even") then Some SeedKind.Even
    else (if bytes_eq word (codes "skewed") then Some SeedKind.Skewed else None)

-- on with the kind there
abbrev pub kind_at : List (List ℕ) → ℕ → (SeedKind → Result Command ℕ) → Result Command ℕ
kind_at words k next = on_found k (option_and_then kind_named (slice_get words k)) next

-- record IMAGE TREE KIND SEED TURNS
unfoldable pub seed_record : List (List ℕ) → Result Command ℕ
seed_record words =
    word_at words 1 (λ image. word_at words 2 (λ tree. kind_at words 3 (λ kind. seed_at words 4 (λ seed. count_at words 5 (λ turns.
    ends_at words 6 (to_record (recorded_value image tree kind seed turns)))))))

-- measure IMAGE TREE KIND SEED TURNS
unfoldable pub seed_measure : List (List ℕ) → Result Command ℕ
seed_measure words =
    word_at words 1 (λ image. word_at words 2
    (λ tree. kind_at words 3
    (λ kind. seed_at words 4 (λ seed. number_at words 5 0 1000000000 (λ turns.
    ends_at words 6 (to_measure (recorded_value image tree kind seed turns)))))))

-- survey IMAGE TREE KIND FIRST COUNT TURNS
unfoldable pub runs_survey : List (List ℕ) → Result Command ℕ
runs_survey words =
    word_at words 1 (λ image. word_at words 2
    (λ tree. kind_at words 3
    (λ kind. seed_at words 4
    (λ first. number_at words 5 1 (most_seeds first) (λ count. count_at words 6 (λ turns.
    ends_at words 7 (to_survey_runs (survey_value image tree kind first count turns))))))))

-- join TABLE TABLE ..
unfoldable pub tables_named : List (List ℕ) → Result Command ℕ
tables_named words =
    if nat_lt (length words) 3 then Err (length words)
    else (if nat_lt 257 (length words) then Err 257
    else Ok (to_join (drop 1 words)))

-- page IMAGE TREE SCHEDULE
unfoldable pub file_page : List (List ℕ) → Result Command ℕ
file_page words =
    word_at words 1 (λ image. word_at words 2
    (λ tree. word_at words 3
    (λ schedule. ends_at words 4 (to_page (paged_value image tree schedule)))))

-- the places that a word names; none need be said
abbrev pub places_said : Option (List ℕ) → Option (Option (List ℕ))
places_said None = Some None
places_said (Some word) = option_map (λ places. Some places) (places_in word)

-- on with those that the word there names
abbrev pub places_at : List (List ℕ) → ℕ → (Option (List ℕ) → Result Command ℕ) → Result Command ℕ
places_at words k next = on_found k (places_said (slice_get words k)) next

-- assemble FILE TREE, and places from this index on
unfoldable pub placed_assembly : List (List ℕ) → Runs → ℕ → Result Command ℕ
placed_assembly words runs k =
    word_at words 1 (λ test. word_at words 2 (λ tree. places_at words k (λ places.
    ends_at words (k + 1) (to_assemble (assembly_value test tree runs places)))))

abbrev pub is_all : Option (List ℕ) → Bool
is_all None = false
is_all (Some word) = bytes_eq word (codes "all")

-- assemble FILE TREE [PLACES] and assemble FILE TREE all [PLACES]
unfoldable pub test_assembly : List (List ℕ) → Result Command ℕ
test_assembly words =
    if is_all (slice_get words 3) then placed_assembly words All 4 else placed_assembly words OfSeeds 3

-- the command of a name
unfoldable pub about_named : List ℕ → Option About
about_named name =
    if bytes_eq name (codes "run") then Some about.Run
    else (if bytes_eq name (codes "trace") then Some about.Trace
    else (if bytes_eq name (codes "seed") then Some about.Seed
    else (if bytes_eq name (codes "schedule") then Some about.Schedule
    else (if bytes_eq name (codes "make") then Some about.Make
    else (if bytes_eq name (codes "check") then Some about.Check
    else (if bytes_eq name (codes "unjam") then Some about.Unjam
    else (if bytes_eq name (codes "save") then Some about.Save
    else (if bytes_eq name (codes "resume") then Some about.Resume
    else (if bytes_eq name (codes "outcomes") then Some about.Outcomes
    else (if bytes_eq name (codes "record") then Some about.Record
    else (if bytes_eq name (codes "measure") then Some about.Measure
    else (if bytes_eq name (codes "survey") then Some about.Survey
    else (if bytes_eq name (codes "join") then Some about.Join
    else (if bytes_eq name (codes "page") then Some about.Page
    else (if bytes_eq name (codes "assemble") then Some about.Assemble
    else None)))))))))))))))

-- help COMMAND
unfoldable pub help_said : List (List ℕ) → Result Command ℕ
help_said words = on_found 1 (option_and_then about_named (slice_get words 1)) (λ a. ends_at words 2 (to_say a))

abbrev pub named_command : List (List ℕ) → List ℕ → Result Command ℕ
named_command words name =
    if bytes_eq name (codes "run") then file_run Report words
    else (if bytes_eq name (codes "trace") then file_run Trace words
    else (if bytes_eq name (codes "seed") then seed_run words
    else (if bytes_eq name (codes "schedule") then seed_list words
    else (if bytes_eq name (codes "make") then made_run words
    else (if bytes_eq name (codes "check") then file_check words
    else (if bytes_eq name (codes "unjam") then file_run Unjamming words
    else (if bytes_eq name (codes "save") then file_run Checkpoint words
    else (if bytes_eq name (codes "resume") then file_resume words
    else (if bytes_eq name (codes "outcomes") then seeds_survey words
    else (if bytes_eq name (codes "record") then seed_record words
    else (if bytes_eq name (codes "measure") then seed_measure words
    else (if bytes_eq name (codes "survey") then runs_survey words
    else (if bytes_eq name (codes "join") then tables_named words
    else (if bytes_eq name (codes "page") then file_page words
    else (if bytes_eq name (codes "assemble") then test_assembly words
    else (if bytes_eq name (codes "help") then help_said words
    else (if bytes_eq name (codes "--help") then ends_at words 1 (to_say about.Help)
    else (if bytes_eq name (codes "--version") then ends_at words 1 (to_say about.Version)
    else Err 0))))))))))))))))))

-- ---- words that ask for help, and are just these

-- help and -h alone
unfoldable pub help_alone : List ℕ → Option About
help_alone word =
    if bytes_eq word (codes "help") then Some about.Help
    else (if bytes_eq word (codes "-h") then Some about.Help
    else None)

-- help help and help faults
unfoldable pub help_topic : List ℕ → Option About
help_topic word =
    if bytes_eq word (codes "help") then Some about.Asking
    else (if bytes_eq word (codes "faults") then Some about.Faults
    else None)

-- these, and COMMAND --help and COMMAND -h
unfoldable pub help_of_two : List ℕ → List ℕ → Option About
help_of_two first second =
    if bytes_eq first (codes "help") then help_topic second
    else (if bytes_eq second (codes "--help") then about_named first
    else (if bytes_eq second (codes "-h") then about_named first
    else None))

abbrev pub help_asked : List (List ℕ) → Option About
help_asked [] = None
help_asked (word ∷ []) = help_alone word
help_asked (first ∷ second ∷ []) = help_of_two first second
help_asked (first ∷ second ∷ third ∷ more) = None

-- the help that is asked for, else what the words say in their order
abbrev pub help_or : Option About → Result Command ℕ → Result Command ℕ
help_or (Some a) said = Ok (to_say a)
help_or None said = said

unfoldable pub command_of : List (List ℕ) → Result Command ℕ
command_of words = help_or (help_asked words) (word_at words 0 (named_command words))
