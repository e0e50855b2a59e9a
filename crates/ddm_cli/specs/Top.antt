-- What a command answers, and why.
use Rattle.std.specs.Prelude.{◌≡◌, ◌⊎◌, ℕ, ◌-◌, List, [], length, slice_get, take, Option, Some, IsSome, IfSome}
use Rattle.std.specs.Prelude.{IsSomeAnd, IsOk, option_and_then, option_map, IfOk, Result, Ok, Err, IsOkAnd}
use Rattle.std.specs.List.{AllByRecursion}
use Rattle.std.specs.Result.{result_ok}
use Rattle.ddm_cli.specs.DdmTypes.declared.turns.Turn.{Turn}
use Rattle.ddm_cli.specs.TreeModel.Start.Sources.{TreeValue}
use Rattle.ddm_cli.specs.TreeModel.State.Shape.{IsShaped}
use Rattle.ddm_cli.specs.TreeModel.Turns.Machine.{run_of}
use Rattle.ddm_cli.specs.TreeModel.Start.Machine.{flat_start_of, start_machine}
use Rattle.ddm_cli.specs.TextModel.Faults.{usage_fault, schedule_fault, read_fault, write_fault, memory_fault}
use Rattle.ddm_cli.specs.TextModel.Schedule.{schedule_text}
use Rattle.ddm_cli.specs.TextModel.Seeded.{seeded_turns}
use Rattle.ddm_cli.specs.TextModel.declared.ScheduleRefusal.{ScheduleRefusal}
use Rattle.ddm_cli.specs.ReportCrate.Appends.{Appends, AppendsPart}
use Rattle.ddm_cli.specs.ReportCrate.Roles.{role_text}
use Rattle.ddm_cli.specs.ReportCrate.declared.roles.FileRole.{FileRole}
use Rattle.ddm_cli.specs.ReportCrate.declared.roles.FileRole.TheVariants.{ImageFile, TreeFile, ScheduleFile, WitnessFile, CheckpointFile}
use Rattle.ddm_cli.specs.DdmOutside.Causes.{Rose}
use Rattle.ddm_cli.specs.ScheduleLog.Shapes.{shape_view}
use Rattle.ddm_cli.specs.TreeConfig.TreeFile.{tree_of}
use Rattle.ddm_cli.specs.DdmTree.Rules.{KeepsRules, StaysInOrder}
use Rattle.run_laws.specs.InOrder.{AreJudged, RunInOrder}
use Rattle.checkpoint.specs.Resumed.{Resumed}
use Rattle.checkpoint.specs.declared.ResumeRefusal.{ResumeRefusal}
use Rattle.witness_check.specs.Start.{Setting, check_of}
use Rattle.witness_check.specs.Witness.{IsAccepted}
use Rattle.witness_check.specs.declared.refusal.CheckRefusal.{CheckRefusal}
use Rattle.ddm_words.specs.About.{about_text}
use Rattle.ddm_cli.specs.Assembling.{NoAssembly, assembled_of}
use Rattle.ddm_cli.specs.Causes.{Accepts, HasNoSetting, HasSmallList, IsRefused, IsUnloaded, IsUnresumed}
use Rattle.ddm_cli.specs.Causes.{IsUnscheduled, IsUnstarted, TreeCause}
use Rattle.ddm_cli.specs.OutcomeModel.FlatOutcome.{IsLegalOutcome}
use Rattle.ddm_cli.specs.OutcomeModel.Outcomes.{outcome_table, outcomes_text}
use Rattle.ddm_cli.specs.OutcomeModel.Table.{OutcomeLine}
use Rattle.ddm_cli.specs.RecordingModel.Recording.{record_text, recording_of}
use Rattle.ddm_cli.specs.MeasureModel.Text.{measure_text}
use Rattle.ddm_words.specs.Commands.{Check, Command, ImageFrom, Paged, Recorded, Resumption, Run, Seeds, Survey}
use Rattle.ddm_words.specs.Commands.{TurnsFrom, to_run, to_list, to_check, to_resume, to_survey, to_record, to_measure}
use Rattle.ddm_words.specs.Commands.{to_survey_runs, to_join, to_page, to_assemble, to_say, command_of, first_run, paged_run}
use Rattle.ddm_words.specs.Commands.{recorded_run, surveyed_run}
use Rattle.ddm_cli.specs.SurveyModel.Laws.{IsLegalEnd}
use Rattle.ddm_cli.specs.SurveyModel.Survey.{survey_table, survey_text}
use Rattle.ddm_cli.specs.Pages.{paged_text}
use Rattle.ddm_cli.specs.Parts.{Parts, parts_for, parts_of, resumed_at, setting_at, tree_at, turns_at, turns_of}
use Rattle.ddm_cli.specs.Printed.{Writes, legal_line, printed, resumed_report}
use Rattle.ddm_cli.specs.Refusals.{build_line, checkpoint_line, image_line, small_lists_line, tree_line}
use Rattle.ddm_cli.specs.Refusals.{tree_line_head, tree_line_rest, witness_line}
use Rattle.joining.specs.JoinModel.Files.{joined_text, sum_of}
use Rattle.ddm_cli.specs.LitmusLines.{litmus_line, unread_test_line}
use Rattle.ddm_cli.specs.TableLines.{table_line, unread_table_line}
use Rattle.ddm_cli.specs.Told.{ScheduleGiven, files_told, image_faults, image_told, schedule_faults, schedule_told}
use Rattle.ddm_words.specs.declared.command.Prints.{Prints}
use Rattle.ddm_words.specs.declared.command.Prints.TheVariants.{Report}
use Rattle.ddm_cli.specs.declared.status.Status.{Status}
use Rattle.ddm_cli.specs.declared.status.Status.TheVariants.{Done, Usage, ImageLoad, ImageBuild, Tree, Schedule}
use Rattle.ddm_cli.specs.declared.status.Status.TheVariants.{Witness, Checkpoint, SmallLists, Table, ReadFault}
use Rattle.ddm_cli.specs.declared.status.Status.TheVariants.{UnreadTable, WriteFault, NoMemory, Litmus, UnreadTest}

-- ---- the text

-- what is printed of a run of these turns from the start
unfoldable pub text_at : Prints → Parts → List Turn → List ℕ
text_at prints p turns = printed prints (length p.tree.levels) turns (start_machine p.tree p.image)

-- of the turns of a schedule that is accepted for the tree
abbrev pub text_with : Prints → ScheduleGiven → Parts → Option (List ℕ)
text_with prints schedule p = option_map (text_at prints p) (turns_of p.tree.levels schedule)

-- what a tree, an image and a schedule give
abbrev pub text_of : Prints → List ℕ → List ℕ → ScheduleGiven → Option (List ℕ)
text_of prints tree image schedule = option_and_then (text_with prints schedule) (parts_for prints tree image)

-- the schedule of a seed for a tree
unfoldable pub list_at : ℕ → ℕ → TreeValue → List ℕ
list_at seed count t = schedule_text (seeded_turns (shape_view t.levels) seed count)

abbrev pub list_of : ℕ → ℕ → List ℕ → Option (List ℕ)
list_of seed count tree = option_map (list_at seed count) (tree_at tree)

-- the line of a witness that is accepted in this setting
abbrev pub verdict_in : List ℕ → Setting → Option (List ℕ)
verdict_in witness s = option_map legal_line (result_ok (check_of s witness))

-- for the setting of a tree and an image
abbrev pub verdict_of : List ℕ → List ℕ → List ℕ → Option (List ℕ)
verdict_of tree image witness = option_and_then (verdict_in witness) (setting_at tree image)

-- what is printed of the turns of a schedule that goes on from a machine and what its turns came to
abbrev pub rest_with : List ℕ → List (List ℕ) → Resumed → Option (List ℕ)
rest_with schedule levels r = option_map (λ turns. resumed_report turns r) (turns_at levels r.counts.turns schedule)

-- of a checkpoint that is accepted for the parts
abbrev pub resumed_with : List ℕ → List ℕ → Parts → Option (List ℕ)
resumed_with checkpoint schedule p = option_and_then (rest_with schedule p.tree.levels) (resumed_at p checkpoint)

-- what a tree, an image, a checkpoint and a schedule give
abbrev pub resumed_text : List ℕ → List ℕ → List ℕ → List ℕ → Option (List ℕ)
resumed_text tree image checkpoint schedule = option_and_then (resumed_with checkpoint schedule) (parts_of tree image)

-- the outcomes of seeds of the machine of a tree and an image
unfoldable pub outcomes_at : Seeds → Parts → List ℕ
outcomes_at s p = outcomes_text (shape_view p.tree.levels) s.turns (start_machine p.tree p.image) s.first s.count

abbrev pub outcomes_of : Seeds → List ℕ → List ℕ → Option (List ℕ)
outcomes_of s tree image = option_map (outcomes_at s) (parts_of tree image)

-- the recorded run of a seed on the machine of a tree and an image
unfoldable pub record_at : Recorded → Parts → List ℕ
record_at r p = record_text r.kind (shape_view p.tree.levels) r.seed r.turns (start_machine p.tree p.image)

abbrev pub record_of : Recorded → List ℕ → List ℕ → Option (List ℕ)
record_of r tree image = option_map (record_at r) (parts_of tree image)

-- what it is measured by
unfoldable pub measure_at : Recorded → Parts → List ℕ
measure_at r p = measure_text r.kind (shape_view p.tree.levels) r.seed r.turns (start_machine p.tree p.image)

abbrev pub measure_of : Recorded → List ℕ → List ℕ → Option (List ℕ)
measure_of r tree image = option_map (measure_at r) (parts_of tree image)

-- the ends of the recorded runs of seeds of that machine
unfoldable pub survey_at : Survey → Parts → List ℕ
survey_at s p = survey_text s.kind (shape_view p.tree.levels) s.turns (start_machine p.tree p.image) s.first s.count

abbrev pub survey_of : Survey → List ℕ → List ℕ → Option (List ℕ)
survey_of s tree image = option_map (survey_at s) (parts_of tree image)

-- what a command prints, where its files are told and accepted
abbrev pub command_text : (List ℕ → Option (List ℕ)) → Command → Option (List ℕ)
command_text told (to_run prints r) =
    option_and_then
    (λ tree. option_and_then
    (λ image. option_and_then (text_of prints tree image) (schedule_told told r.turns))
    (image_told told r.image)) (told r.tree)
command_text told (to_list tree seed count) = option_and_then (list_of seed count) (told tree)
command_text told (to_check c) =
    option_and_then
    (λ tree. option_and_then (λ image. option_and_then (verdict_of tree image) (told c.witness))
    (told c.image)) (told c.tree)
command_text told (to_resume r) =
    option_and_then (λ tree. option_and_then (λ image. option_and_then (λ checkpoint.
    option_and_then (resumed_text tree image checkpoint) (told r.schedule)) (told r.checkpoint)) (told r.image)) (told r.tree)
command_text told (to_survey s) = option_and_then (λ tree. option_and_then (outcomes_of s tree) (told s.image)) (told s.tree)
command_text told (to_record r) = option_and_then (λ tree. option_and_then (record_of r tree) (told r.image)) (told r.tree)
command_text told (to_measure r) = option_and_then (λ tree. option_and_then (measure_of r tree) (told r.image)) (told r.tree)
command_text told (to_survey_runs s) = option_and_then (λ tree. option_and_then (survey_of s tree) (told s.image)) (told s.tree)
command_text told (to_join names) = option_and_then (λ files. result_ok (joined_text files)) (files_told told names)
command_text told (to_page p) =
    option_and_then
    (λ tree. option_and_then
    (λ image. option_and_then (paged_text tree image) (schedule_told told (paged_run p).turns))
    (told p.image)) (told p.tree)
command_text told (to_assemble a) = option_and_then (λ tree. option_and_then (assembled_of a tree) (told a.test)) (told a.tree)
command_text told (to_say a) = Some (about_text a)

-- ---- order

-- these turns are in order from the start
abbrev pub TurnsInOrder : Parts → List Turn → Type 0
TurnsInOrder p turns = RunInOrder (flat_start_of p.tree p.image) (start_machine p.tree p.image) turns

-- after each turn of the schedule
abbrev pub RunsInOrder : ScheduleGiven → Parts → Type 0
RunsInOrder schedule p = IfSome (turns_of p.tree.levels schedule) (TurnsInOrder p)

-- each outcome of these seeds is that of a legal run of the flat machine from its start
abbrev pub OutcomesAreRuns : Seeds → Parts → Type 0
OutcomesAreRuns s p =
    let m = start_machine p.tree p.image in
    let lines = outcome_table (shape_view p.tree.levels) s.turns m s.first s.count in
    AllByRecursion (λ (l : OutcomeLine). IsLegalOutcome m.code m.items (flat_start_of p.tree p.image) l.outcome) lines

-- each end of the recorded runs of these seeds is that of a legal run of the flat machine from its start
abbrev pub EndsAreRuns : Survey → Parts → Type 0
EndsAreRuns s p =
    let m = start_machine p.tree p.image in
    let lines = survey_table s.kind (shape_view p.tree.levels) s.turns m s.first s.count in
    AllByRecursion (λ (l : OutcomeLine). IsLegalEnd m.code m.items (flat_start_of p.tree p.image) l.outcome) lines

-- after each turn that is recorded
abbrev pub RecordedInOrder : Recorded → Parts → Type 0
RecordedInOrder r p = TurnsInOrder p (recording_of r.kind (shape_view p.tree.levels) r.seed r.turns (start_machine p.tree p.image)).turns

-- after each turn that a machine of a checkpoint makes
pub record GoesOnInOrder (p : Parts) (r : Resumed) (turns : List Turn) : Type 0 where
  -- where a run from the start comes to that machine, they are in order, with the operations of both together
  pub of_run :
      (first : List Turn) → r.machine ≡ (run_of first (start_machine p.tree p.image)).machine →
      RunInOrder (flat_start_of p.tree p.image) r.machine turns
  -- and whatever it is, if it keeps the rules that every machine keeps: from whatever start its operations are in order, they stay so
  pub stays : IsShaped r.machine → KeepsRules r.machine → (k : ℕ) → StaysInOrder r.machine (run_of (take k turns) r.machine).machine
  pub judged : AreJudged turns r.machine

-- ---- the files

-- what holds of a tree and something else, where both are told
abbrev pub Both : {A : Type 0} → Option (List ℕ) → Option A → (List ℕ → A → Type 0) → Type 0
Both tree other P = IfSome tree (λ t. IfSome other (P t))

-- the tree is accepted, and with it the image, from which the machine has a start, with lists that are large enough for what is
-- to be printed
abbrev pub AcceptsParts : Prints → Option (List ℕ) → Option (List ℕ) → Type 0
AcceptsParts prints tree image = Accepts tree_at tree × Both tree image (λ t i. IsSome (parts_for prints t i))

-- the image is refused for the tree, which is accepted
abbrev pub RefusesImage : (TreeValue → List ℕ → Type 0) → Option (List ℕ) → Option (List ℕ) → Type 0
RefusesImage refused tree image = Accepts tree_at tree × Both tree image (λ t i. IfSome (tree_at t) (λ value. refused value i))

-- the tree and the image are accepted, and with the tree the schedule
abbrev pub AcceptsRun : Prints → Option (List ℕ) → Option (List ℕ) → Option ScheduleGiven → Type 0
AcceptsRun prints tree image schedule =
    AcceptsParts prints tree image
    × Both tree schedule (λ t s. IfSome (tree_at t) (λ value. IsSome (turns_of value.levels s)))

-- the schedule is refused in a line for the tree, which is accepted with the image
abbrev pub RefusesSchedule : Prints → ℕ → ScheduleRefusal → Option (List ℕ) → Option (List ℕ) → Option ScheduleGiven → Type 0
RefusesSchedule prints line r tree image schedule =
    AcceptsParts prints tree image
    × Both tree schedule (λ t s. IfSome (tree_at t) (λ value. IsRefused value.levels line r s))

-- where all three are told and accepted, their run is in order
abbrev pub FilesInOrder : Option (List ℕ) → Option (List ℕ) → Option ScheduleGiven → Type 0
FilesInOrder tree image schedule = Both tree image (λ t i. IfSome schedule (λ s. IfSome (parts_of t i) (RunsInOrder s)))

-- where all three are told, this is their text
abbrev pub HasText : Prints → Option (List ℕ) → Option (List ℕ) → Option ScheduleGiven → List ℕ → Type 0
HasText prints tree image schedule text = Both tree image (λ t i. IfSome schedule (λ s. text_of prints t i s ≡ Some text))

-- where all three are told, this is their page
abbrev pub HasPage : Option (List ℕ) → Option (List ℕ) → Option ScheduleGiven → List ℕ → Type 0
HasPage tree image schedule text = Both tree image (λ t i. IfSome schedule (λ s. paged_text t i s ≡ Some text))

-- the tree is accepted, and with it the image, whose flat machine has a start
abbrev pub AcceptsSetting : Option (List ℕ) → Option (List ℕ) → Type 0
AcceptsSetting tree image = Accepts tree_at tree × Both tree image (λ t i. IsSome (setting_at t i))

-- where all three are told, the witness is so many lines of operations that are legal from the start
abbrev pub HasLegalLines : ℕ → Option (List ℕ) → Option (List ℕ) → Option (List ℕ) → Type 0
HasLegalLines lines tree image witness = Both tree image (λ t i. IfSome witness (λ w. IfSome (setting_at t i) (λ s. IsAccepted s w lines)))

-- where all three are told, the witness comes to this
abbrev pub IsJudged : Result ℕ CheckRefusal → Option (List ℕ) → Option (List ℕ) → Option (List ℕ) → Type 0
IsJudged answer tree image witness = Both tree image (λ t i. IfSome witness (λ w. IfSome (setting_at t i) (λ s. check_of s w ≡ answer)))

-- what holds of the parts of a tree and an image and of something else, where all are told
abbrev pub WithParts : {A : Type 0} → Option (List ℕ) → Option (List ℕ) → Option A → (A → Parts → Type 0) → Type 0
WithParts tree image other P = Both tree image (λ t i. IfSome other (λ o. IfSome (parts_of t i) (P o)))

-- the tree and the image are accepted, and with them the checkpoint
abbrev pub AcceptsCheckpoint : Option (List ℕ) → Option (List ℕ) → Option (List ℕ) → Type 0
AcceptsCheckpoint tree image checkpoint = AcceptsParts Report tree image × WithParts tree image checkpoint (λ c p. IsSome (resumed_at p c))

-- what holds of the parts, of the machine of a checkpoint that is accepted for them, and of a schedule, where all are told
abbrev pub WithResumed :
    Option (List ℕ) → Option (List ℕ) → Option (List ℕ) → Option (List ℕ) → (Parts → Resumed → List ℕ → Type 0) →
    Type 0
WithResumed tree image checkpoint schedule P =
    IfSome schedule (λ s. WithParts tree image checkpoint (λ c p. IfSome (resumed_at p c) (λ r. P p r s)))

-- and with it the schedule, which goes on from its turns
abbrev pub AcceptsRest : Option (List ℕ) → Option (List ℕ) → Option (List ℕ) → Option (List ℕ) → Type 0
AcceptsRest tree image checkpoint schedule =
    AcceptsCheckpoint tree image checkpoint
    × WithResumed tree image checkpoint schedule (λ p r s. IsSome (turns_at p.tree.levels r.counts.turns s))

-- where all four are told, this is their text
abbrev pub HasResumedText : Option (List ℕ) → Option (List ℕ) → Option (List ℕ) → Option (List ℕ) → List ℕ → Type 0
HasResumedText tree image checkpoint schedule text =
    Both tree image (λ t i. IfSome checkpoint (λ c. IfSome schedule (λ s. resumed_text t i c s ≡ Some text)))

-- the checkpoint is refused for the tree and the image, which are accepted
abbrev pub RefusesCheckpoint : ResumeRefusal → Option (List ℕ) → Option (List ℕ) → Option (List ℕ) → Type 0
RefusesCheckpoint r tree image checkpoint =
    AcceptsParts Report tree image
    × WithParts tree image checkpoint (λ c p. IsUnresumed (start_machine p.tree p.image) r c)

-- the schedule is refused in a line, where it goes on from the turns of the checkpoint, which is accepted
abbrev pub RefusesRest : ℕ → ScheduleRefusal → Option (List ℕ) → Option (List ℕ) → Option (List ℕ) → Option (List ℕ) → Type 0
RefusesRest line refusal tree image checkpoint schedule =
    AcceptsCheckpoint tree image checkpoint
    × WithResumed tree image checkpoint schedule
    (λ p r s. IsUnscheduled p.tree.levels r.counts.turns line refusal s)

-- where all four are told and accepted, the run goes on in order
abbrev pub RestInOrder : Option (List ℕ) → Option (List ℕ) → Option (List ℕ) → Option (List ℕ) → Type 0
RestInOrder tree image checkpoint schedule =
    WithResumed tree image checkpoint schedule
    (λ p r s. IfSome (turns_at p.tree.levels r.counts.turns s) (GoesOnInOrder p r))

-- ---- what a command reads

module _ {F : Type 0} (told : F → List ℕ → Option (List ℕ)) where
  -- the files that a command read are accepted, and this is what it prints
  abbrev pub HasAccepted : F → List ℕ → Command → Type 0
  HasAccepted files text (to_run prints r) =
      AcceptsRun prints (told files r.tree) (image_told (told files) r.image) (schedule_told (told files) r.turns)
      × HasText prints (told files r.tree) (image_told (told files) r.image) (schedule_told (told files) r.turns) text
  HasAccepted files text (to_list tree seed count) =
      Accepts tree_at (told files tree) × IfSome (told files tree) (λ t. list_of seed count t ≡ Some text)
  HasAccepted files text (to_check c) =
      AcceptsSetting (told files c.tree) (told files c.image)
      × ((lines : ℕ) × (text ≡ legal_line lines) × HasLegalLines lines (told files c.tree) (told files c.image) (told files c.witness))
  HasAccepted files text (to_resume r) =
      AcceptsRest (told files r.tree) (told files r.image) (told files r.checkpoint) (told files r.schedule)
      × HasResumedText (told files r.tree) (told files r.image) (told files r.checkpoint) (told files r.schedule) text
  HasAccepted files text (to_survey s) =
      AcceptsParts Report (told files s.tree) (told files s.image)
      × Both (told files s.tree) (told files s.image) (λ t i. outcomes_of s t i ≡ Some text)
  HasAccepted files text (to_record r) =
      AcceptsParts Report (told files r.tree) (told files r.image)
      × Both (told files r.tree) (told files r.image) (λ t i. record_of r t i ≡ Some text)
  HasAccepted files text (to_measure r) =
      AcceptsParts Report (told files r.tree) (told files r.image)
      × Both (told files r.tree) (told files r.image) (λ t i. measure_of r t i ≡ Some text)
  HasAccepted files text (to_survey_runs s) =
      AcceptsParts Report (told files s.tree) (told files s.image)
      × Both (told files s.tree) (told files s.image) (λ t i. survey_of s t i ≡ Some text)
  HasAccepted files text (to_join names) = IfSome (files_told (told files) names) (λ tables. joined_text tables ≡ Ok text)
  HasAccepted files text (to_page p) =
      AcceptsRun Report (told files p.tree) (told files p.image) (schedule_told (told files) (paged_run p).turns)
      × HasPage (told files p.tree) (told files p.image) (schedule_told (told files) (paged_run p).turns) text
  HasAccepted files text (to_assemble a) =
      Accepts tree_at (told files a.tree)
      × Both (told files a.tree) (told files a.test) (λ t f. assembled_of a t f ≡ Some text)
  HasAccepted files text (to_say a) = text ≡ about_text a

  -- the words are in the grammar, and this is what their command prints
  abbrev pub Accepted : List (List ℕ) → F → List ℕ → Type 0
  Accepted words files text = IsOkAnd (command_of words) (HasAccepted files text)

  -- it was written after what was there, or a first part of it where a write failed
  abbrev pub WritesAccepted : {E : Type 0} → F → Option (List ℕ) → Option (List ℕ) → Command → Result (Unit {0}) E → Type 0
  WritesAccepted files old new c result = (text : List ℕ) × HasAccepted files text c × Writes old new text result

  -- where all that a run is made of is told and accepted, it is in order, and so are the runs of many seeds; one that goes on stays so;
  -- other commands make none
  abbrev pub IsInOrder : F → Command → Type 0
  IsInOrder files (to_run prints r) =
      FilesInOrder (told files r.tree) (image_told (told files) r.image) (schedule_told (told files) r.turns)
  IsInOrder files (to_list tree seed count) = Unit {0}
  IsInOrder files (to_check c) = Unit {0}
  IsInOrder files (to_resume r) = RestInOrder (told files r.tree) (told files r.image) (told files r.checkpoint) (told files r.schedule)
  IsInOrder files (to_survey s) = Both (told files s.tree) (told files s.image) (λ t i. IfSome (parts_of t i) (OutcomesAreRuns s))
  IsInOrder files (to_record r) = Both (told files r.tree) (told files r.image) (λ t i. IfSome (parts_of t i) (RecordedInOrder r))
  IsInOrder files (to_measure r) = Both (told files r.tree) (told files r.image) (λ t i. IfSome (parts_of t i) (RecordedInOrder r))
  IsInOrder files (to_survey_runs s) = Both (told files s.tree) (told files s.image) (λ t i. IfSome (parts_of t i) (EndsAreRuns s))
  IsInOrder files (to_join names) = Unit {0}
  IsInOrder files (to_page p) = FilesInOrder (told files p.tree) (told files p.image) (schedule_told (told files) (paged_run p).turns)
  IsInOrder files (to_assemble a) = Unit {0}
  IsInOrder files (to_say a) = Unit {0}

  abbrev pub RunIsWitnessed : List (List ℕ) → F → Type 0
  RunIsWitnessed words files = IfOk (command_of words) (IsInOrder files)

  module _ (faults : F → List ℕ → ℕ) (files files' : F) where
    -- the count of failed reads of this source rose in the call
    abbrev pub FileFailed : List ℕ → Type 0
    FileFailed name = Rose (faults files name) (faults files' name)

    abbrev pub ImageFailed : ImageFrom → Type 0
    ImageFailed image = Rose (image_faults (faults files) image) (image_faults (faults files') image)

    abbrev pub ScheduleFailed : TurnsFrom → Type 0
    ScheduleFailed turns = Rose (schedule_faults (faults files) turns) (schedule_faults (faults files') turns)

    -- a file can't be read: the tree is read first, then the image, then the schedule
    abbrev pub CantRead : Prints → FileRole → Run → Type 0
    CantRead prints TreeFile r = FileFailed r.tree
    CantRead prints ImageFile r = ImageFailed r.image × Accepts tree_at (told files r.tree)
    CantRead prints ScheduleFile r = ScheduleFailed r.turns × AcceptsParts prints (told files r.tree) (image_told (told files) r.image)
    CantRead prints WitnessFile r = ⊥
    CantRead prints CheckpointFile r = ⊥

    -- why nothing is printed of a run; the other statuses are no such answers
    abbrev pub NoRun : Prints → Status → Run → Type 0
    NoRun prints (Tree r) n = IfSome (told files n.tree) (λ file. tree_of file ≡ Err r)
    NoRun prints (ImageLoad r) n = RefusesImage (λ t. IsUnloaded t r) (told files n.tree) (image_told (told files) n.image)
    NoRun prints (ImageBuild r) n = RefusesImage (λ t. IsUnstarted t r) (told files n.tree) (image_told (told files) n.image)
    NoRun prints (SmallLists key) n = RefusesImage (HasSmallList prints key) (told files n.tree) (image_told (told files) n.image)
    NoRun prints (Schedule line r) n =
        RefusesSchedule prints line r (told files n.tree) (image_told (told files) n.image)
        (schedule_told (told files) n.turns)
    NoRun prints (ReadFault role) n = CantRead prints role n
    NoRun prints NoMemory n = Unit {0}
    NoRun prints _ n = ⊥

    -- a file can't be read: the tree is read first, then the image, then the witness
    abbrev pub CantReadFor : FileRole → Check → Type 0
    CantReadFor TreeFile c = FileFailed c.tree
    CantReadFor ImageFile c = FileFailed c.image × Accepts tree_at (told files c.tree)
    CantReadFor WitnessFile c = FileFailed c.witness × AcceptsSetting (told files c.tree) (told files c.image)
    CantReadFor ScheduleFile c = ⊥
    CantReadFor CheckpointFile c = ⊥

    -- why a witness isn't accepted: that leaves have no places for all items is no reason; the other statuses are no such answers
    abbrev pub NoVerdict : Status → Check → Type 0
    NoVerdict (Tree r) c = IfSome (told files c.tree) (λ file. tree_of file ≡ Err r)
    NoVerdict (ImageLoad r) c = RefusesImage (λ t. IsUnloaded t r) (told files c.tree) (told files c.image)
    NoVerdict (ImageBuild r) c = RefusesImage (λ t. HasNoSetting t r) (told files c.tree) (told files c.image)
    NoVerdict (Witness r) c =
        AcceptsSetting (told files c.tree) (told files c.image)
        × IsJudged (Err r) (told files c.tree) (told files c.image) (told files c.witness)
    NoVerdict (ReadFault role) c = CantReadFor role c
    NoVerdict NoMemory c = Unit {0}
    NoVerdict _ c = ⊥

    -- a file can't be read: the tree is read first, then the image, then the checkpoint, then the schedule
    abbrev pub CantReadRest : FileRole → Resumption → Type 0
    CantReadRest TreeFile r = FileFailed r.tree
    CantReadRest ImageFile r = FileFailed r.image × Accepts tree_at (told files r.tree)
    CantReadRest CheckpointFile r = FileFailed r.checkpoint × AcceptsParts Report (told files r.tree) (told files r.image)
    CantReadRest ScheduleFile r =
        FileFailed r.schedule
        × AcceptsCheckpoint (told files r.tree) (told files r.image) (told files r.checkpoint)
    CantReadRest WitnessFile r = ⊥

    -- why nothing is printed of a run that goes on; the other statuses are no such answers
    abbrev pub NoRest : Status → Resumption → Type 0
    NoRest (Tree r) n = IfSome (told files n.tree) (λ file. tree_of file ≡ Err r)
    NoRest (ImageLoad r) n = RefusesImage (λ t. IsUnloaded t r) (told files n.tree) (told files n.image)
    NoRest (ImageBuild r) n = RefusesImage (λ t. IsUnstarted t r) (told files n.tree) (told files n.image)
    NoRest (Checkpoint r) n = RefusesCheckpoint r (told files n.tree) (told files n.image) (told files n.checkpoint)
    NoRest (Schedule line r) n =
        RefusesRest line r (told files n.tree) (told files n.image) (told files n.checkpoint)
        (told files n.schedule)
    NoRest (ReadFault role) n = CantReadRest role n
    NoRest NoMemory n = Unit {0}
    NoRest _ n = ⊥

    -- the tables before this one are accepted, and the count of its failed reads rose
    abbrev pub CantReadTable : ℕ → List (List ℕ) → Type 0
    CantReadTable n names =
        IsSomeAnd (slice_get names (n - 1)) FileFailed
        × IfSome (files_told (told files) (take (n - 1) names)) (λ tables. IsOk (sum_of tables))

    -- why tables aren't put together; the other statuses are no such answers
    abbrev pub NoJoin : Status → List (List ℕ) → Type 0
    NoJoin (Table n r) names = IfSome (files_told (told files) (take n names)) (λ tables. sum_of tables ≡ Err (n, r))
    NoJoin (UnreadTable n) names = CantReadTable n names
    NoJoin NoMemory names = Unit {0}
    NoJoin _ names = ⊥

    -- why a command prints nothing: where it only lists turns, what is said of a tree file; where it runs many seeds, what is said
    -- of the run of the first
    abbrev pub NotAccepted : Status → Command → Type 0
    NotAccepted s (to_run prints r) = NoRun prints s r
    NotAccepted s (to_list tree seed count) = TreeCause (told files tree) (faults files tree) (faults files' tree) s
    NotAccepted s (to_check c) = NoVerdict s c
    NotAccepted s (to_resume r) = NoRest s r
    NotAccepted s (to_survey o) = NoRun Report s (first_run o)
    NotAccepted s (to_record r) = NoRun Report s (recorded_run r)
    NotAccepted s (to_measure r) = NoRun Report s (recorded_run r)
    NotAccepted s (to_survey_runs n) = NoRun Report s (surveyed_run n)
    NotAccepted s (to_join names) = NoJoin s names
    NotAccepted s (to_page p) = NoRun Report s (paged_run p)
    NotAccepted s (to_assemble a) = NoAssembly told faults files files' s a
    NotAccepted s (to_say a) = ⊥

    -- why there is no text
    abbrev pub Refused : List (List ℕ) → Status → Type 0
    Refused words (Usage k) = command_of words ≡ Err k
    Refused words s = IsOkAnd (command_of words) (NotAccepted s)

    -- no read of the command failed
    abbrev pub NothingFailed : Command → Type 0
    NothingFailed (to_run prints r) = (¬ FileFailed r.tree) × (¬ ImageFailed r.image) × (¬ ScheduleFailed r.turns)
    NothingFailed (to_list tree seed count) = ¬ FileFailed tree
    NothingFailed (to_check c) = (¬ FileFailed c.tree) × (¬ FileFailed c.image) × (¬ FileFailed c.witness)
    NothingFailed (to_resume r) = (¬ FileFailed r.tree) × (¬ FileFailed r.image) × (¬ FileFailed r.checkpoint) × (¬ FileFailed r.schedule)
    NothingFailed (to_survey s) = (¬ FileFailed s.tree) × (¬ FileFailed s.image)
    NothingFailed (to_record r) = (¬ FileFailed r.tree) × (¬ FileFailed r.image)
    NothingFailed (to_measure r) = (¬ FileFailed r.tree) × (¬ FileFailed r.image)
    NothingFailed (to_survey_runs s) = (¬ FileFailed s.tree) × (¬ FileFailed s.image)
    NothingFailed (to_join names) = AllByRecursion (λ name. ¬ FileFailed name) names
    NothingFailed (to_page p) = (¬ FileFailed p.tree) × (¬ FileFailed p.image) × (¬ FileFailed p.schedule)
    NothingFailed (to_assemble a) = (¬ FileFailed a.tree) × (¬ FileFailed a.test)
    NothingFailed (to_say a) = Unit {0}

-- ---- the command

module _ {F K : Type 0} (told : F → List ℕ → Option (List ℕ)) (faults : F → List ℕ → ℕ)
    (held : K → Option (List ℕ)) (failures : K → ℕ) where
  -- a first part of the text was written, and the count of failed writes rose
  abbrev pub WritesPart : K → K → List ℕ → Type 0
  WritesPart out out' text = AppendsPart (held out) (held out') text × Rose (failures out) (failures out')

  -- the cause of each status, from what was there before the call and after it
  abbrev pub StatusHasCause : List (List ℕ) → F → F → K → K → Status → Type 0
  -- the text is after what was there
  StatusHasCause words files files' out out' Done = (text : List ℕ) × Accepted told words files text × Appends (held out) (held out') text
  -- a first part of the text does
  StatusHasCause words files files' out out' WriteFault = (text : List ℕ) × Accepted told words files text × WritesPart out out' text
  -- there is no text, and nothing was written
  StatusHasCause words files files' out out' (Usage k) = Refused told faults files files' words (Usage k) × (held out' ≡ held out)
  StatusHasCause words files files' out out' (Tree r) = Refused told faults files files' words (Tree r) × (held out' ≡ held out)
  StatusHasCause words files files' out out' (ImageLoad r) = Refused told faults files files' words (ImageLoad r) × (held out' ≡ held out)
  StatusHasCause words files files' out out' (ImageBuild r) = Refused told faults files files' words (ImageBuild r) × (held out' ≡ held out)
  StatusHasCause words files files' out out' (Schedule line r) =
      Refused told faults files files' words (Schedule line r) × (held out' ≡ held out)
  StatusHasCause words files files' out out' (Witness r) = Refused told faults files files' words (Witness r) × (held out' ≡ held out)
  StatusHasCause words files files' out out' (Checkpoint r) = Refused told faults files files' words (Checkpoint r) × (held out' ≡ held out)
  StatusHasCause words files files' out out' (SmallLists key) =
      Refused told faults files files' words (SmallLists key) × (held out' ≡ held out)
  StatusHasCause words files files' out out' (Table n r) = Refused told faults files files' words (Table n r) × (held out' ≡ held out)
  StatusHasCause words files files' out out' (UnreadTable n) =
      Refused told faults files files' words (UnreadTable n) × (held out' ≡ held out)
  StatusHasCause words files files' out out' (Litmus r) = Refused told faults files files' words (Litmus r) × (held out' ≡ held out)
  StatusHasCause words files files' out out' UnreadTest = Refused told faults files files' words UnreadTest × (held out' ≡ held out)
  StatusHasCause words files files' out out' (ReadFault role) =
      Refused told faults files files' words (ReadFault role) × (held out' ≡ held out)
  StatusHasCause words files files' out out' NoMemory = Refused told faults files files' words NoMemory × (held out' ≡ held out)

  -- Where the words are in the grammar, the told files are accepted and nothing failed, all was done, or memory ran out.
  abbrev pub Completes : List (List ℕ) → F → F → K → K → Status → Type 0
  Completes words files files' out out' status =
      (c : Command) (text : List ℕ) → command_of words ≡ Ok c → command_text (told files) c ≡ Some text
      → NothingFailed told faults files files' c → ¬ Rose (failures out) (failures out')
      → (status ≡ Done) ⊎ (status ≡ NoMemory)

-- how a command ended that wrote its text, or had none
abbrev pub status_of : {E : Type 0} → Result (Result (Unit {0}) E) Status → Status
status_of (Ok (Ok u)) = Done
status_of (Ok (Err e)) = WriteFault
status_of (Err s) = s

-- ---- the line of a fault

-- the line of a status, none of `Done`
unfoldable pub fault_line : Status → List ℕ
fault_line Done = []
fault_line (Usage place) = usage_fault place
fault_line (Tree r) = tree_line r
fault_line (ImageLoad r) = image_line r
fault_line (ImageBuild r) = build_line r
fault_line (Schedule line r) = schedule_fault line r
fault_line (Witness r) = witness_line r
fault_line (Checkpoint r) = checkpoint_line r
fault_line (SmallLists key) = small_lists_line key
fault_line (Table n r) = table_line n r
fault_line (UnreadTable n) = unread_table_line n
fault_line (Litmus r) = litmus_line r
fault_line UnreadTest = unread_test_line
fault_line (ReadFault role) = read_fault (role_text role)
fault_line WriteFault = write_fault
fault_line NoMemory = memory_fault

-- the line in two parts: of an unknown key what is before it, and the key
abbrev pub line_head : Status → List ℕ
line_head (Tree r) = tree_line_head r
line_head s = fault_line s

abbrev pub line_rest : Status → List ℕ
line_rest (Tree r) = tree_line_rest r
line_rest s = []

-- The line was offered: all of it was taken, or a first part where the count rose.
pub record Offers {K : Type 0} (held : K → Option (List ℕ)) (failures : K → ℕ) (out out' : K) (line : List ℕ) : Type 0 where
  pub part : AppendsPart (held out) (held out') line
  pub whole : (Rose (failures out) (failures out') → ⊥) → Appends (held out) (held out') line
