-- The run of accepted files is in order.
use Rattle.std.proofs.Common.{◌≡◌, ℕ, List, [], take, Option, Some, None, Result, Ok, Err, refl, cond}
use Rattle.std.specs.Prelude.{IfOk, IfSome, is_none, option_and_then}
use Rattle.std.specs.Result.{result_ok}
use Rattle.ddm_cli.specs.DdmTypes.declared.turns.Turn.{Turn}
use Rattle.ddm_cli.specs.TreeModel.Start.Sources.{TreeValue, ImageValue}
use Rattle.ddm_cli.specs.TreeModel.Start.Machine.{flat_start_of, start_machine, start_refusal}
use Rattle.ddm_cli.specs.TreeModel.State.Values.{MachineValue}
use Rattle.ddm_cli.specs.TreeModel.Turns.Machine.{run_of}
use Rattle.ddm_cli.proofs.DdmTree.RulesKept.{run-order}
use Rattle.run_laws.specs.InOrder.{RunInOrder}
use Rattle.run_laws.proofs.InOrder.{judged, runs-in_order}
use Rattle.checkpoint.specs.Resumed.{Resumed}
use Rattle.ddm_cli.specs.BusLaws.IsTree.{IsTree}
use Rattle.ddm_cli.specs.ElfLoad.ElfFile.{image_of}
use Rattle.ddm_cli.specs.ElfLoad.declared.refusal.ImageRefusal.{ImageRefusal}
use Rattle.ddm_cli.specs.TreeConfig.TreeFile.{tree_of}
use Rattle.ddm_cli.specs.TreeConfig.declared.refusal.TreeRefusal.{TreeRefusal}
use Rattle.ddm_cli.specs.RecordingModel.Recording.{recording_of}
use Rattle.ddm_words.specs.Commands.{Command, Recorded, Seeds, Survey, to_run, to_list, to_check, to_resume, to_survey, to_record, to_measure, to_survey_runs, to_join, to_page, to_assemble, to_say, command_of, paged_run}
use Rattle.ddm_cli.specs.Parts.{Parts, if_started, parts_in, parts_of, resumed_at, tree_at, turns_at, turns_of}
use Rattle.ddm_cli.specs.Told.{ScheduleGiven, image_told, schedule_told}
use Rattle.ddm_cli.specs.Top.{Both, EndsAreRuns, FilesInOrder, GoesOnInOrder, IsInOrder, OutcomesAreRuns, RecordedInOrder, RestInOrder, RunsInOrder, RunIsWitnessed, TurnsInOrder}
use Rattle.ddm_cli.proofs.AcceptedTrees.{accepted_tree}
use Rattle.ddm_cli.proofs.OutcomeModel.Legal.{outcomes-legal}
use Rattle.ddm_cli.proofs.SurveyModel.Ends.{surveyed-legal}
use Rattle.ddm_cli.specs.ScheduleLog.Shapes.{shape_view}
use Rattle.ddm_cli.proofs.EachTurn.{starts}

-- parts that were taken
record ArePartsTaken (p : Parts) : Type 0 where
  tree : IsTree p.tree
  accepted : start_refusal p.tree p.image ≡ None

pub tree_taken : (file : List ℕ) (t : TreeValue) → tree_at file ≡ Some t → IsTree t
unfolding tree_at
tree_taken file t = by_result (tree_of file) refl where
  by_result : (r : Result TreeValue TreeRefusal) → tree_of file ≡ r → result_ok r ≡ Some t → IsTree t
  by_result (Ok u) of e = let same : u ≡ t = cc in rw (← same) (accepted_tree file u of)
  by_result (Err r) of e = cc

parts_taken : (file : List ℕ) (t : TreeValue) (p : Parts) → IsTree t → parts_in t file ≡ Some p → ArePartsTaken p
unfolding parts_in
parts_taken file t p tree = by_result (image_of t.item_bytes file) where
  by_test : (i : ImageValue) (o : Option _) → start_refusal t i ≡ o → cond (is_none o) (Some (record { tree = t; image = i })) None ≡ Some p → ArePartsTaken p
  by_test i None is e = let same : record { tree = t; image = i } ≡ p = cc in rw (← same) (record { tree = tree; accepted = is })
  by_test i (Some r) is e = cc

  by_result : (r : Result ImageValue ImageRefusal) → if_started t r ≡ Some p → ArePartsTaken p
  by_result (Ok i) e = by_test i (start_refusal t i) refl e
  by_result (Err r) e = cc

both_taken : (tree image : List ℕ) (p : Parts) → parts_of tree image ≡ Some p → ArePartsTaken p
unfolding parts_of
both_taken tree image p = by_tree (tree_at tree) refl where
  by_tree : (o : Option TreeValue) → tree_at tree ≡ o → option_and_then (λ t. parts_in t image) o ≡ Some p → ArePartsTaken p
  by_tree None is e = cc
  by_tree (Some t) is e = parts_taken image t p (tree_taken tree t is) e

-- where a run from the start comes to the machine, the turns after it are in order
goes_on : (p : Parts) → ArePartsTaken p → (m : MachineValue) (turns first : List Turn) → m ≡ (run_of first (start_machine p.tree p.image)).machine → RunInOrder (flat_start_of p.tree p.image) m turns
goes_on p taken m turns first is = rw is (runs-in_order p.tree p.image taken.tree taken.accepted first turns)

none_made : (m : MachineValue) → m ≡ (run_of [] m).machine
unfolding run_of
none_made m = refl

whole_in_order : (p : Parts) → ArePartsTaken p → (turns : List Turn) → TurnsInOrder p turns
whole_in_order p taken turns = goes_on p taken (start_machine p.tree p.image) turns [] (none_made (start_machine p.tree p.image))

turns_in_order : (p : Parts) → ArePartsTaken p → (schedule : ScheduleGiven) → RunsInOrder schedule p
turns_in_order p taken schedule = by_turns (turns_of p.tree.levels schedule) where
  by_turns : (o : Option (List Turn)) → IfSome o (TurnsInOrder p)
  by_turns None = tt
  by_turns (Some turns) = whole_in_order p taken turns

files_in_order : (tree image : List ℕ) (schedule : ScheduleGiven) → IfSome (parts_of tree image) (RunsInOrder schedule)
files_in_order tree image schedule = by_parts (parts_of tree image) refl where
  by_parts : (o : Option Parts) → parts_of tree image ≡ o → IfSome o (RunsInOrder schedule)
  by_parts None is = tt
  by_parts (Some p) is = turns_in_order p (both_taken tree image p is) schedule

told_in_order : (tree image : Option (List ℕ)) (schedule : Option ScheduleGiven) → FilesInOrder tree image schedule
told_in_order None image schedule = tt
told_in_order (Some t) None schedule = tt
told_in_order (Some t) (Some i) None = tt
told_in_order (Some t) (Some i) (Some s) = files_in_order t i s

-- ---- a run that goes on

rest_in_order : (tree image checkpoint schedule : Option (List ℕ)) → RestInOrder tree image checkpoint schedule
rest_in_order tree image checkpoint None = tt
rest_in_order None image checkpoint (Some s) = tt
rest_in_order (Some t) None checkpoint (Some s) = tt
rest_in_order (Some t) (Some i) None (Some s) = tt
rest_in_order (Some t) (Some i) (Some c) (Some s) = by_parts (parts_of t i) refl where
  by_turns : (p : Parts) → ArePartsTaken p → (r : Resumed) (o : Option (List Turn)) → IfSome o (GoesOnInOrder p r)
  by_turns p taken r None = tt
  by_turns p taken r (Some turns) = record {
    of_run = goes_on p taken r.machine turns;
    stays = λ shaped rules k. run-order (take k turns) r.machine shaped rules;
    judged = judged turns r.machine;
  }

  by_resumed : (p : Parts) → ArePartsTaken p → (o : Option Resumed) → IfSome o (λ r. IfSome (turns_at p.tree.levels r.counts.turns s) (GoesOnInOrder p r))
  by_resumed p taken None = tt
  by_resumed p taken (Some r) = by_turns p taken r (turns_at p.tree.levels r.counts.turns s)

  by_parts : (o : Option Parts) → parts_of t i ≡ o → IfSome o (λ p. IfSome (resumed_at p c) (λ r. IfSome (turns_at p.tree.levels r.counts.turns s) (GoesOnInOrder p r)))
  by_parts None is = tt
  by_parts (Some p) is = by_resumed p (both_taken t i p is) (resumed_at p c)

outcomes_in_order : (tree image : Option (List ℕ)) (s : Seeds) → Both tree image (λ t i. IfSome (parts_of t i) (OutcomesAreRuns s))
outcomes_in_order None image s = tt
outcomes_in_order (Some t) None s = tt
outcomes_in_order (Some t) (Some i) s = by_parts (parts_of t i) refl where
  by_parts : (o : Option Parts) → parts_of t i ≡ o → IfSome o (OutcomesAreRuns s)
  by_parts None is = tt
  by_parts (Some p) is =
      let taken = both_taken t i p is in
      outcomes-legal p.tree p.image (start_machine p.tree p.image) taken.tree (starts p.tree p.image taken.accepted) (shape_view p.tree.levels) s.turns s.first s.count

ends_in_order : (tree image : Option (List ℕ)) (s : Survey) → Both tree image (λ t i. IfSome (parts_of t i) (EndsAreRuns s))
ends_in_order None image s = tt
ends_in_order (Some t) None s = tt
ends_in_order (Some t) (Some i) s = by_parts (parts_of t i) refl where
  by_parts : (o : Option Parts) → parts_of t i ≡ o → IfSome o (EndsAreRuns s)
  by_parts None is = tt
  by_parts (Some p) is =
      let taken = both_taken t i p is in
      surveyed-legal p.tree p.image (start_machine p.tree p.image) taken.tree (starts p.tree p.image taken.accepted) s.kind (shape_view p.tree.levels) s.turns s.first s.count

recorded_in_order : (tree image : Option (List ℕ)) (r : Recorded) → Both tree image (λ t i. IfSome (parts_of t i) (RecordedInOrder r))
recorded_in_order None image r = tt
recorded_in_order (Some t) None r = tt
recorded_in_order (Some t) (Some i) r = by_parts (parts_of t i) refl where
  by_parts : (o : Option Parts) → parts_of t i ≡ o → IfSome o (RecordedInOrder r)
  by_parts None is = tt
  by_parts (Some p) is = whole_in_order p (both_taken t i p is) (recording_of r.kind (shape_view p.tree.levels) r.seed r.turns (start_machine p.tree p.image)).turns

pub in_order : {F : Type 0} (told : F → List ℕ → Option (List ℕ)) (words : List (List ℕ)) (files : F) → RunIsWitnessed told words files
in_order {F} told words files = by_command (command_of words) where
  by_command : (r : Result Command ℕ) → IfOk r (IsInOrder told files)
  by_command (Ok (to_run prints r)) = told_in_order (told files r.tree) (image_told (told files) r.image) (schedule_told (told files) r.turns)
  by_command (Ok (to_list tree seed count)) = tt
  by_command (Ok (to_check check)) = tt
  by_command (Ok (to_resume r)) = rest_in_order (told files r.tree) (told files r.image) (told files r.checkpoint) (told files r.schedule)
  by_command (Ok (to_survey s)) = outcomes_in_order (told files s.tree) (told files s.image) s
  by_command (Ok (to_record r)) = recorded_in_order (told files r.tree) (told files r.image) r
  by_command (Ok (to_measure r)) = recorded_in_order (told files r.tree) (told files r.image) r
  by_command (Ok (to_survey_runs s)) = ends_in_order (told files s.tree) (told files s.image) s
  by_command (Ok (to_join names)) = tt
  by_command (Ok (to_page p)) = told_in_order (told files p.tree) (told files p.image) (schedule_told (told files) (paged_run p).turns)
  by_command (Ok (to_assemble a)) = tt
  by_command (Ok (to_say about)) = tt
  by_command (Err k) = tt
