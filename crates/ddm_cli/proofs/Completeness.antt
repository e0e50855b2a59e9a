-- What follows from the causes.
use Rattle.std.proofs.Common.{◌≡◌, ℕ, Bool, true, false, cond, List, ap, Option, Some, None, Result, Ok, Err, inl, inr, refl, sym, ◌∙◌, arith}
use Rattle.std.specs.Prelude.{IfSome, IsOkAnd, IsSomeAnd, is_none, option_and_then}
use Rattle.std.specs.Option.{option_map}
use Rattle.ddm_cli.specs.ReportCrate.declared.roles.FileRole.TheVariants.{ImageFile, TreeFile, ScheduleFile, WitnessFile, CheckpointFile}
use Rattle.ddm_cli.specs.TreeModel.Start.Sources.{TreeValue, ImageValue}
use Rattle.ddm_cli.specs.TreeModel.Start.Machine.{StartRefusal, start_machine, start_refusal}
use Rattle.checkpoint.specs.Resumed.{Resumed}
use Rattle.checkpoint.specs.declared.ResumeRefusal.{ResumeRefusal}
use Rattle.ddm_cli.specs.ElfLoad.ElfFile.{image_of}
use Rattle.ddm_cli.specs.ElfLoad.declared.refusal.ImageRefusal.{ImageRefusal}
use Rattle.ddm_cli.specs.TreeConfig.TreeFile.{tree_of}
use Rattle.ddm_cli.specs.TreeConfig.declared.refusal.TreeKey.{TreeKey}
use Rattle.ddm_cli.specs.TreeConfig.declared.refusal.TreeRefusal.{TreeRefusal}
use Rattle.run_engine.specs.Build.{build_refusal, refusal_of}
use Rattle.run_engine.specs.declared.refusal.BuildRefusal.{BuildRefusal}
use Rattle.ddm_cli.specs.TextModel.declared.ScheduleRefusal.{ScheduleRefusal}
use Rattle.ddm_cli.specs.Causes.{HasNoSetting, HasSmallList, IsRefused, IsUnloaded, IsUnresumed, IsUnscheduled, IsUnstarted}
use Rattle.witness_check.specs.Start.{Setting, check_of, judged}
use Rattle.witness_check.specs.declared.refusal.CheckRefusal.{CheckRefusal}
use Rattle.ddm_words.specs.Commands.{Check, Command, Paged, Recorded, Resumption, Run, Seeds, Survey, to_run, to_list, to_check, to_resume, to_survey, to_record, to_measure, to_survey_runs, to_join, to_page, to_assemble, to_say, first_run, paged_run, recorded_run, surveyed_run}
use Rattle.ddm_cli.specs.Lists.{list_refused}
use Rattle.ddm_cli.specs.Parts.{Parts, if_judged, if_large, if_started, items_of, parts_for, parts_in, parts_of, resumed_at, setting_at, setting_in, tree_at, turns_at, turns_of}
use Rattle.ddm_cli.specs.Told.{ScheduleGiven, written, paged, seeded, image_told, schedule_told}
use Rattle.ddm_cli.specs.Top.{Both, command_text, list_of, measure_at, outcomes_at, record_at, rest_with, resumed_text, resumed_with, survey_at, text_of, text_with, verdict_in, verdict_of, IsJudged, StatusHasCause, Completes, NoRest, NoRun, NotAccepted, NothingFailed, NoVerdict, RefusesImage, WithParts, WithResumed}
use Rattle.ddm_cli.proofs.Assemblies.{assembly_refused}
use Rattle.ddm_cli.proofs.Joins.{join_refused}
use Rattle.ddm_cli.proofs.Pages.{paged_report, paged_report_said}
use Rattle.ddm_cli.proofs.Settings.{start_refused}
use Rattle.ddm_words.specs.declared.command.Prints.{Prints}
use Rattle.ddm_words.specs.declared.command.Prints.TheVariants.{Report}
use Rattle.ddm_cli.specs.declared.status.Status.{Status}
use Rattle.ddm_cli.specs.declared.status.Status.TheVariants.{Done, Usage, ImageLoad, ImageBuild, Tree, Schedule, Witness, Checkpoint, SmallLists, Table, ReadFault, UnreadTable, WriteFault, NoMemory, Litmus, UnreadTest}

-- ---- a file that gives no part gives no text

no_text : {text : List ℕ} → None ≡ Some text → ⊥
no_text q = cc

refused_tree : (file : List ℕ) (r : TreeRefusal) → tree_of file ≡ Err r → tree_at file ≡ None
unfolding tree_at
refused_tree file r is = rw is refl

module _ (prints : Prints) where
  -- the parts that are large enough, of those that there are
  abbrev large_of : Option Parts → Option Parts
  large_of o = option_and_then (if_large prints) o

  no_parts : (tree image : List ℕ) → tree_at tree ≡ None → parts_for prints tree image ≡ None
  unfolding parts_for parts_of
  no_parts tree image none = rw none refl

  -- an image that gives no part for the tree
  refused_parts : (tree image : List ℕ) (P : TreeValue → List ℕ → Type 0) → ((t : TreeValue) → P t image → large_of (parts_in t image) ≡ None) → IfSome (tree_at tree) (λ t. P t image) → parts_for prints tree image ≡ None
  unfolding parts_for parts_of
  refused_parts tree image P none = by_tree (tree_at tree) where
    by_tree : (o : Option TreeValue) → IfSome o (λ t. P t image) → large_of (option_and_then (λ t. parts_in t image) o) ≡ None
    by_tree None p = refl
    by_tree (Some t) p = none t p

  unloaded : (r : ImageRefusal) (t : TreeValue) (image : List ℕ) → IsUnloaded t r image → large_of (parts_in t image) ≡ None
  unfolding parts_in
  unloaded r t image is = rw is refl

  unstarted : (r : BuildRefusal) (t : TreeValue) (image : List ℕ) → IsUnstarted t r image → large_of (parts_in t image) ≡ None
  unfolding parts_in
  unstarted r t image = by_result (image_of t.item_bytes image) where
    by_refusal : (o : Option StartRefusal) → option_map refusal_of o ≡ Some r → is_none o ≡ false
    by_refusal None e = cc
    by_refusal (Some q) e = refl

    by_result : (x : Result ImageValue ImageRefusal) → IsOkAnd x (λ i. build_refusal t i ≡ Some r) → large_of (if_started t x) ≡ None
    by_result (Ok i) given = rw (by_refusal (start_refusal t i) given) refl
    by_result (Err q) given = absurd given

-- a schedule that gives no turns for the tree
no_turns : (levels : List (List ℕ)) (schedule : ScheduleGiven) (line : ℕ) (r : ScheduleRefusal) → IsRefused levels line r schedule → turns_of levels schedule ≡ None
unfolding turns_at
no_turns levels (written file) line r is = rw is refl
no_turns levels (paged file) line r is = rw is refl
no_turns levels (seeded seed count) line r is = absurd is

parts_tree : (t : TreeValue) (image : List ℕ) (p : Parts) → parts_in t image ≡ Some p → p.tree ≡ t
unfolding parts_in
parts_tree t image p = by_result (image_of t.item_bytes image) where
  by_test : (i : ImageValue) (b : Bool) → cond b (Some (record { tree = t; image = i })) None ≡ Some p → p.tree ≡ t
  by_test i true e = let same : (let q : Parts = record { tree = t; image = i } in q) ≡ p = cc in ap (λ (q : Parts). q.tree) (sym same)
  by_test i false e = absurd (cc e)

  by_result : (x : Result ImageValue ImageRefusal) → if_started t x ≡ Some p → p.tree ≡ t
  by_result (Ok i) e = by_test i (is_none (start_refusal t i)) e
  by_result (Err q) e = absurd (cc e)

module _ (prints : Prints) where
  -- a list that is too small for what is to be printed
  too_small : (key : TreeKey) (t : TreeValue) (image : List ℕ) → HasSmallList prints key t image → large_of prints (parts_in t image) ≡ None
  too_small key t image = by_parts (parts_in t image) (parts_tree t image) where
    by_parts : (o : Option Parts) → ((p : Parts) → o ≡ Some p → p.tree ≡ t) → IsSomeAnd o (λ p. list_refused prints t.sizes (items_of p) ≡ Some key) → large_of prints o ≡ None
    by_parts None of_tree small = refl
    by_parts (Some p) of_tree small =
        let refused : list_refused prints p.tree.sizes (items_of p) ≡ Some key = ap (λ (u : TreeValue). list_refused prints u.sizes (items_of p)) (of_tree p refl) ∙ small in
        rw refused refl

  -- parts that are large enough for a text give that of them
  large_text : (schedule : ScheduleGiven) (text : List ℕ) (p : Parts) (b : Bool) → option_and_then (text_with prints schedule) (cond b (Some p) None) ≡ Some text → text_with prints schedule p ≡ Some text
  large_text schedule text p true has = has
  large_text schedule text p false has = cc has

  unscheduled : (tree image : List ℕ) (schedule : ScheduleGiven) (text : List ℕ) (line : ℕ) (r : ScheduleRefusal) → IfSome (tree_at tree) (λ u. IsRefused u.levels line r schedule) → text_of prints tree image schedule ≡ Some text → ⊥
  unfolding parts_for parts_of
  unscheduled tree image schedule text line r = by_tree (tree_at tree) where
    by_parts : (t : TreeValue) (o : Option Parts) → parts_in t image ≡ o → IsRefused t.levels line r schedule → option_and_then (text_with prints schedule) (large_of prints o) ≡ Some text → ⊥
    by_parts t None is refused has = cc has
    by_parts t (Some p) is refused has =
        let none : turns_of p.tree.levels schedule ≡ None = ap (λ (u : TreeValue). turns_of u.levels schedule) (parts_tree t image p is) ∙ no_turns t.levels schedule line r refused in
        no_text (sym (rw none refl) ∙ large_text schedule text p (is_none (list_refused prints p.tree.sizes (items_of p))) has)

    by_tree : (o : Option TreeValue) → IfSome o (λ u. IsRefused u.levels line r schedule) → option_and_then (text_with prints schedule) (large_of prints (option_and_then (λ t. parts_in t image) o)) ≡ Some text → ⊥
    by_tree None refused has = cc has
    by_tree (Some t) refused has = by_parts t (parts_in t image) refl refused has

  no_image : (t i : Option (List ℕ)) (tree image : List ℕ) (schedule : ScheduleGiven) (text : List ℕ) (P : TreeValue → List ℕ → Type 0) → ((u : TreeValue) → P u image → large_of prints (parts_in u image) ≡ None)
      → t ≡ Some tree → i ≡ Some image → text_of prints tree image schedule ≡ Some text → RefusesImage P t i → ⊥
  no_image t i tree image schedule text P none is-tree is-image has refused =
      let here : IfSome (tree_at tree) (λ u. P u image) = rw (is-tree, is-image) at refused.1 in
      let nothing = refused_parts prints tree image P none here in
      no_text (sym (rw nothing refl) ∙ has)

-- the first seed of a survey has a report
first_text : (at : Parts → List ℕ) (seed turns : ℕ) (tree image : List ℕ) (text : List ℕ) → option_map at (parts_of tree image) ≡ Some text → (report : List ℕ) × (text_of Report tree image (seeded seed turns) ≡ Some report)
unfolding parts_for
first_text at seed turns tree image text = by_parts (parts_of tree image) where
  by_parts : (x : Option Parts) → option_map at x ≡ Some text → (report : List ℕ) × (option_and_then (text_with Report (seeded seed turns)) (option_and_then (if_large Report) x) ≡ Some report)
  by_parts None has = absurd (cc has)
  by_parts (Some p) has = (_, refl)

-- where the files are told
first_said : (t i : Option (List ℕ)) (seed turns : ℕ) (tree image report : List ℕ) → t ≡ Some tree → i ≡ Some image → text_of Report tree image (seeded seed turns) ≡ Some report
    → option_and_then (λ tree. option_and_then (λ image. option_and_then (text_of Report tree image) (Some (seeded seed turns))) i) t ≡ Some report
first_said t i seed turns tree image report is-tree is-image has = rw (is-tree, is-image) has

-- what holds of a tree that is told, and of a schedule with it
tree_here : (t : Option (List ℕ)) (tree : List ℕ) (x : TreeRefusal) → t ≡ Some tree → IfSome t (λ f. tree_of f ≡ Err x) → tree_of tree ≡ Err x
tree_here t tree x is refused = rw is at refused

both_here : (t : Option (List ℕ)) (s : Option ScheduleGiven) (tree : List ℕ) (schedule : ScheduleGiven) (P : TreeValue → ScheduleGiven → Type 0) → t ≡ Some tree → s ≡ Some schedule
    → Both t s (λ f k. IfSome (tree_at f) (λ value. P value k)) → IfSome (tree_at tree) (λ value. P value schedule)
both_here t s tree schedule P is-tree is-schedule both = rw (is-tree, is-schedule) at both

-- ---- a witness that isn't accepted has no line

no_setting : (tree image : List ℕ) → tree_at tree ≡ None → setting_at tree image ≡ None
unfolding setting_at
no_setting tree image none = rw none refl

-- an image that gives no setting for the tree
refused_setting : (tree image : List ℕ) (P : TreeValue → List ℕ → Type 0) → ((t : TreeValue) → P t image → setting_in t image ≡ None) → IfSome (tree_at tree) (λ t. P t image) → setting_at tree image ≡ None
unfolding setting_at
refused_setting tree image P none = by_tree (tree_at tree) where
  by_tree : (o : Option TreeValue) → IfSome o (λ t. P t image) → option_and_then (λ t. setting_in t image) o ≡ None
  by_tree None p = refl
  by_tree (Some t) p = none t p

unloaded_setting : (r : ImageRefusal) (t : TreeValue) (image : List ℕ) → IsUnloaded t r image → setting_in t image ≡ None
unfolding setting_in
unloaded_setting r t image is = rw is refl

unstarted_setting : (r : BuildRefusal) (t : TreeValue) (image : List ℕ) → HasNoSetting t r image → setting_in t image ≡ None
unfolding setting_in
unstarted_setting r t image (of_start, is) = by_result (image_of t.item_bytes image) is where
  by_result : (x : Result ImageValue ImageRefusal) → IsOkAnd x (λ i. build_refusal t i ≡ Some r) → if_judged t x ≡ None
  by_result (Ok i) given = rw (start_refused t i r of_start given) refl
  by_result (Err q) given = absurd given

no_verdict : (t i : Option (List ℕ)) (tree image witness : List ℕ) (text : List ℕ) (P : TreeValue → List ℕ → Type 0) → ((u : TreeValue) → P u image → setting_in u image ≡ None)
    → t ≡ Some tree → i ≡ Some image → verdict_of tree image witness ≡ Some text → RefusesImage P t i → ⊥
no_verdict t i tree image witness text P none is-tree is-image has refused =
    let here : IfSome (tree_at tree) (λ u. P u image) = rw (is-tree, is-image) at refused.1 in
    let nothing = refused_setting tree image P none here in
    no_text (sym (rw nothing refl) ∙ has)

judged_otherwise : (t i w : Option (List ℕ)) (tree image witness : List ℕ) (text : List ℕ) (r : CheckRefusal) → t ≡ Some tree → i ≡ Some image → w ≡ Some witness → verdict_of tree image witness ≡ Some text → IsJudged (Err r) t i w → ⊥
judged_otherwise t i w tree image witness text r is-tree is-image is-witness has judged =
    let here : IfSome (setting_at tree image) (λ s. check_of s witness ≡ Err r) = rw (is-tree, is-image, is-witness) at judged in
    by (setting_at tree image) here has
  where
    by : (o : Option Setting) → IfSome o (λ s. check_of s witness ≡ Err r) → option_and_then (verdict_in witness) o ≡ Some text → ⊥
    by None here has = cc has
    by (Some s) here has = no_text (sym (rw here refl) ∙ has)

-- ---- a run that goes on

-- a checkpoint that is refused for the parts gives no machine
unresumed : (p : Parts) (checkpoint : List ℕ) (r : ResumeRefusal) → IsUnresumed (start_machine p.tree p.image) r checkpoint → resumed_at p checkpoint ≡ None
unfolding resumed_at
unresumed p checkpoint r is = rw is refl

-- a schedule that is refused after so many turns gives none
no_rest : (levels : List (List ℕ)) (made line : ℕ) (r : ScheduleRefusal) (schedule : List ℕ) → IsUnscheduled levels made line r schedule → turns_at levels made schedule ≡ None
unfolding turns_at
no_rest levels made line r schedule is = rw is refl

-- the image is refused: no parts
no_start : (tree image checkpoint schedule : List ℕ) (text : List ℕ) (P : TreeValue → List ℕ → Type 0) → ((t : TreeValue) → P t image → large_of Report (parts_in t image) ≡ None) → IfSome (tree_at tree) (λ t. P t image) → resumed_text tree image checkpoint schedule ≡ Some text → ⊥
unfolding parts_of
no_start tree image checkpoint schedule text P none = by_tree (tree_at tree) where
  by_parts : (o : Option Parts) → large_of Report o ≡ None → option_and_then (resumed_with checkpoint schedule) o ≡ Some text → ⊥
  by_parts None nothing has = cc has
  by_parts (Some p) nothing has = cc nothing

  by_tree : (o : Option TreeValue) → IfSome o (λ t. P t image) → option_and_then (resumed_with checkpoint schedule) (option_and_then (λ t. parts_in t image) o) ≡ Some text → ⊥
  by_tree None p has = cc has
  by_tree (Some t) p has = by_parts (parts_in t image) (none t p) has

no_tree : (tree image checkpoint schedule : List ℕ) (text : List ℕ) → tree_at tree ≡ None → resumed_text tree image checkpoint schedule ≡ Some text → ⊥
unfolding parts_of
no_tree tree image checkpoint schedule text none has = no_text (sym (rw none refl) ∙ has)

refused_start : (t i : Option (List ℕ)) (tree image checkpoint schedule : List ℕ) (text : List ℕ) (P : TreeValue → List ℕ → Type 0) → ((u : TreeValue) → P u image → large_of Report (parts_in u image) ≡ None)
    → t ≡ Some tree → i ≡ Some image → resumed_text tree image checkpoint schedule ≡ Some text → RefusesImage P t i → ⊥
refused_start t i tree image checkpoint schedule text P none is-tree is-image has refused =
    let here : IfSome (tree_at tree) (λ u. P u image) = rw (is-tree, is-image) at refused.1 in
    no_start tree image checkpoint schedule text P none here has

refused_checkpoint : (t i c : Option (List ℕ)) (tree image checkpoint schedule : List ℕ) (text : List ℕ) (r : ResumeRefusal) → t ≡ Some tree → i ≡ Some image → c ≡ Some checkpoint
    → resumed_text tree image checkpoint schedule ≡ Some text → WithParts t i c (λ c p. IsUnresumed (start_machine p.tree p.image) r c) → ⊥
refused_checkpoint t i c tree image checkpoint schedule text r is-tree is-image is-checkpoint has refused =
    let here : IfSome (parts_of tree image) (λ p. IsUnresumed (start_machine p.tree p.image) r checkpoint) = rw (is-tree, is-image, is-checkpoint) at refused in
    by (parts_of tree image) here has
  where
    by : (o : Option Parts) → IfSome o (λ p. IsUnresumed (start_machine p.tree p.image) r checkpoint) → option_and_then (resumed_with checkpoint schedule) o ≡ Some text → ⊥
    by None here has = cc has
    by (Some p) here has = no_text (sym (rw (unresumed p checkpoint r here) refl) ∙ has)

refused_rest : (t i c s : Option (List ℕ)) (tree image checkpoint schedule : List ℕ) (text : List ℕ) (line : ℕ) (r : ScheduleRefusal) → t ≡ Some tree → i ≡ Some image → c ≡ Some checkpoint → s ≡ Some schedule
    → resumed_text tree image checkpoint schedule ≡ Some text → WithResumed t i c s (λ p m k. IsUnscheduled p.tree.levels m.counts.turns line r k) → ⊥
refused_rest t i c s tree image checkpoint schedule text line r is-tree is-image is-checkpoint is-schedule has refused =
    let here : IfSome (parts_of tree image) (λ p. IfSome (resumed_at p checkpoint) (λ m. IsUnscheduled p.tree.levels m.counts.turns line r schedule)) = rw (is-tree, is-image, is-checkpoint, is-schedule) at refused in
    by (parts_of tree image) here has
  where
    by_resumed : (p : Parts) (o : Option Resumed) → IfSome o (λ m. IsUnscheduled p.tree.levels m.counts.turns line r schedule) → option_and_then (rest_with schedule p.tree.levels) o ≡ Some text → ⊥
    by_resumed p None here has = cc has
    by_resumed p (Some m) here has = no_text (sym (rw (no_rest p.tree.levels m.counts.turns line r schedule here) refl) ∙ has)

    by : (o : Option Parts) → IfSome o (λ p. IfSome (resumed_at p checkpoint) (λ m. IsUnscheduled p.tree.levels m.counts.turns line r schedule)) → option_and_then (resumed_with checkpoint schedule) o ≡ Some text → ⊥
    by None here has = cc has
    by (Some p) here has = by_resumed p (resumed_at p checkpoint) here has

-- ---- what is told where a command has a text

and_then_some : {A B : Type 0} (o : Option A) (f : A → Option B) (b : B) → option_and_then f o ≡ Some b → (a : A) × (o ≡ Some a) × (f a ≡ Some b)
and_then_some None f b e = absurd (cc e)
and_then_some (Some a) f b e = (a, refl, e)

module _ {F K : Type 0} (told : F → List ℕ → Option (List ℕ)) (faults : F → List ℕ → ℕ) (held : K → Option (List ℕ)) (failures : K → ℕ) where
  module _ (files files' : F) where
    -- a run that has a text isn't refused, but for want of memory
    run_refused : (prints : Prints) (r : Run) (text : List ℕ) → command_text (told files) (to_run prints r) ≡ Some text → NothingFailed told faults files files' (to_run prints r) → (s : Status) → NoRun told faults files files' prints s r → s ≡ NoMemory
    run_refused prints r text has calm = by_status where
      tree : (t : List ℕ) × (told files r.tree ≡ Some t) × (option_and_then (λ i. option_and_then (text_of prints t i) (schedule_told (told files) r.turns)) (image_told (told files) r.image) ≡ Some text)
      tree = and_then_some (told files r.tree) _ text has

      image : (i : List ℕ) × (image_told (told files) r.image ≡ Some i) × (option_and_then (text_of prints tree.0 i) (schedule_told (told files) r.turns) ≡ Some text)
      image = and_then_some (image_told (told files) r.image) _ text tree.2

      schedule : (s : ScheduleGiven) × (schedule_told (told files) r.turns ≡ Some s) × (text_of prints tree.0 image.0 s ≡ Some text)
      schedule = and_then_some (schedule_told (told files) r.turns) _ text image.2

      by_status : (s : Status) → NoRun told faults files files' prints s r → s ≡ NoMemory
      by_status NoMemory refused = refl
      by_status Done refused = absurd refused
      by_status WriteFault refused = absurd refused
      by_status (Usage k) refused = absurd refused
      by_status (Tree x) refused =
          let is = tree_here (told files r.tree) tree.0 x tree.1 refused in
          let nothing = no_parts prints tree.0 image.0 (refused_tree tree.0 x is) in
          absurd (no_text (sym (rw nothing refl) ∙ schedule.2))
      by_status (ImageLoad x) refused = absurd (no_image prints (told files r.tree) (image_told (told files) r.image) tree.0 image.0 schedule.0 text (λ u. IsUnloaded u x) (λ u. unloaded prints x u image.0) tree.1 image.1 schedule.2 refused)
      by_status (ImageBuild x) refused = absurd (no_image prints (told files r.tree) (image_told (told files) r.image) tree.0 image.0 schedule.0 text (λ u. IsUnstarted u x) (λ u. unstarted prints x u image.0) tree.1 image.1 schedule.2 refused)
      by_status (Checkpoint x) refused = absurd refused
      by_status (SmallLists x) refused = absurd (no_image prints (told files r.tree) (image_told (told files) r.image) tree.0 image.0 schedule.0 text (HasSmallList prints x) (λ u. too_small prints x u image.0) tree.1 image.1 schedule.2 refused)
      by_status (Table n r) refused = absurd refused
      by_status (UnreadTable n) refused = absurd refused
      by_status (Litmus x) refused = absurd refused
      by_status UnreadTest refused = absurd refused
      by_status (Schedule line x) refused =
          let here = both_here (told files r.tree) (schedule_told (told files) r.turns) tree.0 schedule.0 (λ u. IsRefused u.levels line x) tree.1 schedule.1 refused.1 in
          absurd (unscheduled prints tree.0 image.0 schedule.0 text line x here schedule.2)
      by_status (Witness x) refused = absurd refused
      by_status (ReadFault TreeFile) refused = absurd (calm.0 refused)
      by_status (ReadFault ImageFile) refused = absurd (calm.1 refused.0)
      by_status (ReadFault ScheduleFile) refused = absurd (calm.2 refused.0)
      by_status (ReadFault WitnessFile) refused = absurd refused
      by_status (ReadFault CheckpointFile) refused = absurd refused

    listing_refused : (name : List ℕ) (seed count : ℕ) (text : List ℕ) → command_text (told files) (to_list name seed count) ≡ Some text → NothingFailed told faults files files' (to_list name seed count)
        → (s : Status) → NotAccepted told faults files files' s (to_list name seed count) → s ≡ NoMemory
    listing_refused name seed count text has calm = by_status where
      tree : (t : List ℕ) × (told files name ≡ Some t) × (list_of seed count t ≡ Some text)
      tree = and_then_some (told files name) _ text has

      by_status : (s : Status) → NotAccepted told faults files files' s (to_list name seed count) → s ≡ NoMemory
      by_status NoMemory refused = refl
      by_status Done refused = absurd refused
      by_status WriteFault refused = absurd refused
      by_status (Usage k) refused = absurd refused
      by_status (Tree x) refused =
          let is = tree_here (told files name) tree.0 x tree.1 refused in
          absurd (no_text (sym (rw (refused_tree tree.0 x is) refl) ∙ tree.2))
      by_status (ImageLoad x) refused = absurd refused
      by_status (ImageBuild x) refused = absurd refused
      by_status (Schedule line x) refused = absurd refused
      by_status (Witness x) refused = absurd refused
      by_status (Checkpoint x) refused = absurd refused
      by_status (SmallLists x) refused = absurd refused
      by_status (Table n r) refused = absurd refused
      by_status (UnreadTable n) refused = absurd refused
      by_status (Litmus x) refused = absurd refused
      by_status UnreadTest refused = absurd refused
      by_status (ReadFault TreeFile) refused = absurd (calm refused)
      by_status (ReadFault ImageFile) refused = absurd refused
      by_status (ReadFault ScheduleFile) refused = absurd refused
      by_status (ReadFault WitnessFile) refused = absurd refused
      by_status (ReadFault CheckpointFile) refused = absurd refused

    check_refused : (c : Check) (text : List ℕ) → command_text (told files) (to_check c) ≡ Some text → NothingFailed told faults files files' (to_check c) → (s : Status) → NoVerdict told faults files files' s c → s ≡ NoMemory
    check_refused c text has calm = by_status where
      tree : (t : List ℕ) × (told files c.tree ≡ Some t) × (option_and_then (λ i. option_and_then (verdict_of t i) (told files c.witness)) (told files c.image) ≡ Some text)
      tree = and_then_some (told files c.tree) _ text has

      image : (i : List ℕ) × (told files c.image ≡ Some i) × (option_and_then (verdict_of tree.0 i) (told files c.witness) ≡ Some text)
      image = and_then_some (told files c.image) _ text tree.2

      witness : (w : List ℕ) × (told files c.witness ≡ Some w) × (verdict_of tree.0 image.0 w ≡ Some text)
      witness = and_then_some (told files c.witness) _ text image.2

      by_status : (s : Status) → NoVerdict told faults files files' s c → s ≡ NoMemory
      by_status NoMemory refused = refl
      by_status Done refused = absurd refused
      by_status WriteFault refused = absurd refused
      by_status (Usage k) refused = absurd refused
      by_status (Schedule line x) refused = absurd refused
      by_status (Checkpoint x) refused = absurd refused
      by_status (SmallLists x) refused = absurd refused
      by_status (Table n r) refused = absurd refused
      by_status (UnreadTable n) refused = absurd refused
      by_status (Litmus x) refused = absurd refused
      by_status UnreadTest refused = absurd refused
      by_status (Tree x) refused =
          let is = tree_here (told files c.tree) tree.0 x tree.1 refused in
          let nothing = no_setting tree.0 image.0 (refused_tree tree.0 x is) in
          absurd (no_text (sym (rw nothing refl) ∙ witness.2))
      by_status (ImageLoad x) refused = absurd (no_verdict (told files c.tree) (told files c.image) tree.0 image.0 witness.0 text (λ u. IsUnloaded u x) (λ u. unloaded_setting x u image.0) tree.1 image.1 witness.2 refused)
      by_status (ImageBuild x) refused = absurd (no_verdict (told files c.tree) (told files c.image) tree.0 image.0 witness.0 text (λ u. HasNoSetting u x) (λ u. unstarted_setting x u image.0) tree.1 image.1 witness.2 refused)
      by_status (Witness x) refused = absurd (judged_otherwise (told files c.tree) (told files c.image) (told files c.witness) tree.0 image.0 witness.0 text x tree.1 image.1 witness.1 witness.2 refused.1)
      by_status (ReadFault TreeFile) refused = absurd (calm.0 refused)
      by_status (ReadFault ImageFile) refused = absurd (calm.1 refused.0)
      by_status (ReadFault WitnessFile) refused = absurd (calm.2 refused.0)
      by_status (ReadFault ScheduleFile) refused = absurd refused
      by_status (ReadFault CheckpointFile) refused = absurd refused

    rest_refused : (n : Resumption) (text : List ℕ) → command_text (told files) (to_resume n) ≡ Some text → NothingFailed told faults files files' (to_resume n) → (s : Status) → NoRest told faults files files' s n → s ≡ NoMemory
    rest_refused n text has calm = by_status where
      tree : (t : List ℕ) × (told files n.tree ≡ Some t) × (option_and_then (λ i. option_and_then (λ c. option_and_then (resumed_text t i c) (told files n.schedule)) (told files n.checkpoint)) (told files n.image) ≡ Some text)
      tree = and_then_some (told files n.tree) _ text has

      image : (i : List ℕ) × (told files n.image ≡ Some i) × (option_and_then (λ c. option_and_then (resumed_text tree.0 i c) (told files n.schedule)) (told files n.checkpoint) ≡ Some text)
      image = and_then_some (told files n.image) _ text tree.2

      checkpoint : (c : List ℕ) × (told files n.checkpoint ≡ Some c) × (option_and_then (resumed_text tree.0 image.0 c) (told files n.schedule) ≡ Some text)
      checkpoint = and_then_some (told files n.checkpoint) _ text image.2

      schedule : (k : List ℕ) × (told files n.schedule ≡ Some k) × (resumed_text tree.0 image.0 checkpoint.0 k ≡ Some text)
      schedule = and_then_some (told files n.schedule) _ text checkpoint.2

      by_status : (s : Status) → NoRest told faults files files' s n → s ≡ NoMemory
      by_status NoMemory refused = refl
      by_status Done refused = absurd refused
      by_status WriteFault refused = absurd refused
      by_status (Usage k) refused = absurd refused
      by_status (Witness x) refused = absurd refused
      by_status (SmallLists x) refused = absurd refused
      by_status (Table n r) refused = absurd refused
      by_status (UnreadTable n) refused = absurd refused
      by_status (Litmus x) refused = absurd refused
      by_status UnreadTest refused = absurd refused
      by_status (Tree x) refused =
          let is = tree_here (told files n.tree) tree.0 x tree.1 refused in
          absurd (no_tree tree.0 image.0 checkpoint.0 schedule.0 text (refused_tree tree.0 x is) schedule.2)
      by_status (ImageLoad x) refused = absurd (refused_start (told files n.tree) (told files n.image) tree.0 image.0 checkpoint.0 schedule.0 text (λ u. IsUnloaded u x) (λ u. unloaded Report x u image.0) tree.1 image.1 schedule.2 refused)
      by_status (ImageBuild x) refused = absurd (refused_start (told files n.tree) (told files n.image) tree.0 image.0 checkpoint.0 schedule.0 text (λ u. IsUnstarted u x) (λ u. unstarted Report x u image.0) tree.1 image.1 schedule.2 refused)
      by_status (Checkpoint x) refused = absurd (refused_checkpoint (told files n.tree) (told files n.image) (told files n.checkpoint) tree.0 image.0 checkpoint.0 schedule.0 text x tree.1 image.1 checkpoint.1 schedule.2 refused.1)
      by_status (Schedule line x) refused =
          absurd (refused_rest (told files n.tree) (told files n.image) (told files n.checkpoint) (told files n.schedule) tree.0 image.0 checkpoint.0 schedule.0 text line x tree.1 image.1 checkpoint.1 schedule.1 schedule.2 refused.1)
      by_status (ReadFault TreeFile) refused = absurd (calm.0 refused)
      by_status (ReadFault ImageFile) refused = absurd (calm.1 refused.0)
      by_status (ReadFault CheckpointFile) refused = absurd (calm.2 refused.0)
      by_status (ReadFault ScheduleFile) refused = absurd (calm.3 refused.0)
      by_status (ReadFault WitnessFile) refused = absurd refused

    -- where there are outcomes, the run of the first seed has a text
    survey_refused : (o : Seeds) (text : List ℕ) → command_text (told files) (to_survey o) ≡ Some text → NothingFailed told faults files files' (to_survey o) → (s : Status) → NoRun told faults files files' Report s (first_run o) → s ≡ NoMemory
    survey_refused o text has calm =
        let tree = and_then_some (told files o.tree) _ text has in
        let image = and_then_some (told files o.image) _ text tree.2 in
        let run = first_text (outcomes_at o) o.first o.turns tree.0 image.0 text image.2 in
        let said = first_said (told files o.tree) (told files o.image) o.first o.turns tree.0 image.0 run.0 tree.1 image.1 run.1 in
        run_refused Report (first_run o) run.0 said (calm.0, calm.1, λ rose. omega (arith, rose))

    -- where there is a recorded run, a run of the same files has a text
    record_refused : (r : Recorded) (text : List ℕ) → command_text (told files) (to_record r) ≡ Some text → NothingFailed told faults files files' (to_record r) → (s : Status) → NoRun told faults files files' Report s (recorded_run r) → s ≡ NoMemory
    record_refused r text has calm =
        let tree = and_then_some (told files r.tree) _ text has in
        let image = and_then_some (told files r.image) _ text tree.2 in
        let run = first_text (record_at r) r.seed r.turns tree.0 image.0 text image.2 in
        let said = first_said (told files r.tree) (told files r.image) r.seed r.turns tree.0 image.0 run.0 tree.1 image.1 run.1 in
        run_refused Report (recorded_run r) run.0 said (calm.0, calm.1, λ rose. omega (arith, rose))

    -- and so where one is measured
    measure_refused : (r : Recorded) (text : List ℕ) → command_text (told files) (to_measure r) ≡ Some text → NothingFailed told faults files files' (to_measure r) → (s : Status) → NoRun told faults files files' Report s (recorded_run r) → s ≡ NoMemory
    measure_refused r text has calm =
        let tree = and_then_some (told files r.tree) _ text has in
        let image = and_then_some (told files r.image) _ text tree.2 in
        let run = first_text (measure_at r) r.seed r.turns tree.0 image.0 text image.2 in
        let said = first_said (told files r.tree) (told files r.image) r.seed r.turns tree.0 image.0 run.0 tree.1 image.1 run.1 in
        run_refused Report (recorded_run r) run.0 said (calm.0, calm.1, λ rose. omega (arith, rose))

    -- and where there are recorded runs of many seeds
    ends_refused : (o : Survey) (text : List ℕ) → command_text (told files) (to_survey_runs o) ≡ Some text → NothingFailed told faults files files' (to_survey_runs o) → (s : Status) → NoRun told faults files files' Report s (surveyed_run o) → s ≡ NoMemory
    ends_refused o text has calm =
        let tree = and_then_some (told files o.tree) _ text has in
        let image = and_then_some (told files o.image) _ text tree.2 in
        let run = first_text (survey_at o) o.first o.turns tree.0 image.0 text image.2 in
        let said = first_said (told files o.tree) (told files o.image) o.first o.turns tree.0 image.0 run.0 tree.1 image.1 run.1 in
        run_refused Report (surveyed_run o) run.0 said (calm.0, calm.1, λ rose. omega (arith, rose))

    -- where there is a page, a run of the same files has a text
    page_refused : (p : Paged) (text : List ℕ) → command_text (told files) (to_page p) ≡ Some text → NothingFailed told faults files files' (to_page p) → (s : Status) → NoRun told faults files files' Report s (paged_run p) → s ≡ NoMemory
    page_refused p text has calm =
        let tree = and_then_some (told files p.tree) _ text has in
        let image = and_then_some (told files p.image) _ text tree.2 in
        let schedule = and_then_some (schedule_told (told files) (paged_run p).turns) _ text image.2 in
        let run = paged_report tree.0 image.0 schedule.0 text schedule.2 in
        let said = paged_report_said (told files p.tree) (told files p.image) (schedule_told (told files) (paged_run p).turns) tree.0 image.0 schedule.0 run.0 tree.1 image.1 schedule.1 run.1 in
        run_refused Report (paged_run p) run.0 said calm

    command_refused : (c : Command) (text : List ℕ) → command_text (told files) c ≡ Some text → NothingFailed told faults files files' c → (s : Status) → NotAccepted told faults files files' s c → s ≡ NoMemory
    command_refused (to_run prints r) text has calm = run_refused prints r text has calm
    command_refused (to_list tree seed count) text has calm = listing_refused tree seed count text has calm
    command_refused (to_check c) text has calm = check_refused c text has calm
    command_refused (to_resume r) text has calm = rest_refused r text has calm
    command_refused (to_survey o) text has calm = survey_refused o text has calm
    command_refused (to_record r) text has calm = record_refused r text has calm
    command_refused (to_measure r) text has calm = measure_refused r text has calm
    command_refused (to_survey_runs o) text has calm = ends_refused o text has calm
    command_refused (to_join names) text has calm = join_refused told faults files files' names text has calm
    command_refused (to_page p) text has calm = page_refused p text has calm
    command_refused (to_assemble a) text has calm = assembly_refused told faults files files' a text has calm
    command_refused (to_say a) text has calm = λ s refused. absurd refused

  pub completes : (words : List (List ℕ)) (files files' : F) (out out' : K) (status : Status) → StatusHasCause told faults held failures words files files' out out' status → Completes told faults held failures words files files' out out' status
  completes words files files' out out' Done came c text said has calm quiet = inl refl
  completes words files files' out out' WriteFault came c text said has calm quiet = absurd (quiet came.2.1)
  completes words files files' out out' (Usage k) came c text said has calm quiet = cc
  completes words files files' out out' NoMemory came c text said has calm quiet = inr refl
  completes words files files' out out' (Tree r) came c text said has calm quiet = inr (command_refused files files' c text has calm (Tree r) (rw said at came.0))
  completes words files files' out out' (ImageLoad r) came c text said has calm quiet = inr (command_refused files files' c text has calm (ImageLoad r) (rw said at came.0))
  completes words files files' out out' (ImageBuild r) came c text said has calm quiet = inr (command_refused files files' c text has calm (ImageBuild r) (rw said at came.0))
  completes words files files' out out' (Schedule line r) came c text said has calm quiet = inr (command_refused files files' c text has calm (Schedule line r) (rw said at came.0))
  completes words files files' out out' (Witness r) came c text said has calm quiet = inr (command_refused files files' c text has calm (Witness r) (rw said at came.0))
  completes words files files' out out' (Checkpoint r) came c text said has calm quiet = inr (command_refused files files' c text has calm (Checkpoint r) (rw said at came.0))
  completes words files files' out out' (SmallLists key) came c text said has calm quiet = inr (command_refused files files' c text has calm (SmallLists key) (rw said at came.0))
  completes words files files' out out' (Table n r) came c text said has calm quiet = inr (command_refused files files' c text has calm (Table n r) (rw said at came.0))
  completes words files files' out out' (UnreadTable n) came c text said has calm quiet = inr (command_refused files files' c text has calm (UnreadTable n) (rw said at came.0))
  completes words files files' out out' (Litmus x) came c text said has calm quiet = inr (command_refused files files' c text has calm (Litmus x) (rw said at came.0))
  completes words files files' out out' UnreadTest came c text said has calm quiet = inr (command_refused files files' c text has calm UnreadTest (rw said at came.0))
  completes words files files' out out' (ReadFault role) came c text said has calm quiet = inr (command_refused files files' c text has calm (ReadFault role) (rw said at came.0))
