-- The page of files that were taken, and why there is none.
-- Letters: t is a tree, i an image, s a machine.
use Rattle.std.proofs.Common.{◌≡◌, ℕ, ◌+◌, ◌≤◌, List, length, take, true, Option, Some, None, Result, Ok, Err, refl, sym, ap, subst, ◌∙◌, arith}
use Rattle.std.specs.Prelude.{IfOk, IfSome, IsSome, option_and_then}
use Rattle.std.specs.Option.{option_map}
use Rattle.ddm_cli.specs.DdmTypes.declared.turns.Turn.{Turn}
use Rattle.ddm_cli.specs.TreeModel.Start.Machine.{start_machine, start_refusal}
use Rattle.ddm_cli.specs.TreeModel.Start.Sources.{ImageValue, TreeValue}
use Rattle.ddm_cli.specs.TreeModel.State.Values.{MachineValue, root_of}
use Rattle.ddm_cli.specs.TreeModel.Turns.Tree.{bus_of_number, has_node}
use Rattle.ddm_cli.specs.BusLaws.IsTree.{IsTree}
use Rattle.ddm_cli.specs.ElfLoad.ElfFile.{image_of}
use Rattle.ddm_cli.specs.DdmTree.Machine.{MachineState}
use Rattle.ddm_cli.specs.AnyRuns.Run.{CanRun, NameParts}
use Rattle.ddm_cli.specs.DdmOutside.Telling.{ReadsPart}
use Rattle.ddm_cli.specs.TextModel.ReadBack.{GivesTurnsOf}
use Rattle.ddm_cli.specs.TextModel.declared.ScheduleRefusal.{ScheduleRefusal}
use Rattle.ddm_cli.specs.ScheduleLog.Reader.{Fed, ReaderView}
use Rattle.ddm_cli.specs.ScheduleLog.Shapes.{shape_view}
use Rattle.ddm_cli.specs.ReportCrate.declared.roles.FileRole.TheVariants.{ImageFile, TreeFile, ScheduleFile, WitnessFile, CheckpointFile}
use Rattle.film_runs.specs.Paged.{IsFirst, page_of}
use Rattle.film_runs.specs.ValueLaws.Images.{IsOfBytes}
use Rattle.run_engine.specs.Started.{started}
use Rattle.ddm_cli.specs.Causes.{AcceptedAs, IsRefused, IsUnscheduled, RanCause, ScheduleCause}
use Rattle.ddm_cli.specs.Pages.{page_at, page_with, paged_text}
use Rattle.ddm_cli.specs.Paging.{IsPageBy}
use Rattle.ddm_cli.specs.Parts.{IsStart, Parts, before_page, if_large, parts_for, parts_of, tree_at, turns_at, turns_of}
use Rattle.ddm_cli.specs.Reads.{HasRead}
use Rattle.ddm_cli.specs.Told.{ScheduleGiven, paged}
use Rattle.ddm_cli.specs.Top.{AcceptsRun, HasPage, text_at, text_of, text_with}
use Rattle.ddm_words.specs.declared.command.Prints.TheVariants.{Report}
use Rattle.ddm_cli.specs.declared.status.Status.{Status}
use Rattle.ddm_cli.specs.declared.status.Status.TheVariants.{Done, Usage, ImageLoad, ImageBuild, Tree, Schedule, Witness, Checkpoint, SmallLists, Table, ReadFault, UnreadTable, WriteFault, NoMemory, Litmus, UnreadTest}
use Rattle.ddm_cli.proofs.Causes.{takes_parts}
use Rattle.ddm_cli.proofs.Judged.{both_taken}
use Rattle.ddm_cli.proofs.Schedules.{piece_read}
use Rattle.ddm_cli.proofs.StartNames.{named_parts, start_buses}
use Rattle.ddm_cli.proofs.Taken.{with_tree}

-- ---- the pieces of a schedule file

-- one more, whose turns were put after those before
pub next_read : (tree_levels : List (List ℕ)) (told : Option (List ℕ)) (count : ℕ) (reader : ReaderView) (turns : List Turn) → HasRead tree_levels before_page told count reader turns
    → (levels : List (List ℕ)) (n : ℕ) (into : List ℕ) (new : ReaderView) (after : List Turn) → levels ≡ tree_levels → n ≤ length into → IfSome told (λ file. ReadsPart file count n into)
    → Fed (shape_view levels) reader (take n into) new turns after → HasRead tree_levels before_page told (count + n) new after
next_read tree_levels told count reader turns read levels n into new after same few part fed =
    piece_read tree_levels before_page told count reader turns read n into new after few part (subst (λ (ls : List (List ℕ)). Fed (shape_view ls) reader (take n into) new turns after) same fed)

-- ---- a machine before its first turn

pub first_found : {M E : Type 0} (state : M → MachineState) (t : TreeValue) (i : ImageValue) (told : Option (List ℕ)) (r : Result M E) → IfOk r (λ m. state m ≡ started t i) → IfOk r (λ m. start_refusal t i ≡ None) → IsOfBytes i
    → IfSome told (λ file. image_of t.item_bytes file ≡ Ok i) → IfOk r (λ m. (j : ImageValue) × IsStart t j (state m) × IsOfBytes j × IfSome told (λ file. image_of t.item_bytes file ≡ Ok j))
first_found state t i told (Ok m) is none bytes has = (i, record { accepted = none; machine = is }, bytes, has)
first_found state t i told (Err e) is none bytes has = tt

module _ (t : TreeValue) (i : ImageValue) (s : MachineState) (tree : IsTree t) (start : IsStart t i s) where
  machine : s.machine ≡ start_machine t i
  machine = ap (λ (k : MachineState). k.machine) start.machine

  pub is_first : IsOfBytes i → IsFirst t s.machine
  is_first bytes = record {
    image = i;
    tree = tree;
    bytes = bytes;
    accepted = start.accepted;
    is = machine;
    buses = λ bus inside. subst (λ (m : MachineValue). has_node (bus_of_number bus) (root_of m) ≡ true) (sym machine) (start_buses t i tree bus inside);
  }

  -- turns that the schedule gives can be made
  pub first_named : (turns : List Turn) → GivesTurnsOf (shape_view t.levels) before_page turns → NameParts turns s.machine
  first_named turns given = subst (NameParts turns) (sym machine) (named_parts t i tree start.accepted turns given.each)

  pub first_few : (turns : List Turn) → GivesTurnsOf (shape_view t.levels) before_page turns → CanRun turns s
  first_few turns given =
      let none : s.turns ≡ 0 = ap (λ (k : MachineState). k.turns) start.machine in
      omega (arith, none, given.room)

-- ---- the page of files that were taken

paged_turns : (levels : List (List ℕ)) (told : Option (List ℕ)) (turns : List Turn) → AcceptedAs (turns_at levels before_page) told turns → IfSome (option_map paged told) (λ k. IsSome (turns_of levels k))
paged_turns levels None turns taken = tt
paged_turns levels (Some f) turns taken = rw taken refl

module _ (t : TreeValue) (i : ImageValue) (s : MachineState) (text : List ℕ) (start : IsStart t i s) where
  page_is : (turns : List Turn) → text ≡ page_of t turns s.machine → page_at (record { tree = t; image = i }) turns ≡ text
  unfolding page_at
  page_is turns is = sym (is ∙ ap (λ (k : MachineState). page_of t turns k.machine) start.machine)

  has_page : (tree image told : Option (List ℕ)) → AcceptedAs tree_at tree t → IfSome image (λ f. image_of t.item_bytes f ≡ Ok i) → IsPageBy t told s.machine text → HasPage tree image (option_map paged told) text
  has_page None image told taken loaded page = tt
  has_page (Some f) None told taken loaded page = tt
  has_page (Some f) (Some h) None taken loaded page = tt
  has_page (Some f) (Some h) (Some k) taken loaded page = rw (both_taken f h t i taken loaded start.accepted, page.accepted) (ap Some (page_is page.turns page.text_is))

  pub page_taken : (tree image told : Option (List ℕ)) → AcceptedAs tree_at tree t → IfSome image (λ f. image_of t.item_bytes f ≡ Ok i) → IsPageBy t told s.machine text
      → AcceptsRun Report tree image (option_map paged told) × HasPage tree image (option_map paged told) text
  page_taken tree image told taken loaded page = (
    (takes_parts Report t i start.accepted refl tree image taken loaded, with_tree tree (option_map paged told) t (λ levels k. IsSome (turns_of levels k)) taken (paged_turns t.levels told page.turns page.accepted)),
    has_page tree image told taken loaded page,
  )

-- ---- why there is none

paged_refused : (levels : List (List ℕ)) (told : Option (List ℕ)) (line : ℕ) (r : ScheduleRefusal) → IfSome told (IsUnscheduled levels before_page line r) → IfSome (option_map paged told) (IsRefused levels line r)
paged_refused levels None line r refused = tt
paged_refused levels (Some f) line r refused = refused

pub paged_caused : (t : TreeValue) (items : ℕ) (told : Option (List ℕ)) (before now : ℕ) (s : Status) → ScheduleCause (IsUnscheduled t.levels before_page) told before now s → RanCause Report t items (option_map paged told) before now s
paged_caused t items told before now (Schedule line r) cause = (refl, paged_refused t.levels told line r cause)
paged_caused t items told before now (ReadFault ScheduleFile) cause = (refl, cause)
paged_caused t items told before now (ReadFault TreeFile) cause = absurd cause
paged_caused t items told before now (ReadFault ImageFile) cause = absurd cause
paged_caused t items told before now (ReadFault WitnessFile) cause = absurd cause
paged_caused t items told before now (ReadFault CheckpointFile) cause = absurd cause
paged_caused t items told before now NoMemory cause = (refl, tt)
paged_caused t items told before now Done cause = absurd cause
paged_caused t items told before now (Usage k) cause = absurd cause
paged_caused t items told before now (ImageLoad r) cause = absurd cause
paged_caused t items told before now (ImageBuild r) cause = absurd cause
paged_caused t items told before now (Tree r) cause = absurd cause
paged_caused t items told before now (Witness r) cause = absurd cause
paged_caused t items told before now (Checkpoint r) cause = absurd cause
paged_caused t items told before now (SmallLists key) cause = absurd cause
paged_caused t items told before now (Table n r) cause = absurd cause
paged_caused t items told before now (UnreadTable n) cause = absurd cause
paged_caused t items told before now (Litmus x) cause = absurd cause
paged_caused t items told before now UnreadTest cause = absurd cause
paged_caused t items told before now WriteFault cause = absurd cause

-- ---- where there is a page, there is a report

pub paged_report : (tree image : List ℕ) (schedule : ScheduleGiven) (text : List ℕ) → paged_text tree image schedule ≡ Some text → (report : List ℕ) × (text_of Report tree image schedule ≡ Some report)
unfolding parts_for
paged_report tree image schedule text = by_parts (parts_of tree image) where
  by_turns : (p : Parts) (o : Option (List Turn)) → option_map (page_at p) o ≡ Some text → (report : List ℕ) × (option_map (text_at Report p) o ≡ Some report)
  by_turns p None has = absurd (cc has)
  by_turns p (Some turns) has = (_, refl)

  by_parts : (o : Option Parts) → option_and_then (page_with schedule) o ≡ Some text → (report : List ℕ) × (option_and_then (text_with Report schedule) (option_and_then (if_large Report) o) ≡ Some report)
  by_parts None has = absurd (cc has)
  by_parts (Some p) has = by_turns p (turns_of p.tree.levels schedule) has

-- where the files are told
pub paged_report_said : (t i : Option (List ℕ)) (s : Option ScheduleGiven) (tree image : List ℕ) (schedule : ScheduleGiven) (report : List ℕ) → t ≡ Some tree → i ≡ Some image → s ≡ Some schedule → text_of Report tree image schedule ≡ Some report
    → option_and_then (λ tree. option_and_then (λ image. option_and_then (text_of Report tree image) s) i) t ≡ Some report
paged_report_said t i s tree image schedule report is-tree is-image is-schedule has = rw (is-tree, is-image, is-schedule) has
