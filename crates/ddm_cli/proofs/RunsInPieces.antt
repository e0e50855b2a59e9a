-- Turns made piece by piece, as one run.
use Rattle.std.proofs.Common.{◌≡◌, ℕ, suc, ◌+◌, ◌≤◌, Bool, true, false, List, [], ◌∷◌, ◌++◌, length, take, drop, Option, refl, sym, ap, subst, ◌∙◌, append_assoc, arith}
use Rattle.std.specs.Prelude.{All, IfOk, IfSome, Result, if◌then◌else◌}
use Rattle.std.proofs.lemmas.List.{append-nil, length-append, take-append-drop}
use Rattle.std.proofs.Math.Seq.{take-append_seam}
use Rattle.std.proofs.lemmas.List.Elements.{All-drop, All-take, All-weaker}
use Rattle.ddm_cli.specs.DdmTypes.declared.answers.TurnAnswer.{TurnAnswer}
use Rattle.ddm_cli.specs.DdmTypes.declared.turns.Turn.{Turn}
use Rattle.ddm_cli.specs.TreeModel.State.Values.{MachineValue}
use Rattle.ddm_cli.specs.TreeModel.Start.Sources.{TreeValue}
use Rattle.ddm_cli.specs.TreeModel.Turns.Machine.{names_part, run_of, turn_of}
use Rattle.ddm_cli.specs.TextModel.declared.RunCounts.{RunCounts}
use Rattle.ddm_cli.specs.TextModel.ReadBack.{GivesTurnsOf, IsTurnOf}
use Rattle.ddm_cli.specs.TextModel.Run.{counted_answer, counts_of, no_counts, view_of}
use Rattle.ddm_cli.specs.DdmOutside.Telling.{ReadsPart}
use Rattle.ddm_cli.specs.ScheduleLog.Reader.{ReaderView, Fed}
use Rattle.ddm_cli.specs.ScheduleLog.Shapes.{shape_view}
use Rattle.ddm_cli.specs.BusLaws.IsTree.{IsTree}
use Rattle.ddm_cli.specs.JamLaws.GoesOn.{unjamming_turn}
use Rattle.ddm_cli.specs.TreeRules.Witness.{ops_of_answers}
use Rattle.ddm_cli.proofs.StartParts.Names.{run-names}
use Rattle.ddm_cli.proofs.HeadlineCrate.Runs.{run-ops}
use Rattle.checkpoint.specs.Saved.{saved}
use Rattle.ddm_cli.specs.DdmTree.Machine.{MachineState, without_ops}
use Rattle.ddm_cli.specs.AnyRuns.Run.{AreBelow, CanRun, NameParts, answers_in, counts_in, ran, with_room}
use Rattle.ddm_cli.proofs.AnyRuns.Forgotten.{names-alike, run-answers, run-machines}
use Rattle.ddm_cli.proofs.AnyRuns.RunMore.{counted-below, counted-plus, plus, plus-swap, same-counts}
use Rattle.ddm_cli.specs.TreeModel.State.Shape.{Frame, depth_of, levels_of}
use Rattle.ddm_cli.proofs.TreeModel.FrameKept.{run-frame}
use Rattle.ddm_cli.specs.TextModel.Report.{report_of, summary_of}
use Rattle.ddm_cli.specs.TextModel.Trace.{trace_from, trace_text}
use Rattle.ddm_cli.proofs.TextModel.Numbered.{trace_from-append}
use Rattle.ddm_cli.specs.Made.{CanCount, CanGoOn, HasAllMade, HasMade, counts_plus, kept_of}
use Rattle.ddm_words.specs.Kept.{is_summary, is_trace}
use Rattle.ddm_cli.specs.Printed.{Writes, made_text, printed, resumed_report, unjam_line, unjam_text_of, saved_after}
use Rattle.ddm_cli.specs.Reads.{HasRead, WritesRan, WritesRest}
use Rattle.ddm_cli.specs.Told.{ScheduleGiven, written}
use Rattle.ddm_words.specs.declared.command.Prints.{Prints}
use Rattle.ddm_words.specs.declared.command.Prints.TheVariants.{Report, Trace, Summary, Unjamming, Checkpoint}
use Rattle.std.specs.Option.{option_map}
use Rattle.std.proofs.lemmas.Result.{IfOk-weaker}
use Rattle.ddm_cli.proofs.Taken.{file_accepted, ran_report, ran_summary, ran_trace}
use Rattle.ddm_cli.specs.Parts.{HasStart, turns_at, turns_of}
use Rattle.ddm_cli.specs.declared.making.Made.{Made}
use Rattle.ddm_cli.proofs.Schedules.{given_so_far, more_read}
use Rattle.ddm_cli.proofs.StartNames.{named_parts}

drop_front : {A : Type 0} (xs ys : List A) → drop (length xs) (xs ++ ys) ≡ ys
drop_front [] ys = refl
drop_front (x ∷ xs) ys = drop_front xs ys

-- ---- two runs, one after the other

answers_append : (ts us : List Turn) (m : MachineValue) → (run_of (ts ++ us) m).answers ≡ (run_of ts m).answers ++ (run_of us (run_of ts m).machine).answers
unfolding run_of
answers_append [] us m = refl
answers_append (t ∷ ts) us m = ap (λ l. (turn_of t m).answer ∷ l) (answers_append ts us (turn_of t m).machine)

pub machine_append : (ts us : List Turn) (m : MachineValue) → (run_of (ts ++ us) m).machine ≡ (run_of us (run_of ts m).machine).machine
unfolding run_of
machine_append [] us m = refl
machine_append (t ∷ ts) us m = machine_append ts us (turn_of t m).machine

counts_append : (xs ys : List TurnAnswer) → counts_of (xs ++ ys) ≡ counts_plus (counts_of xs) (counts_of ys)
unfolding counts_of
counts_append [] ys = same-counts (counts_of ys) (counts_plus no_counts (counts_of ys)) (from_zero _) (from_zero _) (from_zero _) (from_zero _) where
  from_zero : (n : ℕ) → n ≡ 0 + n
  from_zero n = omega arith
counts_append (x ∷ xs) ys =
    ap (counted_answer x) (counts_append xs ys) ∙ counted-plus x (plus (counts_of xs) (counts_of ys)) ∙ plus-swap (counts_of xs) (counts_of ys) (counted_answer x no_counts)
    ∙ sym (ap (λ c. plus c (counts_of ys)) (counted-plus x (counts_of xs)))

-- no count is above the number of answers
counts_few : (xs : List TurnAnswer) → AreBelow (length xs + 1) (counts_of xs)
unfolding counts_of
counts_few [] = record { turns = omega arith; retired = omega arith; granted = omega arith; busy = omega arith }
counts_few (x ∷ xs) =
    let next : length xs + 1 + 1 ≡ length (x ∷ xs) + 1 = omega arith in
    subst (λ n. AreBelow n (counts_of (x ∷ xs))) next (counted-below (length xs + 1) x (counts_of xs) (counts_few xs))

answers_counted : (turns : List Turn) (m : MachineValue) → length (run_of turns m).answers ≡ length turns
unfolding run_of
answers_counted [] m = refl
answers_counted (t ∷ ts) m = ap suc (answers_counted ts (turn_of t m).machine)

-- where they are put into an empty list, it has one for each turn
pub answers_match : (keep : Bool) (none after : List TurnAnswer) (turns : List Turn) (m : MachineValue) → keep ≡ true → none ≡ [] → after ≡ (if keep then none ++ (run_of turns m).answers else none) → length turns ≡ length after
answers_match true none after turns m kept empty is = sym (answers_counted turns m) ∙ sym (ap length (is ∙ ap (λ l. l ++ (run_of turns m).answers) empty))
answers_match false none after turns m kept empty is = absurd (cc kept)

-- each of them is counted
turns_counted : (answers : List TurnAnswer) → (counts_of answers).turns ≡ length answers
unfolding counts_of
turns_counted [] = refl
turns_counted (TurnAnswer.Retired op ∷ answers) = omega (arith, turns_counted answers)
turns_counted (TurnAnswer.Issued kind item ∷ answers) = omega (arith, turns_counted answers)
turns_counted (TurnAnswer.Waiting item ∷ answers) = omega (arith, turns_counted answers)
turns_counted (TurnAnswer.Halted cause ∷ answers) = omega (arith, turns_counted answers)
turns_counted (TurnAnswer.Granted entry ∷ answers) = omega (arith, turns_counted answers)
turns_counted (TurnAnswer.Busy cause ∷ answers) = omega (arith, turns_counted answers)
turns_counted (TurnAnswer.Empty ∷ answers) = omega (arith, turns_counted answers)

run_counts_few : (turns : List Turn) (m : MachineValue) → AreBelow (length turns + 1) (counts_of (run_of turns m).answers)
run_counts_few turns m = subst (λ n. AreBelow (n + 1) (counts_of (run_of turns m).answers)) (answers_counted turns m) (counts_few (run_of turns m).answers)

kept_none : {A : Type 0} (keep : Bool) (l : List A) → l ≡ [] → l ≡ (if keep then [] else [])
kept_none true l is = is
kept_none false l is = is

kept_more : {A : Type 0} (keep : Bool) (old new before more : List A) → old ≡ (if keep then before else []) → new ≡ (if keep then old ++ more else old) → new ≡ (if keep then before ++ more else [])
kept_more true old new before more was is = is ∙ ap (λ l. l ++ more) was
kept_more false old new before more was is = is ∙ was

-- ---- counts of turns, and of those before them

nothing_more : (c : RunCounts) → counts_plus c no_counts ≡ c
nothing_more c = same-counts (counts_plus c no_counts) c (omega arith) (omega arith) (omega arith) (omega arith)

nothing_before : (c : RunCounts) → counts_plus no_counts c ≡ c
nothing_before c = same-counts (counts_plus no_counts c) c (omega arith) (omega arith) (omega arith) (omega arith)

counts_assoc : (a b c : RunCounts) → counts_plus (counts_plus a b) c ≡ counts_plus a (counts_plus b c)
counts_assoc a b c = same-counts (counts_plus (counts_plus a b) c) (counts_plus a (counts_plus b c)) (omega arith) (omega arith) (omega arith) (omega arith)

-- where none were before, the counts are those of the run
pub counts_run : (keep forgets : Bool) (s now : MachineState) (made : Made) (turns : List Turn) → HasMade no_counts keep forgets s now made turns → made.counts ≡ counts_of (run_of turns s.machine).answers
counts_run keep forgets s now made turns has = has.counts ∙ nothing_before (counts_of (run_of turns s.machine).answers)

-- ---- machines that have all but forgotten operations in common

module _ (forgets : Bool) (m n : MachineValue) (same : kept_of forgets m ≡ kept_of forgets n) where
  parts_kept : (u : Turn) → names_part u m ≡ names_part u n
  parts_kept u = by forgets same where
    by : (f : Bool) → kept_of f m ≡ kept_of f n → names_part u m ≡ names_part u n
    by true is = names-alike u m n is
    by false is = ap (names_part u) is

  answers_kept : (turns : List Turn) → (run_of turns m).answers ≡ (run_of turns n).answers
  answers_kept turns = by forgets same where
    by : (f : Bool) → kept_of f m ≡ kept_of f n → (run_of turns m).answers ≡ (run_of turns n).answers
    by true is = run-answers turns m n is
    by false is = ap (λ k. (run_of turns k).answers) is

  run_kept : (turns : List Turn) → kept_of forgets (run_of turns m).machine ≡ kept_of forgets (run_of turns n).machine
  run_kept turns = by forgets same where
    by : (f : Bool) → kept_of f m ≡ kept_of f n → kept_of f (run_of turns m).machine ≡ kept_of f (run_of turns n).machine
    by true is = run-machines turns m n is
    by false is = ap (λ k. (run_of turns k).machine) is

kept_twice : (forgets : Bool) (m : MachineValue) → kept_of forgets (kept_of forgets m) ≡ kept_of forgets m
kept_twice true m = refl
kept_twice false m = refl

-- ---- turns of a machine that can go on with them

-- more turns name parts of the machine, and can be counted
pub record CanMake (levels : List (List ℕ)) (first : RunCounts) (turns more : List Turn) (now : MachineState) (made : Made) : Type 0 where
  pub given : GivesTurnsOf (shape_view levels) first.turns (turns ++ more)
  pub named : NameParts more now.machine
  pub few : CanRun more now
  pub counted : CanCount made.counts (counts_in more now)

-- each turn of its tree names a part of a machine at its start, and all can be counted
pub starts_on : (t : TreeValue) (tree : IsTree t) (s : MachineState) → HasStart t s → CanGoOn t.levels no_counts s
starts_on t tree s start = record {
  names = λ more each. subst (λ (m : MachineValue). NameParts more m) (sym (ap (λ (r : MachineState). r.machine) start.1.machine)) (named_parts t start.0 tree start.1.accepted more each);
  few = (let none : s.turns ≡ 0 = ap (λ (r : MachineState). r.turns) start.1.machine in omega (arith, none));
  counted = record { turns = omega arith; retired = omega arith; granted = omega arith; busy = omega arith };
}

module _ (levels : List (List ℕ)) (first : RunCounts) (s : MachineState) (start : CanGoOn levels first s) where
  -- nothing yet
  pub nothing_made : (keep forgets : Bool) (made : Made) → made.counts ≡ first → made.trace.items ≡ [] → HasMade first keep forgets s s made []
  unfolding run_of counts_of trace_from
  nothing_made keep forgets made counts trace = record { machine = refl; number = omega arith; counts = counts ∙ sym (nothing_more first); trace_kept = kept_none keep made.trace.items trace }

  module _ (keep forgets : Bool) (now : MachineState) (made : Made) (turns more : List Turn) (has : HasMade first keep forgets s now made turns) (given : GivesTurnsOf (shape_view levels) first.turns (turns ++ more)) where
    more_named : NameParts more now.machine
    more_named = All-weaker (λ u. names_part u s.machine ≡ true) (λ u. names_part u now.machine ≡ true) (λ u here. parts_kept forgets now.machine (run_of turns s.machine).machine has.machine u ∙ run-names u turns s.machine ∙ here) more (start.names more each) where
      each : All (IsTurnOf (shape_view levels)) more
      each = subst (All (IsTurnOf (shape_view levels))) (drop_front turns more) (All-drop (IsTurnOf (shape_view levels)) (length turns) (turns ++ more) given.each)

    few_turns : length turns + length more ≤ 1048576
    few_turns = omega (arith, given.room, length-append turns more)

    more_counted : CanRun more now
    more_counted = omega (arith, start.few, has.number, few_turns)

    can_count : CanCount made.counts (counts_in more now)
    can_count =
        let a = run_counts_few turns s.machine in
        let b = run_counts_few more now.machine in
        record {
          turns = omega (arith, ap (λ (c : RunCounts). c.turns) has.counts, a.turns, b.turns, few_turns, start.counted.turns);
          retired = omega (arith, ap (λ (c : RunCounts). c.retired) has.counts, a.retired, b.retired, few_turns, start.counted.retired);
          granted = omega (arith, ap (λ (c : RunCounts). c.granted) has.counts, a.granted, b.granted, few_turns, start.counted.granted);
          busy = omega (arith, ap (λ (c : RunCounts). c.busy) has.counts, a.busy, b.busy, few_turns, start.counted.busy);
        }

    pub can_make : CanMake levels first turns more now made
    can_make = record { given = given; named = more_named; few = more_counted; counted = can_count }

    -- and were made
    module _ (after : MachineState) (made' : Made) (is : after ≡ record (ran more (with_room (length more) now)) { machine = kept_of forgets (run_of more now.machine).machine }) (counts : made'.counts ≡ counts_plus made.counts (counts_in more now))
        (kept : made'.trace.items ≡ (if keep then made.trace.items ++ trace_from made.counts.turns more (answers_in more now) else made.trace.items)) where
      counts_are : made'.counts ≡ counts_plus first (counts_of (run_of (turns ++ more) s.machine).answers)
      counts_are =
          let of_turns = counts_of (run_of turns s.machine).answers in
          counts ∙ ap (λ (c : RunCounts). counts_plus c (counts_in more now)) has.counts ∙ counts_assoc first of_turns (counts_in more now)
          ∙ ap (counts_plus first) (ap (λ xs. counts_plus of_turns (counts_of xs)) (answers_kept forgets now.machine (run_of turns s.machine).machine has.machine more) ∙ sym (counts_append (run_of turns s.machine).answers (run_of more (run_of turns s.machine).machine).answers) ∙ ap counts_of (sym (answers_append turns more s.machine)))

      -- their lines, and those of the turns before
      lines_are : trace_from first.turns turns (run_of turns s.machine).answers ++ trace_from made.counts.turns more (answers_in more now) ≡ trace_from first.turns (turns ++ more) (run_of (turns ++ more) s.machine).answers
      lines_are =
          let before = (run_of turns s.machine).answers in
          let number : made.counts.turns ≡ first.turns + length turns = ap (λ (c : RunCounts). c.turns) has.counts ∙ ap (λ n. first.turns + n) (turns_counted before ∙ answers_counted turns s.machine) in
          ap (λ n. trace_from first.turns turns before ++ trace_from n more (answers_in more now)) number
          ∙ ap (λ xs. trace_from first.turns turns before ++ trace_from (first.turns + length turns) more xs) (answers_kept forgets now.machine (run_of turns s.machine).machine has.machine more)
          ∙ sym (trace_from-append first.turns turns more before (run_of more (run_of turns s.machine).machine).answers (sym (answers_counted turns s.machine)))
          ∙ ap (trace_from first.turns (turns ++ more)) (sym (answers_append turns more s.machine))

      pub more_made : HasMade first keep forgets s after made' (turns ++ more)
      more_made =
          let machine : after.machine ≡ kept_of forgets (run_of more now.machine).machine = ap (λ (r : MachineState). r.machine) is in
          let number : after.turns ≡ now.turns + length more = ap (λ (r : MachineState). r.turns) is in
          record {
            machine = ap (kept_of forgets) machine ∙ kept_twice forgets (run_of more now.machine).machine ∙ run_kept forgets now.machine (run_of turns s.machine).machine has.machine more ∙ ap (kept_of forgets) (sym (machine_append turns more s.machine));
            number = omega (arith, number, has.number, length-append turns more);
            counts = counts_are;
            trace_kept = kept_more keep made.trace.items made'.trace.items (trace_from first.turns turns (run_of turns s.machine).answers) (trace_from made.counts.turns more (answers_in more now)) has.trace_kept kept ∙ ap (λ t. if keep then t else []) lines_are;
          }

-- ---- turns that were made

-- the machine is the run's where no operation is forgotten
pub unforgotten : (forgets : Bool) (first : RunCounts) (keep : Bool) (s now : MachineState) (made : Made) (turns : List Turn) → forgets ≡ false → HasMade first keep forgets s now made turns → HasMade first keep false s now made turns
unforgotten forgets first keep s now made turns none has = subst (λ f. HasMade first keep f s now made turns) none has

-- of these answers so many complete an instruction
retired_ops : (answers : List TurnAnswer) → length (ops_of_answers answers) ≡ (counts_of answers).retired
unfolding counts_of
retired_ops [] = refl
retired_ops (TurnAnswer.Retired op ∷ answers) = omega (arith, retired_ops answers)
retired_ops (TurnAnswer.Issued kind item ∷ answers) = retired_ops answers
retired_ops (TurnAnswer.Waiting item ∷ answers) = retired_ops answers
retired_ops (TurnAnswer.Halted cause ∷ answers) = retired_ops answers
retired_ops (TurnAnswer.Granted entry ∷ answers) = retired_ops answers
retired_ops (TurnAnswer.Busy cause ∷ answers) = retired_ops answers
retired_ops (TurnAnswer.Empty ∷ answers) = retired_ops answers

-- as many as there are operations, where there was none
pub retired_counted : (keep : Bool) (s now : MachineState) (made : Made) (turns : List Turn) → s.machine.ops ≡ [] → HasMade no_counts keep false s now made turns → made.counts.retired ≡ length now.machine.ops
retired_counted keep s now made turns none has =
    let answers = (run_of turns s.machine).answers in
    let ops : now.machine.ops ≡ ops_of_answers answers = ap (λ (m : MachineValue). m.ops) has.machine ∙ run-ops turns s.machine ∙ ap (λ ops. ops ++ ops_of_answers answers) none in
    ap (λ (c : RunCounts). c.retired) (counts_run keep false s now made turns has) ∙ sym (retired_ops answers) ∙ ap length (sym ops)

-- where no trace is kept, the report is alone
report_alone : (first : RunCounts) (s now : MachineState) (made : Made) (turns : List Turn) (report : List ℕ) → HasMade first false false s now made turns → made.trace.items ++ report ≡ report
report_alone first s now made turns report has = ap (λ t. t ++ report) has.trace_kept

-- where none came before, the lines that are kept are the whole trace
trace_made : (s now : MachineState) (made : Made) (turns : List Turn) → HasMade no_counts true false s now made turns → made.trace.items ≡ trace_text turns (run_of turns s.machine).answers
unfolding trace_text
trace_made s now made turns has = has.trace_kept

-- a summary says nothing of the operations
summary_without : (m : MachineValue) (c : RunCounts) → summary_of (view_of (depth_of m) c m) ≡ summary_of (view_of (depth_of (without_ops m)) c (without_ops m))
unfolding summary_of view_of
summary_without m c = refl

-- what is printed of them is what is printed of their run
pub made_printed : (prints : Prints) (s now : MachineState) (made : Made) (turns : List Turn) → HasMade no_counts (is_trace prints) (is_summary prints) s now made turns → made_text prints now.machine made ≡ printed prints (depth_of s.machine) turns s.machine
unfolding unjam_text_of saved_after
made_printed Checkpoint s now made turns has = ap (λ (m : MachineValue). saved m made.counts) has.machine ∙ ap (saved (run_of turns s.machine).machine) (counts_run false false s now made turns has)
made_printed Unjamming s now made turns has = ap (λ (m : MachineValue). unjam_line (unjamming_turn m)) has.machine
made_printed Summary s now made turns has =
    let after = (run_of turns s.machine).machine in
    summary_without now.machine made.counts ∙ ap (λ m. summary_of (view_of (depth_of m) made.counts m)) has.machine ∙ sym (summary_without after made.counts)
    ∙ ran_summary turns s.machine after made.counts (counts_run false true s now made turns has) refl
made_printed Trace s now made turns has =
    ap (λ t. t ++ report_of (view_of (depth_of now.machine) made.counts now.machine)) (trace_made s now made turns has)
    ∙ ran_trace turns s.machine now.machine made.counts (counts_run true false s now made turns has) has.machine (run_of turns s.machine).answers refl
made_printed Report s now made turns has =
    report_alone no_counts s now made turns _ has ∙ ran_report turns s.machine now.machine made.counts (counts_run false false s now made turns has) has.machine

pub made_written : {E : Type 0} (prints : Prints) (levels : List (List ℕ)) (told : Option ScheduleGiven) (s now : MachineState) (made : Made) (old new : Option (List ℕ)) (w : Result (Unit {0}) E)
    → HasAllMade (turns_of levels) told no_counts (is_trace prints) (is_summary prints) s now made → Writes old new (made_text prints now.machine made) w → WritesRan prints levels told s.machine old new w
made_written prints levels told s now made old new w has writes =
    (made_text prints now.machine made, record { turns = has.turns; accepted = has.accepted; text_is = made_printed prints s now made has.turns has.all }, writes)

-- ---- turns after those of a checkpoint

rest_printed : (first : RunCounts) (s now : MachineState) (made : Made) (turns : List Turn) → HasMade first false false s now made turns
    → made.trace.items ++ report_of (view_of (depth_of now.machine) made.counts now.machine) ≡ resumed_report turns (record { machine = s.machine; counts = first })
unfolding resumed_report
rest_printed first s now made turns has =
    let after = (run_of turns s.machine).machine in
    let depth : depth_of now.machine ≡ depth_of s.machine = ap depth_of has.machine ∙ ap (λ (f : Frame). levels_of f.bones) (run-frame turns s.machine) in
    report_alone first s now made turns _ has
    ∙ ap (λ n. report_of (view_of n made.counts now.machine)) depth
    ∙ ap (λ c. report_of (view_of (depth_of s.machine) c now.machine)) has.counts
    ∙ ap (λ m. report_of (view_of (depth_of s.machine) (counts_plus first (counts_of (run_of turns s.machine).answers)) m)) has.machine

pub rest_written : {E : Type 0} (levels : List (List ℕ)) (told : Option (List ℕ)) (first : RunCounts) (s now : MachineState) (made : Made) (old new : Option (List ℕ)) (w : Result (Unit {0}) E)
    → HasAllMade (turns_at levels first.turns) told first false false s now made → Writes old new (made.trace.items ++ report_of (view_of (depth_of now.machine) made.counts now.machine)) w
    → WritesRest levels told (record { machine = s.machine; counts = first }) old new w
rest_written levels told first s now made old new w has writes = (_, record { turns = has.turns; accepted = has.accepted; text_is = rest_printed first s now made has.turns has.all }, writes)

-- ---- the turns of a schedule file, as those of a run

-- where no operation is forgotten, any could be
could_forget : (forgets : Bool) (first : RunCounts) (keep : Bool) (s now : MachineState) (made : Made) (turns : List Turn) → HasMade first keep false s now made turns → HasMade first keep forgets s now made turns
could_forget forgets first keep s now made turns has = record { machine = ap (kept_of forgets) has.machine; number = has.number; counts = has.counts; trace_kept = has.trace_kept }

pub file_made : {E : Type 0} (levels : List (List ℕ)) (told : Option (List ℕ)) (keep forgets : Bool) (s now : MachineState) (r : Result Made E) → IfOk r (λ made. HasAllMade (turns_at levels 0) told no_counts keep false s now made)
    → IfOk r (λ made. HasAllMade (turns_of levels) (option_map written told) no_counts keep forgets s now made)
file_made levels told keep forgets s now r made = IfOk-weaker r _ _ (λ m has. record { turns = has.turns; accepted = file_accepted levels told has.turns has.accepted; all = could_forget forgets no_counts keep s now m has.turns has.all }) made

-- ---- the turns of a seed

-- a block of them: those before it, it, and those that are left are all
block_given : (levels levels' : List (List ℕ)) (turns block left all : List Turn) → levels ≡ levels' → (turns ++ block) ++ left ≡ all → All (IsTurnOf (shape_view levels)) all → length all ≤ 1048576 → GivesTurnsOf (shape_view levels') 0 (turns ++ block)
block_given levels levels' turns block left all same whole known few =
    let front : take (length (turns ++ block)) all ≡ turns ++ block = ap (take (length (turns ++ block))) (sym whole) ∙ take-append_seam (turns ++ block) left in
    let each : All (IsTurnOf (shape_view levels)) (turns ++ block) = subst (All (IsTurnOf (shape_view levels))) front (All-take (IsTurnOf (shape_view levels)) (length (turns ++ block)) all known) in
    record { each = subst (λ ls. All (IsTurnOf (shape_view ls)) (turns ++ block)) same each; room = omega (arith, few, ap length whole, length-append (turns ++ block) left) }

module _ (tree_levels : List (List ℕ)) (s : MachineState) (start : CanGoOn tree_levels no_counts s) (keep forgets : Bool) (now : MachineState) (made : Made) (turns : List Turn) (has : HasMade no_counts keep forgets s now made turns) where
  -- the next block can be made
  pub next_block : (levels : List (List ℕ)) (block left rest all : List Turn) (most : ℕ) → levels ≡ tree_levels → turns ++ rest ≡ all → block ≡ take most rest → left ≡ drop most rest → All (IsTurnOf (shape_view levels)) all → length all ≤ 1048576
      → ((turns ++ block) ++ left ≡ all) × CanMake tree_levels no_counts turns block now made
  next_block levels block left rest all most same so_far front back known few =
      let parts : block ++ left ≡ rest = ap (λ l. l ++ left) front ∙ ap (λ l. take most rest ++ l) back ∙ take-append-drop most rest in
      let whole : (turns ++ block) ++ left ≡ all = append_assoc turns block left ∙ ap (λ l. turns ++ l) parts ∙ so_far in
      (whole, can_make tree_levels no_counts s start keep forgets now made turns block has (block_given levels tree_levels turns block left all same whole known few))

-- where none is left, all were made
pub all_made : (turns rest all : List Turn) → turns ++ rest ≡ all → rest ≡ [] → all ≡ turns
all_made turns rest all so_far none = sym so_far ∙ ap (λ l. turns ++ l) none ∙ append-nil turns

-- a block that is as long as the list it is put into is that list
pub block_kept : (size : ℕ) (block behind : List Turn) → length block ≡ size → take size (block ++ behind) ≡ block
block_kept size block behind same = ap (λ n. take n (block ++ behind)) (sym same) ∙ take-append_seam block behind

-- ---- the pieces of a file

-- a piece more that was read, and whose turns can be made
pub record IsNext (levels : List (List ℕ)) (first : RunCounts) (told : Option (List ℕ)) (count : ℕ) (reader : ReaderView) (turns more : List Turn) (now : MachineState) (made : Made) : Type 0 where
  pub read : HasRead levels first.turns told count reader (turns ++ more)
  pub can : CanMake levels first turns more now made

module _ (tree_levels : List (List ℕ)) (first : RunCounts) (s : MachineState) (start : CanGoOn tree_levels first s) (keep : Bool) (told : Option (List ℕ)) (count : ℕ) (reader : ReaderView) (now : MachineState) (made : Made) (turns : List Turn)
    (read : HasRead tree_levels first.turns told count reader turns) (has : HasMade first keep false s now made turns) where
  pub next_piece : (levels : List (List ℕ)) (n : ℕ) (into : List ℕ) (new : ReaderView) (none more : List Turn) → levels ≡ tree_levels → none ≡ [] → n ≤ length into → IfSome told (λ file. ReadsPart file count n into) → Fed (shape_view levels) reader (take n into) new none more
      → IsNext tree_levels first told (count + n) new turns more now made
  next_piece levels n into new none more same is few part fed =
      let here = subst (λ ls. Fed (shape_view ls) reader (take n into) new none more) same fed in
      let next = more_read tree_levels first.turns told count reader turns read n into new none more is few part here in
      let given = given_so_far tree_levels first.turns told (count + n) new (turns ++ more) next (omega (arith, start.counted.turns)) in
      record { read = next; can = can_make tree_levels first s start keep false now made turns more has given }
