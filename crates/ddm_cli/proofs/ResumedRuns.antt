-- A run that goes on from what was saved of its first turns has the report of all turns: the machine is the same, and the counts of
-- both parts are added.
-- Letters: p is what a tree and an image give, a an answer, m a machine.
use Rattle.std.proofs.Common.{◌≡◌, ℕ, ◌+◌, ◌≤◌, List, [], ◌∷◌, ◌++◌, length, Some, refl, sym, ap, subst, ◌∙◌, arith}
use Rattle.std.specs.Prelude.{option_and_then, option_map}
use Rattle.std.specs.Result.{result_ok}
use Rattle.ddm_cli.specs.DdmTypes.declared.answers.TurnAnswer.{TurnAnswer}
use Rattle.ddm_cli.specs.DdmTypes.declared.turns.Turn.{Turn}
use Rattle.ddm_cli.specs.TreeModel.State.Shape.{Frame, depth_of, levels_of}
use Rattle.ddm_cli.specs.TreeModel.State.Values.{MachineValue}
use Rattle.ddm_cli.specs.TreeModel.Start.Machine.{start_machine}
use Rattle.ddm_cli.specs.TreeModel.Turns.Machine.{run_of, turn_of}
use Rattle.ddm_cli.specs.TextModel.Report.{report_of}
use Rattle.ddm_cli.specs.TextModel.Run.{counted_answer, counts_of, view_of, report_text_of}
use Rattle.ddm_cli.specs.TextModel.declared.RunCounts.{RunCounts}
use Rattle.ddm_cli.specs.Made.{counts_plus}
use Rattle.ddm_cli.specs.Parts.{Parts, parts_of, resumed_at, turns_at, turns_of}
use Rattle.ddm_cli.specs.Printed.{resumed_report, saved_after}
use Rattle.ddm_cli.specs.Together.{SavedRunsAreWhole}
use Rattle.ddm_cli.specs.Told.{ScheduleGiven}
use Rattle.ddm_cli.specs.Top.{rest_with, resumed_text, resumed_with, text_at, text_of, text_with}
use Rattle.ddm_words.specs.declared.command.Prints.TheVariants.{Report, Checkpoint}
use Rattle.ddm_cli.proofs.RunsInPieces.{machine_append}
use Rattle.ddm_cli.proofs.StartNames.{start_depth}
use Rattle.ddm_cli.proofs.TreeModel.FrameKept.{run-frame}
use Rattle.checkpoint.specs.Resumed.{Resumed}
use Rattle.checkpoint.specs.Saved.{saved}
use Rattle.checkpoint.proofs.Runs.{run-read}
use Rattle.ddm_cli.proofs.FileLaws.CheckpointSizes.{checkpoints-bounded}
use Rattle.ddm_cli.proofs.FileLaws.Images.{image-bytes}
use Rattle.ddm_cli.proofs.FileLaws.Trees.{accepted_tree}
use Rattle.ddm_cli.proofs.AcceptedParts.{few-given, parts-told}
use Rattle.ddm_cli.proofs.CheckedRuns.{for-report}
use Rattle.ddm_cli.proofs.EachTurn.{starts}

-- ---- counts of two parts

same-counts : (c d : RunCounts) → c.turns ≡ d.turns → c.retired ≡ d.retired → c.granted ≡ d.granted → c.busy ≡ d.busy → c ≡ d
same-counts c d turns retired granted busy = λ j. record { turns = turns j; retired = retired j; granted = granted j; busy = busy j }

one-more : (a : TurnAnswer) (c d : RunCounts) → counted_answer a (counts_plus c d) ≡ counts_plus (counted_answer a c) d
one-more (TurnAnswer.Retired op) c d = same-counts _ _ (omega arith) (omega arith) refl refl
one-more (TurnAnswer.Granted e) c d = same-counts _ _ (omega arith) refl (omega arith) refl
one-more (TurnAnswer.Busy cause) c d = same-counts _ _ (omega arith) refl refl (omega arith)
one-more (TurnAnswer.Issued kind x) c d = same-counts _ _ (omega arith) refl refl refl
one-more (TurnAnswer.Waiting x) c d = same-counts _ _ (omega arith) refl refl refl
one-more (TurnAnswer.Halted cause) c d = same-counts _ _ (omega arith) refl refl refl
one-more TurnAnswer.Empty c d = same-counts _ _ (omega arith) refl refl refl

counts-append : (xs ys : List TurnAnswer) → counts_of (xs ++ ys) ≡ counts_plus (counts_of xs) (counts_of ys)
unfolding counts_of
counts-append [] ys = same-counts _ _ (omega arith) (omega arith) (omega arith) (omega arith)
counts-append (a ∷ xs) ys = ap (counted_answer a) (counts-append xs ys) ∙ one-more a (counts_of xs) (counts_of ys)

answers-append : (ts us : List Turn) (m : MachineValue) → (run_of (ts ++ us) m).answers ≡ (run_of ts m).answers ++ (run_of us (run_of ts m).machine).answers
unfolding run_of
answers-append [] us m = refl
answers-append (t ∷ ts) us m = ap (λ l. (turn_of t m).answer ∷ l) (answers-append ts us (turn_of t m).machine)

counted-turn : (a : TurnAnswer) (c : RunCounts) → (counted_answer a c).turns ≡ c.turns + 1
counted-turn (TurnAnswer.Retired op) c = refl
counted-turn (TurnAnswer.Granted e) c = refl
counted-turn (TurnAnswer.Busy cause) c = refl
counted-turn (TurnAnswer.Issued kind x) c = refl
counted-turn (TurnAnswer.Waiting x) c = refl
counted-turn (TurnAnswer.Halted cause) c = refl
counted-turn TurnAnswer.Empty c = refl

turns-counted : (ts : List Turn) (m : MachineValue) → (counts_of (run_of ts m).answers).turns ≡ length ts
unfolding counts_of run_of
turns-counted [] m = refl
turns-counted (t ∷ ts) m =
    let here = counted-turn (turn_of t m).answer (counts_of (run_of ts (turn_of t m).machine).answers) in
    let rest = turns-counted ts (turn_of t m).machine in
    omega (arith, here, rest)

-- ---- the report

module _ (first more : List Turn) (m : MachineValue) where
  abbrev made : Resumed
  made = record { machine = (run_of first m).machine; counts = counts_of (run_of first m).answers }

  depth-kept : depth_of (run_of first m).machine ≡ depth_of m
  depth-kept = ap (λ (f : Frame). levels_of f.bones) (run-frame first m)

  whole-report : (depth : ℕ) → depth_of m ≡ depth → resumed_report more made ≡ report_text_of depth (first ++ more) m
  unfolding resumed_report report_text_of
  whole-report depth is =
      let counts : counts_plus (counts_of (run_of first m).answers) (counts_of (run_of more (run_of first m).machine).answers) ≡ counts_of (run_of (first ++ more) m).answers = sym (counts-append (run_of first m).answers (run_of more (run_of first m).machine).answers) ∙ ap counts_of (sym (answers-append first more m)) in
      ap (λ d. report_of (view_of d (counts_plus (counts_of (run_of first m).answers) (counts_of (run_of more (run_of first m).machine).answers)) (run_of more (run_of first m).machine).machine)) (depth-kept ∙ is)
      ∙ ap (λ c. report_of (view_of depth c (run_of more (run_of first m).machine).machine)) counts
      ∙ ap (λ n. report_of (view_of depth (counts_of (run_of (first ++ more) m).answers) n)) (sym (machine_append first more m))

-- ---- the commands

-- the text of a schedule of all turns
all-turns : (tree image : List ℕ) (p : Parts) (all : ScheduleGiven) (turns : List Turn) → parts_of tree image ≡ Some p → turns_of p.tree.levels all ≡ Some turns → text_of Report tree image all ≡ Some (text_at Report p turns)
all-turns tree image p all turns given of = ap (option_and_then (text_with Report all)) (for-report tree image ∙ given) ∙ ap (option_map (text_at Report p)) of

pub saved-whole : SavedRunsAreWhole
unfolding text_at resumed_at saved_after
saved-whole tree image p schedule first rest more bytes askable given of goes =
    let parts = parts-told tree image p given in
    let file = accepted_tree tree p.tree parts.tree_is in
    let m = start_machine p.tree p.image in
    let few = few-given p.tree schedule first askable of in
    let of_bytes = image-bytes p.tree.item_bytes image p.image bytes parts.image_is in
    let built = starts p.tree p.image parts.starts in
    let c = counts_of (run_of first m).answers in
    let bound = checkpoints-bounded tree p.tree p.image m first c.turns c.retired c.granted c.busy parts.tree_is of_bytes built in
    let short : length (saved (run_of first m).machine c) ≤ 536870912 = omega (arith, bound, few) in
    let read = run-read p.tree p.image m first file.tree of_bytes built file.small few short in
    let here : turns_at p.tree.levels (counts_of (run_of first m).answers).turns rest ≡ Some more = subst (λ n. turns_at p.tree.levels n rest ≡ Some more) (sym (turns-counted first m)) goes in
    let text : resumed_text tree image (text_at Checkpoint p first) rest ≡ Some (text_at Report p (first ++ more)) =
    ap (option_and_then (resumed_with (saved (run_of first m).machine (counts_of (run_of first m).answers)) rest)) given
    ∙ ap (λ r. option_and_then (rest_with rest p.tree.levels) (result_ok r)) read
    ∙ ap (option_map (λ turns. resumed_report turns (made first more m))) here
    ∙ ap (λ text. Some text) (whole-report first more m (length p.tree.levels) (start_depth p.tree p.image file.tree parts.starts)) in
    record {
      state = ap (λ r. result_ok r) read;
      text = text;
      of_all = λ all turns. all-turns tree image p all (first ++ more) given turns ∙ sym text;
    }
