-- The film of a run from the texts that were put one behind the other.
-- Letters: m is a machine.
use Rattle.std.proofs.Common.{◌≡◌, ℕ, List, [], ◌++◌, length, ap, ◌∙◌}
use Rattle.film_runs.specs.DdmText.Adds.{Adds}
use Rattle.film_runs.specs.DdmTypes.declared.turns.Turn.{Turn}
use Rattle.film_runs.specs.TreeModel.Start.Sources.{TreeValue}
use Rattle.film_runs.specs.TreeModel.State.Shape.{Frame, depth_of, levels_of}
use Rattle.film_runs.specs.TreeModel.State.Values.{MachineValue}
use Rattle.film_runs.specs.TreeModel.Turns.Machine.{run_of}
use Rattle.film_runs.specs.TextModel.declared.RunCounts.{RunCounts}
use Rattle.film_runs.specs.TextModel.Report.{report_of}
use Rattle.film_runs.specs.TextModel.Run.{counts_of, report_text_of, view_of}
use Rattle.film_runs.specs.FilmModel.Film.{film_of, head_of, turns_film}
use Rattle.film_runs.specs.FilmModel.Part.{Part, valued}
use Rattle.film_runs.specs.FilmModel.Still.{still}
use Rattle.film.proofs.TreeModel.FrameKept.{run-frame}

depth_after : (turns : List Turn) (m next : MachineValue) → next ≡ (run_of turns m).machine → depth_of next ≡ depth_of m
depth_after turns m next is = ap depth_of is ∙ ap (λ (f : Frame). levels_of f.bones) (run-frame turns m)

pub reported : (report : List ℕ) (depth : ℕ) (turns : List Turn) (m next : MachineValue) (counts : RunCounts) →
    report ≡ report_of (view_of (depth_of next) counts next) → next ≡ (run_of turns m).machine → counts ≡ counts_of (run_of turns m).answers → depth_of m ≡ depth →
    report ≡ report_text_of depth turns m
unfolding report_text_of
reported report depth turns m next counts told is counted deep =
    told
    ∙ ap (λ (n : ℕ). report_of (view_of n counts next)) (depth_after turns m next is ∙ deep)
    ∙ ap (λ (c : RunCounts). report_of (view_of depth c next)) counted
    ∙ ap (λ (n : MachineValue). report_of (view_of depth (counts_of (run_of turns m).answers) n)) is

pub whole_film : (none headed begun filmed whole report : List ℕ) (tree : TreeValue) (turns : List Turn) (m : MachineValue) (before : List Part) →
    none ≡ [] → Adds none headed (head_of tree m) → Adds headed begun (valued before) → before ≡ still m → filmed ≡ begun ++ turns_film 0 turns m → whole ≡ filmed ++ report → report ≡ report_text_of (length tree.levels) turns m →
    whole ≡ film_of tree turns m
unfolding film_of
whole_film none headed begun filmed whole report tree turns m before empty head start is turned ended told =
    let head_is : headed ≡ head_of tree m = head.is ∙ ap (λ (x : List ℕ). x ++ head_of tree m) empty in
    let begun_is : begun ≡ head_of tree m ++ valued (still m) = start.is ∙ ap (λ (x : List ℕ). x ++ valued before) head_is ∙ ap (λ (ps : List Part). head_of tree m ++ valued ps) is in
    let filmed_is : filmed ≡ head_of tree m ++ valued (still m) ++ turns_film 0 turns m = turned ∙ ap (λ (x : List ℕ). x ++ turns_film 0 turns m) begun_is in
    ended ∙ ap (λ (x : List ℕ). x ++ report) filmed_is ∙ ap (λ (x : List ℕ). head_of tree m ++ valued (still m) ++ turns_film 0 turns m ++ x) told
