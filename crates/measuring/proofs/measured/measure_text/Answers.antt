use Rattle.std.proofs.Common.{◌∙◌, sym, ap, subst}
use Rattle.report.specs.DdmText.Adds.{alone}
use Rattle.recording.specs.AnyMachine.Any.{machine_state}
use Rattle.recording.specs.Runs.{RecorderView}
use Rattle.recording.specs.SeedDraws.Parts.{DrawsView}
use Rattle.recording.proofs.Texts.{can-record}
use Rattle.recording_model.specs.LetBy.{seed_draws}
use Rattle.recording_model.specs.Recording.{drawn_limit, recording_from, recording_of}
use Rattle.recording_model.specs.TextModel.Schedule.{ShapeView}
use Rattle.recording_model.specs.TreeModel.State.Shape.{tree_counts}
use Rattle.measure_model.specs.Measures.{Measures, measures_of}
use Rattle.measure_model.specs.Text.{measure_text, measures_text, run_text}
use Rattle.measuring.specs.Kept.{tally_of}
use Rattle.measuring.specs.Sized.{IsSized}
use Rattle.measuring.proofs.Starts.{none-measured, run-sized, start-begins, text-alike}
use Rattle.measuring.proofs.measured.measure_text.Goals as goal

pub measure_any-requires-clause-can : goal.measure_any-requires-clause-can
measure_any-requires-clause-can c =
    let s = machine_state c.args.machine.now in
    let shape = ap (λ (v : DrawsView). v.shape) c.in_ok-draws.ensures in
    let r : RecorderView = record { shape = c.in_ok-draws.draws.shape; harts = (tree_counts s.machine).leaves } in
    let can = can-record 0 r s c.begin.new.self.left (start-begins c.in_ok-draws.draws.shape _ s shape c.requires) c.begin.ensures.known c.begin.ensures.count in
    record { known = can.known; few = can.few }

pub measure_any-requires-clause-starts : goal.measure_any-requires-clause-starts
measure_any-requires-clause-starts c = c.in_ok-tally.ensures ∙ none-measured (machine_state c.args.machine.now).machine

pub push_text-requires : goal.push_text-requires
push_text-requires c =
    let m = (machine_state c.args.machine.now).machine in
    let k = (machine_state c.measure_any.new.machine).machine in
    subst (λ (s : Measures). IsSized s k) (sym c.in_ok-end.ensures.measures) (run-sized c.args.most c.begin.new.self.left m k c.in_ok-end.ensures.after)

pub returns-clause-text : goal.returns-clause-text
unfolding measure_text recording_of
returns-clause-text c =
    let m = (machine_state c.args.machine.now).machine in
    let k = (machine_state c.measure_any.new.machine).machine in
    let r = recording_from c.args.most 0 c.begin.new.self.left m in
    let shape = ap (λ (v : DrawsView). v.shape) c.in_ok-draws.ensures in
    alone c.in_ok-push_text.ensures c.new-out.ensures.items
    ∙ ap (λ e. measures_text e (tally_of c.measure_any.new.tally) k) c.in_ok-end.ensures.end
    ∙ ap (λ s. measures_text r.end s k) c.in_ok-end.ensures.measures
    ∙ text-alike r.end (measures_of r m) r.machine k c.in_ok-end.ensures.after
    ∙ ap (λ (v : DrawsView). run_text (recording_from c.args.most 0 v.left m) m) c.begin.ensures.draws
    ∙ ap (λ (v : ShapeView). run_text (recording_from c.args.most 0 (seed_draws c.args.kind v c.args.seed drawn_limit) m) m) shape
