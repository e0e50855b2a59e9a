use Rattle.std.proofs.Common.{◌≡◌, ◌∙◌, ◌+◌, ◌<◌, ap, refl, sym, subst, arith}
use Rattle.outcomes.specs.TreeModel.State.Shape.{tree_counts}
use Rattle.outcomes.specs.AnyMachine.Any.{machine_state}
use Rattle.schedule_log.specs.Shapes.{shape_view}
use Rattle.outcome_model.specs.Table.{counted, table_of, tallied}
use Rattle.survey_model.specs.Survey.{seed_end, survey_table}
use Rattle.measuring.specs.RecordingCrate.Runs.{CanBegin, RecorderView}
use Rattle.outcomes.specs.Runs.{AreFew}
use Rattle.outcomes.proofs.Seeds.{tally, tally-few, tally-next}
use Rattle.outcomes.proofs.surveying.survey.Goals as goal

pub loop-number-init : goal.loop-number-init
unfolding tallied
loop-number-init c = record { twin = c.requires.twin; lines = c.new-lines.ensures.items; recorder = c.in_ok-new.ensures }

pub count_recorded-requires-clause-begins : goal.count_recorded-requires-clause-begins
count_recorded-requires-clause-begins c =
    let s = machine_state c.args.start.now in
    let new : RecorderView = record { shape = shape_view c.args.shape.now; harts = (tree_counts s.machine).leaves } in
    let begins : CanBegin 0 new s = record { parts = c.requires.begins.parts; harts = refl; few = c.requires.begins.few; spare = omega arith } in
    subst (λ (r : RecorderView). CanBegin 0 r s) (sym c.loop-number.invariant.recorder) begins

pub count_recorded-requires-clause-few : goal.count_recorded-requires-clause-few
count_recorded-requires-clause-few c =
    let few : c.loop-number.number < 4294967296 = omega (arith, c.loop-number-test.true, c.ranges.count.fits) in
    let m = (machine_state c.args.start.now).machine in
    subst AreFew (sym c.loop-number.invariant.lines) (tally-few (seed_end c.args.kind (shape_view c.args.shape.now) c.args.most m) c.args.first c.loop-number.number few)

pub loop-number-preserved : goal.loop-number-preserved
loop-number-preserved c =
    let shape = shape_view c.args.shape.now in
    let m = (machine_state c.args.start.now).machine in
    let kind = c.args.kind in
    let most = c.args.most in
    let seed = c.args.first + c.loop-number.number in
    let lines = c.loop-number.lines.items in
    record {
      twin = c.in_ok-count_recorded.ensures.twin;
      lines = c.in_ok-count_recorded.ensures.counted
          ∙ ap (λ n. counted (c.args.first + n) (seed_end kind c.loop-number.runs.recorder.shape most m (c.args.first + n)) lines) c.from.ensures
          ∙ ap (λ (r : RecorderView). counted seed (seed_end kind r.shape most m seed) lines) c.loop-number.invariant.recorder
          ∙ ap (counted seed (seed_end kind shape most m seed)) c.loop-number.invariant.lines
          ∙ sym (tally-next (seed_end kind shape most m) c.args.first c.loop-number.number);
      recorder = c.in_ok-count_recorded.ensures.same ∙ c.loop-number.invariant.recorder;
    }

pub returns : goal.returns
unfolding survey_table table_of
returns c =
    let last : c.loop-number.number ≡ c.args.count = omega (arith, c.loop-number-test.false, c.loop-number.auto.number-end) in
    let m = (machine_state c.args.start.now).machine in
    let lines = c.loop-number.invariant.lines ∙ ap (tally (seed_end c.args.kind (shape_view c.args.shape.now) c.args.most m) c.args.first) last in
    rw lines at c.in_order.ensures
