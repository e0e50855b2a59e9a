use Rattle.std.proofs.Common.{◌≡◌, ◌∙◌, ◌+◌, ◌<◌, ap, sym, subst, arith}
use Rattle.outcomes.specs.TreeModel.State.Shape.{frame_of}
use Rattle.outcomes.specs.TextModel.Schedule.{ShapeView}
use Rattle.outcomes.specs.AnyMachine.Any.{machine_state}
use Rattle.schedule_log.specs.Seeding.{SeededView}
use Rattle.schedule_log.specs.Shapes.{shape_view}
use Rattle.outcome_model.specs.Outcome.{seed_outcome}
use Rattle.outcome_model.specs.Outcomes.{outcome_table}
use Rattle.outcome_model.specs.Table.{counted, table_of, tallied}
use Rattle.outcomes.specs.Runs.{AreFew, HasShape}
use Rattle.outcomes.proofs.Seeds.{tally, tally-few, tally-next}
use Rattle.outcomes.proofs.runs.outcomes.Goals as goal

pub loop-number-init : goal.loop-number-init
unfolding tallied
loop-number-init c =
    let after = c.in_ok-reserve.ensures.after in
    record {
      twin = record {
        kind = c.in_ok-reserve.ensures.kind ∙ sym c.requires.kind;
        frame = ap (λ s. frame_of s.machine) after ∙ c.requires.frame;
        room = omega (arith, ap (λ s. s.spare) after);
      };
      lines = c.new-lines.ensures.items;
      shape = ap (λ (v : SeededView). v.shape) c.in_ok-seeds.ensures;
    }

pub count_seed-requires-clause-shape : goal.count_seed-requires-clause-shape
count_seed-requires-clause-shape c = subst (λ (v : ShapeView). HasShape v (machine_state c.args.start.now).machine) (sym c.loop-number.invariant.shape) c.requires.shape

pub count_seed-requires-clause-few : goal.count_seed-requires-clause-few
count_seed-requires-clause-few c =
    let few : c.loop-number.number < 4294967296 = omega (arith, c.loop-number-test.true, c.ranges.count.fits) in
    subst AreFew (sym c.loop-number.invariant.lines) (tally-few (seed_outcome (shape_view c.args.shape.now) c.args.turns (machine_state c.args.start.now).machine) c.args.first c.loop-number.number few)

pub loop-number-preserved : goal.loop-number-preserved
loop-number-preserved c =
    let shape = shape_view c.args.shape.now in
    let m = (machine_state c.args.start.now).machine in
    let turns = c.args.turns in
    let seed = c.args.first + c.loop-number.number in
    let lines = c.loop-number.lines.items in
    record {
      twin = c.in_ok-count_seed.ensures.twin;
      lines = c.in_ok-count_seed.ensures.counted
          ∙ ap (λ n. counted (c.args.first + n) (seed_outcome c.loop-number.seeds.shape turns m (c.args.first + n)) lines) c.from.ensures
          ∙ ap (λ (v : ShapeView). counted seed (seed_outcome v turns m seed) lines) c.loop-number.invariant.shape
          ∙ ap (counted seed (seed_outcome shape turns m seed)) c.loop-number.invariant.lines
          ∙ sym (tally-next (seed_outcome shape turns m) c.args.first c.loop-number.number);
      shape = c.in_ok-count_seed.ensures.shape ∙ c.loop-number.invariant.shape;
    }

pub returns-clause-table : goal.returns-clause-table
unfolding outcome_table table_of
returns-clause-table c =
    let last : c.loop-number.number ≡ c.args.count = omega (arith, c.loop-number-test.false, c.loop-number.auto.number-end) in
    let lines = c.loop-number.invariant.lines ∙ ap (tally (seed_outcome (shape_view c.args.shape.now) c.args.turns (machine_state c.args.start.now).machine) c.args.first) last in
    rw lines at c.in_order.ensures
