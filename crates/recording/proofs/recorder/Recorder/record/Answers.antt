use Rattle.std.proofs.Common.{◌∙◌, ◌++◌, length, ap, sym, subst, arith}
use Rattle.any_runs.specs.AnyMachine.Any.{machine_state}
use Rattle.seed_draws.specs.Parts.{DrawsView}
use Rattle.recording_model.specs.TextModel.Schedule.{ShapeView}
use Rattle.recording_model.specs.LetBy.{seed_draws}
use Rattle.recording_model.specs.Recording.{drawn_limit, recording_from, recording_of}
use Rattle.recording.specs.Runs.{CanBegin, RecorderView}
use Rattle.recording.proofs.Texts.{can-record}
use Rattle.recording.proofs.recorder.Recorder.record.Goals as goal

pub record_any-requires-clause-can : goal.record_any-requires-clause-can
record_any-requires-clause-can c =
    let inside : RecorderView = record { shape = c.self.inside.draws.shape; harts = length c.self.inside.halted.items } in
    can-record c.args.most inside (machine_state c.args.machine.now) c.begin.new.self.left (subst (λ (r : RecorderView). CanBegin c.args.most r (machine_state c.args.machine.now)) (sym c.self.view_is) c.requires.begins) c.begin.ensures.known c.begin.ensures.count

pub record_any-requires-clause-flags : goal.record_any-requires-clause-flags
record_any-requires-clause-flags c =
    let harts = ap (λ (r : RecorderView). r.harts) c.self.view_is in
    omega (arith, c.deref_mut.ensures.len, ap length c.deref_mut.ensures.value, harts, c.requires.begins.harts)

pub returns-clause-end : goal.returns-clause-end
unfolding recording_of
returns-clause-end c =
    let m = (machine_state c.args.machine.now).machine in
    let shape = ap (λ (r : RecorderView). r.shape) c.self.view_is in
    c.record_any.ensures.end ∙ ap (λ (v : DrawsView). (recording_from c.args.most 0 v.left m).end) c.begin.ensures.draws ∙ ap (λ (s : ShapeView). (recording_from c.args.most 0 (seed_draws c.args.kind s c.args.seed drawn_limit) m).end) shape

pub returns-clause-turns : goal.returns-clause-turns
unfolding recording_of
returns-clause-turns c =
    let m = (machine_state c.args.machine.now).machine in
    let shape = ap (λ (r : RecorderView). r.shape) c.self.view_is in
    c.record_any.ensures.turns ∙ ap (λ (v : DrawsView). c.args.turns.now.items ++ (recording_from c.args.most 0 v.left m).turns) c.begin.ensures.draws
    ∙ ap (λ (s : ShapeView). c.args.turns.now.items ++ (recording_from c.args.most 0 (seed_draws c.args.kind s c.args.seed drawn_limit) m).turns) shape

pub returns-clause-after : goal.returns-clause-after
unfolding recording_of
returns-clause-after c =
    let m = (machine_state c.args.machine.now).machine in
    let shape = ap (λ (r : RecorderView). r.shape) c.self.view_is in
    c.record_any.ensures.after ∙ ap (λ (v : DrawsView). (recording_from c.args.most 0 v.left m).machine) c.begin.ensures.draws ∙ ap (λ (s : ShapeView). (recording_from c.args.most 0 (seed_draws c.args.kind s c.args.seed drawn_limit) m).machine) shape
