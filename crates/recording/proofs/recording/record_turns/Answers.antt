use Rattle.std.proofs.Common.{◌∙◌, ◌≤◌, ◌+◌, Bool, length, vec_capacity, refl, sym, ap, subst, if◌then◌else◌, arith}
use Rattle.tree_model.specs.State.Shape.{tree_counts}
use Rattle.recording_model.specs.LetBy.{Draw}
use Rattle.recording.specs.Runs.{is_done}
use Rattle.recording.proofs.Halting.{draw-done, draw-leaves, flags-counted}
use Rattle.recording.proofs.UnderWay.{begins, goes, is-done, is-on, names-here, room-kept}
use Rattle.recording.proofs.recording.record_turns.Goals as goal

pub recording-init : goal.recording-init
recording-init g c = record {
  run = begins c.args.most c.args.draws.now.left c.args.machine.now c.args.turns.now.items c.args.count c.requires.can c.requires.count;
  halted = record { each = c.put_flags-all.ensures.flags; every = c.put_flags-all.ensures.all };
  leaves = refl;
  shape = refl;
  room = c.requires.room;
}

pub next_draw-turn-requires : goal.next_draw-turn-requires
next_draw-turn-requires g c =
    let i = c.recording.invariant in
    let on = is-on c.recording.progress c.recording.draws.left c.recording.machine.machine i.run.drawn c.recording.all i.run.idle i.halted.every (sym c.in_default.ensures) in
    omega (arith, on.draws, i.run.drawn)

pub make_draw-came-requires : goal.make_draw-came-requires
make_draw-came-requires g c =
    let i = c.recording.invariant in
    let ds = c.recording.draws.left in
    let on = is-on c.recording.progress ds c.recording.machine.machine i.run.drawn c.recording.all i.run.idle i.halted.every (sym c.in_default.ensures) in
    let d : Draw = record { turn = c.next_draw-turn.result.0; let_by = c.next_draw-turn.result.1 } in
    let named = names-here c.args.most c.args.draws.now.left c.args.machine.now c.args.turns.now.items c.recording.machine c.recording.turns.items c.recording.progress d ds c.next_draw-turn.new.self.left c.next_draw-turn.ensures.draw i.run in
    (omega arith, (named, (omega (arith, on.left, i.run.spare), (omega (arith, i.run.few, i.run.drawn, on.draws), i.halted))))

pub keep_turn-requires : goal.keep_turn-requires
keep_turn-requires g c =
    let i = c.recording.invariant in
    let on = is-on c.recording.progress c.recording.draws.left c.recording.machine.machine i.run.drawn c.recording.all i.run.idle i.halted.every (sym c.in_default.ensures) in
    omega (arith, on.left, i.room)

pub note-requires : goal.note-requires
note-requires g c =
    let i = c.recording.invariant in
    let on = is-on c.recording.progress c.recording.draws.left c.recording.machine.machine i.run.drawn c.recording.all i.run.idle i.halted.every (sym c.in_default.ensures) in
    record { left = on.left; idle = on.idle; draws = on.draws }

pub recording-preserved : goal.recording-preserved
recording-preserved g c =
    let i = c.recording.invariant in
    let ds = c.recording.draws.left in
    let p = c.recording.progress in
    let m = c.recording.machine.machine in
    let did = c.is_done-did.result in
    let later = c.next_draw-turn.new.self.left in
    let on = is-on p ds m i.run.drawn c.recording.all i.run.idle i.halted.every (sym c.in_default.ensures) in
    let d : Draw = record { turn = c.next_draw-turn.result.0; let_by = c.next_draw-turn.result.1 } in
    let next = c.make_draw-came.new.machine in
    let does = c.is_done-did.ensures ∙ ap is_done c.make_draw-came.ensures.came ∙ draw-done d m in
    let spare = subst (λ (b : Bool). c.recording.machine.spare ≤ next.spare + (if b then 1 else 0)) (sym c.is_done-did.ensures) c.make_draw-came.ensures.spare in
    let run = goes c.args.most c.args.draws.now.left c.args.machine.now c.args.turns.now.items c.recording.machine c.recording.turns.items p d ds later did next i.run on c.next_draw-turn.ensures.draw does c.make_draw-came.ensures.after spare c.make_draw-came.ensures.turns in
    record {
      run = rw (c.keep_turn.ensures.items, c.note.ensures) run;
      halted = c.make_draw-came.ensures.halted;
      leaves = ap (λ k. (tree_counts k).leaves) c.make_draw-came.ensures.after ∙ draw-leaves d m ∙ i.leaves;
      shape = c.next_draw-turn.ensures.shape ∙ i.shape;
      room = rw (c.keep_turn.ensures.items, c.note.ensures) (room-kept did c.recording.turns.items d.turn p.left (vec_capacity c.recording.turns) (vec_capacity c.keep_turn.new.turns) on.left i.room c.keep_turn.ensures.capacity);
    }

pub recording-smaller : goal.recording-smaller
recording-smaller g c =
    let i = c.recording.invariant in
    let on = is-on c.recording.progress c.recording.draws.left c.recording.machine.machine i.run.drawn c.recording.all i.run.idle i.halted.every (sym c.in_default.ensures) in
    omega (arith, on.draws, ap (λ q. q.draws) c.note.ensures)

pub returns-in-Some-clause-end : goal.returns-in-Some-clause-end
returns-in-Some-clause-end g c =
    let i = c.recording.invariant in
    (is-done c.args.most c.args.draws.now.left c.args.machine.now c.args.turns.now.items c.recording.machine c.recording.turns.items c.recording.progress c.recording.draws.left c.in-Some.end c.recording.all i.run i.halted.every (sym c.in-Some.ensures)).end

pub returns-in-Some-clause-turns : goal.returns-in-Some-clause-turns
returns-in-Some-clause-turns g c =
    let i = c.recording.invariant in
    (is-done c.args.most c.args.draws.now.left c.args.machine.now c.args.turns.now.items c.recording.machine c.recording.turns.items c.recording.progress c.recording.draws.left c.in-Some.end c.recording.all i.run i.halted.every (sym c.in-Some.ensures)).listed

pub returns-in-Some-clause-after : goal.returns-in-Some-clause-after
returns-in-Some-clause-after g c =
    let i = c.recording.invariant in
    (is-done c.args.most c.args.draws.now.left c.args.machine.now c.args.turns.now.items c.recording.machine c.recording.turns.items c.recording.progress c.recording.draws.left c.in-Some.end c.recording.all i.run i.halted.every (sym c.in-Some.ensures)).machine

pub returns-in-Some-clause-shape : goal.returns-in-Some-clause-shape
returns-in-Some-clause-shape g c = c.recording.invariant.shape

pub returns-in-Some-clause-flags : goal.returns-in-Some-clause-flags
returns-in-Some-clause-flags g c = let i = c.recording.invariant in ap length i.halted.each ∙ flags-counted c.recording.machine.machine ∙ i.leaves
