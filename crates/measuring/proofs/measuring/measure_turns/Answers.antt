use Rattle.std.proofs.Common.{◌∙◌, ◌≤◌, ◌+◌, ◌-◌, Bool, length, sym, ap, subst, if◌then◌else◌, arith}
use Rattle.recording_model.specs.LetBy.{Draw}
use Rattle.measure_model.specs.Measures.{Measures}
use Rattle.measuring.specs.Kept.{tally_of}
use Rattle.measuring.proofs.UnderWay.{begins, flags-alike, goes, is-over, measures-are, names-after, names-here, room-left, roomed, still-on}
use Rattle.measuring.proofs.measuring.measure_turns.Goals as goal

pub measuring-init : goal.measuring-init
measuring-init g c = record {
  run = begins c.args.most c.args.draws.now.left c.args.machine.now c.args.count (tally_of c.args.tally.now) c.requires.can c.requires.count c.requires.starts;
  halted = record { each = c.put_flags-all.ensures.flags; every = c.put_flags-all.ensures.all };
  room = omega arith;
}

pub returns-in-Some-clause-end : goal.returns-in-Some-clause-end
returns-in-Some-clause-end g c =
    let i = c.measuring.invariant in
    (is-over c.args.most c.args.draws.now.left c.args.machine.now c.measuring.machine c.measuring.progress c.measuring.draws.left (tally_of c.measuring.tally) c.in-Some.end c.measuring.all i.run i.halted.every (sym c.in-Some.ensures)).end

pub returns-in-Some-clause-measures : goal.returns-in-Some-clause-measures
returns-in-Some-clause-measures g c =
    let i = c.measuring.invariant in
    let over = is-over c.args.most c.args.draws.now.left c.args.machine.now c.measuring.machine c.measuring.progress c.measuring.draws.left (tally_of c.measuring.tally) c.in-Some.end c.measuring.all i.run i.halted.every (sym c.in-Some.ensures) in
    let tally = tally_of c.measuring.tally in
    ap {B = Measures} (λ n. record tally { totals = record tally.totals { drawn = n - c.measuring.progress.draws } }) c.requires.count ∙ sym (measures-are _ c.args.machine.now.machine ∙ over.measures)

pub returns-in-Some-clause-after : goal.returns-in-Some-clause-after
returns-in-Some-clause-after g c =
    let i = c.measuring.invariant in
    (is-over c.args.most c.args.draws.now.left c.args.machine.now c.measuring.machine c.measuring.progress c.measuring.draws.left (tally_of c.measuring.tally) c.in-Some.end c.measuring.all i.run i.halted.every (sym c.in-Some.ensures)).after

pub make_draw-came-requires : goal.make_draw-came-requires
make_draw-came-requires g c =
    let i = c.measuring.invariant in
    let ds = c.measuring.draws.left in
    let p = c.measuring.progress in
    let tally = tally_of c.measuring.tally in
    let room = c.make_room.new.machine in
    let d : Draw = record { turn = c.next_draw-turn.result.0; let_by = c.next_draw-turn.result.1 } in
    let on = still-on c.args.most c.args.draws.now.left c.args.machine.now c.measuring.machine p ds tally c.measuring.all i.run i.halted.every (sym c.in_default.ensures) in
    let now = roomed c.args.most c.args.draws.now.left c.args.machine.now c.measuring.machine p ds tally room c.make_room.ensures.same c.make_room.ensures.turns i.run in
    let named = names-here c.args.most c.args.draws.now.left c.args.machine.now room p ds tally d c.next_draw-turn.new.self.left c.next_draw-turn.ensures.draw now in
    (omega arith, (named, (omega (arith, c.in_ok-make_room.ensures.some, c.in_ok-make_room.ensures.room), (omega (arith, now.few, now.count, on.draws), flags-alike c.measuring.flags c.measuring.all room.machine c.measuring.machine.machine c.make_room.ensures.same i.halted))))

pub count-requires : goal.count-requires
count-requires g c =
    let i = c.measuring.invariant in
    let ds = c.measuring.draws.left in
    let p = c.measuring.progress in
    let tally = tally_of c.measuring.tally in
    let room = c.make_room.new.machine in
    let d : Draw = record { turn = c.next_draw-turn.result.0; let_by = c.next_draw-turn.result.1 } in
    let now = roomed c.args.most c.args.draws.now.left c.args.machine.now c.measuring.machine p ds tally room c.make_room.ensures.same c.make_room.ensures.turns i.run in
    let named = names-here c.args.most c.args.draws.now.left c.args.machine.now room p ds tally d c.next_draw-turn.new.self.left c.next_draw-turn.ensures.draw now in
    (omega arith, names-after d.turn d.let_by room.machine c.make_draw-came.new.machine.machine c.make_draw-came.ensures.after named)

pub measuring-preserved : goal.measuring-preserved
measuring-preserved g c =
    let i = c.measuring.invariant in
    let ds = c.measuring.draws.left in
    let p = c.measuring.progress in
    let tally = tally_of c.measuring.tally in
    let room = c.make_room.new.machine in
    let next = c.make_draw-came.new.machine in
    let t = c.next_draw-turn.result.0 in
    let by = c.next_draw-turn.result.1 in
    let did = c.is_done-did.result in
    let now = roomed c.args.most c.args.draws.now.left c.args.machine.now c.measuring.machine p ds tally room c.make_room.ensures.same c.make_room.ensures.turns i.run in
    let halted = flags-alike c.measuring.flags c.measuring.all room.machine c.measuring.machine.machine c.make_room.ensures.same i.halted in
    let on = still-on c.args.most c.args.draws.now.left c.args.machine.now room p ds tally c.measuring.all now halted.every (sym c.in_default.ensures) in
    let few : length c.args.draws.now.left ≤ 4294967295 = (let fits = c.requires.can.few in omega (arith, fits)) in
    let run = goes c.args.most c.args.draws.now.left c.args.machine.now room p ds tally t by c.next_draw-turn.new.self.left next c.make_draw-came.new.answer c.make_draw-came.result did now few on c.next_draw-turn.ensures.draw c.make_draw-came.ensures.came c.is_done-did.ensures c.make_draw-came.ensures.answer c.make_draw-came.ensures.after c.make_draw-came.ensures.turns in
    let falls = subst (λ (b : Bool). room.spare ≤ next.spare + (if b then 1 else 0)) (sym c.is_done-did.ensures) c.make_draw-came.ensures.spare in
    record {
      run = rw (c.count.ensures, c.note.ensures) run;
      halted = c.make_draw-came.ensures.halted;
      room = room-left did c.make_room.new.room c.take_room.new.room room.spare next.spare c.take_room.ensures c.in_ok-make_room.ensures.room falls;
    }
