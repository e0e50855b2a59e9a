use Rattle.std.proofs.Common.{◌∙◌, length, refl, ap, sym, subst, rules}
use Rattle.tree_model.specs.State.Shape.{tree_counts}
use Rattle.tree_model.specs.Turns.Machine.{turn_of}
use Rattle.any_runs.specs.DdmTree.Machine.{MachineState, state_after}
use Rattle.recording_model.specs.Doing.{does_by}
use Rattle.recording.specs.Runs.{AreHalted, came_by, does_halt, flag_of, is_done}
use Rattle.recording.proofs.Halting.{done-does, flag-is, flags-counted, halting-does, leaves-kept, rests-halted, still-halted}
use Rattle.recording.proofs.making.make_turn.Goals as goal

pub returns-in-Some-clause-came : goal.returns-in-Some-clause-came
returns-in-Some-clause-came g c =
    let t = c.args.turn.now in
    let m = c.args.machine.now.machine in
    let had = c.flag_of-halted.ensures ∙ ap (flag_of t) c.requires.halted.each ∙ flag-is t m c.counts.ensures.shape in
    c.in-Some.ensures.came ∙ ap (came_by (turn_of t m).answer) had

pub returns-in-Some-clause-answer : goal.returns-in-Some-clause-answer
returns-in-Some-clause-answer g c = λ done.
    let a = (turn_of c.args.turn.now c.args.machine.now.machine).answer in
    let none = sym done ∙ ap is_done c.in-Some.ensures.came ∙ done-does a c.flag_of-halted.result ∙ c.in-Some.ensures.rests in
    cc

pub returns-in-Some-clause-halted : goal.returns-in-Some-clause-halted
returns-in-Some-clause-halted g c =
    let t = c.args.turn.now in
    let m = c.args.machine.now.machine in
    let had = c.flag_of-halted.ensures ∙ ap (flag_of t) c.requires.halted.each ∙ flag-is t m c.counts.ensures.shape in
    let rests = ap (does_by (turn_of t m).answer) (sym had) ∙ c.in-Some.ensures.rests in
    subst (λ (s : MachineState). AreHalted c.args.flags.now c.args.all.now s.machine) (sym c.in-Some.ensures.after) (rests-halted t m c.args.flags.now c.args.all.now c.requires.halted rests)

pub put_flags-requires : goal.put_flags-requires
put_flags-requires g c =
    let t = c.args.turn.now in
    let m = c.args.machine.now.machine in
    let after = c.turn_into.ensures.after ∙ ap (state_after t) (c.in_default.ensures.same refl) in
    (search rules, ap length c.requires.halted.each ∙ flags-counted m ∙ sym (leaves-kept t m) ∙ ap (λ (s : MachineState). (tree_counts s.machine).leaves) (sym after))

pub returns-then-does_halt-clause-came : goal.returns-then-does_halt-clause-came
returns-then-does_halt-clause-came g c =
    let t = c.args.turn.now in
    let m = c.args.machine.now.machine in
    let had = c.flag_of-halted.ensures ∙ ap (flag_of t) c.requires.halted.each ∙ flag-is t m c.counts.ensures.shape in
    let answer = c.turn_into.ensures.answer ∙ ap (λ (s : MachineState). (turn_of t s.machine).answer) (c.in_default.ensures.same refl) in
    sym (ap (came_by (turn_of t m).answer) (sym had) ∙ ap (λ a. came_by a c.flag_of-halted.result) (sym answer) ∙ halting-does _ _ (sym c.does_halt.ensures ∙ c.if-does_halt.true))

pub returns-then-does_halt-clause-answer : goal.returns-then-does_halt-clause-answer
returns-then-does_halt-clause-answer g c = λ done. c.turn_into.ensures.answer ∙ ap (λ (s : MachineState). (turn_of c.args.turn.now s.machine).answer) (c.in_default.ensures.same refl)

pub returns-then-does_halt-clause-after : goal.returns-then-does_halt-clause-after
returns-then-does_halt-clause-after g c = c.turn_into.ensures.after ∙ ap (state_after c.args.turn.now) (c.in_default.ensures.same refl)

pub returns-then-does_halt-clause-halted : goal.returns-then-does_halt-clause-halted
returns-then-does_halt-clause-halted g c = record { each = c.put_flags.ensures.flags; every = c.put_flags.ensures.all }

pub returns-clause-came : goal.returns-clause-came
returns-clause-came g c =
    let t = c.args.turn.now in
    let m = c.args.machine.now.machine in
    let had = c.flag_of-halted.ensures ∙ ap (flag_of t) c.requires.halted.each ∙ flag-is t m c.counts.ensures.shape in
    let answer = c.turn_into.ensures.answer ∙ ap (λ (s : MachineState). (turn_of t s.machine).answer) (c.in_default.ensures.same refl) in
    c.came_by.ensures ∙ ap (λ a. came_by a c.flag_of-halted.result) answer ∙ ap (came_by (turn_of t m).answer) had

pub returns-clause-answer : goal.returns-clause-answer
returns-clause-answer g c = λ done. c.turn_into.ensures.answer ∙ ap (λ (s : MachineState). (turn_of c.args.turn.now s.machine).answer) (c.in_default.ensures.same refl)

pub returns-clause-after : goal.returns-clause-after
returns-clause-after g c = c.turn_into.ensures.after ∙ ap (state_after c.args.turn.now) (c.in_default.ensures.same refl)

pub returns-clause-halted : goal.returns-clause-halted
returns-clause-halted g c =
    let t = c.args.turn.now in
    let m = c.args.machine.now.machine in
    let had = c.flag_of-halted.ensures ∙ ap (flag_of t) c.requires.halted.each ∙ flag-is t m c.counts.ensures.shape in
    let answer = c.turn_into.ensures.answer ∙ ap (λ (s : MachineState). (turn_of t s.machine).answer) (c.in_default.ensures.same refl) in
    let after = c.turn_into.ensures.after ∙ ap (state_after t) (c.in_default.ensures.same refl) in
    let none = ap (does_halt (turn_of t m).answer) (sym had) ∙ ap (λ a. does_halt a c.flag_of-halted.result) (sym answer) ∙ sym c.does_halt.ensures ∙ c.if-does_halt.false in
    subst (λ (s : MachineState). AreHalted c.args.flags.now c.args.all.now s.machine) (sym after) (still-halted t m c.args.flags.now c.args.all.now c.requires.halted none)
