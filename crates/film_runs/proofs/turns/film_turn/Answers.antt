use Rattle.std.proofs.Common.{ℕ, Bool, List, Option, length, refl, sym, subst, ap, ◌∙◌}
use Rattle.std.specs.Prelude.{IfSome}
use Rattle.film.proofs.EachLeaf.{machine_ok}
use Rattle.film_runs.specs.AnyMachine.Any.{machine_state}
use Rattle.film_runs.specs.DdmTypes.declared.answers.TurnAnswer.{TurnAnswer}
use Rattle.film_runs.specs.Film.Filmed.{IsFilmed}
use Rattle.film_runs.specs.HartAlone.{CameFrom}
use Rattle.film_runs.specs.Resting.{one_rests}
use Rattle.film_runs.specs.TreeModel.State.Values.{MachineValue}
use Rattle.film_runs.specs.FilmModel.Still.{still as still_of}
use Rattle.film_runs.proofs.FilmedAfter.{filmed_after}
use Rattle.film_runs.proofs.HartTold.{came_after}
use Rattle.film_runs.proofs.OneTurn.{answer_after, machine_after, text_after}
use Rattle.film_runs.proofs.Resting.{still_rests}
use Rattle.film_runs.proofs.turns.film_turn.Goals as goal

pub push_trace-requires : goal.push_trace-requires
push_trace-requires c =
    let m = (machine_state c.args.machine.now).machine in
    let answers = answer_after c.clear.new.self.items c.run.new.answers.items c.deref.result.now c.args.turn m c.deref.ensures.value c.in_ok-counts.ensures.answers c.clear.ensures.items in
    sym (ap (λ (xs : List TurnAnswer). length xs) answers)

pub film_change-requires-clause-filmed : goal.film_change-requires-clause-filmed
film_change-requires-clause-filmed c =
    subst (λ (m : MachineValue). IsFilmed c.args.levels.now m) (sym (machine_after (machine_state c.run.new.machine) (machine_state c.args.machine.now) c.args.turn c.in_ok-counts.ensures.after))
    (filmed_after c.args.levels.now c.args.turn (machine_state c.args.machine.now).machine c.requires.shape c.requires.filmed)

pub film_change-requires-clause-rested : goal.film_change-requires-clause-rested
film_change-requires-clause-rested c = λ rested.
    let m = (machine_state c.args.machine.now).machine in
    let answers = answer_after c.clear.new.self.items c.run.new.answers.items c.deref-2.result.now c.args.turn m c.deref-2.ensures.value c.in_ok-counts.ensures.answers c.clear.ensures.items in
    let told = ap (λ (halted : Bool). one_rests halted c.deref-2.result.now) (sym (c.one_halted-halted.ensures c.args.turn refl)) ∙ sym c.one_rests-rested.ensures ∙ rested in
    still_rests c.args.turn m (machine_state c.run.new.machine).machine c.deref-2.result.now c.args.reel.now.before answers told
    (machine_after (machine_state c.run.new.machine) (machine_state c.args.machine.now) c.args.turn c.in_ok-counts.ensures.after) c.requires.before

pub film_change-requires-clause-came : goal.film_change-requires-clause-came
film_change-requires-clause-came c =
    let m = (machine_state c.args.machine.now).machine in
    let next = (machine_state c.run.new.machine).machine in
    let answers = answer_after c.clear.new.self.items c.run.new.answers.items c.deref-3.result.now c.args.turn m c.deref-3.ensures.value c.in_ok-counts.ensures.answers c.clear.ensures.items in
    let came = came_after c.args.turn m next c.deref-3.result.now c.args.reel.now.before c.requires.filmed.most answers
    (machine_after (machine_state c.run.new.machine) (machine_state c.args.machine.now) c.args.turn c.in_ok-counts.ensures.after) c.requires.before (machine_ok m c.counts.ensures.rules) c.requires.filmed.form in
    subst (λ (o : Option ℕ). IfSome o (λ k. CameFrom k c.args.reel.now.before next)) (sym (c.one_changed-hart.ensures c.args.turn refl)) came

pub returns-clause-text : goal.returns-clause-text
returns-clause-text c =
    let m = (machine_state c.args.machine.now).machine in
    let answers = answer_after c.clear.new.self.items c.run.new.answers.items c.deref.result.now c.args.turn m c.deref.ensures.value c.in_ok-counts.ensures.answers c.clear.ensures.items in
    text_after c.args.text.now.items c.push_trace.new.text.items c.film_change.new.text.items c.args.number c.args.turn m (machine_state c.run.new.machine).machine c.args.reel.now.before c.deref.result.now
    c.in_ok-push_trace.ensures c.in_ok-film_change.ensures.text answers c.requires.before
    (machine_after (machine_state c.run.new.machine) (machine_state c.args.machine.now) c.args.turn c.in_ok-counts.ensures.after)

pub returns-clause-before : goal.returns-clause-before
returns-clause-before c =
    c.in_ok-film_change.ensures.before
    ∙ ap still_of (machine_after (machine_state c.run.new.machine) (machine_state c.args.machine.now) c.args.turn c.in_ok-counts.ensures.after)

pub returns-clause-filmed : goal.returns-clause-filmed
returns-clause-filmed c = filmed_after c.args.levels.now c.args.turn (machine_state c.args.machine.now).machine c.requires.shape c.requires.filmed
