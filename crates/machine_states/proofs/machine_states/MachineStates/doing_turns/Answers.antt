use Rattle.std.proofs.Common.{◌≡◌, ◌++◌, [], ◌∷◌, Bool, filter, take, Some, sym, ap, ◌∙◌}
use Rattle.std.specs.Prelude.{slice_get}
use Rattle.any_runs.specs.AnyMachine.Any.{machine_state}
use Rattle.outcomes.specs.RecordingModel.Doing.{does_something}
use Rattle.explorer.specs.SearchModel.Tried.{turns_of_tree}
use Rattle.machine_states.proofs.Judged.{all-kept, kept-on, left-out}
use Rattle.machine_states.proofs.Places.{got-own}
use Rattle.machine_states.proofs.States.{later-places}
use Rattle.machine_states.proofs.machine_states.MachineStates.doing_turns.Goals as goal
use Rattle.machine_states.proofs.machine_states.MachineStates.doing_turns.Goals.{then-does+in_ok-push, else-does}

pub listed-requires : goal.listed-requires
listed-requires c = later-places c.self.inside.made c.self.inside.start c.self.inside.at c.self.invariant.gone c.self.invariant.can

pub loop-turn-preserved : goal.loop-turn-preserved
loop-turn-preserved c =
    let m = c.args.self.now.at.machine in
    let i = c.loop-turn.invariant in
    let ts = c.deref-turn-items.result.now in
    let k = c.loop-turn.turn-index in
    let t = c.turn-item.result in
    let there : slice_get ts k ≡ Some t = got-own ts k t c.loop-turn-test.true c.turn-item.is in
    let told : c.in_ok-does.does ≡ does_something t m = c.in_ok-does.ensures.does ∙ ap (λ s. does_something t s.machine) i.at in
    record {
      start = c.judge.ensures.start ∙ i.start;
      at = c.judge.ensures.at ∙ i.at;
      all = i.all;
      kept = elim c.if-does.branch [
        | then-does+in_ok-push w ↦ ap (λ v. v.items) w.turns-is ∙ w.in_ok-push.ensures.items ∙ kept-on m ts c.loop-turn.turns.items k t there i.kept (sym told ∙ w.if-does.true)
        | else-does w ↦ ap (λ v. v.items) w.turns-is ∙ left-out m ts c.loop-turn.turns.items k t there i.kept (sym told ∙ w.if-does.false)
      ];
    }

pub returns-clause-turns : goal.returns-clause-turns
returns-clause-turns c =
    let i = c.loop-turn.invariant in
    all-kept c.args.self.now.at.machine c.deref-turn-items.result.now c.loop-turn.turns.items c.loop-turn.turn-index i.all i.kept c.loop-turn-test.false
