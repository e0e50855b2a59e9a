use Rattle.std.proofs.Common.{◌≡◌, false, refl, sym, ap, ◌∙◌}
use Rattle.any_runs.specs.AnyMachine.Any.{machine_state}
use Rattle.tree_model.specs.Turns.Machine.{names_part}
use Rattle.split_bus.specs.Outcomes.{is_granted}
use Rattle.outcomes.specs.RecordingModel.Doing.{does_something}
use Rattle.machine_states.proofs.Granted.{grants-told, never-quiet}
use Rattle.machine_states.proofs.Judged.{unnamed-does, unnamed-quiet}
use Rattle.machine_states.proofs.machine_states.MachineStates.judge.Goals as goal

unnamed : (c : goal.Then-not-names) → names_part c.args.turn c.args.self.now.at.machine ≡ false
unnamed c = sym (ap (λ v. names_part c.args.turn v.at.machine) c.self.view_is) ∙ sym c.names.ensures ∙ c.if-not-names.true

pub returns-then-not-names-clause-does : goal.returns-then-not-names-clause-does
returns-then-not-names-clause-does c = sym (unnamed-does c.args.self.now.at.machine c.args.turn (unnamed c))

pub returns-then-not-names-clause-quiet : goal.returns-then-not-names-clause-quiet
returns-then-not-names-clause-quiet c = sym (unnamed-quiet c.args.self.now.at.machine c.args.turn (unnamed c))

pub returns-then-is_told-clause-does : goal.returns-then-is_told-clause-does
returns-then-is_told-clause-does c =
    grants-told is_granted refl (λ cause. refl) (λ entry. refl) (machine_state c.self.inside.at).machine c.args.turn (sym c.is_told.ensures ∙ c.if-is_told.true) c.would_grant.result c.would_grant.ensures
    ∙ ap (λ v. does_something c.args.turn v.at.machine) c.self.view_is

pub returns-then-is_told-clause-quiet : goal.returns-then-is_told-clause-quiet
returns-then-is_told-clause-quiet c = sym (never-quiet c.args.self.now.at.machine c.args.turn (sym c.is_told.ensures ∙ c.if-is_told.true))
