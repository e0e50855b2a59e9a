use Rattle.std.proofs.Common.{None, Some, sym, ap, ◌∙◌}
use Rattle.explorer.specs.SearchModel.Tried.{doing_turns}
use Rattle.machine_states.proofs.Judged.{if-ok, tried-are}
use Rattle.machine_states.proofs.machine_states.MachineStatesStates.choices.Goals as goal

pub returns-in_ok-from_slice-in-Some-clause-turns : goal.returns-in_ok-from_slice-in-Some-clause-turns
returns-in_ok-from_slice-in-Some-clause-turns c =
    c.in_ok-from_slice-in-Some.ensures.items ∙ tried-are c.args.self.now.at.machine (Some c.in-Some.turn) (sym c.in-Some.is ∙ c.in_ok-turn.ensures.turn)

pub returns-in-None-clause-turns : goal.returns-in-None-clause-turns
returns-in-None-clause-turns c =
    let here = ap (λ s. doing_turns s.machine) c.quiet_turn.ensures.at in
    if-ok _ _ c.doing_turns.result c.doing_turns.ensures.turns (λ turns is. is ∙ here ∙ tried-are c.args.self.now.at.machine None (sym c.in-None.is ∙ c.in_ok-turn.ensures.turn))
