use Rattle.std.proofs.Common.{◌≡◌, ◌+◌, ◌≤◌, [], ◌∷◌, length, sym, ap, ◌∙◌, arith}
use Rattle.any_runs.specs.AnyMachine.Any.{machine_state}
use Rattle.tree_model.specs.Turns.Machine.{turn_of}
use Rattle.outcomes.specs.RecordingModel.Doing.{had_halted}
use Rattle.machine_states.proofs.Judged.{made-does, made-quiet}
use Rattle.machine_states.proofs.Runs.{run-one}
use Rattle.machine_states.proofs.States.{gone-on, reached-other}
use Rattle.machine_states.proofs.machine_states.MachineStates.judge_made.Goals as goal

pub invariant_of-self : goal.invariant_of-self
invariant_of-self c =
    let s = c.self-2.inside in
    let is = c.self-2.invariant in
    let t = c.args.turn in
    let after = c.judge_turn.new.machine in
    let same : (machine_state s.reached).machine ≡ (machine_state s.at).machine =
    ap (λ v. v.reached.machine) c.self-2.view_is ∙ c.in_ok-turn_back.ensures.machine ∙ sym (ap (λ s. s.machine) c.turn_back.ensures.at) ∙ sym (ap (λ v. v.at.machine) c.self-2.view_is) in
    let ran = ap (λ s. s.machine) c.judge_turn.ensures.after ∙ ap (λ m. (turn_of t m).machine) same ∙ sym (run-one t (machine_state s.at).machine) in
    let turns : (machine_state after).turns ≤ 1048577 = omega (arith, ap (λ s. s.turns) c.judge_turn.ensures.after, ap (λ v. v.reached.turns) c.self-2.view_is, c.in_ok-turn_back.ensures.turns) in
    let few : s.made + length (t ∷ []) ≤ 1048577 = omega (arith, is.few) in
    reached-other s.made s.start s.at s.reached is after (gone-on s.made 1048577 s.start s.at after (t ∷ []) is.gone few (c.judge_turn.ensures.kind ∙ is.later.kind) ran turns)

pub returns-clause-does : goal.returns-clause-does
returns-clause-does c =
    let same = ap (λ v. v.reached.machine) c.self-2.view_is ∙ c.in_ok-turn_back.ensures.machine in
    let had = c.has_halted-halted.ensures ∙ ap (λ v. had_halted c.args.turn v.at.machine) c.self.view_is in
    c.judge_turn.ensures.does ∙ made-does c.args.self.now.at.machine c.args.turn (machine_state c.self-2.inside.reached).machine same c.has_halted-halted.result had

pub returns-clause-quiet : goal.returns-clause-quiet
returns-clause-quiet c =
    let same = ap (λ v. v.reached.machine) c.self-2.view_is ∙ c.in_ok-turn_back.ensures.machine in
    let had = c.has_halted-halted.ensures ∙ ap (λ v. had_halted c.args.turn v.at.machine) c.self.view_is in
    c.judge_turn.ensures.quiet ∙ made-quiet c.args.self.now.at.machine c.args.turn (machine_state c.self-2.inside.reached).machine same c.has_halted-halted.result had
