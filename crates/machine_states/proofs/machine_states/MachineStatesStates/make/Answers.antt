use Rattle.std.proofs.Common.{◌≡◌, ◌+◌, ◌≤◌, [], ◌∷◌, length, sym, ap, ◌∙◌, arith}
use Rattle.any_runs.specs.AnyMachine.Any.{machine_state}
use Rattle.tree_model.specs.Turns.Machine.{run_of, turn_of}
use Rattle.machine_states.proofs.Runs.{run-one}
use Rattle.machine_states.proofs.States.{gone-on, reached-other}
use Rattle.machine_states.proofs.machine_states.MachineStatesStates.make.Goals as goal

pub invariant_of-self : goal.invariant_of-self
invariant_of-self c =
    let s = c.self.inside in
    let is = c.self.invariant in
    let t = c.args.turn in
    let after = c.make_turns.new.machine in
    let same : (machine_state s.reached).machine ≡ (machine_state s.at).machine =
    ap (λ v. v.reached.machine) c.self.view_is ∙ c.in_ok-turn_back.ensures.machine ∙ sym (ap (λ s. s.machine) c.turn_back.ensures.at) ∙ sym (ap (λ v. v.at.machine) c.self.view_is) in
    let ran = c.make_turns.ensures.ran ∙ ap (λ m. (run_of (t ∷ []) m).machine) same in
    let turns : (machine_state after).turns ≤ 1048577 = omega (arith, c.make_turns.ensures.turns, ap (λ v. v.reached.turns) c.self.view_is, c.in_ok-turn_back.ensures.turns) in
    let few : s.made + length (t ∷ []) ≤ 1048577 = omega (arith, is.few) in
    reached-other s.made s.start s.at s.reached is after (gone-on s.made 1048577 s.start s.at after (t ∷ []) is.gone few (c.make_turns.ensures.kind ∙ is.later.kind) ran turns)

pub returns-clause-reached : goal.returns-clause-reached
returns-clause-reached c =
    let t = c.args.turn in
    c.make_turns.ensures.ran ∙ run-one t (machine_state c.self.inside.reached).machine ∙ ap (λ m. (turn_of t m).machine) (ap (λ v. v.reached.machine) c.self.view_is ∙ c.in_ok-turn_back.ensures.machine)
