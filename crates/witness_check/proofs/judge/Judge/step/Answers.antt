use Rattle.std.proofs.Common.{Result, sym, subst, ap, ◌∙◌, arith}
use Rattle.witness_check.specs.DdmTypes.declared.operations.Op.{Op}
use Rattle.witness_check.specs.DdmTypes.declared.operations.Effect.{Effect}
use Rattle.witness_check.specs.DdmTypes.declared.operations.HaltCause.{HaltCause}
use Rattle.witness_check.specs.FlatModel.Legal.{is_sc_ok, same_effect}
use Rattle.rv_flat.specs.FlatState.{FlatState}
use Rattle.witness_check.proofs.Steps.{is_said, gives_no_hart, gives_other_pc, gives_step}
use Rattle.witness_check.proofs.judge.Judge.step.Goals as goal
use Rattle.witness_check.proofs.judge.Judge.step.Goals.{then-op-self-via-then-op-self, then-op-self-via-else-op-self+then-pc-op, in-Ok, in-Err}

pub returns-then-op-self-clause-step : goal.returns-then-op-self-clause-step
returns-then-op-self-clause-step c =
    let hart = ap (λ (o : Op). o.hart) c.op.view_is in
    let pc = ap (λ (o : Op). o.pc) c.op.view_is in
    elim c.then-op-self.branch [
      | then-op-self-via-then-op-self w ↦
          gives_no_hart c.self.inside.code c.self.inside.items c.self.inside.machine.machine c.args.self.now c.args.op.now c.args.self.now.machine c.self.view_is
          (omega (arith, c.self.invariant.count, hart, w.if-op-self.true))
      | then-op-self-via-else-op-self+then-pc-op w ↦
          gives_other_pc c.self.inside.code c.self.inside.items c.self.inside.machine.machine c.args.self.now c.args.op.now c.args.self.now.machine c.self.view_is
          (λ same. w.if-pc-op.true (w.pc.ensures ∙ same ∙ sym pc))
    ]

pub returns-clause-step : goal.returns-clause-step
returns-clause-step c =
    let pc = ap (λ (o : Op). o.pc) c.op.view_is in
    let effect = ap (λ (o : Op). o.effect) c.op.view_is in
    let Said : Result Effect HaltCause → Type 0 = λ outcome. is_said outcome c.args.op.now.effect c.match-step.result in
    elim c.match-step.branch [
      | in-Ok w ↦
          gives_step c.self.inside.code c.self.inside.items c.self.inside.machine.machine c.args.self.now c.args.op.now c.is_sc_ok-sc_ok.result c.step.result c.match-step.result c.step.new.self.machine
          c.self.view_is (sym c.pc.ensures ∙ c.if-pc-op.false ∙ pc) (c.is_sc_ok-sc_ok.ensures ∙ ap is_sc_ok effect) c.step.ensures.outcome (ap (λ (s : FlatState). s.machine) c.step.ensures.machine)
          (subst Said (sym w.in-Ok.is) (w.result-is ∙ w.same_effect.ensures ∙ ap (λ e. same_effect w.in-Ok.effect e) effect))
      | in-Err w ↦
          gives_step c.self.inside.code c.self.inside.items c.self.inside.machine.machine c.args.self.now c.args.op.now c.is_sc_ok-sc_ok.result c.step.result c.match-step.result c.step.new.self.machine
          c.self.view_is (sym c.pc.ensures ∙ c.if-pc-op.false ∙ pc) (c.is_sc_ok-sc_ok.ensures ∙ ap is_sc_ok effect) c.step.ensures.outcome (ap (λ (s : FlatState). s.machine) c.step.ensures.machine)
          (subst Said (sym w.in-Err.is) w.result-is)
    ]
