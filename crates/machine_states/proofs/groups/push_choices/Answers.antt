use Rattle.std.proofs.Common.{◌≡◌, sym, ap, ◌∙◌, ◌++◌, map, arith, append-nil}
use Rattle.std.specs.List.{range_with_len}
use Rattle.ddm_types.specs.declared.turns.Turn.{Turn}
use Rattle.machine_states.proofs.Loops.{mapped-more}
use Rattle.machine_states.proofs.groups.push_choices.Goals as goal

pub loop-choice-init : goal.loop-choice-init
loop-choice-init c = sym (append-nil c.args.turns.now.items)

pub loop-choice-preserved : goal.loop-choice-preserved
loop-choice-preserved c = c.in_ok-push.ensures.items ∙ mapped-more (λ choice. Turn.Leave c.args.bus c.args.child choice) c.args.turns.now.items c.loop-choice.turns.items c.loop-choice.choice c.loop-choice.invariant

pub returns : goal.returns
returns c =
    let last : c.loop-choice.choice ≡ c.args.count = omega (arith, c.loop-choice-test.false, c.loop-choice.auto.choice-end) in
    c.loop-choice.invariant ∙ ap (λ n. c.args.turns.now.items ++ map (λ choice. Turn.Leave c.args.bus c.args.child choice) (range_with_len 0 n)) last
