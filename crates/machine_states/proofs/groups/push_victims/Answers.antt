use Rattle.std.proofs.Common.{◌≡◌, sym, ap, ◌∙◌, ◌++◌, map, arith, append-nil}
use Rattle.std.specs.List.{range_with_len}
use Rattle.ddm_types.specs.declared.turns.Turn.{Turn}
use Rattle.machine_states.proofs.Loops.{mapped-more}
use Rattle.machine_states.proofs.groups.push_victims.Goals as goal

pub loop-victim-init : goal.loop-victim-init
loop-victim-init c = sym (append-nil c.args.turns.now.items)

pub loop-victim-preserved : goal.loop-victim-preserved
loop-victim-preserved c = c.in_ok-push.ensures.items ∙ mapped-more (λ victim. Turn.Hart c.args.hart victim) c.args.turns.now.items c.loop-victim.turns.items c.loop-victim.victim c.loop-victim.invariant

pub returns : goal.returns
returns c =
    let last : c.loop-victim.victim ≡ c.args.ways = omega (arith, c.loop-victim-test.false, c.loop-victim.auto.victim-end) in
    c.loop-victim.invariant ∙ ap (λ n. c.args.turns.now.items ++ map (λ victim. Turn.Hart c.args.hart victim) (range_with_len 0 n)) last
