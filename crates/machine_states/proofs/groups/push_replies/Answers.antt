use Rattle.std.proofs.Common.{◌≡◌, sym, ap, ◌∙◌, ◌++◌, map, arith, append-nil}
use Rattle.std.specs.List.{range_with_len}
use Rattle.ddm_types.specs.declared.turns.Turn.{Turn}
use Rattle.machine_states.proofs.Loops.{mapped-more}
use Rattle.machine_states.proofs.groups.push_replies.Goals as goal

pub loop-child-init : goal.loop-child-init
loop-child-init c = sym (append-nil c.args.turns.now.items)

pub loop-child-preserved : goal.loop-child-preserved
loop-child-preserved c = c.in_ok-push.ensures.items ∙ mapped-more (Turn.Reply c.args.bus) c.args.turns.now.items c.loop-child.turns.items c.loop-child.child c.loop-child.invariant

pub returns : goal.returns
returns c =
    let last : c.loop-child.child ≡ c.args.children = omega (arith, c.loop-child-test.false, c.loop-child.auto.child-end) in
    c.loop-child.invariant ∙ ap (λ n. c.args.turns.now.items ++ map (Turn.Reply c.args.bus) (range_with_len 0 n)) last
