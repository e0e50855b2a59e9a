use Rattle.std.proofs.Common.{◌≡◌, sym, ap, ◌∙◌, ◌++◌, flat_map, arith, append-nil}
use Rattle.std.specs.List.{range_with_len}
use Rattle.machine_states.specs.Listed.{hart_turns}
use Rattle.machine_states.proofs.Loops.{flat-number}
use Rattle.machine_states.proofs.groups.push_harts.Goals as goal

pub loop-leaf-init : goal.loop-leaf-init
loop-leaf-init c = sym (append-nil c.args.turns.now.items)

pub loop-leaf-preserved : goal.loop-leaf-preserved
loop-leaf-preserved c = c.in_ok-push_victims.ensures ∙ flat-number (hart_turns c.args.ways) c.args.turns.now.items c.loop-leaf.turns.items c.loop-leaf.leaf c.loop-leaf.invariant

pub returns : goal.returns
returns c =
    let last : c.loop-leaf.leaf ≡ c.args.leaves = omega (arith, c.loop-leaf-test.false, c.loop-leaf.auto.leaf-end) in
    c.loop-leaf.invariant ∙ ap (λ n. c.args.turns.now.items ++ flat_map (hart_turns c.args.ways) (range_with_len 0 n)) last
