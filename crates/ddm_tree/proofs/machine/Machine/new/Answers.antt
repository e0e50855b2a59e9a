-- A new machine over its parts.
use Rattle.std.proofs.Common.{◌≡◌, ◌≤◌, map, replicate, true, vec_items, refl, sym, ap, subst, ◌∙◌, arith}
use Rattle.ddm_tree.specs.TreeModel.State.Shape.{skeleton, tree_counts, widths_bounded, widths_fit}
use Rattle.ddm_tree.specs.TreeModel.State.Values.{dir_node, nodes}
use Rattle.ddm_tree.specs.TreeModel.Turns.Machine.{no_traffic}
use Rattle.ddm_tree.specs.Machine.{IsMachine, machine_of, new_machine}
use Rattle.ddm_tree.specs.Quiet.{AreNear}
use Rattle.ddm_tree.proofs.IdleHarts.{nothing-idle}
use Rattle.ddm_tree.proofs.NewMachine.{new-is_machine}
use Rattle.ddm_tree.proofs.QuietTurns.{blank-quiet, blank-agree}
use Rattle.ddm_tree.proofs.machine.Machine.new.Goals as goal

pub leaf_paths-requires : goal.leaf_paths-requires
leaf_paths-requires g c = subst (λ cs. widths_fit (skeleton (dir_node c.args.top (nodes (map g.C.Agent.value cs)))) ≡ true) (sym c.deref.ensures.value) (c.requires.parts.shaped.each widths_bounded)

pub bus_paths-requires : goal.bus_paths-requires
bus_paths-requires g c = subst (λ cs. widths_fit (skeleton (dir_node c.args.top (nodes (map g.C.Agent.value cs)))) ≡ true) (sym c.deref-2.ensures.value) (c.requires.parts.shaped.each widths_bounded)

pub invariant_of-result : goal.invariant_of-result
invariant_of-result g c =
    let kids = map g.C.Agent.value c.args.children.items in
    let new = new_machine c.args.code c.args.items c.args.top kids c.args.counts in
    let traffic : c.in_ok-traffic.traffic.items ≡ replicate c.args.counts.buses no_traffic = c.in_ok-traffic.ensures.items_if_clones_equal (λ x is. is) ∙ ap (replicate c.args.counts.buses) c.no_traffic.ensures in
    let same : machine_of c.args.code c.args.items c.args.top kids c.new.result.items c.in_ok-traffic.traffic.items ≡ new = rw (ap (λ o. o.items) c.new.ensures, traffic) refl in
    let leaf_paths = map vec_items c.in_ok-leaf_paths.leaf_paths.items in
    let bus_paths = map vec_items c.in_ok-bus_paths.bus_paths.items in
    let is = new-is_machine g.row.WORDS c.args.code c.args.items c.args.top kids c.args.counts leaf_paths bus_paths c.requires.parts (rw (c.deref.ensures.value) at c.in_ok-leaf_paths.ensures) (rw (c.deref-2.ensures.value) at c.in_ok-bus_paths.ensures) in
    let idle = nothing-idle c.args.code c.args.items c.in_ok-idle.idle c.in_ok-idle.idle (dir_node c.args.top (nodes kids)) (dir_node c.args.top (nodes kids)) refl c.in_ok-idle.ensures in
    let known = c.in_ok-quiet.quiet.items in
    let quiet = blank-quiet known known (dir_node c.args.top (nodes kids)) (dir_node c.args.top (nodes kids)) refl c.in_ok-quiet.ensures in
    let harts = blank-agree known known c.in_ok-idle.idle refl c.in_ok-quiet.ensures in
    let near : AreNear (map vec_items c.in_ok-bus_leaves.bus_leaves.items) bus_paths leaf_paths = rw (c.deref-3.ensures.value, c.deref-4.ensures.value) at c.in_ok-bus_leaves.ensures in
    let room : 0 ≤ c.new.result.spare = omega arith in
    (subst (λ n. IsMachine g.row.WORDS n 0 leaf_paths bus_paths) (sym same) is, ap tree_counts same ∙ c.requires.parts.numbers, c.requires.fits, c.requires.size, room, idle, quiet, harts, near)
