use Rattle.std.proofs.Common.{◌≡◌, ◌≤◌, ◌∙◌, true, ap, refl, sym, subst, length, map, vec_items, arith}
use Rattle.std.specs.List.{list_all}
use Rattle.ddm_tree.specs.TreeModel.State.Values.{MachineValue, dir_node, nodes, root_of}
use Rattle.ddm_tree.specs.Counts.{counts_within}
use Rattle.ddm_tree.specs.Machine.{IsMachine, machine_of, traffic_within}
use Rattle.ddm_tree.specs.Rules.{KeepsRules}
use Rattle.ddm_tree.proofs.IdleHarts.{nothing-idle}
use Rattle.ddm_tree.proofs.QuietTurns.{blank-quiet, blank-agree}
use Rattle.ddm_tree.proofs.TurnMade.{items-back}
use Rattle.ddm_tree.proofs.parts.Parts.into_machine.Goals as goal

pub invariant_of-result : goal.invariant_of-result
invariant_of-result g c =
    let root = dir_node c.self.inside.top (nodes (map g.C.Agent.value c.self.inside.children.items)) in
    let m : MachineValue = machine_of c.self.inside.code c.self.inside.items c.self.inside.top (map g.C.Agent.value c.self.inside.children.items) c.self.inside.ops.items c.self.inside.traffic.items in
    let inv = c.self.invariant in
    let same : m ≡ c.args.self = c.self.view_is in
    let whole : c.self.inside.quiet.len ≡ length c.self.inside.quiet.items = sym c.deref_mut.ensures.len ∙ ap length c.deref_mut.ensures.value in
    let quiet-back = items-back c.self.inside.quiet.items c.forget_quiet.new.known c.self.inside.quiet.len whole (c.forget_quiet.auto.known ∙ ap length c.deref_mut.ensures.value) in
    let is : IsMachine g.row.WORDS m 1048576 (map vec_items c.self.inside.leaf_paths.items) (map vec_items c.self.inside.bus_paths.items) = record {
      shaped = inv.0.readable.shaped;
      rules = subst KeepsRules (sym same) c.requires.rules;
      rooms = inv.0.rooms;
      words = inv.0.words;
      counts = subst (λ n. counts_within 1048576 (root_of n) ≡ true) (sym same) c.requires.counts;
      granted = subst (λ n. list_all (traffic_within 1048576) n.traffic ≡ true) (sym same) c.requires.granted;
      paths = inv.0.paths;
    } in
    let room : 0 ≤ c.self.inside.ops.spare = omega arith in
    (is, inv.1, inv.2, inv.3, room, nothing-idle c.self.inside.code c.self.inside.items c.forget_all.new.idle _ root root refl c.forget_all.ensures, blank-quiet c.forget_quiet.new.known _ root root quiet-back c.forget_quiet.ensures, blank-agree c.forget_quiet.new.known _ _ quiet-back c.forget_quiet.ensures, inv.4)
