use Rattle.std.proofs.Common.{◌≡◌, ◌∙◌, ◌≤◌, ◌+◌, ◌-◌, min, ap, refl, sym, subst, length, map, vec_items, arith}
use Rattle.std.proofs.lemmas.List.{length-map}
use Rattle.ddm_tree.specs.TreeModel.State.Shape.{frame_of, tree_counts}
use Rattle.ddm_tree.specs.TreeModel.State.Values.{nodes, root_of}
use Rattle.ddm_tree.specs.Copying.{AreAlike, copied}
use Rattle.ddm_tree.specs.Machine.{IsMachine, MachineState, machine_of}
use Rattle.ddm_tree.proofs.Copies.{alike-child, alike-count, copied-is_machine, copied-machine, copied-state, counts-same, roots-alike}
use Rattle.ddm_tree.proofs.IdleHarts.{nothing-idle}
use Rattle.ddm_tree.proofs.QuietTurns.{blank-quiet, blank-agree}
use Rattle.ddm_tree.proofs.TurnMade.{items-back}
use Rattle.ddm_tree.proofs.machine.Machine.copy_from.Goals as goal

pub copy_children-requires-clause-alike : goal.copy_children-requires-clause-alike
copy_children-requires-clause-alike g c =
    let m = machine_of c.self.inside.code c.self.inside.items c.self.inside.top (map g.C.Agent.value c.self.inside.children.items) c.self.inside.ops.items c.self.inside.traffic.items in
    let k = machine_of c.other.inside.code c.other.inside.items c.other.inside.top (map g.C.Agent.value c.other.inside.children.items) c.other.inside.ops.items c.other.inside.traffic.items in
    let frame : frame_of m ≡ frame_of k = ap (λ s. frame_of s.machine) c.self.view_is ∙ c.requires.frame ∙ sym (ap (λ s. frame_of s.machine) c.other.view_is) in
    let alike : AreAlike (root_of m) (root_of k) = roots-alike m k frame c.self.invariant.0.rooms c.other.invariant.0.rooms in
    let xs = c.self.inside.children.items in
    let ys = c.other.inside.children.items in
    rw (c.deref_mut.ensures.value, c.deref.ensures.value) (λ number inside. alike-child c.self.inside.top c.other.inside.top (map g.C.Agent.value xs) (map g.C.Agent.value ys) alike number (omega (arith, inside, length-map ys g.C.Agent.value)))

pub copy_children-requires-clause-as_many : goal.copy_children-requires-clause-as_many
copy_children-requires-clause-as_many g c =
    let m = machine_of c.self.inside.code c.self.inside.items c.self.inside.top (map g.C.Agent.value c.self.inside.children.items) c.self.inside.ops.items c.self.inside.traffic.items in
    let k = machine_of c.other.inside.code c.other.inside.items c.other.inside.top (map g.C.Agent.value c.other.inside.children.items) c.other.inside.ops.items c.other.inside.traffic.items in
    let frame : frame_of m ≡ frame_of k = ap (λ s. frame_of s.machine) c.self.view_is ∙ c.requires.frame ∙ sym (ap (λ s. frame_of s.machine) c.other.view_is) in
    let alike : AreAlike (root_of m) (root_of k) = roots-alike m k frame c.self.invariant.0.rooms c.other.invariant.0.rooms in
    let xs = c.self.inside.children.items in
    let ys = c.other.inside.children.items in
    ap length c.deref_mut.ensures.value ∙ sym (length-map xs g.C.Agent.value) ∙ alike-count c.self.inside.top c.other.inside.top (map g.C.Agent.value xs) (map g.C.Agent.value ys) alike ∙ length-map ys g.C.Agent.value ∙ sym (ap length c.deref.ensures.value)

pub invariant_of-self : goal.invariant_of-self
invariant_of-self g c =
    let m = machine_of c.self.inside.code c.self.inside.items c.self.inside.top (map g.C.Agent.value c.self.inside.children.items) c.self.inside.ops.items c.self.inside.traffic.items in
    let k = machine_of c.other.inside.code c.other.inside.items c.other.inside.top (map g.C.Agent.value c.other.inside.children.items) c.other.inside.ops.items c.other.inside.traffic.items in
    let frame : frame_of m ≡ frame_of k = ap (λ s. frame_of s.machine) c.self.view_is ∙ c.requires.frame ∙ sym (ap (λ s. frame_of s.machine) c.other.view_is) in
    let whole : c.self.inside.children.len ≡ length c.self.inside.children.items = sym c.deref_mut.ensures.len ∙ ap length c.deref_mut.ensures.value in
    let same : length c.copy_children.new.children ≡ length c.self.inside.children.items = c.copy_children.auto.children ∙ ap length c.deref_mut.ensures.value in
    let after = copied-machine g.C.Agent.value m k frame c.copy_from.new.self c.self.inside.children.items c.copy_children.new.children c.self.inside.children.len c.copy_from-2.new.self.items c.copy_from_slice.new.self.items whole same c.copy_from.ensures (ap nodes (c.copy_children.ensures ∙ ap (map g.C.Agent.value) c.deref.ensures.value)) c.copy_from-2.ensures.items (c.copy_from_slice.ensures.items ∙ c.deref-2.ensures.value) in
    let leaf_paths = map vec_items c.self.inside.leaf_paths.items in
    let bus_paths = map vec_items c.self.inside.bus_paths.items in
    let inv = c.self.invariant in
    let is = copied-is_machine m k frame g.row.WORDS c.self.inside.turns c.other.inside.turns leaf_paths bus_paths (map vec_items c.other.inside.leaf_paths.items) (map vec_items c.other.inside.bus_paths.items) inv.0 c.other.invariant.0 in
    let known : c.self.inside.quiet.len ≡ length c.self.inside.quiet.items = sym c.deref_mut-2.ensures.len ∙ ap length c.deref_mut-2.ensures.value in
    let quiet-back = items-back c.self.inside.quiet.items c.forget_quiet.new.known c.self.inside.quiet.len known (c.forget_quiet.auto.known ∙ ap length c.deref_mut-2.ensures.value) in
    let asked : length c.other.inside.ops.items ≤ length c.self.inside.ops.items + c.self.inside.spare = omega (arith, c.requires.room, ap (λ s. length s.machine.ops) c.other.view_is, ap (λ s. length s.machine.ops) c.self.view_is, ap (λ s. s.spare) c.self.view_is) in
    let room : c.room_left-self-inside.result ≤ c.copy_from-2.new.self.spare = omega (arith, asked, inv.4, c.copy_from-2.ensures.spare, c.room_left-self-inside.ensures, c.len.ensures.length, c.len-2.ensures.length) in
    (subst (λ n. IsMachine g.row.WORDS n c.other.inside.turns leaf_paths bus_paths) (sym after) is, ap tree_counts after ∙ counts-same m k frame ∙ inv.1, inv.2, inv.3, room, nothing-idle c.self.inside.code c.self.inside.items c.forget_all.new.idle _ _ _ refl c.forget_all.ensures, blank-quiet c.forget_quiet.new.known _ _ _ quiet-back c.forget_quiet.ensures, blank-agree c.forget_quiet.new.known _ _ quiet-back c.forget_quiet.ensures, inv.8)

pub returns : goal.returns
returns g c =
    let m = machine_of c.self.inside.code c.self.inside.items c.self.inside.top (map g.C.Agent.value c.self.inside.children.items) c.self.inside.ops.items c.self.inside.traffic.items in
    let k = machine_of c.other.inside.code c.other.inside.items c.other.inside.top (map g.C.Agent.value c.other.inside.children.items) c.other.inside.ops.items c.other.inside.traffic.items in
    let frame : frame_of m ≡ frame_of k = ap (λ s. frame_of s.machine) c.self.view_is ∙ c.requires.frame ∙ sym (ap (λ s. frame_of s.machine) c.other.view_is) in
    let whole : c.self.inside.children.len ≡ length c.self.inside.children.items = sym c.deref_mut.ensures.len ∙ ap length c.deref_mut.ensures.value in
    let same : length c.copy_children.new.children ≡ length c.self.inside.children.items = c.copy_children.auto.children ∙ ap length c.deref_mut.ensures.value in
    let after = copied-machine g.C.Agent.value m k frame c.copy_from.new.self c.self.inside.children.items c.copy_children.new.children c.self.inside.children.len c.copy_from-2.new.self.items c.copy_from_slice.new.self.items whole same c.copy_from.ensures (ap nodes (c.copy_children.ensures ∙ ap (map g.C.Agent.value) c.deref.ensures.value)) c.copy_from-2.ensures.items (c.copy_from_slice.ensures.items ∙ c.deref-2.ensures.value) in
    let old : MachineState = record { machine = m; spare = c.self.inside.spare; turns = c.self.inside.turns } in
    let from : MachineState = record { machine = k; spare = c.other.inside.spare; turns = c.other.inside.turns } in
    let here : c.len.result ≡ length c.self.inside.ops.items = c.len.ensures.length in
    let others : c.len-2.result ≡ length c.other.inside.ops.items = c.len-2.ensures.length in
    let room = c.room_left-self-inside.ensures ∙ ap (λ n. min 4294967295 (n + c.self.inside.spare - c.len-2.result)) here ∙ ap (λ n. min 4294967295 (length c.self.inside.ops.items + c.self.inside.spare - n)) others in
    copied-state old from _ c.room_left-self-inside.result after room ∙ ap (λ s. copied s from) c.self.view_is ∙ ap (copied c.args.self.now) c.other.view_is
