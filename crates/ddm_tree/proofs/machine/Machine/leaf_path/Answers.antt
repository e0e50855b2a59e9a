use Rattle.std.proofs.Common.{◌≡◌, map, true, vec_items, sym, subst, ◌∙◌, arith}
use Rattle.ddm_tree.specs.TreeModel.State.Values.{root_of}
use Rattle.ddm_tree.specs.TreeModel.Turns.Tree.{leaf_of_number}
use Rattle.ddm_tree.specs.Machine.{is_part, machine_of}
use Rattle.ddm_tree.specs.Ready.{Leads}
use Rattle.ddm_tree.proofs.Reading.{listed-at, listed-inside, part-listed}
use Rattle.ddm_tree.proofs.machine.Machine.leaf_path.Goals as goal

pub index-requires : goal.index-requires
index-requires g c =
    let m = machine_of c.self.inside.code c.self.inside.items c.self.inside.top (map g.C.Agent.value c.self.inside.children.items) c.self.inside.ops.items c.self.inside.traffic.items in
    let there : is_part (leaf_of_number c.args.leaf) m ≡ true = subst (λ s. is_part (leaf_of_number c.args.leaf) s.machine ≡ true) (sym c.self.view_is) c.requires in
    let listed = part-listed g.row.WORDS c.self.inside.turns (map vec_items c.self.inside.leaf_paths.items) (map vec_items c.self.inside.bus_paths.items) m (leaf_of_number c.args.leaf) c.self.invariant.0 there in
    let inside = listed-inside vec_items c.self.inside.leaf_paths.items c.args.leaf listed.path listed.listed in
    omega (arith, inside, c.leaf.view_is)

pub returns : goal.returns
returns g c =
    let m = machine_of c.self.inside.code c.self.inside.items c.self.inside.top (map g.C.Agent.value c.self.inside.children.items) c.self.inside.ops.items c.self.inside.traffic.items in
    let there : is_part (leaf_of_number c.args.leaf) m ≡ true = subst (λ s. is_part (leaf_of_number c.args.leaf) s.machine ≡ true) (sym c.self.view_is) c.requires in
    let listed = part-listed g.row.WORDS c.self.inside.turns (map vec_items c.self.inside.leaf_paths.items) (map vec_items c.self.inside.bus_paths.items) m (leaf_of_number c.args.leaf) c.self.invariant.0 there in
    let at = listed-at vec_items c.self.inside.leaf_paths.items c.args.leaf listed.path c.index.result.now listed.listed (rw (c.leaf.view_is) at c.index.ensures) in
    let leads = subst (λ p. Leads (leaf_of_number c.args.leaf) p (root_of m)) (sym at ∙ sym c.deref.ensures.value) listed.leads in
    subst (λ s. Leads (leaf_of_number c.args.leaf) c.deref.result.now (root_of s.machine)) c.self.view_is leads
