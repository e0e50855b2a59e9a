use Rattle.std.proofs.Common.{◌≡◌, map, true, sym, subst}
use Rattle.std.specs.Prelude.{vec_items}
use Rattle.ddm_tree.specs.TreeModel.State.Shape.{IsShaped}
use Rattle.ddm_tree.specs.TreeModel.State.Values.{root_of}
use Rattle.ddm_tree.specs.Machine.{is_part, machine_of}
use Rattle.ddm_tree.specs.Named.{name_of}
use Rattle.ddm_tree.specs.Ready.{Leads}
use Rattle.ddm_tree.proofs.PartsKept.{parts-listed, listed-leads}
use Rattle.ddm_tree.proofs.TimedParts.{path-inside}
use Rattle.ddm_tree.proofs.parts.Parts.leads_to.Goals as goal

pub path_of-requires : goal.path_of-requires
path_of-requires g c =
    let m = machine_of c.self.inside.code c.self.inside.items c.self.inside.top (map g.C.Agent.value c.self.inside.children.items) c.self.inside.ops.items c.self.inside.traffic.items in
    let there : is_part (name_of c.args.name) m ≡ true = subst (λ s. is_part (name_of c.args.name) s ≡ true) (sym c.self.view_is) c.requires in
    let listed = parts-listed g.row.WORDS (map vec_items c.self.inside.leaf_paths.items) (map vec_items c.self.inside.bus_paths.items) m (name_of c.args.name) c.self.invariant.0 there in
    rw (c.deref.ensures.value, c.deref-2.ensures.value) (path-inside vec_items c.self.inside.leaf_paths.items c.self.inside.bus_paths.items (name_of c.args.name) listed.path listed.listed)

pub returns-clause-leads : goal.returns-clause-leads
returns-clause-leads g c =
    let m = machine_of c.self.inside.code c.self.inside.items c.self.inside.top (map g.C.Agent.value c.self.inside.children.items) c.self.inside.ops.items c.self.inside.traffic.items in
    let there : is_part (name_of c.args.name) m ≡ true = subst (λ s. is_part (name_of c.args.name) s ≡ true) (sym c.self.view_is) c.requires in
    let listed = parts-listed g.row.WORDS (map vec_items c.self.inside.leaf_paths.items) (map vec_items c.self.inside.bus_paths.items) m (name_of c.args.name) c.self.invariant.0 there in
    let leads = listed-leads (name_of c.args.name) m (map vec_items c.self.inside.leaf_paths.items) (map vec_items c.self.inside.bus_paths.items) listed c.path_of.result.now (sym (rw (c.deref.ensures.value, c.deref-2.ensures.value) at c.path_of.ensures)) in
    subst (λ s. Leads (name_of c.args.name) c.path_of.result.now (root_of s)) c.self.view_is leads

pub returns-clause-shaped : goal.returns-clause-shaped
returns-clause-shaped g c = subst IsShaped c.self.view_is c.self.invariant.0.readable.shaped
