use Rattle.std.proofs.Common.{◌≡◌, ◌∙◌, ap, sym, subst, length, map, vec_items, lit<, rules, Err}
use Rattle.ddm_tree.specs.TreeModel.State.Shape.{widths_bounded}
use Rattle.ddm_tree.specs.TreeModel.State.Values.{dir_node, nodes}
use Rattle.ddm_tree.specs.Machine.{is_part, machine_of}
use Rattle.ddm_tree.specs.ReadBack.{section_name}
use Rattle.ddm_tree.proofs.PartsKept.{listed-leads, parts-listed, section-counts, section-made, section-parts, section-refused}
use Rattle.ddm_tree.proofs.TurnMade.{items-back, listed-has_path}
use Rattle.ddm_tree.proofs.parts.Parts.read_section.Goals as goal

pub read_into-requires : goal.read_into-requires
read_into-requires g c =
    let m = machine_of c.parts.inside.code c.parts.inside.items c.parts.inside.top (map g.C.Agent.value c.parts.inside.children.items) c.parts.inside.ops.items c.parts.inside.traffic.items in
    let leaf_paths = map vec_items c.parts.inside.leaf_paths.items in
    let bus_paths = map vec_items c.parts.inside.bus_paths.items in
    let name = section_name c.args.section in
    let there = subst (λ n. is_part name n ≡ _) (sym c.parts.view_is) c.requires.there in
    let found = parts-listed g.row.WORDS leaf_paths bus_paths m name c.parts.invariant.0 there in
    rw (c.deref_mut.ensures.value, c.deref.ensures.value, c.deref-2.ensures.value) (
      lit< tt,
      (
        c.requires.few,
        (
          c.requires.inside,
          (
            c.parts.invariant.0.readable.shaped.each widths_bounded,
            (listed-has_path vec_items name c.parts.inside.leaf_paths.items c.parts.inside.bus_paths.items found.path found.listed, listed-leads name m leaf_paths bus_paths found),
          ),
        ),
      ),
    )

pub invariant_of-parts : goal.invariant_of-parts
invariant_of-parts g c =
    let m = machine_of c.parts.inside.code c.parts.inside.items c.parts.inside.top (map g.C.Agent.value c.parts.inside.children.items) c.parts.inside.ops.items c.parts.inside.traffic.items in
    let leaf_paths = map vec_items c.parts.inside.leaf_paths.items in
    let bus_paths = map vec_items c.parts.inside.bus_paths.items in
    let name = section_name c.args.section in
    let there = subst (λ n. is_part name n ≡ _) (sym c.parts.view_is) c.requires.there in
    let found = parts-listed g.row.WORDS leaf_paths bus_paths m name c.parts.invariant.0 there in
    let whole : c.parts.inside.children.len ≡ length c.parts.inside.children.items = sym c.deref_mut.ensures.len ∙ ap length c.deref_mut.ensures.value in
    let same : length c.read_into.new.children ≡ length c.parts.inside.children.items = c.read_into.auto.children ∙ ap length c.deref_mut.ensures.value in
    let back = items-back c.parts.inside.children.items c.read_into.new.children c.parts.inside.children.len whole same in
    let put = (rw (c.deref_mut.ensures.value, c.deref.ensures.value, c.deref-2.ensures.value) at c.in_ok-at.ensures.read) found.path found.listed in
    let kids = map g.C.Agent.value c.read_into.new.children in
    let inv = c.parts.invariant in
    let parts = section-parts c.args.section c.args.words.now c.args.from m found.path found.leads g.row.WORDS c.in_ok-at.at leaf_paths bus_paths inv.0 c.read_into.new.top kids put in
    let counts = section-counts c.args.section c.args.words.now c.args.from m found.path found.leads g.row.WORDS c.in_ok-at.at leaf_paths bus_paths inv.0 c.read_into.new.top kids put in
    rw back (parts, counts ∙ inv.1, inv.2, inv.3, inv.4)

pub returns-clause-read : goal.returns-clause-read
returns-clause-read g c =
    let m = machine_of c.parts.inside.code c.parts.inside.items c.parts.inside.top (map g.C.Agent.value c.parts.inside.children.items) c.parts.inside.ops.items c.parts.inside.traffic.items in
    let leaf_paths = map vec_items c.parts.inside.leaf_paths.items in
    let bus_paths = map vec_items c.parts.inside.bus_paths.items in
    let name = section_name c.args.section in
    let there = subst (λ n. is_part name n ≡ _) (sym c.parts.view_is) c.requires.there in
    let found = parts-listed g.row.WORDS leaf_paths bus_paths m name c.parts.invariant.0 there in
    let whole : c.parts.inside.children.len ≡ length c.parts.inside.children.items = sym c.deref_mut.ensures.len ∙ ap length c.deref_mut.ensures.value in
    let same : length c.read_into.new.children ≡ length c.parts.inside.children.items = c.read_into.auto.children ∙ ap length c.deref_mut.ensures.value in
    let back = items-back c.parts.inside.children.items c.read_into.new.children c.parts.inside.children.len whole same in
    let put = (rw (c.deref_mut.ensures.value, c.deref.ensures.value, c.deref-2.ensures.value) at c.in_ok-at.ensures.read) found.path found.listed in
    let kids = map g.C.Agent.value c.read_into.new.children in
    let made = section-made c.args.section c.args.words.now c.args.from m found.path found.leads c.in_ok-at.at c.read_into.new.top kids put in
    rw (sym c.parts.view_is, back) made

pub returns-in_err-at-clause-refused : goal.returns-in_err-at-clause-refused
returns-in_err-at-clause-refused g c =
    let m = machine_of c.parts.inside.code c.parts.inside.items c.parts.inside.top (map g.C.Agent.value c.parts.inside.children.items) c.parts.inside.ops.items c.parts.inside.traffic.items in
    let leaf_paths = map vec_items c.parts.inside.leaf_paths.items in
    let bus_paths = map vec_items c.parts.inside.bus_paths.items in
    let name = section_name c.args.section in
    let there = subst (λ n. is_part name n ≡ _) (sym c.parts.view_is) c.requires.there in
    let found = parts-listed g.row.WORDS leaf_paths bus_paths m name c.parts.invariant.0 there in
    let e = c.in_err-at.field-0.0 in
    let is : c.from_residual.result ≡ Err e = search rules in
    let refused = (rw (c.deref_mut.ensures.value, c.deref.ensures.value, c.deref-2.ensures.value) at c.in_err-at.ensures.read) found.path found.listed in
    rw (is, sym c.parts.view_is) (section-refused c.args.section c.args.words.now c.args.from m found.path found.leads e (dir_node c.read_into.new.top (nodes (map g.C.Agent.value c.read_into.new.children))) refused)
