use Rattle.std.proofs.Common.{◌≡◌, ◌<◌, ◌≤◌, ◌∙◌, get_or, length, map, ap, arith}
use Rattle.std.specs.Prelude.{slice_index_or, if◌then◌else◌, false}
use Rattle.std.proofs.lemmas.List.{get_or_default, length-map}
use Rattle.ddm_tree.specs.DdmTypes.declared.sizes.Hold.TheVariants.{Exclusive}
use Rattle.ddm_tree.specs.TreeModel.State.Directory.{with_hold}
use Rattle.ddm_tree.specs.TreeModel.State.Values.{dir_node, nodes}
use Rattle.ddm_tree.specs.TreeModel.Start.Nodes.{dir_sizes, held_below, new_dir}
use Rattle.ddm_tree.proofs.Gathered.{below-length, dir-more, mixed, mixed-end, mixed-length, mixed-start}
use Rattle.ddm_tree.proofs.over.directory.Goals as goal

pub loop-item-init : goal.loop-item-init
loop-item-init g c =
    let ks = map g.C.Agent.value c.args.children.items in
    let some : 0 < length ks = omega (arith, c.requires.some, length-map c.args.children.items g.C.Agent.value) in
    let bits = below-length c.args.items ks c.requires.holders some in
    c.in_ok-state.ensures ∙ ap (new_dir (dir_sizes c.args.config.now g.row.WORDS) c.args.level c.args.bus) (mixed-start c.args.items (held_below ks) bits)

pub index-requires : goal.index-requires
index-requires g c =
    let ks = map g.C.Agent.value c.args.children.items in
    let some : 0 < length ks = omega (arith, c.requires.some, length-map c.args.children.items g.C.Agent.value) in
    let bits = below-length c.args.items ks c.requires.holders some in
    let marks : c.in_ok-held.held.items ≡ held_below ks = c.in_ok-held.ensures ∙ ap (λ cs. held_below (map g.C.Agent.value cs)) c.deref.ensures.value in
    omega (arith, bits, ap length marks, c.in_ok-held.held.ok.0, c.loop-item-test.true)

pub hold_if-requires : goal.hold_if-requires
hold_if-requires g c =
    let ks = map g.C.Agent.value c.args.children.items in
    let some : 0 < length ks = omega (arith, c.requires.some, length-map c.args.children.items g.C.Agent.value) in
    let bits = below-length c.args.items ks c.requires.holders some in
    let same : length c.loop-item.state.items ≡ length (mixed c.loop-item.item (held_below ks)) = ap (λ d. length d.items) c.loop-item.invariant in
    let whole = mixed-length c.loop-item.item (held_below ks) in
    (omega arith, omega (arith, same, whole, bits, c.loop-item-test.true))

pub loop-item-preserved : goal.loop-item-preserved
loop-item-preserved g c =
    let ks = map g.C.Agent.value c.args.children.items in
    let some : 0 < length ks = omega (arith, c.requires.some, length-map c.args.children.items g.C.Agent.value) in
    let bits = below-length c.args.items ks c.requires.holders some in
    let marks : c.in_ok-held.held.items ≡ held_below ks = c.in_ok-held.ensures ∙ ap (λ cs. held_below (map g.C.Agent.value cs)) c.deref.ensures.value in
    let within : c.loop-item.item < length (held_below ks) = omega (arith, bits, c.loop-item-test.true) in
    let inside : c.loop-item.item < length c.in_ok-held.held.items = omega (arith, ap length marks, within) in
    let held : c.index.result.now ≡ slice_index_or (held_below ks) c.loop-item.item false = c.index.ensures ∙ get_or_default c.in_ok-held.held.items c.loop-item.item c.index.result.now false inside ∙ ap (λ hs. get_or hs c.loop-item.item false) marks in
    c.hold_if.ensures ∙ ap (λ d. if c.index.result.now then with_hold c.loop-item.item Exclusive d else d) c.loop-item.invariant ∙ dir-more (dir_sizes c.args.config.now g.row.WORDS) c.args.level c.args.bus c.loop-item.item (held_below ks) c.index.result.now within held

pub returns : goal.returns
returns g c =
    let ks = map g.C.Agent.value c.args.children.items in
    let some : 0 < length ks = omega (arith, c.requires.some, length-map c.args.children.items g.C.Agent.value) in
    let bits = below-length c.args.items ks c.requires.holders some in
    let all : length (held_below ks) ≤ c.loop-item.item = omega (arith, bits, c.loop-item-test.false) in
    c.new-2.ensures ∙ ap (λ d. dir_node d (nodes ks)) (c.loop-item.invariant ∙ ap (new_dir (dir_sizes c.args.config.now g.row.WORDS) c.args.level c.args.bus) (mixed-end c.loop-item.item (held_below ks) all))
