use Rattle.std.proofs.Common.{◌≡◌, ◌≤◌, ◌+◌, length, map, sum, Some, sym, ap, subst, ◌∙◌, arith, IfOk, All}
use Rattle.std.specs.Prelude.{slice_get}
use Rattle.std.proofs.lemmas.List.{length-map}
use Rattle.run_engine.specs.DdmTypes.ItemTable.{item_count}
use Rattle.run_engine.specs.TreeModel.State.Values.{dir_node, nodes}
use Rattle.run_engine.specs.TreeModel.Start.Nodes.{cut_in, dir_sizes, dirs_over}
use Rattle.run_engine.specs.TreeModel.Start.Memory.{start_items}
use Rattle.run_engine.specs.TreeModel.Start.Sources.{width_of}
use Rattle.tree_config.specs.Levels.{IsShape}
use Rattle.run_engine.specs.DdmTree.Holders.{IsHolder}
use Rattle.run_engine.specs.Started.{nodes_at}
use Rattle.run_engine.proofs.LevelNodes.{level-at, level-few, level-nodes, nodes-hold, widths-some, widths-whole}
use Rattle.run_engine.proofs.TreeStart.{width-is}
use Rattle.run_engine.proofs.depths.level_over.Goals as goal

pub directories-requires : goal.directories-requires
directories-requires g c =
    let t = c.args.tree.now in
    let i = c.args.image.now in
    let k = c.args.level in
    let l = c.level-widths.result.now in
    let shape : IsShape t.levels = subst (λ u. IsShape u.levels) c.tree.view_is c.level-widths.ensures.shape in
    let is : Some l ≡ slice_get t.levels k = c.level-widths.ensures.widths ∙ ap (λ u. slice_get u.levels k) c.tree.view_is in
    let children : map g.C.Agent.value c.args.children.items ≡ nodes_at t i (k + 1) (c.args.first + length l) = c.requires.children ∙ ap (λ m. nodes_at t i (k + 1) (c.args.first + length m)) (level-at k t.levels l is) in
    let deep : k ≤ 3 = omega (arith, shape.depth, c.requires.deep) in
    let few = level-few k t.levels l shape is in
    let whole : sum l ≡ length c.args.children.items = sym (widths-whole t i shape c.sizes.ensures.range k c.args.first l is) ∙ ap length (sym children) ∙ length-map c.args.children.items g.C.Agent.value in
    let count : item_count (start_items t i) ≡ c.len.result = sym (c.len.ensures ∙ ap item_count c.requires.items) in
    let hold = nodes-hold t i shape c.sizes.ensures.range k c.args.first l is in
    let holders : All (IsHolder c.len.result) (map g.C.Agent.value c.args.children.items) = subst (All (IsHolder c.len.result)) (sym children) (subst (λ n. All (IsHolder n) (nodes_at t i (k + 1) (c.args.first + length l))) count hold) in
    (omega arith, (omega (arith, c.requires.small), (c.requires.below_top, (deep, (c.requires.some, (omega (arith, c.requires.few, few), (widths-some t i shape c.sizes.ensures.range k c.args.first l is, (whole, holders))))))))

pub returns : goal.returns
returns g c =
    let t = c.args.tree.now in
    let i = c.args.image.now in
    let k = c.args.level in
    let l = c.level-widths.result.now in
    let shape : IsShape t.levels = subst (λ u. IsShape u.levels) c.tree.view_is c.level-widths.ensures.shape in
    let is : Some l ≡ slice_get t.levels k = c.level-widths.ensures.widths ∙ ap (λ u. slice_get u.levels k) c.tree.view_is in
    let children : map g.C.Agent.value c.args.children.items ≡ nodes_at t i (k + 1) (c.args.first + length l) = c.requires.children ∙ ap (λ m. nodes_at t i (k + 1) (c.args.first + length m)) (level-at k t.levels l is) in
    let sizes : dir_sizes c.sizes.result g.row.WORDS ≡ dir_sizes t.sizes (width_of t) = ap (λ s. dir_sizes s g.row.WORDS) c.sizes.ensures.sizes ∙ ap (dir_sizes t.sizes) (sym (width-is t i g.row.WORDS c.requires.size)) in
    let all : dirs_over (dir_sizes c.sizes.result g.row.WORDS) k c.args.first (cut_in l (map g.C.Agent.value c.args.children.items)) ≡ nodes_at t i k c.args.first =
    ap (λ s. dirs_over s k c.args.first (cut_in l (map g.C.Agent.value c.args.children.items))) sizes ∙ ap (λ ns. dirs_over (dir_sizes t.sizes (width_of t)) k c.args.first (cut_in l ns)) children ∙ level-nodes t i shape c.sizes.ensures.range k c.args.first l is in
    subst (λ ns. IfOk c.directories.result (λ ds. map (λ d. dir_node d.state (nodes (map g.C.Agent.value d.children.items))) ds.items ≡ ns)) all c.directories.ensures
