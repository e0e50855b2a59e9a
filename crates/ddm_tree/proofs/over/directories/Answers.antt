use Rattle.std.proofs.Common.{◌≡◌, ◌<◌, ◌≤◌, ◌+◌, ◌++◌, ◌∷◌, [], ◌∙◌, length, map, take, drop, All, sym, ap, subst, arith}
use Rattle.std.specs.Prelude.{slice_index_or, sum}
use Rattle.std.specs.Vec.Iter.{into_iter_items}
use Rattle.std.proofs.lemmas.List.{map-append}
use Rattle.ddm_tree.specs.TreeModel.State.Values.{dir_node, nodes}
use Rattle.ddm_tree.specs.TreeModel.Start.Nodes.{cut_in, dir_over, dir_sizes, dirs_over}
use Rattle.ddm_tree.specs.Holders.{IsHolder}
use Rattle.ddm_tree.proofs.Gathered.{drop-less, map-drop, map-take, next-sum, one-dir, take-some, width-at}
use Rattle.ddm_tree.proofs.over.directories.Goals as goal
use Rattle.std.proofs.lemmas.List.Elements.{All-drop, All-take}

pub directory-requires : goal.directory-requires
directory-requires g c =
    let inv = c.loop-i.invariant in
    let w = slice_index_or c.args.widths.now c.loop-i.i 0 in
    let xs = into_iter_items c.loop-i.rest in
    let total = next-sum c.loop-i.i c.args.widths.now w c.loop-i-test.true (width-at c.loop-i.i c.args.widths.now c.loop-i-test.true) in
    let some : 0 < w = c.requires.widths c.loop-i.i 0 c.loop-i-test.true in
    let own = c.in_ok-own.ensures.own in
    let enough : w ≤ length xs = omega (arith, total, inv.2) in
    let first : 0 < length c.in_ok-own.own.items = subst (λ ys. 0 < length ys) (sym own) (take-some w xs some enough) in
    let holders : All (IsHolder c.args.items) (map g.C.Agent.value (take w xs)) = subst (All (IsHolder c.args.items)) (sym (map-take g.C.Agent.value w xs)) (All-take (IsHolder c.args.items) w (map g.C.Agent.value xs) inv.3) in
    let each : All (IsHolder c.args.items) (map g.C.Agent.value c.in_ok-own.own.items) = subst (λ ys. All (IsHolder c.args.items) (map g.C.Agent.value ys)) (sym own) holders in
    (omega arith, (c.requires.words_fit, (c.requires.below_top, (c.requires.deepest, (omega (arith, c.requires.some), (first, each))))))

pub loop-i-preserved : goal.loop-i-preserved
loop-i-preserved g c =
    let inv = c.loop-i.invariant in
    let sizes = dir_sizes c.args.config.now g.row.WORDS in
    let k = c.loop-i.i in
    let w = slice_index_or c.args.widths.now k 0 in
    let xs = into_iter_items c.loop-i.rest in
    let ns = map g.C.Agent.value xs in
    let at = width-at k c.args.widths.now c.loop-i-test.true in
    let total = next-sum k c.args.widths.now w c.loop-i-test.true at in
    let own_nodes : map g.C.Agent.value c.in_ok-own.own.items ≡ take w ns = ap (map g.C.Agent.value) c.in_ok-own.ensures.own ∙ map-take g.C.Agent.value w xs in
    let rest_nodes : map g.C.Agent.value (into_iter_items c.take_next.new.rest) ≡ drop w ns = ap (map g.C.Agent.value) c.in_ok-own.ensures.rest ∙ map-drop g.C.Agent.value w xs in
    let dir = dir_node c.in_ok-directory.field-0.state (nodes (map g.C.Agent.value c.in_ok-directory.field-0.children.items)) in
    let is : dir ≡ dir_over sizes c.args.level (c.args.first + k) (take w ns) = c.in_ok-directory.ensures ∙ ap (dir_over sizes c.args.level (c.args.first + k)) own_nodes in
    let pushed = ap (λ ds. map (λ d. dir_node d.state (nodes (map g.C.Agent.value d.children.items))) ds) c.in_ok-push.ensures.items ∙ map-append (λ d. dir_node d.state (nodes (map g.C.Agent.value d.children.items))) c.loop-i.dirs.items (c.in_ok-directory.field-0 ∷ []) in
    let made = map (λ d. dir_node d.state (nodes (map g.C.Agent.value d.children.items))) c.loop-i.dirs.items in
    let whole = one-dir sizes c.args.level c.args.first k c.args.widths.now w ns made dir (map g.C.Agent.value (into_iter_items c.take_next.new.rest)) _ c.loop-i-test.true at is rest_nodes inv.0 in
    let left = drop-less w xs (sum (drop (k + 1) c.args.widths.now)) (sym inv.2 ∙ total) in (
      ap (λ ds. ds ++ dirs_over sizes c.args.level (c.args.first + (k + 1)) (cut_in (drop (k + 1) c.args.widths.now) (map g.C.Agent.value (into_iter_items c.take_next.new.rest)))) pushed ∙ whole,
      c.in_ok-own.ensures.known,
      sym left ∙ ap length (sym c.in_ok-own.ensures.rest),
      subst (All (IsHolder c.args.items)) (sym rest_nodes) (All-drop (IsHolder c.args.items) w ns inv.3),
    )
