use Rattle.std.proofs.Common.{rules, ◌≡◌, length, map, sym, ap, subst, ◌∙◌, arith, All}
use Rattle.std.specs.List.{range_with_len}
use Rattle.run_engine.specs.DdmTypes.ItemTable.{item_count}
use Rattle.run_engine.specs.TreeModel.Start.Nodes.{leaf_sizes, new_leaf, placed_items}
use Rattle.run_engine.proofs.DdmTree.TurnMade.{items-back}
use Rattle.run_engine.specs.Placement.{CanPlace, HasSets}
use Rattle.run_engine.proofs.TreeStart.{can-place, items-few, leaves-start, new-sets, sets-range, ways-range, words-start}
use Rattle.run_engine.proofs.trees.start_leaves.Goals as goal

pub new_leaves-requires : goal.new_leaves-requires
new_leaves-requires g c =
    let sets = sets-range c.args.tree.now c.sizes-sizes.ensures.range in
    let ways = ways-range c.args.tree.now c.sizes-sizes.ensures.range in
    let same : c.sizes-sizes.result.sets ≡ c.args.tree.now.sizes.sets = ap (λ s. s.sets) c.sizes-sizes.ensures.sizes in
    (omega arith, (omega (arith, same, sets.0), (omega (arith, same, sets.1), (omega (arith, ways.0, c.requires.ways), (omega (arith, ways.1, c.requires.ways), (omega (arith, c.requires.small), (c.start_of_harts-start.ensures.few, c.start_of_harts-start.ensures.fits)))))))

pub place_items-requires : goal.place_items-requires
place_items-requires g c =
    let counted = items-few c.args.tree.now c.args.image.now g.row.WORDS c.requires.size c.args.items.now c.in_ok-words.words.items c.requires.accepted c.requires.items (search rules) in
    let made = c.deref_mut.ensures.value ∙ c.in_ok-leaves.ensures in
    let n : c.len.result ≡ item_count c.args.items.now = c.len.ensures in
    let can = can-place (leaf_sizes c.sizes-sizes.result g.row.WAYS g.row.WORDS) c.start_of_harts-start.result c.len.result c.in_ok-words.words.items (omega (arith, counted.0, n)) (omega (arith, counted.1, n)) c.start_of_harts-start.ensures.few in
    let range = sets-range c.args.tree.now c.sizes-sizes.ensures.range in
    let same : c.sizes-sizes.result.sets ≡ c.args.tree.now.sizes.sets = ap (λ s. s.sets) c.sizes-sizes.ensures.sizes in
    let sets = new-sets (leaf_sizes c.sizes-sizes.result g.row.WAYS g.row.WORDS) c.start_of_harts-start.result c.len.result in
    let places = subst (λ ws. CanPlace ws c.deref_mut.result.now) (sym c.deref-2.ensures.value) (subst (CanPlace c.in_ok-words.words.items) (sym made) can) in
    (omega arith, (search rules, (places, (subst (All (HasSets c.sizes-sizes.result.sets)) (sym made) sets, (omega (arith, same, range.0), omega (arith, same, range.1))))))

pub returns : goal.returns
returns g c =
    let words = words-start c.args.tree.now c.args.image.now g.row.WORDS c.requires.size c.args.items.now c.in_ok-words.words.items c.requires.items (search rules) in
    let whole : c.in_ok-leaves.leaves.len ≡ length c.in_ok-leaves.leaves.items = sym c.deref_mut.ensures.len ∙ ap length c.deref_mut.ensures.value in
    let same : length c.place_items.new.leaves ≡ length c.in_ok-leaves.leaves.items = c.place_items.auto.leaves ∙ ap length c.deref_mut.ensures.value in
    let back = items-back c.in_ok-leaves.leaves.items c.place_items.new.leaves c.in_ok-leaves.leaves.len whole same in
    let start = c.start_of_harts-start.result in
    let made : c.deref_mut.result.now ≡ map (new_leaf (leaf_sizes c.args.tree.now.sizes g.row.WAYS g.row.WORDS) start (item_count c.args.items.now)) (range_with_len 0 start.harts) =
    c.deref_mut.ensures.value ∙ c.in_ok-leaves.ensures ∙ ap (λ s. map (new_leaf (leaf_sizes s g.row.WAYS g.row.WORDS) start c.len.result) (range_with_len 0 start.harts)) c.sizes-sizes.ensures.sizes ∙ ap (λ n. map (new_leaf (leaf_sizes c.args.tree.now.sizes g.row.WAYS g.row.WORDS) start n) (range_with_len 0 start.harts)) c.len.ensures in
    let placed = c.place_items.ensures ∙ ap (λ ws. placed_items 0 ws c.deref_mut.result.now) c.deref-2.ensures.value ∙ ap (placed_items 0 c.in_ok-words.words.items) made in
    back ∙ leaves-start c.args.tree.now c.args.image.now g.row.WORDS c.requires.size c.args.items.now c.in_ok-words.words.items start g.row.WAYS c.place_items.new.leaves c.requires.ways c.requires.items words c.start_of_harts-start.ensures.start placed
