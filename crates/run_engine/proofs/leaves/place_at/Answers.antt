use Rattle.std.proofs.Common.{◌≡◌, sym, ap, ◌∙◌}
use Rattle.std.specs.Prelude.{is_ok, is_some, slice_index_or, slice_set}
use Rattle.run_engine.specs.TreeModel.State.Leaf.{free_way}
use Rattle.run_engine.specs.TreeModel.Start.Nodes.{has_way, placed}
use Rattle.run_engine.proofs.Placing.{placed-after, way-at, way-told}
use Rattle.run_engine.proofs.leaves.place_at.Goals as goal

pub returns-clause-after : goal.returns-clause-after
returns-clause-after g c =
    let v = c.index-leaves-leaf.result in
    let u = slice_index_or c.args.leaves.now c.args.leaf v in
    let told : is_ok c.start_item.result ≡ is_some (free_way u.sizes c.args.item u.ways) = way-told c.start_item.result (free_way u.sizes c.args.item u.ways) _ c.start_item.ensures.way c.start_item.ensures.full in
    let same : is_some (free_way u.sizes c.args.item u.ways) ≡ is_some (free_way v.sizes c.args.item v.ways) = ap (λ w. is_some (free_way w.sizes c.args.item w.ways)) (sym c.index-leaves-leaf.is) in
    let way : c.is_ok.result ≡ has_way c.args.leaves.now c.args.item c.args.leaf = c.is_ok.ensures.value ∙ told ∙ same ∙ sym (way-at c.args.item c.args.leaf c.args.leaves.now v c.requires.inside c.index-leaves-leaf.is) in
    let after : c.start_item.new.self ≡ placed c.args.item c.args.words v = c.start_item.ensures.after ∙ ap (placed c.args.item c.args.words) (sym c.index-leaves-leaf.is) in
    ap (slice_set c.args.leaves.now c.args.leaf) after ∙ placed-after c.args.item c.args.words c.args.leaf c.args.leaves.now v c.requires.inside c.index-leaves-leaf.is c.is_ok.result way
