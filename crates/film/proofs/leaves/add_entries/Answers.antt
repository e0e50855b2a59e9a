use Rattle.std.proofs.Common.{sym, ◌++◌, ◌∙◌, ap, ◌≡◌, drop, get_or, None, refl, arith}
use Rattle.std.proofs.lemmas.List.{drop_all}
use Rattle.film.specs.DdmTypes.ItemTable.{item_count}
use Rattle.film.specs.FilmModel.Leaf.{entry_part}
use Rattle.film.specs.FilmModel.Part.{numbered}
use Rattle.film_parts.proofs.Numbered.{drop_next, numbered_last, numbered_step}
use Rattle.film.proofs.DdmTree.LeafList.{leaf-number}
use Rattle.film.proofs.leaves.add_entries.Goals as goal

pub items-init : goal.items-init
items-init g c = λ v is ways. refl

pub items-preserved : goal.items-preserved
items-preserved g c = λ v is ways.
    let all : c.len-item-end.result ≡ item_count c.args.machine.now.machine.items = c.len-item-end.ensures ∙ ap item_count c.items-2.ensures in
    numbered_step (entry_part c.args.leaf) c.items.item (get_or v.ways c.items.item None) (drop c.items.item v.ways) _ c.args.still.now (numbered (entry_part c.args.leaf) 0 v.ways) c.items.still _
    (drop_next v.ways c.items.item None (omega (arith, ways, c.items-test.true, all))) (c.items.invariant v is ways) (c.in_ok-add_leaf_entry.ensures v is)

pub returns : goal.returns
returns g c = λ v is ways.
    let all : c.len-item-end.result ≡ item_count c.args.machine.now.machine.items = c.len-item-end.ensures ∙ ap item_count c.items-2.ensures in
    numbered_last (entry_part c.args.leaf) c.items.item (drop c.items.item v.ways) c.args.still.now (numbered (entry_part c.args.leaf) 0 v.ways) c.items.still
    (drop_all c.items.item v.ways (omega (arith, ways, c.items-test.false, all))) (c.items.invariant v is ways)
    ∙ ap (λ k. c.args.still.now ++ numbered (entry_part k) 0 v.ways) (sym (leaf-number c.args.leaf c.args.machine.now.machine v c.requires.shape is))
