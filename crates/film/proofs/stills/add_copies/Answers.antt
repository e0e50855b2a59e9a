use Rattle.std.proofs.Common.{◌≡◌, map, ap, ◌∙◌, arith}
use Rattle.std.specs.List.{range_with_len}
use Rattle.std.proofs.lemmas.List.FromFn.{length-range_with_len}
use Rattle.film.specs.DdmTypes.ItemTable.{item_count}
use Rattle.film.specs.FilmModel.Still.{place_part}
use Rattle.film.proofs.EachBus.{range_next}
use Rattle.film.proofs.EachLeaf.{mapped_last, mapped_next}
use Rattle.film.proofs.stills.add_copies.Goals as goal

pub items-preserved : goal.items-preserved
items-preserved g c =
    let m = c.args.machine.now.machine in
    let count = item_count m.items in
    let all : c.len-item-end.result ≡ count = c.len-item-end.ensures ∙ ap item_count c.items-2.ensures in
    mapped_next (place_part m) (range_with_len 0 count) c.items.item c.items.item c.args.still.now (map (place_part m) (range_with_len 0 count)) c.items.still _
    (range_next count c.items.item (omega (arith, all, c.items-test.true))) c.items.invariant c.in_ok-add_copy.ensures

pub returns : goal.returns
returns g c =
    let m = c.args.machine.now.machine in
    let count = item_count m.items in
    let all : c.len-item-end.result ≡ count = c.len-item-end.ensures ∙ ap item_count c.items-2.ensures in
    mapped_last (place_part m) (range_with_len 0 count) c.items.item c.args.still.now (map (place_part m) (range_with_len 0 count)) c.items.still
    (omega (arith, all, length-range_with_len 0 count, c.items-test.false)) c.items.invariant
