use Rattle.std.proofs.Common.{◌+◌, drop, refl, arith}
use Rattle.film_runs.specs.FilmModel.Film.{item_line, item_lines}
use Rattle.film.proofs.FilmParts.PartLines.{at_end, with_line}
use Rattle.film_runs.specs.DdmTypes.ItemTable.{row_at}
use Rattle.film_runs.proofs.HeadLines.{lines_end, lines_next}
use Rattle.film_runs.proofs.heads.push_items.Goals as goal

pub items-init : goal.items-init
items-init c = refl

pub items-preserved : goal.items-preserved
items-preserved c =
    let rows = c.args.items.now.rows in
    let k = c.items.item in
    with_line c.args.out.now.items c.items.out.items c.push_item.new.out.items (item_line k (row_at c.args.items.now k)) (item_lines k (drop k rows)) (item_lines (k + 1) (drop (k + 1) rows)) (item_lines 0 rows)
    c.items.invariant (lines_next rows k (omega (arith, c.len-item-end.ensures, c.items-test.true))) c.in_ok-push_item.ensures

pub returns : goal.returns
returns c =
    let rows = c.args.items.now.rows in
    let k = c.items.item in
    at_end c.args.out.now.items c.items.out.items (item_lines k (drop k rows)) (item_lines 0 rows) c.items.invariant (lines_end rows k (omega (arith, c.len-item-end.ensures, c.items-test.false)))
