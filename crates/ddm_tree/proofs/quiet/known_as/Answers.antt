use Rattle.std.proofs.Common.{◌≡◌, ◌<◌, None, ap, ◌≤◌, length, refl, sym, ◌∙◌}
use Rattle.std.proofs.lemmas.Bool.{ltb-false, ltb-true}
use Rattle.ddm_tree.specs.Quiet.{busy_at, entry_at}
use Rattle.ddm_tree.proofs.QuietIndex.{empty-entry}
use Rattle.ddm_tree.proofs.QuietTable.{entry-past, place-inside}
use Rattle.ddm_tree.proofs.quiet.known_as.Goals as goal

pub returns-in-Some : goal.returns-in-Some
returns-in-Some c =
    let here = c.in-Some.ensures.lookup in
    let few : c.column_of-column.result < 16 = rw (sym c.column_of-column.ensures) at c.requires in
    c.busy_if.ensures ∙ place-inside c.args.known.now c.number_of-number.result c.row_of-row.result c.column_of-column.result c.in-Some.quiet.now few (ltb-true _ _ (sym here.0)) here.1 ∙ rw (c.number_of-number.ensures, c.row_of-row.ensures.row, c.column_of-column.ensures) refl

pub returns-in-None : goal.returns-in-None
returns-in-None c =
    let past : length c.args.known.now ≤ c.number_of-number.result = ltb-false _ _ (sym c.in-None.ensures.lookup.0) in
    let none : busy_at c.row_of-row.result c.column_of-column.result (entry_at c.number_of-number.result c.args.known.now) ≡ None = ap (busy_at c.row_of-row.result c.column_of-column.result) (entry-past c.number_of-number.result c.args.known.now past) ∙ empty-entry c.row_of-row.result c.column_of-column.result in
    sym none ∙ rw (c.number_of-number.ensures, c.row_of-row.ensures.row, c.column_of-column.ensures) refl
