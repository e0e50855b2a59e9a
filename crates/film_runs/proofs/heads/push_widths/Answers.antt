use Rattle.std.proofs.Common.{◌≡◌, ◌+◌, Some, drop, flat_map, subst}
use Rattle.std.specs.Prelude.{slice_get}
use Rattle.film_runs.specs.FilmModel.Part.{number_text}
use Rattle.film.proofs.FilmParts.PartLines.{with_line}
use Rattle.film_runs.specs.TreeModel.Start.Sources.{TreeValue}
use Rattle.film_runs.proofs.HeadLines.{all_widths, widths_next}
use Rattle.film_runs.proofs.heads.push_widths.Goals as goal

pub levels-preserved : goal.levels-preserved
levels-preserved c =
    let ls = c.args.tree.now.levels in
    let k = c.levels.level in
    let here : Some c.level.result.now ≡ slice_get ls k = subst (λ (t : TreeValue). Some c.level.result.now ≡ slice_get t.levels k) c.tree.view_is c.level.ensures.widths in
    with_line c.args.out.now.items c.levels.out.items c.push_numbers.new.out.items (flat_map number_text c.level.result.now) (all_widths (drop k ls)) (all_widths (drop (k + 1) ls)) (all_widths ls)
    c.levels.invariant (widths_next ls k c.level.result.now here) c.in_ok-push_numbers.ensures
