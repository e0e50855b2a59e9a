use Rattle.std.proofs.Common.{◌≡◌, ◌+◌, Some, drop, length, map, refl, subst, ap, arith, ℕ}
use Rattle.std.specs.Prelude.{slice_get}
use Rattle.film.proofs.FilmParts.PartLines.{at_end, with_line}
use Rattle.film_runs.specs.TreeModel.Start.Sources.{TreeValue}
use Rattle.film_runs.specs.Levels.{levels_from}
use Rattle.film_runs.proofs.LevelNumbers.{levels_end, levels_next}
use Rattle.film_runs.proofs.levels.push_levels.Goals as goal

pub levels-init : goal.levels-init
levels-init c = refl

pub levels-preserved : goal.levels-preserved
levels-preserved c =
    let ls = c.args.tree.now.levels in
    let k = c.levels.above in
    let here : Some c.level.result.now ≡ slice_get ls k = subst (λ (t : TreeValue). Some c.level.result.now ≡ slice_get t.levels k) c.tree.view_is c.level.ensures.widths in
    with_line c.args.out.now.items c.levels.out.items c.push_level.new.out.items (map (λ (width : ℕ). k) c.level.result.now) (levels_from k (drop k ls)) (levels_from (k + 1) (drop (k + 1) ls)) (levels_from 0 ls)
    c.levels.invariant (levels_next k ls k c.level.result.now here) c.in_ok-push_level.ensures

pub returns : goal.returns
returns c =
    let ls = c.args.tree.now.levels in
    let k = c.levels.above in
    at_end c.args.out.now.items c.levels.out.items (levels_from k (drop k ls)) (levels_from 0 ls) c.levels.invariant (levels_end k ls k (omega (arith, c.depth-above-end.ensures.levels, c.levels-test.false, ap (λ (t : TreeValue). length t.levels) c.tree.view_is)))
