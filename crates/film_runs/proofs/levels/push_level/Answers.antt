use Rattle.std.proofs.Common.{ℕ, ◌++◌, ◌∷◌, [], List, append_assoc, map, sym, take, ap, ◌∙◌}
use Rattle.std.proofs.lemmas.List.{map_more}
use Rattle.film_runs.proofs.levels.push_level.Goals as goal

pub widths-preserved : goal.widths-preserved
widths-preserved c =
    let out = c.args.out.now.items in
    let above = c.args.above in
    let k = c.widths._width-index in
    c.in_ok-push.ensures.items ∙ ap (λ (ns : List ℕ). ns ++ above ∷ []) c.widths.invariant ∙ append_assoc out (map (λ (width : ℕ). above) (take k c.args.widths.now)) (above ∷ [])
    ∙ ap (λ (ns : List ℕ). out ++ ns) (sym (map_more (λ (width : ℕ). above) c.args.widths.now k 0 c.widths-test.true))
