use Rattle.std.proofs.Common.{◌≡◌, ◌∷◌, ◌++◌, [], ℕ, List, Vec, Global, ap, refl, arith}
use Rattle.std.proofs.lemmas.List.FromFn.{map-range_with_len_more}
use Rattle.tree_config.specs.Lists.{lists_of}
use Rattle.tree_config.specs.ShapeScan.{widths_in}
use Rattle.tree_config.proofs.shape_text.level_lists.Goals as goal

lists_of-push : (levels : List (Vec ℕ Global)) (level : Vec ℕ Global) → lists_of (levels ++ level ∷ []) ≡ lists_of levels ++ level.items ∷ []
lists_of-push [] level = refl
lists_of-push (l ∷ ls) level = ap (λ lists. l.items ∷ lists) (lists_of-push ls level)

pub level-preserved : goal.level-preserved
level-preserved c =
    rw (map-range_with_len_more (λ level. widths_in level 0 0 c.args.text.now) 0 c.level.level c.level.level (omega arith))
    (rw (c.in_ok-push.ensures.items, lists_of-push, c.level.invariant, c.in_ok-level_widths.ensures))
