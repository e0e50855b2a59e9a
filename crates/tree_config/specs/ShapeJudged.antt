-- The judgement of a text that is a shape, from what the scans find in it.
use Rattle.std.specs.Prelude.{ℕ, not, nat_eq, nat_lt, List, map, slice_index, Result, Ok, Err, if◌then◌else◌}
use Rattle.std.specs.List.{list_any, range_with_len}
use Rattle.tree_config.specs.declared.refusal.TreeRefusal.{TreeRefusal}
use Rattle.tree_config.specs.declared.refusal.TreeRefusal.TheVariants as refusal
use Rattle.tree_config.specs.Levels.{leaves_of, widths_of}
use Rattle.tree_config.specs.ShapeScan.{depths_in, widths_in}

abbrev pub text_depth : List ℕ → ℕ
text_depth text = slice_index (depths_in 0 text) 0

abbrev pub text_levels : List ℕ → List (List ℕ)
text_levels text = map (λ level. widths_in level 0 0 text) (range_with_len 0 (text_depth text))

abbrev pub judged_levels : List (List ℕ) → Result (List (List ℕ)) TreeRefusal
judged_levels levels =
    if list_any (nat_lt 16) (widths_of levels) then Err refusal.TooWide
    else (if nat_lt 64 (leaves_of levels) then Err refusal.TooManyLeaves else Ok levels)

abbrev pub judged_text : List ℕ → Result (List (List ℕ)) TreeRefusal
judged_text text =
    if list_any (λ d. not (nat_eq d (text_depth text))) (depths_in 0 text) then Err refusal.Uneven
    else (if nat_lt 4 (text_depth text) then Err refusal.TooDeep else judged_levels (text_levels text))
