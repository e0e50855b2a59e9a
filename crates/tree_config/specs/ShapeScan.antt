-- What one pass over the text of a shape finds, byte by byte and with a small state.
use Rattle.std.specs.Prelude.{ℕ, zero, suc, ◌+◌, ◌-◌, Bool, true, false, ◌&&◌, nat_eq, List, [], ◌∷◌, Option, Some, None, if◌then◌else◌}
use Rattle.std.specs.Option.{option_map_or}
use Rattle.tree_config.specs.declared.shape_text.Progress.{Progress}
use Rattle.tree_config.specs.declared.shape_text.Progress.TheVariants as progress
use Rattle.tree_config.specs.ShapeText.{leaf_byte, open_byte, close_byte}

-- ---- whether it is a shape

-- a group is closed round which this many are open
abbrev pub closed : ℕ → Progress
closed zero = progress.Whole
closed (suc n) = progress.Open n false

-- how far the text is with one byte more, where some shape goes on so
abbrev pub progress_after : Progress → ℕ → Option Progress
progress_after progress.Nothing b = if nat_eq b open_byte then Some (progress.Open 0 true) else None
progress_after (progress.Open outer empty) b =
    if nat_eq b leaf_byte then Some (progress.Open outer false)
    else (if nat_eq b open_byte then Some (progress.Open (outer + 1) true)
    else (if nat_eq b close_byte then (if empty then None else Some (closed outer)) else None))
progress_after progress.Whole b = None

abbrev pub is_whole : Progress → Bool
is_whole progress.Nothing = false
is_whole (progress.Open outer empty) = false
is_whole progress.Whole = true

-- how many groups are open
abbrev pub open_count : Progress → ℕ
open_count progress.Nothing = 0
open_count (progress.Open outer empty) = outer + 1
open_count progress.Whole = 0

-- the place that keeps the rest of the text from being that of a shape, if there is one
unfoldable pub place_from : Progress → ℕ → List ℕ → Option ℕ
place_from p at [] = if is_whole p then None else Some at
place_from p at (b ∷ bs) = option_map_or (λ next. place_from next (at + 1) bs) (progress_after p b) (Some at)

-- ---- how deep it is

-- how many groups are open behind a byte
abbrev pub depth_after : ℕ → ℕ → ℕ
depth_after depth b = if nat_eq b open_byte then depth + 1 else (if nat_eq b close_byte then depth - 1 else depth)

-- an element more in front, if it is to be
abbrev pub with_if : Bool → ℕ → List ℕ → List ℕ
with_if true n ns = n ∷ ns
with_if false n ns = ns

-- how many groups are round each leaf of the rest of a text
unfoldable pub depths_in : ℕ → List ℕ → List ℕ
depths_in depth [] = []
depths_in depth (b ∷ bs) = with_if (nat_eq b leaf_byte) depth (depths_in (depth_after depth b) bs)

-- ---- how wide its groups are

-- a group of the level ends here; a level's groups have as many groups round them as the level's number says
abbrev pub ends_group : ℕ → ℕ → ℕ → Bool
ends_group level depth b = nat_eq depth (level + 1) && nat_eq b close_byte

-- how many nodes the level's group has so far
abbrev pub count_after : ℕ → ℕ → ℕ → ℕ → ℕ
count_after level depth count b = if nat_eq depth (level + 1) then (if nat_eq b close_byte then 0 else count + 1) else count

-- the numbers of nodes of the level's groups that end in the rest of a text
unfoldable pub widths_in : ℕ → ℕ → ℕ → List ℕ → List ℕ
widths_in level depth count [] = []
widths_in level depth count (b ∷ bs) =
    with_if (ends_group level depth b) count (widths_in level (depth_after depth b) (count_after level depth count b) bs)
