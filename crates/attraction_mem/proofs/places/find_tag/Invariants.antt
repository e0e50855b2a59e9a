use Rattle.std.proofs.Common.{ℕ, ◌+◌, ◌<◌, ◌≤◌}
use Rattle.ddm_types.specs.declared.sizes.LeafState.{LeafState}
use Rattle.attraction_mem.specs.Places.{HasTag}
use Rattle.attraction_mem.proofs.places.find_tag.Given as goal

-- the way that was found has the item's tag, and where none was found, none of those that were looked at has it
abbrev pub invariant-loop-way : goal.invariant-loop-way
invariant-loop-way g l =
    (l.found ≤ g.row.WAYS)
    × (l.found < g.row.WAYS → (s : LeafState) × HasTag l.tags (l.first + l.found) l.item s)
    × ((k : ℕ) (s : LeafState) → k < l.way → HasTag l.tags (l.first + k) l.item s → l.found < g.row.WAYS)
