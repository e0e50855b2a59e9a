use Rattle.std.proofs.Common.{◌≡◌, drop}
use Rattle.leaf_protocol.proofs.Marking.{marked_by}
use Rattle.leaf_protocol.proofs.entries.Entries.mark_held.Given as goal

-- what the tags that are left mark over this is what all of them mark
abbrev pub invariant-loop-tag : goal.invariant-loop-tag
invariant-loop-tag g l = marked_by (drop l.tag-index l.tags) l.held ≡ marked_by l.tags l.fn.held
