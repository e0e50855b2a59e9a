use Rattle.std.proofs.Common.{◌≡◌, ◌+◌, ◌++◌, drop, take}
use Rattle.film_model.specs.Part.{changed}
use Rattle.film_parts.proofs.lines.put_changed.Given as goal

abbrev pub invariant-loop-at : goal.invariant-loop-at
invariant-loop-at l =
    (l.still ≡ take l.from l.fn.still ++ (take l.at l.parts ++ drop (l.from + l.at) l.fn.still))
    × (l.out.items ++ changed (drop l.at (drop l.from l.fn.still)) (drop l.at l.parts) ≡ l.fn.out.items ++ changed (drop l.from l.fn.still) l.parts)
