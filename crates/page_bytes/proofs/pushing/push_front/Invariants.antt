use Rattle.std.proofs.Common.{◌≡◌, ◌-◌, ◌++◌, drop, length}
use Rattle.page_bytes.specs.Page.{front_parts}
use Rattle.page_bytes.proofs.Parts.{joined}
use Rattle.page_bytes.proofs.pushing.push_front.Given as goal

abbrev pub invariant-parts : goal.invariant-parts
invariant-parts l = l.out.items ++ joined (drop l.number front_parts) ≡ l.initial.out.items ++ joined front_parts

abbrev pub decreases-parts : goal.decreases-parts
decreases-parts l = length front_parts - l.number
