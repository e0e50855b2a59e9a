use Rattle.std.proofs.Common.{◌≡◌, ◌-◌, ◌++◌, drop, length}
use Rattle.page_bytes.specs.Page.{back_parts}
use Rattle.page_bytes.proofs.Parts.{joined}
use Rattle.page_bytes.proofs.pushing.push_back.Given as goal

abbrev pub invariant-parts : goal.invariant-parts
invariant-parts l = l.out.items ++ joined (drop l.number back_parts) ≡ l.initial.out.items ++ joined back_parts

abbrev pub decreases-parts : goal.decreases-parts
decreases-parts l = length back_parts - l.number
