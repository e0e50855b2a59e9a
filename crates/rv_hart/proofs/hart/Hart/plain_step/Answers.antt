use Rattle.std.proofs.Common.{w32, rules}
use Rattle.std.proofs.lemmas.Int.{to_z-of_z}
use mir.Val.{SFits}
use Rattle.rv_hart.proofs.hart.Hart.plain_step.Goals as goal

pub returns-in-Branch-clause-value : goal.returns-in-Branch-clause-value
returns-in-Branch-clause-value c = λ items.
    let fits : SFits w32 c.in-Branch.offset = search rules in
    rw c.in-Branch.is (simp to_z-of_z at (c.branch_step.ensures.value items))
