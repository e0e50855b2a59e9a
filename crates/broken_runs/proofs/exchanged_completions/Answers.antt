use Rattle.std.specs.Prelude.{List, [], ◌∷◌, Bool, false, nat_eq}
use Rattle.std.proofs.Common.{ap}
use Rattle.std.proofs.lemmas.Bool.{true≢false}
use Rattle.tree_rules.specs.Computing.{rules_compute}
use Rattle.broken_runs.specs.DdmTypes.declared.operations.Op.{Op}
use Rattle.broken_runs.proofs.exchanged_completions.Goals as goal

stores_first : List Op → Bool
stores_first [] = false
stores_first (o ∷ os) = nat_eq o.pc 0x10000

pub returns : goal.returns
unfolding rules_compute stores_first
returns c = record { completed_otherwise = λ w. true≢false (ap stores_first (w.own_order 1)) }
