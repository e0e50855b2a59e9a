use Rattle.std.specs.Prelude.{List, ◌∷◌, Bool, false, nat_eq}
use Rattle.std.proofs.Common.{refl, ap}
use Rattle.std.proofs.lemmas.Bool.{true≢false}
use Rattle.tree_rules.specs.Computing.{rules_compute}
use Rattle.broken_runs.specs.DdmTypes.declared.operations.Effect.{Effect}
use Rattle.broken_runs.specs.DdmTypes.declared.operations.Op.{Op}
use Rattle.broken_runs.proofs.other_answers.Goals as goal

-- an operation that stores 7
stores_7 : Effect → Bool
stores_7 (Effect.Store address before after) = nat_eq after 7
stores_7 _ = false

-- the second of them does
second_stores_7 : List Op → Bool
second_stores_7 (o ∷ p ∷ ops) = stores_7 p.effect
second_stores_7 _ = false

pub returns-clause-other_operations : goal.returns-clause-other_operations
unfolding stores_7 second_stores_7
returns-clause-other_operations c = record {
  kept = refl;
  other = λ h. true≢false (ap second_stores_7 h);
  waiting = λ h. true≢false (ap second_stores_7 h);
  busy = λ h. true≢false (ap second_stores_7 h);
}

pub returns-clause-halts_hart_0 : goal.returns-clause-halts_hart_0
returns-clause-halts_hart_0 c = λ w. true≢false (w refl)

pub returns-clause-other_causes : goal.returns-clause-other_causes
unfolding rules_compute
returns-clause-other_causes c = record { at_start = refl; read_under_way = refl; no_room = refl; erase_under_way = refl }
