use Rattle.std.specs.Prelude.{List, Bool, false, nat_eq, Option, Some, None, is_some, slice_index_or, ℕ}
use Rattle.std.proofs.Common.{arith, ap, ◌∙◌}
use Rattle.std.proofs.lemmas.Bool.{true≢false, false≢true}
use Rattle.tree_rules.specs.Computing.{rules_compute}
use Rattle.broken_runs.specs.TreeModel.Turns.Found.{FoundValue}
use Rattle.broken_runs.proofs.stale_copies.Goals as goal

-- the copy's first word is 5
begins_with_5 : List ℕ → Bool
begins_with_5 words = nat_eq (slice_index_or words 0 0) 5

copy_begins_with_5 : Option FoundValue → Bool
copy_begins_with_5 None = false
copy_begins_with_5 (Some copy) = begins_with_5 copy.words

pub returns-clause-stale_copy : goal.returns-clause-stale_copy
unfolding rules_compute begins_with_5 copy_begins_with_5
returns-clause-stale_copy c = λ w. let copy = w.copies 0 (omega arith) in true≢false (ap copy_begins_with_5 copy.is ∙ ap begins_with_5 copy.words)

pub returns-clause-no_copy : goal.returns-clause-no_copy
unfolding rules_compute
returns-clause-no_copy c = λ w. let copy = w.copies 0 (omega arith) in false≢true (ap is_some copy.is)

pub returns-clause-no_copy_of_the_second : goal.returns-clause-no_copy_of_the_second
unfolding rules_compute
returns-clause-no_copy_of_the_second c = λ w. let copy = w.copies 1 (omega arith) in false≢true (ap is_some copy.is)
