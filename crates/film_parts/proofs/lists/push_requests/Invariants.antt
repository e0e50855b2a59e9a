use Rattle.std.proofs.Common.{◌≡◌, ℕ, List, ◌++◌}
use Rattle.film_parts.specs.StateWords.Parts.{counted, request_words}
use Rattle.film_parts.specs.TreeModel.State.Values.{RequestValue}
use Rattle.film_model.specs.Leaf.{request_text}
use Rattle.film_parts.proofs.ListSteps.{At}
use Rattle.film_parts.proofs.lists.push_requests.Given as goal

abbrev pub invariant-entries : goal.invariant-entries
invariant-entries l = (rs : List RequestValue) (rest : List ℕ) → l.fn.words ≡ counted request_words rs ++ rest → At request_words request_text rs rest l.fn.out.items l._place l.words l.out.items
