use Rattle.std.proofs.Common.{◌≡◌, ℕ, List, ◌++◌}
use Rattle.std.specs.List.{AllByRecursion}
use Rattle.film_parts.specs.StateWords.Parts.{counted, item_and_words}
use Rattle.film_parts.specs.TreeModel.State.Values.{CopyValue}
use Rattle.film_parts.specs.ValueLaws.Values.{CopyHasForm}
use Rattle.film_model.specs.Leaf.{copy_text}
use Rattle.film_parts.proofs.ListSteps.{At}
use Rattle.film_parts.proofs.lists.push_copies.Given as goal

abbrev pub invariant-entries : goal.invariant-entries
invariant-entries l = (cs : List CopyValue) (rest : List ℕ) → l.fn.words ≡ counted item_and_words cs ++ rest → AllByRecursion (CopyHasForm l.width) cs → At item_and_words copy_text cs rest l.fn.out.items l._place l.words l.out.items
