use Rattle.std.proofs.Common.{◌≡◌, ℕ, List, ◌++◌}
use Rattle.std.specs.List.{AllByRecursion}
use Rattle.film_parts.specs.StateWords.Parts.{counted, buffer_words}
use Rattle.film_parts.specs.TreeModel.State.Values.{BufferValue}
use Rattle.film_parts.specs.ValueLaws.Values.{BufferHasForm}
use Rattle.film_model.specs.Leaf.{buffer_text}
use Rattle.film_parts.proofs.ListSteps.{At}
use Rattle.film_parts.proofs.lists.push_buffer.Given as goal

abbrev pub invariant-entries : goal.invariant-entries
invariant-entries l = (es : List BufferValue) (rest : List ℕ) → l.fn.words ≡ counted buffer_words es ++ rest → AllByRecursion (BufferHasForm l.width) es → At buffer_words buffer_text es rest l.fn.out.items l._place l.words l.out.items
