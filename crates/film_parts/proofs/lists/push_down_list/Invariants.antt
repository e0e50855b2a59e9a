use Rattle.std.proofs.Common.{◌≡◌, ℕ, List, ◌++◌}
use Rattle.std.specs.List.{AllByRecursion}
use Rattle.film_parts.specs.StateWords.Parts.{counted, down_words}
use Rattle.film_parts.specs.TreeModel.State.Values.{DownValue}
use Rattle.film_parts.specs.Forms.{IsWide}
use Rattle.film_model.specs.Directory.{down_text}
use Rattle.film_parts.proofs.ListSteps.{At}
use Rattle.film_parts.proofs.lists.push_down_list.Given as goal

abbrev pub invariant-entries : goal.invariant-entries
invariant-entries l = (es : List DownValue) (rest : List ℕ) → l.fn.words ≡ counted down_words es ++ rest → AllByRecursion (IsWide l.width) es → At down_words (down_text l.level) es rest l.fn.out.items l._place l.words l.out.items
