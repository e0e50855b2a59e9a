-- The page of a run from the texts that were put one behind the other.
use Rattle.std.proofs.Common.{◌≡◌, ℕ, List, [], ◌++◌, ap, ◌∙◌}
use Rattle.page_bytes.specs.Page.{page_back, page_front}
use Rattle.film_runs.specs.DdmText.Adds.{Adds, alone}
use Rattle.film_runs.specs.DdmTypes.declared.turns.Turn.{Turn}
use Rattle.film_runs.specs.FilmModel.Film.{film_of}
use Rattle.film_runs.specs.Paged.{page_of}
use Rattle.film_runs.specs.TreeModel.Start.Sources.{TreeValue}
use Rattle.film_runs.specs.TreeModel.State.Values.{MachineValue}

pub whole_page : (none front filmed whole film : List ℕ) (t : TreeValue) (turns : List Turn) (m : MachineValue) → none ≡ [] → Adds none front page_front → filmed ≡ front ++ film → film ≡ film_of t turns m → Adds filmed whole page_back → whole ≡ page_of t turns m
unfolding page_of
whole_page none front filmed whole film t turns m empty before put is behind =
    behind.is ∙ ap (λ (text : List ℕ). text ++ page_back) (put ∙ ap (λ (text : List ℕ). text ++ film) (alone before empty) ∙ ap (λ (text : List ℕ). page_front ++ text) is)
