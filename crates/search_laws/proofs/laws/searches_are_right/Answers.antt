use Rattle.std.proofs.Common.{◌≡◌, true}
use Rattle.search_laws.proofs.Right.{search-right}
use Rattle.search_laws.proofs.laws.searches_are_right.Goals as goal

pub returns : goal.returns
returns c = λ space alike is_quiet is_fit keeps stay first most m. search-right space (λ s r. alike s r ≡ true) keeps stay (λ s t. is_quiet s t ≡ true) (λ s. is_fit s ≡ true) first most m
