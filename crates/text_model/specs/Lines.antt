-- Texts without line feeds.
use Rattle.std.specs.Prelude.{◌≡◌, ℕ, true, not, nat_eq, List}
use Rattle.std.specs.List.{list_all}

-- no byte of the text is the separator
abbrev pub Lacks : ℕ → List ℕ → Type 0
Lacks separator text = list_all (λ byte. not (nat_eq byte separator)) text ≡ true
