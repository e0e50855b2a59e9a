-- Text that can be within a page as it is.
use Rattle.std.specs.Prelude.{◌≡◌, ℕ, Bool, true, not, ◌||◌, nat_eq, List}
use Rattle.std.specs.List.{list_all}

-- `&`, `<` or `>`
abbrev pub is_markup : ℕ → Bool
is_markup byte = nat_eq byte 38 || (nat_eq byte 60 || nat_eq byte 62)

abbrev pub HasNoMarkup : List ℕ → Type 0
HasNoMarkup text = list_all (λ byte. not (is_markup byte)) text ≡ true
