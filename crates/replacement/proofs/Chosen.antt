-- Which of the entries in order a choice names.
use Rattle.std.proofs.Common.{◌≡◌, ◌∙◌, ap, ℕ, ◌<◌, ◌%◌, List, [], ◌∷◌, length, Some, None, get_or, refl, sym, arith}
use Rattle.std.specs.Option.{option_map}
use Rattle.std.specs.List.{slice_get}
use Rattle.std.proofs.lemmas.Option.{slice_get_read}
use Rattle.replacement.specs.TreeModel.State.Lists.{chosen}

pub chosen_none : {X : Type 0} (named : X → ℕ) (choice : ℕ) (xs : List X) → length xs ≡ 0 → chosen named choice xs ≡ None
chosen_none named choice [] e = refl
chosen_none named choice (x ∷ xs) e = absurd (omega arith)

-- the choice 0 names the first, if there is one
pub chosen_first : {X : Type 0} (named : X → ℕ) (xs : List X) → option_map named (slice_get xs 0) ≡ chosen named 0 xs
chosen_first named [] = refl
chosen_first named (x ∷ xs) =
    let none : 0 % length (x ∷ xs) ≡ 0 = omega arith in
    ap (λ k. option_map named (slice_get (x ∷ xs) k)) (sym none)

pub chosen_some : {X : Type 0} (named : X → ℕ) (choice : ℕ) (xs : List X) → 0 < length xs → chosen named choice xs ≡ option_map named (slice_get xs (choice % length xs))
chosen_some named choice [] h = absurd (omega arith)
chosen_some named choice (x ∷ xs) h = refl

pub chosen_at : {X : Type 0} (named : X → ℕ) (choice : ℕ) (xs : List X) (e : X) → choice % length xs < length xs → e ≡ get_or xs (choice % length xs) e → chosen named choice xs ≡ Some (named e)
chosen_at named choice xs e h is =
    let some : 0 < length xs = omega arith in
    chosen_some named choice xs some ∙ ap (option_map named) (slice_get_read xs (length xs) (choice % length xs) e refl h is)
