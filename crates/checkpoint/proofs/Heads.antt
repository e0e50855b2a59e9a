-- The numbers of the head, which are judged in their order.
use Rattle.std.proofs.Common.{◌≡◌, ℕ, ◌+◌, ◌<◌, ◌≤◌, List, ◌∷◌, length, drop, get_or, Option, Some, None, ap, ◌∙◌}
use Rattle.std.proofs.lemmas.List.{drop_more}
use Rattle.std.proofs.Math.ListN.{drop_of_length-le}
use Rattle.checkpoint.specs.Resumed.{other_machine}
use Rattle.checkpoint.specs.declared.ResumeRefusal.{ResumeRefusal}

abbrev judged_from : List ℕ → ℕ → List ℕ → Option ResumeRefusal
judged_from numbers at words = other_machine numbers at (drop at words)

module _ (all numbers : List ℕ) (k at : ℕ) (words : List ℕ) (so_far : judged_from all 2 words ≡ judged_from (drop k numbers) at words) (inside : k < length numbers) where
  pub number_refused : (d : ℕ) (r : ResumeRefusal) → ((ns : List ℕ) → judged_from (get_or numbers k d ∷ ns) at words ≡ Some r) → judged_from all 2 words ≡ Some r
  number_refused d r refused = so_far ∙ ap (λ ns. judged_from ns at words) (drop_more numbers k d inside) ∙ refused (drop (k + 1) numbers)

  pub number_fits : (d : ℕ) → ((ns : List ℕ) → judged_from (get_or numbers k d ∷ ns) at words ≡ judged_from ns (at + 1) words) → judged_from all 2 words ≡ judged_from (drop (k + 1) numbers) (at + 1) words
  number_fits d fits = so_far ∙ ap (λ ns. judged_from ns at words) (drop_more numbers k d inside) ∙ fits (drop (k + 1) numbers)

-- no number is left
pub numbers_fit : (all numbers : List ℕ) (k at : ℕ) (words : List ℕ) → judged_from all 2 words ≡ judged_from (drop k numbers) at words → length numbers ≤ k → judged_from all 2 words ≡ None
numbers_fit all numbers k at words so_far past = so_far ∙ ap (λ ns. judged_from ns at words) (drop_of_length-le numbers past)
