-- How many copies of an item stand in a list, where its parts keep them otherwise than its value has them.
use Rattle.std.proofs.Common.{◌≡◌, ℕ, Bool, true, false, cond, List, [], ◌∷◌, length, map, filter, refl, sym, ap, ◌∙◌}
use Rattle.std.specs.List.{count_by}
use Rattle.std.proofs.lemmas.List.{length-map}
use Rattle.std.proofs.lemmas.List.Sums.{length-filter}
use Rattle.bus_judging.specs.TreeModel.State.Values.{CopyValue}
use Rattle.bus_judging.specs.TreeModel.State.Leaf.{copy_words, is_copy, words_of_item}

module _ {X : Type 0} (f : X → CopyValue) where
  passing-map : (x : ℕ) (l : List X) → filter (is_copy x) (map f l) ≡ map f (filter (λ r. is_copy x (f r)) l)
  passing-map x [] = refl
  passing-map x (r ∷ rs) = by_test (is_copy x (f r)) (passing-map x rs)
    where
      by_test : (b : Bool) → filter (is_copy x) (map f rs) ≡ map f (filter (λ r. is_copy x (f r)) rs) → cond b (f r ∷ filter (is_copy x) (map f rs)) (filter (is_copy x) (map f rs)) ≡ map f (cond b (r ∷ filter (λ r. is_copy x (f r)) rs) (filter (λ r. is_copy x (f r)) rs))
      by_test true e = ap (λ cs. f r ∷ cs) e
      by_test false e = e

  pub copies-counted : (x : ℕ) (l : List X) → count_by (λ r. is_copy x (f r)) l ≡ length (words_of_item x (map f l))
  unfolding words_of_item
  copies-counted x l =
      let kept = filter (λ r. is_copy x (f r)) l in
      sym (length-filter (λ r. is_copy x (f r)) l) ∙ sym (length-map kept f) ∙ sym (ap length (passing-map x l)) ∙ sym (length-map (filter (is_copy x) (map f l)) copy_words)
