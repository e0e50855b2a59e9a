-- The records of items, one item more at a time.
use Rattle.std.proofs.Common.{◌≡◌, ℕ, zero, suc, ◌+◌, ◌<◌, ◌++◌, Bool, List, [], ◌∷◌, length, take, get_or, sym, ap, ◌∙◌, arith, add-one, add-zero, zero-add, append_assoc}
use Rattle.std.proofs.lemmas.List.{append-nil}
use Rattle.directory.specs.TreeModel.State.Values.{DirItem}
use Rattle.directory.specs.StateWords.Parts.{record_of, records_from}

module _ (top : Bool) where
  further : (x k : ℕ) (items : List DirItem) (d : DirItem) → k < length items → records_from top x (take (suc k) items) ≡ records_from top x (take k items) ++ record_of top (x + k) (get_or items k d)
  unfolding records_from
  further x k [] d inside = absurd (omega (arith, inside))
  further x zero (i ∷ more) d inside = append-nil (record_of top x i) ∙ ap (λ n. record_of top n i) (sym (add-zero x))
  further x (suc k) (i ∷ more) d inside =
      let next : x + 1 + k ≡ x + suc k = omega arith in
      let rest = further (x + 1) k more d (omega (arith, inside)) in
      ap (λ t. record_of top x i ++ t) (rest ∙ ap (λ n. records_from top (x + 1) (take k more) ++ record_of top n (get_or more k d)) next)
      ∙ sym (append_assoc (record_of top x i) (records_from top (x + 1) (take k more)) (record_of top (x + suc k) (get_or more k d)))

  pub records_more : (k : ℕ) (items : List DirItem) (d : DirItem) → k < length items → records_from top 0 (take (k + 1) items) ≡ records_from top 0 (take k items) ++ record_of top k (get_or items k d)
  records_more k items d inside = rw add-one (further 0 k items d inside ∙ ap (λ n. records_from top 0 (take k items) ++ record_of top n (get_or items k d)) (zero-add k))
