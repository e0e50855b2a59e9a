-- The parked copy that leaves.
use Rattle.std.proofs.Common.{◌≡◌, ◌∙◌, ap, sym, subst, refl, ℕ, zero, suc, ◌<◌, ◌%◌, Bool, true, false, cond, nat_eq, List, [], ◌∷◌, length, Option, Some, None, IfSome, is_some, option_map}
use Rattle.std.specs.List.{find, slice_get}
use Rattle.std.proofs.lemmas.Bool.{eq-eqb}
use Rattle.std.proofs.lemmas.List.Elements.{All-get_or}
use Rattle.std.proofs.lemmas.Option.{get_or_from_slice_get, slice_get_within}
use Rattle.directory.specs.TreeModel.State.Lists.{chosen}
use Rattle.directory.specs.TreeModel.State.Values.{CopyValue, DirValue}
use Rattle.directory.specs.TreeModel.State.Leaf.{is_copy, copy_item, copy_words}
use Rattle.directory.specs.TreeModel.State.Directory.{parked_words, dir_leaving}
use Rattle.directory.specs.DirParts.{AreCopiesBelow}
use Rattle.directory.proofs.Lists.{parked-words}

pub leaving-chosen : (choice : ℕ) (parked : List CopyValue) → chosen copy_item choice parked ≡ dir_leaving choice parked
unfolding dir_leaving
leaving-chosen choice parked = refl

given-each : (P : ℕ → Type 0) (o : Option CopyValue) → ((c : CopyValue) → o ≡ Some c → P c.item) → IfSome (option_map copy_item o) P
given-each P None each = tt
given-each P (Some c) each = each c refl

-- what holds of the item of each copy holds of that of the one that leaves
leaving-each : (P : ℕ → Type 0) (choice : ℕ) (parked : List CopyValue) → ((i : ℕ) (c : CopyValue) → slice_get parked i ≡ Some c → P c.item) → IfSome (dir_leaving choice parked) P
unfolding dir_leaving
leaving-each P choice [] each = tt
leaving-each P choice (c ∷ cs) each = given-each P (slice_get (c ∷ cs) (choice % length (c ∷ cs))) (each (choice % length (c ∷ cs)))

pub leaving-below : (n choice : ℕ) (parked : List CopyValue) → AreCopiesBelow n parked → IfSome (dir_leaving choice parked) (λ x. x < n)
leaving-below n choice parked below =
    leaving-each (λ x. x < n) choice parked (λ i c is.
    subst (λ y. y.item < n) (get_or_from_slice_get parked i c c is) (All-get_or (λ y. y.item < n) parked i c (slice_get_within parked i c is) below))

copy-found : (i : ℕ) (c : CopyValue) (parked : List CopyValue) → slice_get parked i ≡ Some c → is_some (option_map copy_words (find (is_copy c.item) parked)) ≡ true
copy-found i c [] is = cc
copy-found zero c (y ∷ ys) is =
    let same : y ≡ c = cc in
    let here : nat_eq c.item y.item ≡ true = eq-eqb c.item y.item (ap copy_item (sym same)) in
    rw here refl
copy-found (suc i) c (y ∷ ys) is = by_test (nat_eq c.item y.item) (copy-found i c ys is)
  where
    by_test : (b : Bool) → is_some (option_map copy_words (find (is_copy c.item) ys)) ≡ true → is_some (option_map copy_words (cond b (Some y) (find (is_copy c.item) ys))) ≡ true
    by_test true e = refl
    by_test false e = e

-- the copy that leaves is there
pub leaving-there : (choice : ℕ) (d : DirValue) → IfSome (dir_leaving choice d.parked) (λ x. is_some (parked_words x d) ≡ true)
leaving-there choice d =
    leaving-each (λ x. is_some (parked_words x d) ≡ true) choice d.parked (λ i c is. ap is_some (parked-words c.item d.parked) ∙ copy-found i c d.parked is)
