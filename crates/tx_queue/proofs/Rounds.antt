-- A ring that is moved round, once past each of its elements, loses its first element that passes.
use Rattle.std.proofs.Common.{◌≡◌, ◌∙◌, ap, sym, refl, ℕ, zero, suc, ◌<◌, ◌≤◌, ◌+◌, Bool, true, false, cond, not, ◌&&◌, ◌||◌, List, [], ◌∷◌, ◌++◌, length, get_or, take, drop, arith, append_assoc, add-one, drop-cons, length-append, length-drop}
use Rattle.std.specs.List.{list_any}
use Rattle.std.proofs.lemmas.List.Folds.{list_any_more}
use Rattle.std.proofs.lemmas.List.{take_more, length-take}
use Rattle.tx_queue.specs.TreeModel.State.Lists.{without_first}
use Rattle.tx_queue.specs.Requests.{rotated, found_so_far}

module _ {X : Type 0} (p : X → Bool) where
  inside : (b : Bool) (y : X) (u v : List X) → y ∷ cond b u v ≡ cond b (y ∷ u) (y ∷ v)
  inside true y u v = refl
  inside false y u v = refl

  step : (b a q : Bool) (y x : X) (ys w v : List X) → v ≡ cond (not a && q) w (w ++ x ∷ []) → cond b (ys ++ x ∷ []) (y ∷ v) ≡ cond (not (b || a) && q) (cond b ys (y ∷ w)) (cond b ys (y ∷ w) ++ x ∷ [])
  step true a q y x ys w v e = refl
  step false a q y x ys w v e = ap (λ zs. y ∷ zs) e ∙ inside (not a && q) y w (w ++ x ∷ [])

  without-append : (xs : List X) (x : X) → without_first p (xs ++ x ∷ []) ≡ cond (not (list_any p xs) && p x) (without_first p xs) (without_first p xs ++ x ∷ [])
  without-append [] x = refl
  without-append (y ∷ ys) x = step (p y) (list_any p ys) (p x) y x ys (without_first p ys) (without_first p (ys ++ x ∷ [])) (without-append ys x)

  outside : (b : Bool) (ys w : List X) (x : X) → cond b (ys ++ w) ((ys ++ w) ++ x ∷ []) ≡ ys ++ cond b w (w ++ x ∷ [])
  outside true ys w x = refl
  outside false ys w x = append_assoc ys w (x ∷ [])

  -- the ring after i steps, where it began as xs
  abbrev pub turned : ℕ → List X → List X
  turned i xs = drop i xs ++ without_first p (take i xs)

  split : (xs : List X) (i : ℕ) (x : X) → i < length xs → x ≡ get_or xs i x → drop i xs ≡ x ∷ drop (i + 1) xs
  split xs i x h is = rw add-one (drop-cons xs i x h ∙ ap (λ y. y ∷ drop (suc i) xs) (sym is))

  more : (xs : List X) (i : ℕ) (x : X) → i < length xs → x ≡ get_or xs i x → take (i + 1) xs ≡ take i xs ++ x ∷ []
  more xs i x h is = take_more xs i x h ∙ ap (λ y. take i xs ++ y ∷ []) (sym is)

  -- one step, where x is the element at i
  turn : (fs ys : List X) (x : X) → rotated p (list_any p fs) ((x ∷ ys) ++ without_first p fs) ≡ ys ++ without_first p (fs ++ x ∷ [])
  turn fs ys x = outside (not (list_any p fs) && p x) ys (without_first p fs) x ∙ ap (λ zs. ys ++ zs) (sym (without-append fs x))

  turned_more_at : (xs : List X) (i : ℕ) (x : X) → i < length xs → x ≡ get_or xs i x → rotated p (list_any p (take i xs)) (turned i xs) ≡ turned (i + 1) xs
  turned_more_at xs i x h is =
      ap (λ zs. rotated p (list_any p (take i xs)) (zs ++ without_first p (take i xs))) (split xs i x h is)
      ∙ turn (take i xs) (drop (i + 1) xs) x
      ∙ ap (λ fs. drop (i + 1) xs ++ without_first p fs) (sym (more xs i x h is))

  found_more_at : (xs : List X) (i : ℕ) (x : X) → i < length xs → x ≡ get_or xs i x → found_so_far p (list_any p (take i xs)) (turned i xs) ≡ list_any p (take (i + 1) xs)
  found_more_at xs i x h is =
      ap (λ zs. found_so_far p (list_any p (take i xs)) (zs ++ without_first p (take i xs))) (split xs i x h is)
      ∙ ap (λ y. list_any p (take i xs) || p y) is
      ∙ sym (list_any_more p xs i x h)

-- the element at i, whatever the list is
at : {X : Type 0} (xs : List X) (i : ℕ) → i < length xs → (x : X) × (x ≡ get_or xs i x)
at [] i h = absurd (omega arith)
at (x ∷ xs) zero h = (x, refl)
at (x ∷ xs) (suc i) h = at xs i (omega arith)

pub turned_more : {X : Type 0} (p : X → Bool) (xs : List X) (i : ℕ) → i < length xs → rotated p (list_any p (take i xs)) (turned p i xs) ≡ turned p (i + 1) xs
turned_more p xs i h = let e = at xs i h in turned_more_at p xs i e.0 h e.1

pub found_more : {X : Type 0} (p : X → Bool) (xs : List X) (i : ℕ) → i < length xs → found_so_far p (list_any p (take i xs)) (turned p i xs) ≡ list_any p (take (i + 1) xs)
found_more p xs i h = let e = at xs i h in found_more_at p xs i e.0 h e.1

length-without : {X : Type 0} (p : X → Bool) (xs : List X) → length (without_first p xs) ≤ length xs
length-without p [] = omega arith
length-without p (x ∷ xs) = by_test (p x) (length-without p xs)
  where
    by_test : (b : Bool) → length (without_first p xs) ≤ length xs → length (cond b xs (x ∷ without_first p xs)) ≤ suc (length xs)
    by_test true h = omega arith
    by_test false h = omega arith

split_length : {X : Type 0} (xs : List X) (i : ℕ) → length (drop i xs) + length (take i xs) ≤ length xs
split_length xs i = omega (arith, length-take i xs, length-drop i xs)

-- the ring has room for its elements all the time
pub turned_fits : {X : Type 0} (p : X → Bool) (xs : List X) (i : ℕ) → length (turned p i xs) ≤ length xs
turned_fits p xs i =
    omega (arith, length-append (drop i xs) (without_first p (take i xs)), length-without p (take i xs), split_length xs i)
