-- What a search, a test and a map over the children come to while a loop goes over them, seen through their values by f.
-- The loop is at i.
use Rattle.std.proofs.Common.{◌≡◌, ℕ, zero, suc, ◌+◌, ◌<◌, ◌≤◌, Bool, true, false, List, [], ◌∷◌, length, get_or, drop, set, map, cond, refl, sym, ◌∙◌, ap, arith, All, add-one, Option, Some, None, is_some}
use Rattle.std.proofs.lemmas.List.{get_or-map, map-set, length-map}
use Rattle.std.proofs.lemmas.List.Elements.{All-get_or}
use Rattle.split_bus.specs.TreeModel.State.Lists.{map_from, find_from, first_given, first_some}
use Rattle.split_bus.proofs.TreeModel.Children.{none-given}

-- g of each index and element, at the first k elements alone
abbrev pub map_first : {X : Type 0} → (ℕ → X → X) → ℕ → ℕ → List X → List X
map_first g zero i xs = xs
map_first g (suc k) i [] = []
map_first g (suc k) i (x ∷ xs) = g i x ∷ map_first g k (i + 1) xs

first_some-first : {Y : Type 0} (a b : Option Y) → is_some a ≡ true → first_some a b ≡ a
first_some-first (Some y) b e = refl
first_some-first None b e = cc

first_some-second : {Y : Type 0} (a b : Option Y) → is_some a ≡ false → first_some a b ≡ b
first_some-second (Some y) b e = cc
first_some-second None b e = refl

-- ---- over one list

module _ {X : Type 0} where
  find_from-drop : (t : ℕ → X → Bool) (i j : ℕ) (xs : List X) (d : X) → i < length xs → find_from t j (drop i xs) ≡ cond (t j (get_or xs i d)) (Some j) (find_from t (j + 1) (drop (suc i) xs))
  find_from-drop t i j [] d h = absurd (omega arith)
  find_from-drop t zero j (x ∷ xs) d h = refl
  find_from-drop t (suc i) j (x ∷ xs) d h = find_from-drop t i j xs d (omega arith)

  first_given-drop : {Y : Type 0} (t : ℕ → X → Option Y) (i j : ℕ) (xs : List X) (d : X) → i < length xs → first_given t j (drop i xs) ≡ first_some (t j (get_or xs i d)) (first_given t (j + 1) (drop (suc i) xs))
  first_given-drop t i j [] d h = absurd (omega arith)
  first_given-drop t zero j (x ∷ xs) d h = refl
  first_given-drop t (suc i) j (x ∷ xs) d h = first_given-drop t i j xs d (omega arith)

  get_or-map_first : (g : ℕ → X → X) (k i j : ℕ) (xs : List X) (d : X) → k ≤ j → get_or (map_first g k i xs) j d ≡ get_or xs j d
  get_or-map_first g zero i j xs d h = refl
  get_or-map_first g (suc k) i j [] d h = refl
  get_or-map_first g (suc k) i zero (x ∷ xs) d h = absurd (omega arith)
  get_or-map_first g (suc k) i (suc j) (x ∷ xs) d h = get_or-map_first g k (i + 1) j xs d (omega arith)

  map_first-set : (g : ℕ → X → X) (k i : ℕ) (xs : List X) (x : X) → k < length xs → x ≡ get_or xs k x → set (map_first g k i xs) k (g (i + k) x) ≡ map_first g (suc k) i xs
  map_first-set g k i [] x h e = absurd (omega arith)
  map_first-set g zero i (y ∷ ys) x h e =
      let z : i + 0 ≡ i = omega arith in
      rw (z, e)
  map_first-set g (suc k) i (y ∷ ys) x h e =
      let at : i + suc k ≡ i + 1 + k = omega arith in
      rw at (ap (λ zs. g i y ∷ zs) (map_first-set g k (i + 1) ys x (omega arith) e))

  map_first-all : (g : ℕ → X → X) (k i : ℕ) (xs : List X) → length xs ≤ k → map_first g k i xs ≡ map_from g i xs
  map_first-all g zero i [] h = refl
  map_first-all g zero i (x ∷ xs) h = absurd (omega arith)
  map_first-all g (suc k) i [] h = refl
  map_first-all g (suc k) i (x ∷ xs) h = ap (λ zs. g i x ∷ zs) (map_first-all g k (i + 1) xs (omega arith))

-- ---- over the children

module _ {A X : Type 0} (f : A → X) (xs : List A) (i : ℕ) (x : A) (within : i < length xs) (is : x ≡ get_or xs i x) where
  -- what holds of each holds of the one at i
  pub here-all : (P : X → Type 0) → All P (map f xs) → P (f x)
  here-all P all =
      let here = All-get_or P (map f xs) i (f x) (omega (arith, length-map xs f)) all in
      rw (get_or-map f xs i x (f x) within, ← is) at here

  -- a search ends at i, or goes on
  pub find_from-next : (t : ℕ → X → Bool) → find_from t i (drop i (map f xs)) ≡ cond (t i (f x)) (Some i) (find_from t (i + 1) (drop (i + 1) (map f xs)))
  find_from-next t =
      let e = find_from-drop t i i (map f xs) (f x) (omega (arith, length-map xs f)) in
      rw (get_or-map f xs i x (f x) within, ← is, ← add-one i) at e

  first_given-next : {Y : Type 0} (t : ℕ → X → Option Y) → first_given t i (drop i (map f xs)) ≡ first_some (t i (f x)) (first_given t (i + 1) (drop (i + 1) (map f xs)))
  first_given-next t =
      let e = first_given-drop t i i (map f xs) (f x) (omega (arith, length-map xs f)) in
      rw (get_or-map f xs i x (f x) within, ← is, ← add-one i) at e

  -- a test ends at i, or goes on
  pub first_given-here : {Y : Type 0} (t : ℕ → X → Option Y) → is_some (t i (f x)) ≡ true → first_given t i (drop i (map f xs)) ≡ t i (f x)
  first_given-here t gives = first_given-next t ∙ first_some-first _ _ gives

  pub first_given-past : {Y : Type 0} (t : ℕ → X → Option Y) → is_some (t i (f x)) ≡ false → first_given t i (drop i (map f xs)) ≡ first_given t (i + 1) (drop (i + 1) (map f xs))
  first_given-past t not = first_given-next t ∙ first_some-second _ _ not

-- the children are now ys; each child below i was told its part, by g
module _ {A X : Type 0} (f : A → X) (g : ℕ → X → X) (ys xs : List A) (i : ℕ) (d : A) (within : i < length xs) (same : length ys ≡ length xs) (so_far : map f ys ≡ map_first g i 0 (map f xs)) where
  -- the child at i is as it was
  told-not_yet : (e : X) → f (get_or ys i d) ≡ get_or (map f xs) i e
  told-not_yet e = sym (get_or-map f ys i d e (omega arith)) ∙ ap (λ zs. get_or zs i e) so_far ∙ get_or-map_first g i 0 i (map f xs) e (omega arith)

  -- what held of each when the loop began holds of the one at i
  pub told-all : (P : X → Type 0) → All P (map f xs) → P (f (get_or ys i d))
  told-all P all =
      let here = All-get_or P (map f xs) i (f d) (omega (arith, length-map xs f)) all in
      rw (told-not_yet (f d)) here

  -- where no child gave anything when the loop began, the one at i doesn't
  pub told-none : {Y : Type 0} (t : ℕ → X → Option Y) → first_given t 0 (map f xs) ≡ None → t i (f (get_or ys i d)) ≡ None
  told-none t none =
      let here = none-given t i (map f xs) (f d) none (omega (arith, length-map xs f)) in
      rw (told-not_yet (f d)) here

  -- the child at i was told too
  pub told-next : (y : A) → f y ≡ g i (f (get_or ys i d)) → map f (set ys i y) ≡ map_first g (i + 1) 0 (map f xs)
  told-next y e =
      let x : X = f (get_or ys i d) in
      let step = map_first-set g i 0 (map f xs) x (omega (arith, length-map xs f)) (told-not_yet x) in
      let zero_i : 0 + i ≡ i = omega arith in
      map-set f ys i y ∙ ap (λ z. set (map f ys) i z) e ∙ ap (λ zs. set zs i (g i x)) so_far ∙ ap (λ j. set (map_first g i 0 (map f xs)) i (g j x)) (sym zero_i) ∙ step ∙ ap (λ k. map_first g k 0 (map f xs)) (sym (add-one i))

-- each child was told
pub told-done : {A X : Type 0} (f : A → X) (g : ℕ → X → X) (ys xs : List A) (i : ℕ) → map f ys ≡ map_first g i 0 (map f xs) → length xs ≤ i → map f ys ≡ map_from g 0 (map f xs)
told-done f g ys xs i so_far h = so_far ∙ map_first-all g i 0 (map f xs) (omega (arith, length-map xs f))
