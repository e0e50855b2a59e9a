-- The first entry of an item, where no item stands twice: it is the only one.
use Rattle.std.proofs.Common.{◌≡◌, ◌∙◌, ap, sym, refl, ℕ, ◌+◌, ◌<◌, ◌≤◌, Bool, true, false, cond, not, ◌||◌, nat_eq, nat_lt, List, [], ◌∷◌, map, length, get_or, set, remove, Some, None, position, filter, arith, one-add, eqb-true, ltb-true, ltb-false}
use Rattle.std.specs.List.{list_any, position_or_len}
use Rattle.replacement.specs.TreeModel.State.Shape.{are_distinct}
use Rattle.replacement.specs.TreeModel.State.Lists.{names_item}
use Rattle.std.proofs.lemmas.Option.{cond_some}
use Rattle.replacement.proofs.Finds.{test_of_none}
use Rattle.replacement.proofs.Once.{left, right, first_fails, rest_fails}

module _ {X : Type 0} (named : X → ℕ) where
  abbrev other : ℕ → X → Bool
  other x e = not (names_item named x e)

  -- f changes an entry of the item alone
  abbrev pub Changes : (X → X) → ℕ → Type 0
  Changes f x = (e : X) → names_item named x e ≡ false → f e ≡ e

  none_left : (x : ℕ) (xs : List X) → list_any (nat_eq x) (map named xs) ≡ false → filter (other x) xs ≡ xs
  none_left x [] none = refl
  none_left x (y ∷ ys) none =
      let here : nat_eq x (named y) ≡ false = first_fails _ (list_any (nat_eq x) (map named ys)) none in
      ap (λ b. cond (not b) (y ∷ filter (other x) ys) (filter (other x) ys)) here ∙ ap (λ l. y ∷ l) (none_left x ys (rest_fails (nat_eq x (named y)) _ none))

  none_changes : (f : X → X) (x : ℕ) → Changes f x → (xs : List X) → list_any (nat_eq x) (map named xs) ≡ false → map f xs ≡ xs
  none_changes f x same [] none = refl
  none_changes f x same (y ∷ ys) none =
      let here : nat_eq x (named y) ≡ false = first_fails _ (list_any (nat_eq x) (map named ys)) none in
      ap (λ z. z ∷ map f ys) (same y here) ∙ ap (λ l. y ∷ l) (none_changes f x same ys (rest_fails (nat_eq x (named y)) _ none))

  none_stands : (x : ℕ) (xs : List X) → length xs ≤ position_or_len (names_item named x) xs → list_any (nat_eq x) (map named xs) ≡ false
  none_stands x [] past = refl
  none_stands x (y ∷ ys) past = by_test (nat_eq x (named y)) past (λ h. none_stands x ys h)
    where
      by_test : (b : Bool) → length (y ∷ ys) ≤ cond (not b) (1 + position_or_len (names_item named x) ys) 0 → (length ys ≤ position_or_len (names_item named x) ys → list_any (nat_eq x) (map named ys) ≡ false) → (b || list_any (nat_eq x) (map named ys)) ≡ false
      by_test true past rest = absurd (omega (arith, past))
      by_test false past rest = rest (omega (arith, past))

  only : (x : ℕ) (y : X) (ys : List X) → nat_eq x (named y) ≡ true → are_distinct (map named (y ∷ ys)) ≡ true → list_any (nat_eq x) (map named ys) ≡ false
  only x y ys here once =
      rw (eqb-true x (named y) here) (left (list_any (nat_eq (named y)) (map named ys)) (are_distinct (map named ys)) once)

  later : (y : X) (ys : List X) → are_distinct (map named (y ∷ ys)) ≡ true → are_distinct (map named ys) ≡ true
  later y ys once = right (list_any (nat_eq (named y)) (map named ys)) _ once

  remove_first : (x : ℕ) (xs : List X) → are_distinct (map named xs) ≡ true → position_or_len (names_item named x) xs < length xs → remove xs (position_or_len (names_item named x) xs) ≡ filter (other x) xs
  remove_first x [] once within = absurd (omega arith)
  remove_first x (y ∷ ys) once within = by_test (nat_eq x (named y)) refl within (λ h. remove_first x ys (later y ys once) h)
    where
      by_test : (b : Bool) → nat_eq x (named y) ≡ b → cond (not b) (1 + position_or_len (names_item named x) ys) 0 < length (y ∷ ys) → (position_or_len (names_item named x) ys < length ys → remove ys (position_or_len (names_item named x) ys) ≡ filter (other x) ys) → remove (y ∷ ys) (cond (not b) (1 + position_or_len (names_item named x) ys) 0) ≡ cond (not b) (y ∷ filter (other x) ys) (filter (other x) ys)
      by_test true here within rest = sym (none_left x ys (only x y ys here once))
      by_test false here within rest = rw one-add (ap (λ l. y ∷ l) (rest (omega (arith, within))))

  change_first : (f : X → X) (x : ℕ) → Changes f x → (xs : List X) (e : X) → are_distinct (map named xs) ≡ true → position_or_len (names_item named x) xs < length xs → e ≡ get_or xs (position_or_len (names_item named x) xs) e → set xs (position_or_len (names_item named x) xs) (f e) ≡ map f xs
  change_first f x same [] e once within is = absurd (omega arith)
  change_first f x same (y ∷ ys) e once within is = by_test (nat_eq x (named y)) refl within is (λ h i. change_first f x same ys e (later y ys once) h i)
    where
      by_test : (b : Bool) → nat_eq x (named y) ≡ b → cond (not b) (1 + position_or_len (names_item named x) ys) 0 < length (y ∷ ys) → e ≡ get_or (y ∷ ys) (cond (not b) (1 + position_or_len (names_item named x) ys) 0) e → (position_or_len (names_item named x) ys < length ys → e ≡ get_or ys (position_or_len (names_item named x) ys) e → set ys (position_or_len (names_item named x) ys) (f e) ≡ map f ys) → set (y ∷ ys) (cond (not b) (1 + position_or_len (names_item named x) ys) 0) (f e) ≡ f y ∷ map f ys
      by_test true here within is rest = ap (λ z. f z ∷ ys) is ∙ ap (λ l. f y ∷ l) (sym (none_changes f x same ys (only x y ys here once)))
      by_test false here within is rest =
          rw one-add (ap (λ z. z ∷ set ys (position_or_len (names_item named x) ys) (f e)) (sym (same y here)) ∙ ap (λ l. f y ∷ l) (rest (omega (arith, within)) (rw one-add at is)))

  -- the first entry of the item is taken out, by its place
  pub first_removed : (x i : ℕ) (xs : List X) → are_distinct (map named xs) ≡ true → position (names_item named x) xs ≡ Some i → remove xs i ≡ filter (λ e. not (names_item named x e)) xs
  first_removed x i xs once at =
      let found = cond_some (nat_lt (position_or_len (names_item named x) xs) (length xs)) _ i at in
      rw (sym found.1) (remove_first x xs once (ltb-true _ _ found.0))

  -- nothing is taken out where no entry names the item
  pub none_removed : (x : ℕ) (xs : List X) → position (names_item named x) xs ≡ None → filter (λ e. not (names_item named x e)) xs ≡ xs
  none_removed x xs at = none_left x xs (none_stands x xs (ltb-false _ _ (test_of_none _ (position_or_len (names_item named x) xs) at)))

  -- the first entry of the item changes, at its place
  pub first_changed : (f : X → X) (x : ℕ) → Changes f x → (i : ℕ) (xs : List X) (e : X) → are_distinct (map named xs) ≡ true → position (names_item named x) xs ≡ Some i → e ≡ get_or xs i e → set xs i (f e) ≡ map f xs
  first_changed f x same i xs e once at is =
      let found = cond_some (nat_lt (position_or_len (names_item named x) xs) (length xs)) _ i at in
      let read : e ≡ get_or xs (position_or_len (names_item named x) xs) e = is ∙ ap (λ n. get_or xs n e) (sym found.1) in
      rw (sym found.1) (change_first f x same xs e once (ltb-true _ _ found.0) read)

  -- nothing changes where no entry names the item
  pub none_changed : (f : X → X) (x : ℕ) → Changes f x → (xs : List X) → position (names_item named x) xs ≡ None → map f xs ≡ xs
  none_changed f x same xs at = none_changes f x same xs (none_stands x xs (ltb-false _ _ (test_of_none _ (position_or_len (names_item named x) xs) at)))
