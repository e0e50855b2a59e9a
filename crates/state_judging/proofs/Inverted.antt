-- What a reading that came to its end says of its steps.
-- Letters: k is the number of the next word, ws are the words from it on, r is what was read.
use Rattle.std.specs.Prelude.{◌≡◌, ◌≤◌, ℕ, zero, suc, ◌+◌, Bool, true, false, nat_le, List, [], ◌∷◌, Result, Ok, Err, refl, if◌then◌else◌, ⊤}
use Rattle.std.specs.List.{list_all}
use Rattle.std.proofs.Common.{ap, arith, subst}
use Rattle.std.proofs.lemmas.Bool.{leb-true}
use Rattle.std.specs.Cmp.Derive.{both_true}
use Rattle.state_reading.specs.declared.StateRefusal.{StateRefusal}
use Rattle.state_reading.specs.declared.StateRefusal.TheVariants.{BadWord}
use Rattle.state_reading.specs.Reading.{Read, and_then, given, times, word_that, words_that}
use Rattle.state_reading.specs.Parts.{listed, word_to}
use Rattle.state_reading.specs.Machine.{read_each}

-- ---- one step after the other, and the end

module _ {A B : Type 0} where
  pub and_then-ok : (read : Result (Read A) StateRefusal) (f : A → ℕ → List ℕ → Result (Read B) StateRefusal) (r : Read B) → and_then read f ≡ Ok r → (a : Read A) × (read ≡ Ok a) × (f a.value a.at a.rest ≡ Ok r)
  and_then-ok (Ok a) f r e = (a, refl, e)
  and_then-ok (Err x) f r e = cc

module _ {A : Type 0} where
  pub given-ok : (a : A) (k : ℕ) (ws : List ℕ) (r : Read A) → given a k ws ≡ Ok r → a ≡ r.value
  given-ok a k ws r e =
      let same : record { value = a; at = k; rest = ws } ≡ r = cc in
      ap (λ (r : Read A). r.value) same

  -- what holds of what is given holds of what was read
  pub given-so : (P : A → Type 0) (a : A) (k : ℕ) (ws : List ℕ) (r : Read A) → given a k ws ≡ Ok r → P a → P r.value
  given-so P a k ws r e p = subst P (given-ok a k ws r e) p

-- ---- words

module _ (ok : ℕ → Bool) where
  pub word_that-ok : (k : ℕ) (ws : List ℕ) (r : Read ℕ) → word_that ok k ws ≡ Ok r → ok r.value ≡ true
  word_that-ok k [] r e = cc
  word_that-ok k (w ∷ ws) r e =
      elim (ok w) as (λ b. ok w ≡ b → (if b then given w (k + 1) ws else Err (BadWord k)) ≡ Ok r → ok r.value ≡ true) [
        | true ↦ λ is e. given-so (λ w. ok w ≡ true) w (k + 1) ws r e is
        | false ↦ λ is e. cc
      ] refl e

  pub words_that-ok : (n k : ℕ) (ws : List ℕ) (r : Read (List ℕ)) → words_that ok n k ws ≡ Ok r → list_all ok r.value ≡ true
  unfolding words_that
  words_that-ok zero k ws r e = given-so (λ vs. list_all ok vs ≡ true) [] k ws r e refl
  words_that-ok (suc n) k ws r e =
      let first = and_then-ok (word_that ok k ws) (λ w k ws. and_then (words_that ok n k ws) (λ more k ws. given (w ∷ more) k ws)) r e in
      let w = first.0 in
      let rest = and_then-ok (words_that ok n w.at w.rest) (λ more k ws. given (w.value ∷ more) k ws) r first.2 in
      given-so (λ vs. list_all ok vs ≡ true) (w.value ∷ rest.0.value) rest.0.at rest.0.rest r rest.2 (both_true (word_that-ok k ws w first.1) (words_that-ok n w.at w.rest rest.0 rest.1))

-- ---- the same step several times

module _ {A : Type 0} (step : A → ℕ → List ℕ → Result (Read A) StateRefusal) (P : ℕ → A → Type 0) (next : (i : ℕ) (a : A) (k : ℕ) (ws : List ℕ) (r : Read A) → P i a → step a k ws ≡ Ok r → P (i + 1) r.value) where
  -- what the step keeps, of so many steps
  pub times-ok : (n i : ℕ) (a : A) (k : ℕ) (ws : List ℕ) (r : Read A) → P i a → times step n a k ws ≡ Ok r → P (i + n) r.value
  unfolding times
  times-ok zero i a k ws r p e =
      let none : i ≡ i + 0 = omega arith in
      subst (λ j. P j r.value) none (given-so (P i) a k ws r e p)
  times-ok (suc n) i a k ws r p e =
      let first = and_then-ok (step a k ws) (times step n) r e in
      let total : i + 1 + n ≡ i + suc n = omega arith in
      subst (λ j. P j r.value) total (times-ok n (i + 1) first.0.value first.0.at first.0.rest r (next i a k ws first.0 p first.1) first.2)

  pub times-begun : (n : ℕ) (a : A) (k : ℕ) (ws : List ℕ) (r : Read A) → P 0 a → times step n a k ws ≡ Ok r → P n r.value
  times-begun n a k ws r p e =
      let total : 0 + n ≡ n = omega arith in
      subst (λ j. P j r.value) total (times-ok n 0 a k ws r p e)

module _ {A : Type 0} (step : List A → ℕ → List ℕ → Result (Read (List A)) StateRefusal) (P : ℕ → List A → Type 0) (next : (i : ℕ) (a : List A) (k : ℕ) (ws : List ℕ) (r : Read (List A)) → P i a → step a k ws ≡ Ok r → P (i + 1) r.value) where
  -- a list with its count before it
  pub listed-ok : (room k : ℕ) (ws : List ℕ) (r : Read (List A)) → P 0 [] → listed room step k ws ≡ Ok r → (n : ℕ) × (n ≤ room) × P n r.value
  listed-ok room k ws r none e =
      let count = and_then-ok (word_to room k ws) (λ count k ws. times step count [] k ws) r e in
      let n = count.0.value in
      (n, leb-true n room (word_that-ok (λ w. nat_le w room) k ws count.0 count.1), times-begun step P next n [] count.0.at count.0.rest r none count.2)

-- ---- one of each

module _ {A B : Type 0} (R : A → B → Type 0) where
  -- one list beside the other
  abbrev pub Beside : List A → List B → Type 0
  Beside [] [] = ⊤
  Beside [] (b ∷ bs) = ⊥
  Beside (a ∷ xs) [] = ⊥
  Beside (a ∷ xs) (b ∷ bs) = R a b × Beside xs bs

  module _ (read : A → ℕ → List ℕ → Result (Read B) StateRefusal) (reads : (a : A) (k : ℕ) (ws : List ℕ) (r : Read B) → read a k ws ≡ Ok r → R a r.value) where
    pub read_each-ok : (xs : List A) (k : ℕ) (ws : List ℕ) (r : Read (List B)) → read_each read xs k ws ≡ Ok r → Beside xs r.value
    unfolding read_each
    read_each-ok [] k ws r e = given-so (λ bs. Beside [] bs) [] k ws r e tt
    read_each-ok (a ∷ xs) k ws r e =
        let first = and_then-ok (read a k ws) (λ b k ws. and_then (read_each read xs k ws) (λ more k ws. given (b ∷ more) k ws)) r e in
        let b = first.0 in
        let rest = and_then-ok (read_each read xs b.at b.rest) (λ more k ws. given (b.value ∷ more) k ws) r first.2 in
        given-so (λ bs. Beside (a ∷ xs) bs) (b.value ∷ rest.0.value) rest.0.at rest.0.rest r rest.2 (reads a k ws b first.1, read_each-ok xs b.at b.rest rest.0 rest.1)

module _ {A B C : Type 0} (R : A → B → Type 0) (S : B → C → Type 0) (T : A → C → Type 0) (both : (a : A) (b : B) (c : C) → R a b → S b c → T a c) where
  pub beside-both : (xs : List A) (ys : List B) (zs : List C) → Beside R xs ys → Beside S ys zs → Beside T xs zs
  beside-both [] [] [] first second = tt
  beside-both [] [] (c ∷ zs) first second = absurd second
  beside-both [] (b ∷ ys) zs first second = absurd first
  beside-both (a ∷ xs) [] zs first second = absurd first
  beside-both (a ∷ xs) (b ∷ ys) [] first second = absurd second
  beside-both (a ∷ xs) (b ∷ ys) (c ∷ zs) first second = (both a b c first.0 second.0, beside-both xs ys zs first.1 second.1)
