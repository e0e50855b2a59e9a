-- One of each, read in their order.
use Rattle.std.specs.Prelude.{◌≡◌, ℕ, List, [], ◌∷◌, Result, Ok}
use Rattle.std.specs.List.{AllByRecursion, flat_map}
use Rattle.spelling_laws.specs.StateReading.declared.StateRefusal.{StateRefusal}
use Rattle.spelling_laws.specs.StateReading.Reading.{Read}
use Rattle.spelling_laws.specs.StateReading.Machine.{read_each}
use Rattle.spelling_laws.specs.Spells.{Spells}
use Rattle.spelling_laws.proofs.Steps.{step, ended, spells-none, spells-both}

module _ {A B : Type 0} (P : A → Type 0) (R : A → B → Type 0) (words : B → List ℕ) where
  -- the lists have one length, and each element has this with the other's
  abbrev pub AllPaired : List A → List B → Type 0
  AllPaired [] [] = Unit {0}
  AllPaired [] (b ∷ bs) = ⊥
  AllPaired (a ∷ xs) [] = ⊥
  AllPaired (a ∷ xs) (b ∷ bs) = R a b × AllPaired xs bs

  pub record PartRead (a : A) (k : ℕ) (ws : List ℕ) (q : Read B) : Type 0 where
    pub spells : Spells k ws (words q.value) q.at q.rest
    pub keeps : R a q.value

  pub record EachRead (xs : List A) (k : ℕ) (ws : List ℕ) (q : Read (List B)) : Type 0 where
    pub spells : Spells k ws (flat_map words q.value) q.at q.rest
    pub keep : AllPaired xs q.value

  module _ (read : A → ℕ → List ℕ → Result (Read B) StateRefusal) (one : (a : A) → P a → (k : ℕ) (ws : List ℕ) (q : Read B) → read a k ws ≡ Ok q → PartRead a k ws q) where
    pub each-read : (xs : List A) → AllByRecursion P xs → (k : ℕ) (ws : List ℕ) (q : Read (List B)) → read_each read xs k ws ≡ Ok q → EachRead xs k ws q
    unfolding read_each
    each-read [] all k ws q e = ended (EachRead [] k ws) (record { value = []; at = k; rest = ws }) q (record { spells = spells-none k ws; keep = tt }) e
    each-read (a ∷ xs) all k ws q e =
        step (read a k ws) _ q e (λ first is e.
        step (read_each read xs first.at first.rest) _ q e (λ more are_read e.
        let f = one a all.0 k ws first is in
        let m = each-read xs all.1 first.at first.rest more are_read in
        ended (EachRead (a ∷ xs) k ws) (record { value = first.value ∷ more.value; at = more.at; rest = more.rest }) q (record { spells = spells-both f.spells m.spells; keep = (f.keeps, m.keep) }) e))
