-- A statement's test passes just where it is a fact.
use Rattle.std.specs.Prelude.{◌≡◌, ◌⊎◌, Bool, true, false, not, ◌||◌, List, [], ◌∷◌, refl}
use Rattle.std.specs.List.{AllByRecursion}
use Rattle.std.proofs.Common.{inl, inr}
use Rattle.std.proofs.lemmas.Bool.{and_parts}
use Rattle.std.specs.Cmp.Derive.{both_true}
use Rattle.tree_rules.specs.Statements.{Statement, always, is_so, is_not, both, either, where_so, where_not, Holds, test_of, each}

not-false : (b : Bool) → not b ≡ true → b ≡ false
not-false true h = absurd (let no : ⊥ = cc in no)
not-false false h = refl

or-parts : (a b : Bool) → a || b ≡ true → (a ≡ true) ⊎ (b ≡ true)
or-parts true b h = inl refl
or-parts false b h = inr h

or-left : (a b : Bool) → a ≡ true → a || b ≡ true
or-left a b h = rw h refl

or-right : (a b : Bool) → b ≡ true → a || b ≡ true
or-right true b h = refl
or-right false b h = h

pub Holds-from_test : (s : Statement) → test_of s ≡ true → Holds s
Holds-from_test always h = tt
Holds-from_test (is_so b) h = h
Holds-from_test (is_not b) h = not-false b h
Holds-from_test (both s t) h = (Holds-from_test s (and_parts (test_of s) (test_of t) h).0, Holds-from_test t (and_parts (test_of s) (test_of t) h).1)
Holds-from_test (either s t) h = elim (or-parts (test_of s) (test_of t) h) [ inl a ↦ inl (Holds-from_test s a) | inr b ↦ inr (Holds-from_test t b) ]
Holds-from_test (where_so true s) h = λ _. Holds-from_test s h
Holds-from_test (where_so false s) h = λ e. absurd (let no : ⊥ = cc in no)
Holds-from_test (where_not true s) h = λ e. absurd (let no : ⊥ = cc in no)
Holds-from_test (where_not false s) h = λ _. Holds-from_test s h

pub test-from_Holds : (s : Statement) → Holds s → test_of s ≡ true
test-from_Holds always h = refl
test-from_Holds (is_so b) h = h
test-from_Holds (is_not b) h = rw h refl
test-from_Holds (both s t) h = both_true (test-from_Holds s h.0) (test-from_Holds t h.1)
test-from_Holds (either s t) (inl a) = or-left (test_of s) (test_of t) (test-from_Holds s a)
test-from_Holds (either s t) (inr b) = or-right (test_of s) (test_of t) (test-from_Holds t b)
test-from_Holds (where_so true s) h = test-from_Holds s (h refl)
test-from_Holds (where_so false s) h = refl
test-from_Holds (where_not true s) h = refl
test-from_Holds (where_not false s) h = test-from_Holds s (h refl)

-- ---- of each element, as a fact by recursion

module _ {X : Type 0} (s : X → Statement) where
  pub each-facts : (xs : List X) → Holds (each s xs) → AllByRecursion (λ x. Holds (s x)) xs
  each-facts [] h = tt
  each-facts (x ∷ xs) h = (h.0, each-facts xs h.1)

  pub facts-each : (xs : List X) → AllByRecursion (λ x. Holds (s x)) xs → Holds (each s xs)
  facts-each [] h = tt
  facts-each (x ∷ xs) h = (h.0, facts-each xs h.1)
