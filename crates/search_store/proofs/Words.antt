-- A look-up in a list of vectors is one in the list of their words.
-- Letters: v is a vector, vs are vectors, words are those that are looked up.
use Rattle.std.specs.Prelude.{◌≡◌, ℕ, suc, ◌+◌, Bool, true, false, not, cond, nat_lt, List, [], ◌∷◌, length, map, position, ◌||◌, Option, Some, None, option_map, refl}
use Rattle.std.specs.List.{list_any, position_or_len}
use Rattle.std.proofs.Common.{ap, ◌∙◌, arith}
use Rattle.std.proofs.lemmas.Bool.{lt-ltb, le-ltb, ltb-true, ltb-false}
use Rattle.std.specs.Global.{Vec}
use Rattle.search_store.specs.Known.{items_of, place_of, same_words}

module _ (test : List ℕ → Bool) where
  pub any-words : (vs : List (Vec ℕ)) → list_any (λ v. test v.items) vs ≡ list_any test (map items_of vs)
  any-words [] = refl
  any-words (v ∷ vs) = ap (λ b. test v.items || b) (any-words vs)

one-more : (a : ℕ) → 1 + a ≡ suc a
one-more a = omega arith

-- one further place
place-further : (a b n : ℕ) → n ≡ suc b → cond (nat_lt (1 + a) n) (Some (1 + a)) None ≡ option_map suc (cond (nat_lt a b) (Some a) None)
place-further a b n more = elim (nat_lt a b) as (λ c. nat_lt a b ≡ c → cond (nat_lt (1 + a) n) (Some (1 + a)) None ≡ option_map suc (cond c (Some a) None)) [
  | true ↦ λ is. ap (λ c. cond c (Some (1 + a)) None) (lt-ltb (1 + a) n (omega (arith, more, ltb-true a b is))) ∙ ap Some (one-more a)
  | false ↦ λ is. ap (λ c. cond c (Some (1 + a)) None) (le-ltb (1 + a) n (omega (arith, more, ltb-false a b is)))
] refl

-- the first place where a test passes, by the first element
place-step : {X : Type 0} (p : X → Bool) (x : X) (xs : List X) → position p (x ∷ xs) ≡ cond (p x) (Some 0) (option_map suc (position p xs))
place-step p x xs = elim (p x) as (λ b. cond (nat_lt (cond (not b) (1 + position_or_len p xs) 0) (length (x ∷ xs))) (Some (cond (not b) (1 + position_or_len p xs) 0)) None ≡ cond b (Some 0) (option_map suc (position p xs))) [
  | true ↦ ap (λ c. cond c (Some 0) None) (lt-ltb 0 (length (x ∷ xs)) (omega arith))
  | false ↦ place-further (position_or_len p xs) (length xs) (length (x ∷ xs)) (omega arith)
]

pub place-words : (words : List ℕ) (vs : List (Vec ℕ)) → position (λ v. same_words words v.items) vs ≡ place_of words (map items_of vs)
place-words words [] = refl
place-words words (v ∷ vs) = place-step (λ w. same_words words w.items) v vs ∙ ap (λ o. cond (same_words words v.items) (Some 0) (option_map suc o)) (place-words words vs)
