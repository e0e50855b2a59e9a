-- What is searched while a loop goes over children or buses.
use Rattle.std.proofs.Common.{◌≡◌, ℕ, suc, ◌+◌, ◌-◌, ◌<◌, ◌≤◌, Bool, true, false, List, ◌∷◌, ◌++◌, map, cond, Option, Some, None, refl, sym, ap, ◌∙◌, arith}
use Rattle.std.specs.Prelude.{find, is_some, unwrap_or}
use Rattle.std.specs.Option.{option_or}
use Rattle.std.specs.List.{flat_map, range_with_len}
use Rattle.std.proofs.lemmas.List.Concat.{flat_map-cons}
use Rattle.std.proofs.lemmas.List.Folds.{find-append}
use Rattle.no_jam.specs.DdmTypes.declared.turns.Turn.{Turn}
use Rattle.jam_laws.specs.GoesOn.{turns_of_bus}
use Rattle.no_jam.specs.Asked.{child_turn}
use Rattle.no_jam.specs.declared.search.Asked.{Asked}

module _ {X : Type 0} (p : X → Bool) where
  -- from number a on, of the numbers below k
  abbrev pub found_from : (ℕ → X) → ℕ → ℕ → Option X
  found_from f a k = find p (map f (range_with_len a (k - a)))

  pub found-next : (f : ℕ → X) (a k : ℕ) → a < k → found_from f a k ≡ cond (p (f a)) (Some (f a)) (found_from f (a + 1) k)
  found-next f a k l =
      let e : k - a ≡ suc (k - (a + 1)) = omega (arith, l) in
      rw e refl

  pub found-end : (f : ℕ → X) (a k : ℕ) → k ≤ a → found_from f a k ≡ None
  found-end f a k l =
      let e : k - a ≡ 0 = omega (arith, l) in
      rw e refl

  -- the same of lists
  abbrev pub given_from : (ℕ → List X) → ℕ → ℕ → Option X
  given_from f a k = find p (flat_map f (range_with_len a (k - a)))

  pub given-next : (f : ℕ → List X) (a k : ℕ) → a < k → given_from f a k ≡ option_or (find p (f a)) (given_from f (a + 1) k)
  given-next f a k l =
      let e : k - a ≡ suc (k - (a + 1)) = omega (arith, l) in
      rw e (ap (find p) (flat_map-cons f a (range_with_len (a + 1) (k - (a + 1)))) ∙ find-append p (f a) _)

  pub given-end : (f : ℕ → List X) (a k : ℕ) → k ≤ a → given_from f a k ≡ None
  given-end f a k l =
      let e : k - a ≡ 0 = omega (arith, l) in
      rw e refl

-- a child whose turn isn't granted is passed over
pub found-past : {X : Type 0} (p : X → Bool) (f : ℕ → X) (o : Option X) (a k : ℕ) → a < k → p (f a) ≡ false → o ≡ found_from p f a k → o ≡ found_from p f (a + 1) k
found-past p f o a k l fails so_far = so_far ∙ found-next p f a k l ∙ ap (λ b. cond b (Some (f a)) (found_from p f (a + 1) k)) fails

-- a bus on which nothing is granted, and one on which something is
pub given-past : {X : Type 0} (p : X → Bool) (f : ℕ → List X) (o : Option X) (a k : ℕ) → a < k → find p (f a) ≡ None → o ≡ given_from p f a k → o ≡ given_from p f (a + 1) k
given-past p f o a k l none so_far = so_far ∙ given-next p f a k l ∙ ap (λ q. option_or q (given_from p f (a + 1) k)) none

first-of : {X : Type 0} (q r : Option X) → is_some q ≡ true → option_or q r ≡ q
first-of None r some = cc
first-of (Some x) r some = refl

pub given-here : {X : Type 0} (p : X → Bool) (f : ℕ → List X) (o : Option X) (a k : ℕ) → a < k → is_some (find p (f a)) ≡ true → o ≡ given_from p f a k → o ≡ find p (f a)
given-here p f o a k l some so_far = so_far ∙ given-next p f a k l ∙ first-of (find p (f a)) _ some

pub given-start : {X : Type 0} (p : X → Bool) (f : ℕ → List X) (k : ℕ) → find p (flat_map f (range_with_len 0 k)) ≡ given_from p f 0 k
given-start p f k =
    let e : k - 0 ≡ k = omega arith in
    ap (λ j. find p (flat_map f (range_with_len 0 j))) (sym e)

pub none-there : {X : Type 0} (q : Option X) → is_some q ≡ false → q ≡ None
none-there None none = refl
none-there (Some x) none = cc

-- the turns of a bus: Down isn't granted
pub bus-found : {X : Type 0} (p : X → Bool) (down : X) (xs ys : List X) → p down ≡ false → find p (down ∷ xs ++ ys) ≡ option_or (find p xs) (find p ys)
bus-found p down xs ys fails = rw fails (find-append p xs ys)

pub of-bus : (p : Turn → Bool) (bus kids : ℕ) (o : Option ℕ) → Some kids ≡ o → p (Turn.Down bus) ≡ false → find p (turns_of_bus bus (unwrap_or o 0)) ≡ option_or (find p (map (child_turn Asked.Reply bus) (range_with_len 0 kids))) (find p (map (child_turn Asked.Request bus) (range_with_len 0 kids)))
of-bus p bus kids o is fails = ap (λ q. find p (turns_of_bus bus (unwrap_or q 0))) (sym is) ∙ bus-found p (Turn.Down bus) (map (Turn.Reply bus) (range_with_len 0 kids)) (map (Turn.Request bus) (range_with_len 0 kids)) fails
