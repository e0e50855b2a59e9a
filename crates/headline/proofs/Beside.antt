-- What is beside a directory, in paths and in moments.
-- directory that holds the item Exclusive is over (6), and changes are known (9).
use Rattle.std.proofs.Common.{◌≡◌, ℕ, ◌<◌, Bool, true, false, not, ◌&&◌, nat_eq, nat_lt, ◌⊎◌, inl, inr, List, [], ◌∷◌, ◌++◌, length, take, Option, Some, None, refl, sym, ap, subst, ◌∙◌, arith}
use Rattle.std.specs.Prelude.{IfSome}
use Rattle.std.specs.List.{AllByRecursion}
use Rattle.std.proofs.lemmas.Bool.{and_parts, not-true, true≢false, false≢true, eqb-true, eq-eqb, ltb-true}
use Rattle.headline.specs.TreeRules.Order.Moments.{less, less_at, before, parted, is_under, same_numbers, GoesOn}
use Rattle.headline.specs.TreeRules.Order.Places.{DirAt, dir_path}
use Rattle.headline.specs.TreeRules.Order.Written as written
use Rattle.headline.proofs.OrderLists.Moments.{less-parts, less-head, less-tail, less-least, same_numbers-itself}

-- ---- lists of numbers

-- what is less is before, too
pub less-before : (a b : List ℕ) → less a b ≡ true → before a b ≡ true
less-before a [] h = absurd (let wrong : ⊥ = cc in wrong)
less-before [] (n ∷ b) h = refl
less-before (m ∷ a) (n ∷ b) h = go (less-parts m n a b h) (less-before a b) where
  go : (m < n) ⊎ ((m ≡ n) × (less a b ≡ true)) → (less a b ≡ true → before a b ≡ true) → before (m ∷ a) (n ∷ b) ≡ true
  go (inl i) rest = less-head m n (take (length b) a) b i
  go (inr i) rest = less-tail m n (take (length b) a) b i.0 (rest i.1)

-- what is before a moment at its bus is before that from which it goes on
pub before-goes_on : (n : ℕ) (key f e : List ℕ) → n ≡ length e → less_at n key f ≡ true → GoesOn f e → before key e ≡ true
before-goes_on n key f e at h g = less-least (take (length e) key) (take (length e) f) e (subst (λ k. less_at k key f ≡ true) at h) g.at_most

-- a path beside: where it parts from what is under the child
pub beside-parted : (above : List ℕ) (n : ℕ) (place path : List ℕ) → is_under (above ++ n ∷ []) place ≡ true → is_under above path ≡ true → is_under (above ++ n ∷ []) path ≡ false → parted place path ≡ length above
beside-parted [] n [] path u v w = absurd (false≢true u)
beside-parted [] n (c ∷ place) [] u v w = refl
beside-parted [] n (c ∷ place) (d ∷ path) u v w = go (nat_eq c d) refl where
  first : n ≡ c
  first = eqb-true n c (and_parts (nat_eq n c) true u).0

  go : (t : Bool) → nat_eq c d ≡ t → parted (c ∷ place) (d ∷ path) ≡ 0
  go true e = absurd (true≢false (sym (ap (λ k. nat_eq k d && true) first ∙ ap (λ b. b && true) e) ∙ w))
  go false e = rw e refl
beside-parted (a ∷ above) n [] path u v w = absurd (false≢true u)
beside-parted (a ∷ above) n (c ∷ place) [] u v w = absurd (false≢true v)
beside-parted (a ∷ above) n (c ∷ place) (d ∷ path) u v w =
    let p : (nat_eq a c ≡ true) × (is_under (above ++ n ∷ []) place ≡ true) = and_parts (nat_eq a c) _ u in
    let q : (nat_eq a d ≡ true) × (is_under above path ≡ true) = and_parts (nat_eq a d) _ v in
    let w2 : is_under (above ++ n ∷ []) path ≡ false = rw q.0 at w in
    let same : nat_eq c d ≡ true = eq-eqb c d (sym (eqb-true a c p.0) ∙ eqb-true a d q.0) in
    let rest : parted place path ≡ length above = beside-parted above n place path p.1 q.1 w2 in
    rw same (omega (arith, rest))

-- where is_beside passes
pub record IsBeside (c : DirAt) (path : List ℕ) : Type 0 where
  pub above : is_under c.spot.above path ≡ true
  pub apart : is_under (dir_path c) path ≡ false
  pub long : length c.spot.above < length path

pub beside-facts : (c : DirAt) (path : List ℕ) → written.is_beside c path ≡ true → IsBeside c path
beside-facts c path h =
    let p : (is_under c.spot.above path ≡ true) × ((not (is_under (dir_path c) path) && nat_lt (length c.spot.above) (length path)) ≡ true) = and_parts (is_under c.spot.above path) _ h in
    let q : (not (is_under (dir_path c) path) ≡ true) × (nat_lt (length c.spot.above) (length path) ≡ true) = and_parts (not (is_under (dir_path c) path)) _ p.1 in
    record { above = p.0; apart = not-true _ q.0; long = ltb-true _ _ q.1 }

pub not_same : (a b : List ℕ) → same_numbers a b ≡ false → a ≡ b → ⊥
not_same a b h e = true≢false (sym (same_numbers-itself b) ∙ subst (λ k. same_numbers k b ≡ false) e h)

-- of each element a fact where there is an end
pub some-each : {X : Type 0} (o : Option (List ℕ)) (P : List ℕ → X → Type 0) (xs : List X) → IfSome o (λ e. AllByRecursion (P e) xs) → AllByRecursion (λ z. IfSome o (λ e. P e z)) xs
some-each None P xs h = all xs where
  all : {X : Type 0} (ys : List X) → AllByRecursion (λ z. Unit {0}) ys
  all [] = tt
  all (y ∷ ys) = (tt, all ys)
some-each (Some e) P xs h = h
