-- The order of keys is a strict total order.
use Rattle.std.proofs.Common.{◌≡◌, ℕ, ◌<◌, true, false, ◌⊎◌, inl, inr, List, [], ◌∷◌, refl, sym, ap, ◌∙◌, get_or, arith}
use Rattle.std.proofs.lemmas.Bool.{cases_order}
use Rattle.std.proofs.lemmas.Bool.Decides.{nat_tests}
use Rattle.ddm_types.specs.declared.keys.Key.{Key}
use Rattle.ddm_types.specs.Keys.{key_numbers, numbers_less, key_less}

-- ---- lists of numbers, by the first number

pub numbers_less-head : (m n : ℕ) (ms ns : List ℕ) → m < n → numbers_less (m ∷ ms) (n ∷ ns) ≡ true
numbers_less-head m n ms ns h = grind (arith, nat_tests)

pub numbers_less-tail : (m n : ℕ) (ms ns : List ℕ) → m ≡ n → numbers_less ms ns ≡ true → numbers_less (m ∷ ms) (n ∷ ns) ≡ true
numbers_less-tail m n ms ns e h = grind (arith, nat_tests)

pub numbers_less-parts : (m n : ℕ) (ms ns : List ℕ) → numbers_less (m ∷ ms) (n ∷ ns) ≡ true → (m < n) ⊎ ((m ≡ n) × (numbers_less ms ns ≡ true))
numbers_less-parts m n ms ns h = grind (arith, nat_tests)

pub numbers_least-head : (m n : ℕ) (ms ns : List ℕ) → n < m → numbers_less (m ∷ ms) (n ∷ ns) ≡ false
numbers_least-head m n ms ns h = grind (arith, nat_tests)

pub numbers_least-tail : (m n : ℕ) (ms ns : List ℕ) → m ≡ n → numbers_less ms ns ≡ false → numbers_less (m ∷ ms) (n ∷ ns) ≡ false
numbers_least-tail m n ms ns e h = grind (arith, nat_tests)

pub numbers_least-parts : (m n : ℕ) (ms ns : List ℕ) → numbers_less (m ∷ ms) (n ∷ ns) ≡ false → (n < m) ⊎ ((m ≡ n) × (numbers_less ms ns ≡ false))
numbers_least-parts m n ms ns h = grind (arith, nat_tests)

-- ---- lists of numbers, whatever their lengths: a list that ends first is less

pub numbers_less-irreflexive : (a : List ℕ) → numbers_less a a ≡ false
numbers_less-irreflexive [] = refl
numbers_less-irreflexive (m ∷ ms) = numbers_least-tail m m ms ms refl (numbers_less-irreflexive ms)

pub numbers_less-transitive : (a b c : List ℕ) → numbers_less a b ≡ true → numbers_less b c ≡ true → numbers_less a c ≡ true
numbers_less-transitive a [] c h k = grind arith
numbers_less-transitive a (n ∷ ns) [] h k = k
numbers_less-transitive [] (n ∷ ns) (p ∷ ps) h k = refl
numbers_less-transitive (m ∷ ms) (n ∷ ns) (p ∷ ps) h k = go (numbers_less-parts m n ms ns h) (numbers_less-parts n p ns ps k) (numbers_less-transitive ms ns ps) where
  go : (m < n) ⊎ ((m ≡ n) × (numbers_less ms ns ≡ true)) → (n < p) ⊎ ((n ≡ p) × (numbers_less ns ps ≡ true)) → (numbers_less ms ns ≡ true → numbers_less ns ps ≡ true → numbers_less ms ps ≡ true) → numbers_less (m ∷ ms) (p ∷ ps) ≡ true
  go (inl i) (inl j) rest = numbers_less-head m p ms ps (omega arith)
  go (inl i) (inr j) rest = numbers_less-head m p ms ps (omega (arith, j.0))
  go (inr i) (inl j) rest = numbers_less-head m p ms ps (omega (arith, i.0))
  go (inr i) (inr j) rest = numbers_less-tail m p ms ps (i.0 ∙ j.0) (rest i.1 j.1)

pub numbers_less-total : (a b : List ℕ) → (a ≡ b) ⊎ ((numbers_less a b ≡ true) ⊎ (numbers_less b a ≡ true))
numbers_less-total [] [] = inl refl
numbers_less-total [] (n ∷ ns) = inr (inl refl)
numbers_less-total (m ∷ ms) [] = inr (inr refl)
numbers_less-total (m ∷ ms) (n ∷ ns) = go (cases_order m n) (numbers_less-total ms ns) where
  go : (m ≡ n) ⊎ ((m < n) ⊎ (n < m)) → (ms ≡ ns) ⊎ ((numbers_less ms ns ≡ true) ⊎ (numbers_less ns ms ≡ true)) → (m ∷ ms ≡ n ∷ ns) ⊎ ((numbers_less (m ∷ ms) (n ∷ ns) ≡ true) ⊎ (numbers_less (n ∷ ns) (m ∷ ms) ≡ true))
  go (inl e) (inl f) = inl (ap (λ k. k ∷ ms) e ∙ ap (λ ks. n ∷ ks) f)
  go (inl e) (inr (inl f)) = inr (inl (numbers_less-tail m n ms ns e f))
  go (inl e) (inr (inr f)) = inr (inr (numbers_less-tail n m ns ms (sym e) f))
  go (inr (inl e)) f = inr (inl (numbers_less-head m n ms ns e))
  go (inr (inr e)) f = inr (inr (numbers_less-head n m ns ms e))

pub numbers_less-asymmetric : (a b : List ℕ) → numbers_less a b ≡ true → numbers_less b a ≡ false
numbers_less-asymmetric a [] h = grind arith
numbers_less-asymmetric [] (n ∷ ns) h = refl
numbers_less-asymmetric (m ∷ ms) (n ∷ ns) h = go (numbers_less-parts m n ms ns h) (numbers_less-asymmetric ms ns) where
  go : (m < n) ⊎ ((m ≡ n) × (numbers_less ms ns ≡ true)) → (numbers_less ms ns ≡ true → numbers_less ns ms ≡ false) → numbers_less (n ∷ ns) (m ∷ ms) ≡ false
  go (inl i) rest = numbers_least-head n m ns ms i
  go (inr i) rest = numbers_least-tail n m ns ms (sym i.0) (rest i.1)

-- ---- keys

-- keys with the same numbers are equal
pub key_is : (a b : Key) → key_numbers 4 a ≡ key_numbers 4 b → a ≡ b
key_is a b e = ap key_of e where
  key_of : List ℕ → Key
  key_of ns = record { s0 = get_or ns 0 0; c0 = get_or ns 1 0; s1 = get_or ns 2 0; c1 = get_or ns 3 0; s2 = get_or ns 4 0; c2 = get_or ns 5 0; s3 = get_or ns 6 0; c3 = get_or ns 7 0; i = get_or ns 8 0 }

pub key_less-irreflexive : (a : Key) → key_less a a ≡ false
key_less-irreflexive a = numbers_less-irreflexive (key_numbers 4 a)

pub key_less-transitive : (a b c : Key) → key_less a b ≡ true → key_less b c ≡ true → key_less a c ≡ true
key_less-transitive a b c h k = numbers_less-transitive (key_numbers 4 a) (key_numbers 4 b) (key_numbers 4 c) h k

pub key_less-asymmetric : (a b : Key) → key_less a b ≡ true → key_less b a ≡ false
key_less-asymmetric a b h = numbers_less-asymmetric (key_numbers 4 a) (key_numbers 4 b) h

-- of two keys that differ one is less
pub key_less-total : (a b : Key) → (a ≡ b) ⊎ ((key_less a b ≡ true) ⊎ (key_less b a ≡ true))
key_less-total a b = go (numbers_less-total (key_numbers 4 a) (key_numbers 4 b)) where
  go : (key_numbers 4 a ≡ key_numbers 4 b) ⊎ ((key_less a b ≡ true) ⊎ (key_less b a ≡ true)) → (a ≡ b) ⊎ ((key_less a b ≡ true) ⊎ (key_less b a ≡ true))
  go (inl e) = inl (key_is a b e)
  go (inr e) = inr e
