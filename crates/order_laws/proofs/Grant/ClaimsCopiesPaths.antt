-- Where two paths part: at a child of a bus, and where one is the same up to there as another.
use Rattle.std.proofs.Common.{◌≡◌, ◌≢◌, ℕ, zero, suc, ◌+◌, ◌<◌, ◌≤◌, Bool, true, false, cond, List, [], ◌∷◌, ◌++◌, length, take, refl, sym, ap, ◌∙◌, arith}
use Rattle.std.specs.Prelude.{nat_eq}
use Rattle.std.proofs.lemmas.Bool.{and_parts, and_from, eqb-true, eq-eqb, true≢false}
use Rattle.order_laws.specs.TreeRules.Order.Moments.{parted, is_under}
use Rattle.order_lists.proofs.Paths.{under-append}

-- it is under another child of the bus with this path
pub record IsBeside (path : List ℕ) (i : ℕ) (q : List ℕ) : Type 0 where
  pub number : ℕ
  pub under : is_under (path ++ number ∷ []) q ≡ true
  pub other : number ≢ i

-- a longer path that parts from a child at its bus
pub parted-child : (path q : List ℕ) (i : ℕ) → parted (path ++ i ∷ []) q ≡ length path → length path < length q → IsBeside path i q
parted-child [] [] i at l = absurd (omega (arith, l))
parted-child [] (e ∷ q) i at l = go (nat_eq i e) refl at where
  go : (t : Bool) → nat_eq i e ≡ t → cond t (1 + parted [] q) 0 ≡ 0 → IsBeside [] i (e ∷ q)
  go true is at = absurd (omega (arith, at))
  go false is at = record { number = e; under = under-append (e ∷ []) q; other = λ same. true≢false (sym (eq-eqb i e (sym same)) ∙ is) }
parted-child (c ∷ path) [] i at l = absurd (omega (arith, l))
parted-child (c ∷ path) (e ∷ q) i at l = go (nat_eq c e) refl at (parted-child path q i) where
  go : (t : Bool) → nat_eq c e ≡ t → cond t (1 + parted (path ++ i ∷ []) q) 0 ≡ length (c ∷ path) → (parted (path ++ i ∷ []) q ≡ length path → length path < length q → IsBeside path i q) → IsBeside (c ∷ path) i (e ∷ q)
  go true is at rec =
      let b : IsBeside path i q = rec (omega (arith, at)) (omega (arith, l)) in
      record { number = b.number; under = and_from (nat_eq c e) (is_under (path ++ b.number ∷ []) q) is b.under; other = b.other }
  go false is at rec = absurd (omega (arith, at))

-- what a place is over is over all that parts from it no sooner
pub parted-under : (p a b : List ℕ) → is_under p b ≡ true → length p ≤ parted a b → is_under p a ≡ true
parted-under [] a b u l = refl
parted-under (c ∷ p) [] b u l = absurd (omega (arith, l))
parted-under (c ∷ p) (d ∷ a) [] u l = absurd (let no : ⊥ = cc in no)
parted-under (c ∷ p) (d ∷ a) (e ∷ b) u l = go (nat_eq d e) refl l (and_parts _ _ u) (parted-under p a b) where
  go : (t : Bool) → nat_eq d e ≡ t → length (c ∷ p) ≤ cond t (1 + parted a b) 0 → ((nat_eq c e ≡ true) × (is_under p b ≡ true)) → (is_under p b ≡ true → length p ≤ parted a b → is_under p a ≡ true) → is_under (c ∷ p) (d ∷ a) ≡ true
  go true is l h rest = and_from (nat_eq c d) (is_under p a) (eq-eqb c d (eqb-true c e h.0 ∙ sym (eqb-true d e is))) (rest h.1 (omega (arith, l)))
  go false is l h rest = absurd (omega (arith, l))

-- two paths that are the same up to where one parts from a third: there the other parts, too
pub parted-agree : (c q r : List ℕ) (j : ℕ) → take (suc j) q ≡ take (suc j) r → parted c q ≡ j → parted c r ≡ j
parted-agree [] q r j e at = at
parted-agree (c ∷ cs) [] [] j e at = at
parted-agree (c ∷ cs) [] (b ∷ r) j e at = absurd (let no : ⊥ = cc in no)
parted-agree (c ∷ cs) (a ∷ q) [] j e at = absurd (let no : ⊥ = cc in no)
parted-agree (c ∷ cs) (a ∷ q) (b ∷ r) zero e at = go (nat_eq c a) refl at where
  go : (t : Bool) → nat_eq c a ≡ t → cond t (1 + parted cs q) 0 ≡ 0 → parted (c ∷ cs) (b ∷ r) ≡ 0
  go true is at = absurd (omega (arith, at))
  go false is at =
      let head : a ≡ b = cc in
      let other : nat_eq c b ≡ false = ap (λ n. nat_eq c n) (sym head) ∙ is in
      rw other refl
parted-agree (c ∷ cs) (a ∷ q) (b ∷ r) (suc j) e at = go (nat_eq c a) refl at (parted-agree cs q r j) where
  go : (t : Bool) → nat_eq c a ≡ t → cond t (1 + parted cs q) 0 ≡ suc j → (take (suc j) q ≡ take (suc j) r → parted cs q ≡ j → parted cs r ≡ j) → parted (c ∷ cs) (b ∷ r) ≡ suc j
  go true is at rec =
      let head : a ≡ b = cc in
      let tail : take (suc j) q ≡ take (suc j) r = cc in
      let same : nat_eq c b ≡ true = ap (λ n. nat_eq c n) (sym head) ∙ is in
      let rest : parted cs r ≡ j = rec tail (omega (arith, at)) in
      rw same (omega (arith, rest))
  go false is at rec = absurd (omega (arith, at))
