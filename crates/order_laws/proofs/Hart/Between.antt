-- No key of the tree's length stands between a leaf's `now` and its next one.
use Rattle.std.proofs.Common.{◌≡◌, ◌≢◌, ℕ, ◌+◌, ◌*◌, ◌<◌, Bool, true, false, ◌⊎◌, inl, inr, List, [], ◌∷◌, ◌++◌, length, take, refl, sym, ap, ◌∙◌, arith}
use Rattle.std.proofs.lemmas.List.{length-append, length-take}
use Rattle.order_laws.specs.DdmTypes.declared.keys.Key.{Key}
use Rattle.order_laws.specs.DdmTypes.Keys.{key_numbers}
use Rattle.order_laws.specs.TreeRules.Order.Moments.{less}
use Rattle.order_lists.proofs.Moments.{less-parts, less-total, less-transitive}
use Rattle.order_laws.proofs.Hart.NewOp.{now_rises}

-- keys of one tree have one length
pub key_length : (depth : ℕ) (a b : Key) → length (key_numbers depth a) ≡ length (key_numbers depth b)
key_length depth a b = length-append (take (2 * depth) (numbers a)) (a.i ∷ []) ∙ ap (λ n. n + 1) (length-take (2 * depth) (numbers a) ∙ sym (length-take (2 * depth) (numbers b))) ∙ sym (length-append (take (2 * depth) (numbers b)) (b.i ∷ [])) where
  numbers : Key → List ℕ
  numbers k = k.s0 ∷ k.c0 ∷ k.s1 ∷ k.c1 ∷ k.s2 ∷ k.c2 ∷ k.s3 ∷ k.c3 ∷ []

last_between : (d e : ℕ) (k : List ℕ) → length (e ∷ k) ≡ 1 → less (d ∷ []) (e ∷ k) ≡ true → less (e ∷ k) ((d + 1) ∷ []) ≡ true → ⊥
last_between d e (f ∷ k) l h g = omega (arith, l)
last_between d e [] l h g = go (less-parts d e [] [] h) (less-parts e (d + 1) [] [] g) where
  go : (d < e) ⊎ ((d ≡ e) × (less [] [] ≡ true)) → (e < d + 1) ⊎ ((e ≡ d + 1) × (less [] [] ≡ true)) → ⊥
  go (inl a) (inl b) = omega (arith, a, b)
  go (inl a) (inr b) = let wrong : ⊥ = cc in wrong
  go (inr a) b = let wrong : ⊥ = cc in wrong

child_between : (i d e : ℕ) (k : List ℕ) → length (e ∷ k) ≡ 2 → less (i ∷ d ∷ []) (e ∷ k) ≡ true → less (e ∷ k) (i ∷ (d + 1) ∷ []) ≡ true → ⊥
child_between i d e [] l h g = omega (arith, l)
child_between i d e (f ∷ k) l h g = go (less-parts i e (d ∷ []) (f ∷ k) h) (less-parts e i (f ∷ k) ((d + 1) ∷ []) g) where
  go : (i < e) ⊎ ((i ≡ e) × (less (d ∷ []) (f ∷ k) ≡ true)) → (e < i) ⊎ ((e ≡ i) × (less (f ∷ k) ((d + 1) ∷ []) ≡ true)) → ⊥
  go (inl a) (inl b) = omega (arith, a, b)
  go (inl a) (inr b) = let e : _ ≡ _ = b.0 in omega (arith, a, e)
  go (inr a) (inl b) = let e : _ ≡ _ = a.0 in omega (arith, e, b)
  go (inr a) (inr b) = last_between d f k (omega (arith, l)) a.1 b.1

none_between : (p : List ℕ) (i d : ℕ) (k : List ℕ) → length k ≡ length (p ++ i ∷ d ∷ []) → less (p ++ i ∷ d ∷ []) k ≡ true → less k (p ++ i ∷ (d + 1) ∷ []) ≡ true → ⊥
none_between [] i d [] l h g = let wrong : ⊥ = cc in wrong
none_between [] i d (e ∷ k) l h g = child_between i d e k l h g
none_between (n ∷ p) i d [] l h g = let wrong : ⊥ = cc in wrong
none_between (n ∷ p) i d (e ∷ k) l h g = go (less-parts n e (p ++ i ∷ d ∷ []) k h) (less-parts e n k (p ++ i ∷ (d + 1) ∷ []) g) (none_between p i d k (omega (arith, l))) where
  go : (n < e) ⊎ ((n ≡ e) × (less (p ++ i ∷ d ∷ []) k ≡ true)) → (e < n) ⊎ ((e ≡ n) × (less k (p ++ i ∷ (d + 1) ∷ []) ≡ true)) → (less (p ++ i ∷ d ∷ []) k ≡ true → less k (p ++ i ∷ (d + 1) ∷ []) ≡ true → ⊥) → ⊥
  go (inl a) (inl b) rest = omega (arith, a, b)
  go (inl a) (inr b) rest = let same : e ≡ n = b.0 in omega (arith, a, same)
  go (inr a) (inl b) rest = let same : n ≡ e = a.0 in omega (arith, same, b)
  go (inr a) (inr b) rest = rest a.1 b.1

-- what is less than the next `now` is less than the present one, or is that
pub next_same : (p : List ℕ) (i d : ℕ) (k : List ℕ) → length k ≡ length (p ++ i ∷ d ∷ []) → k ≢ p ++ i ∷ d ∷ [] → less k (p ++ i ∷ (d + 1) ∷ []) ≡ less k (p ++ i ∷ d ∷ [])
next_same p i d k l off = go (less k (p ++ i ∷ d ∷ [])) refl (less k (p ++ i ∷ (d + 1) ∷ [])) refl where
  go : (t : Bool) → less k (p ++ i ∷ d ∷ []) ≡ t → (u : Bool) → less k (p ++ i ∷ (d + 1) ∷ []) ≡ u → less k (p ++ i ∷ (d + 1) ∷ []) ≡ less k (p ++ i ∷ d ∷ [])
  go true e u f = less-transitive k (p ++ i ∷ d ∷ []) (p ++ i ∷ (d + 1) ∷ []) e (now_rises p i d) ∙ sym e
  go false e false f = f ∙ sym e
  go false e true f = by_total (less-total k (p ++ i ∷ d ∷ [])) where
    by_total : (k ≡ p ++ i ∷ d ∷ []) ⊎ ((less k (p ++ i ∷ d ∷ []) ≡ true) ⊎ (less (p ++ i ∷ d ∷ []) k ≡ true)) → less k (p ++ i ∷ (d + 1) ∷ []) ≡ less k (p ++ i ∷ d ∷ [])
    by_total (inl same) = absurd (off same)
    by_total (inr (inl h)) = absurd (let wrong : ⊥ = cc in wrong)
    by_total (inr (inr h)) = absurd (none_between p i d k l h f)
