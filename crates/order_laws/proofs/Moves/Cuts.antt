-- Moves of copies: nothing moved, and a cut above.
use Rattle.std.proofs.Common.{◌≡◌, ℕ, ◌⊎◌, List, [], ◌∷◌, map, take, Option, Some, None, IfSome, refl, ap, inl, inr}
use Rattle.order_laws.specs.TreeModel.State.Lists.{first_some}
use Rattle.order_laws.specs.TreeRules.Order.Copies.{CopyAt, cut}
use Rattle.order_laws.specs.TreeRules.Order.Moments.{moment_length, GoesOn}
use Rattle.order_lists.proofs.Moments.{less-irreflexive}
use Rattle.order_laws.specs.Moves.Moved.{Kept, Told, Ended, Moved}

some_first : (o p : Option (List ℕ)) (P : List ℕ → Type 0) → IfSome o P → IfSome p P → IfSome (first_some o p) P
some_first None p P h k = k
some_first (Some e) p P h k = h

-- the first of two cuts that has an end decides
cut-twice : (a b : Option (List ℕ)) (k : CopyAt) → cut b (cut a k) ≡ cut (first_some a b) k
cut-twice a b k = ap (λ (f : Option (List ℕ)). record k { end = f }) (twice k.end) where
  twice : (e : Option (List ℕ)) → first_some (first_some e a) b ≡ first_some e (first_some a b)
  twice None = refl
  twice (Some e) = refl

pub cuts-twice : (a b : Option (List ℕ)) (ks : List CopyAt) → map (cut b) (map (cut a) ks) ≡ map (cut (first_some a b)) ks
cuts-twice a b [] = refl
cuts-twice a b (k ∷ ks) = rw (cut-twice a b k, cuts-twice a b ks) refl

pub cut-nothing : (ks : List CopyAt) → map (cut None) ks ≡ ks
cut-nothing [] = refl
cut-nothing (k ∷ ks) = rw (cut-nothing ks) (ap (λ (e : Option (List ℕ)). record k { end = e } ∷ ks) (same k.end)) where
  same : (e : Option (List ℕ)) → first_some e None ≡ e
  same None = refl
  same (Some e) = refl

module _ (path old new : List ℕ) (Has : ℕ → Type 0) where
  pub Moved-same : (k : CopyAt) → Moved path old new Has k k
  Moved-same k = record { words = refl; end = inl refl; clock = λ j l. inl (record { deep = l; same = refl; clock = less-irreflexive (take (moment_length j) k.clock) }) }

  -- a cut above by an end that the new moment goes on from
  pub Moved-cut : (erased : Option (List ℕ)) → IfSome erased (GoesOn new) → (k k' : CopyAt) → Moved path old new Has k k' → Moved path old new Has (cut erased k) (cut erased k')
  Moved-cut erased later k k' m = record { words = m.words; end = ends m.end; clock = λ j l. clocks j (m.clock j l) } where
    ends : (k'.end ≡ k.end) ⊎ Ended path old new Has k k' → ((cut erased k').end ≡ (cut erased k).end) ⊎ Ended path old new Has (cut erased k) (cut erased k')
    ends (inl e) = inl (ap (λ f. first_some f erased) e)
    ends (inr h) = inr (record { is = rw h.is refl; from = h.from; to = h.to; clock = h.clock; later = some_first k.end erased (GoesOn new) h.later later })

    clocks : (j : ℕ) → Kept j k k' ⊎ Told path old new Has j k' → Kept j (cut erased k) (cut erased k') ⊎ Told path old new Has j (cut erased k')
    clocks j (inl h) = inl (record { deep = h.deep; same = h.same; clock = h.clock })
    clocks j (inr t) = inr (record { level = t.level; child = t.child; under = t.under; clock = t.clock; holds = t.holds })
