-- Lists of copies of which each comes from one of a list before.
use Rattle.std.proofs.Common.{List, [], ◌∷◌, ◌++◌, map, refl, sym, ap, subst, ◌⊎◌, inl, inr}
use Rattle.std.specs.List.{AllByRecursion}
use Rattle.std.proofs.lemmas.List.{map-append}
use Rattle.order_laws.specs.TreeRules.Order.Copies.{CopyAt}
use Rattle.order_lists.proofs.Filters.{each-weaker, each-append}
use Rattle.order_laws.specs.Moves.Moved.{In, From, AllFrom}

-- ---- elements

pub In-left : {X : Type 0} (x : X) (xs ys : List X) → In x xs → In x (xs ++ ys)
In-left x [] ys h = absurd h
In-left x (z ∷ xs) ys (inl e) = inl e
In-left x (z ∷ xs) ys (inr h) = inr (In-left x xs ys h)

pub In-right : {X : Type 0} (x : X) (xs ys : List X) → In x ys → In x (xs ++ ys)
In-right x [] ys h = h
In-right x (z ∷ xs) ys h = inr (In-right x xs ys h)

pub In-either : {X : Type 0} (x : X) (xs ys : List X) → In x (xs ++ ys) → In x xs ⊎ In x ys
In-either x [] ys h = inr h
In-either x (z ∷ xs) ys (inl e) = inl (inl e)
In-either x (z ∷ xs) ys (inr h) =
    elim (In-either x xs ys h) as (λ _. In x (z ∷ xs) ⊎ In x ys) [ inl l ↦ inl (inr l) | inr r ↦ inr r ]

pub In-map : {X Y : Type 0} (f : X → Y) (x : X) (xs : List X) → In x xs → In (f x) (map f xs)
In-map f x [] h = absurd h
In-map f x (y ∷ xs) (inl e) = inl (ap f e)
In-map f x (y ∷ xs) (inr h) = inr (In-map f x xs h)

pub each-in : {X : Type 0} (P : X → Type 0) (x : X) (xs : List X) → AllByRecursion P xs → In x xs → P x
each-in P x [] p h = absurd h
each-in P x (y ∷ ys) p (inl e) = rw e p.0
each-in P x (y ∷ ys) p (inr h) = each-in P x ys p.1 h

pub each-map : {X Y : Type 0} (f : X → Y) (P : X → Type 0) (Q : Y → Type 0) → ((x : X) → P x → Q (f x)) → (xs : List X) → AllByRecursion P xs → AllByRecursion Q (map f xs)
each-map f P Q step [] p = tt
each-map f P Q step (x ∷ xs) p = (step x p.0, each-map f P Q step xs p.1)

-- ---- parts of a list

abbrev pub Sub : List CopyAt → List CopyAt → Type 0
Sub xs ys = (k : CopyAt) → In k xs → In k ys

pub Sub-left : (xs ys zs : List CopyAt) → Sub (xs ++ ys) zs → Sub xs zs
Sub-left xs ys zs s k h = s k (In-left k xs ys h)

pub Sub-right : (xs ys zs : List CopyAt) → Sub (xs ++ ys) zs → Sub ys zs
Sub-right xs ys zs s k h = s k (In-right k xs ys h)

-- of images
pub Sub-map : (f : CopyAt → CopyAt) (xs ys zs : List CopyAt) → Sub (map f (xs ++ ys)) zs → Sub (map f xs ++ map f ys) zs
Sub-map f xs ys zs s = subst (λ l. Sub l zs) (map-append f xs ys) s

pub each-sub : (P : CopyAt → Type 0) (xs ys : List CopyAt) → Sub xs ys → AllByRecursion P ys → AllByRecursion P xs
each-sub P [] ys s h = tt
each-sub P (x ∷ xs) ys s h = (each-in P x ys h (s x (inl refl)), each-sub P xs ys (λ k i. s k (inr i)) h)

pub Sub-images : (f : CopyAt → CopyAt) (xs ys : List CopyAt) → Sub xs ys → Sub (map f xs) (map f ys)
Sub-images f [] ys s k h = absurd h
Sub-images f (x ∷ xs) ys s k (inl e) = subst (λ j. In j (map f ys)) (sym e) (In-map f x ys (s x (inl refl)))
Sub-images f (x ∷ xs) ys s k (inr h) = Sub-images f xs ys (λ j i. s j (inr i)) k h

module _ (R : CopyAt → CopyAt → Type 0) where
  From-more : (xs ys : List CopyAt) → Sub xs ys → (k : CopyAt) → From R xs k → From R ys k
  From-more xs ys s k r = record { source = r.source; there = s r.source r.there; related = r.related }

  pub AllFrom-more : (xs ys zs : List CopyAt) → Sub xs ys → AllFrom R xs zs → AllFrom R ys zs
  AllFrom-more xs ys zs s h = each-weaker (From R xs) (From R ys) (From-more xs ys s) zs h

  pub AllFrom-append : (xs xs' ys ys' : List CopyAt) → AllFrom R xs xs' → AllFrom R ys ys' → AllFrom R (xs ++ ys) (xs' ++ ys')
  AllFrom-append xs xs' ys ys' f g = each-append (From R (xs ++ ys)) xs' ys' (AllFrom-more xs (xs ++ ys) xs' (λ k h. In-left k xs ys h) f) (AllFrom-more ys (xs ++ ys) ys' (λ k h. In-right k xs ys h) g)

  pub AllFrom-same : ((k : CopyAt) → R k k) → (xs : List CopyAt) → AllFrom R xs xs
  AllFrom-same same [] = tt
  AllFrom-same same (x ∷ xs) = (record { source = x; there = inl refl; related = same x }, AllFrom-more xs (x ∷ xs) xs (λ k h. inr h) (AllFrom-same same xs))

  -- a list of which each is one before
  pub AllFrom-sub : ((k : CopyAt) → R k k) → (xs ys : List CopyAt) → Sub ys xs → AllFrom R xs ys
  AllFrom-sub same xs ys s = AllFrom-more ys xs ys s (AllFrom-same same ys)

  pub AllFrom-map : (f : CopyAt → CopyAt) → ((k k' : CopyAt) → R k k' → R (f k) (f k')) → (xs ys : List CopyAt) → AllFrom R xs ys → AllFrom R (map f xs) (map f ys)
  AllFrom-map f step xs ys h = each-map f (From R xs) (From R (map f xs)) (λ k g. record { source = f g.source; there = In-map f g.source xs g.there; related = step g.source k g.related }) ys h

  -- images of one list by two functions
  pub AllFrom-images : (P : CopyAt → Type 0) (f g : CopyAt → CopyAt) → ((k : CopyAt) → P k → R (f k) (g k)) → (ks : List CopyAt) → AllByRecursion P ks → AllFrom R (map f ks) (map g ks)
  AllFrom-images P f g step [] h = tt
  AllFrom-images P f g step (k ∷ ks) h = (record { source = f k; there = inl refl; related = step k h.0 }, AllFrom-more (map f ks) (map f (k ∷ ks)) (map g ks) (λ j i. inr i) (AllFrom-images P f g step ks h.1))
