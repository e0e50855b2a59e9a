-- Claims below a bus and at its parent, from what each child's claim does.
-- Letters: x is the item, path that of the bus, p the parent, q after it, ns and ms the children, c where the parent stands.
use Rattle.std.proofs.Common.{◌≡◌, ◌≢◌, ℕ, zero, suc, ◌+◌, ◌-◌, ◌<◌, Bool, true, false, List, [], ◌∷◌, ◌++◌, length, take, Some, refl, sym, ap, subst, ◌∙◌, ◌⊎◌, inl, inr, arith}
use Rattle.std.specs.Prelude.{unwrap_or, if◌then◌else◌}
use Rattle.std.proofs.lemmas.List.{length-append}
use Rattle.order_laws.specs.DdmTypes.declared.keys.Stamp.{Stamp}
use Rattle.order_laws.specs.TreeModel.State.Lists.{first_some}
use Rattle.order_laws.specs.TreeModel.State.Values.{DirValue, Node, Nodes, leaf_node, dir_node, no_nodes, more_nodes, nodes}
use Rattle.order_laws.specs.TreeModel.State.Directory.{queue_of, stamp_of}
use Rattle.order_laws.specs.TreeModel.State.Place.{Spot, spot_in}
use Rattle.order_laws.specs.TreeModel.Turns.Children.{child_at}
use Rattle.order_laws.specs.TreeRules.Order.Claims.{last_exclusive, child_is_exclusive, claim, first_claim, ClaimAt, claim_here, claims_in, claims_among}
use Rattle.order_laws.specs.TreeRules.Order.Core.{claim_level}
use Rattle.order_laws.specs.TreeRules.Order.Moments.{less_at, moment_at, moment_length}
use Rattle.order_lists.proofs.Filters.{each-append}
use Rattle.order_lists.proofs.Moments.{less-irreflexive}
use Rattle.order_laws.specs.Moves.Moved.{In}
use Rattle.order_laws.specs.Moves.ClaimsMoved.{ClaimFrom, ClaimsFrom}
use Rattle.order_laws.proofs.Moves.Sources.{In-left, In-right}
use Rattle.order_laws.proofs.Moves.Brought.{if-by}
use Rattle.order_laws.proofs.Moves.KidClaims.{KidClaims}

-- ---- lists of claims

module _ (path new : List ℕ) where
  abbrev From : List ClaimAt → List ClaimAt → Type 0
  From = ClaimsFrom path new

  more : (xs ys : List ClaimAt) → ((t : ClaimAt) → In t xs → In t ys) → (t' : ClaimAt) → ClaimFrom path new xs t' → ClaimFrom path new ys t'
  more xs ys s t' (inl k) = inl (record { source = k.source; there = s k.source k.there; kept = k.kept })
  more xs ys s t' (inr n) = inr n

  pub claims-more : (xs ys zs : List ClaimAt) → ((t : ClaimAt) → In t xs → In t ys) → From xs zs → From ys zs
  claims-more xs ys [] s h = tt
  claims-more xs ys (z ∷ zs) s h = (more xs ys s z h.0, claims-more xs ys zs s h.1)

  pub claims-append : (xs xs' ys ys' : List ClaimAt) → From xs xs' → From ys ys' → From (xs ++ ys) (xs' ++ ys')
  claims-append xs xs' ys ys' f g = each-append (ClaimFrom path new (xs ++ ys)) xs' ys' (claims-more xs (xs ++ ys) xs' (λ t h. In-left t xs ys h) f) (claims-more ys (xs ++ ys) ys' (λ t h. In-right t xs ys h) g)

  pub claims-same : (xs : List ClaimAt) → From xs xs
  claims-same [] = tt
  claims-same (t ∷ xs) = (inl (record { source = t; there = inl refl; kept = record { child = refl; moment = less-irreflexive (take (moment_length (claim_level t)) t.moment) } }), claims-more xs (t ∷ xs) xs (λ u h. inr h) (claims-same xs))

-- ---- what is below a directory looks at its bus's present stamp alone

among-same : (x : ℕ) (path : List ℕ) (d e : DirValue) (i : ℕ) (ns : Nodes) → stamp_of e ≡ stamp_of d → claims_among x path e i ns ≡ claims_among x path d i ns
among-same x path d e i no_nodes same = refl
among-same x path d e i (more_nodes n ns) same =
    let first : claims_in x (record { above = path; number = i; present = stamp_of e }) n ≡ claims_in x (record { above = path; number = i; present = stamp_of d }) n = ap (λ (s : Stamp). claims_in x (record { above = path; number = i; present = s }) n) same in
    rw (first, among-same x path d e (i + 1) ns same) refl

first-same : (x : ℕ) (path : List ℕ) (d e : DirValue) (i : ℕ) (ns : Nodes) → stamp_of e ≡ stamp_of d → first_claim x path e i ns ≡ first_claim x path d i ns
first-same x path d e i no_nodes same = refl
first-same x path d e i (more_nodes n ns) same =
    let first : claim x (record { above = path; number = i; present = stamp_of e }) n ≡ claim x (record { above = path; number = i; present = stamp_of d }) n = ap (λ (s : Stamp). claim x (record { above = path; number = i; present = s }) n) same in
    rw (first, first-same x path d e (i + 1) ns same) refl

-- ---- a child

-- a claim of a child then: of the new moment, or it is no less than the one before
abbrev pub KidOwn : ℕ → List ℕ → List ℕ → Stamp → Stamp → ℕ → Node → Node → Type 0
KidOwn x path new s s' i n m = child_is_exclusive x m ≡ true → (take (moment_length (length path)) (claim x (record { above = path; number = i; present = s' }) m) ≡ new) ⊎ ((child_is_exclusive x n ≡ true) × (less_at (moment_length (length path)) (claim x (record { above = path; number = i; present = s' }) m) (claim x (record { above = path; number = i; present = s }) n) ≡ false))

module _ (x : ℕ) (path : List ℕ) (s s' : Stamp) (whole : take (moment_length (length path)) (moment_at path s') ≡ moment_at path s') where
  abbrev new : List ℕ
  new = moment_at path s'

  abbrev at : ℕ → Stamp → Spot
  at i t = record { above = path; number = i; present = t }

  claim-is : (i : ℕ) (d e : DirValue) (ns : Nodes) → last_exclusive path (queue_of x e.down) ≡ last_exclusive path (queue_of x d.down) → stamp_of e ≡ stamp_of d → e.epoch ≡ d.epoch → claim x (at i s') (dir_node e ns) ≡ claim x (at i s) (dir_node d ns)
  claim-is i d e ns last stamp epoch = ap (λ o. unwrap_or (first_some o (first_claim x (path ++ i ∷ []) e 0 ns)) (moment_at path e.epoch)) last ∙ (ap (λ o. unwrap_or (first_some (last_exclusive path (queue_of x d.down)) o) (moment_at path e.epoch)) (first-same x (path ++ i ∷ []) d e 0 ns stamp) ∙ ap (λ t. unwrap_or (first_some (last_exclusive path (queue_of x d.down)) (first_claim x (path ++ i ∷ []) d 0 ns)) (moment_at path t)) epoch)

  pub kid-own : (i : ℕ) (n m : Node) → KidClaims x s' n m → KidOwn x path new s s' i n m
  kid-own i (leaf_node v) (leaf_node w) h is = inl whole
  kid-own i (leaf_node v) (dir_node e ms) h is = absurd h
  kid-own i (dir_node d ns) (leaf_node w) h is = absurd h
  kid-own i (dir_node d ns) (dir_node e ms) h is =
      elim (h.1.1.1 is) as (λ _. (take (moment_length (length path)) (claim x (at i s') (dir_node e ms)) ≡ new) ⊎ ((child_is_exclusive x (dir_node d ns) ≡ true) × (less_at (moment_length (length path)) (claim x (at i s') (dir_node e ms)) (claim x (at i s) (dir_node d ns)) ≡ false))) [
        | inr told ↦ inl (ap (take (moment_length (length path))) (ap (λ o. unwrap_or (first_some o (first_claim x (path ++ i ∷ []) e 0 ms)) (moment_at path e.epoch)) (told path)) ∙ whole)
        | inl kept ↦
            let same : claim x (at i s') (dir_node e ms) ≡ claim x (at i s) (dir_node d ns) = ap (λ ks. claim x (at i s') (dir_node e ks)) h.0 ∙ claim-is i d e ns (kept.1 path) h.1.0 h.1.1.0 in
            inr (kept.0, ap (λ t. less_at (moment_length (length path)) t (claim x (at i s) (dir_node d ns))) same ∙ less-irreflexive (take (moment_length (length path)) (claim x (at i s) (dir_node d ns))))
      ]

  abbrev one : ℕ → Stamp → Node → ClaimAt
  one i t n = record { child = path ++ i ∷ []; moment = claim x (at i t) n }

  -- what is its own, from what it does to it
  own-here : (i : ℕ) (n m : Node) → KidOwn x path new s s' i n m → ClaimsFrom path new (claim_here x (at i s) n (claim x (at i s) n)) (claim_here x (at i s') m (claim x (at i s') m))
  own-here i n m own = if-by (ClaimsFrom path new (claim_here x (at i s) n (claim x (at i s) n))) (child_is_exclusive x m) (one i s' m ∷ []) [] (λ is. (by (own is), tt)) (λ other. tt) where
    level : moment_length (claim_level (one i s' m)) ≡ moment_length (length path)
    level = let longer : length (path ++ i ∷ []) ≡ length path + 1 = length-append path (i ∷ []) in let less_one : length (path ++ i ∷ []) - 1 ≡ length path = omega (arith, longer) in ap moment_length less_one

    by : (take (moment_length (length path)) (claim x (at i s') m) ≡ new) ⊎ ((child_is_exclusive x n ≡ true) × (less_at (moment_length (length path)) (claim x (at i s') m) (claim x (at i s) n) ≡ false)) → ClaimFrom path new (claim_here x (at i s) n (claim x (at i s) n)) (one i s' m)
    by (inl is) = inr (record { number = i; child = refl; moment = is })
    by (inr k) = inl (record { source = one i s n; there = subst (λ b. In (one i s n) (if b then one i s n ∷ [] else [])) (sym k.0) (inl refl); kept = record { child = refl; moment = subst (λ j. less_at j (claim x (at i s') m) (claim x (at i s) n) ≡ false) (sym level) k.1 } })

  pub kid-claims : (i : ℕ) (n m : Node) → KidClaims x s' n m → ClaimsFrom path new (claims_in x (at i s) n) (claims_in x (at i s') m)
  kid-claims i (leaf_node v) (leaf_node w) h = own-here i (leaf_node v) (leaf_node w) (kid-own i (leaf_node v) (leaf_node w) h)
  kid-claims i (leaf_node v) (dir_node e ms) h = absurd h
  kid-claims i (dir_node d ns) (leaf_node w) h = absurd h
  kid-claims i (dir_node d ns) (dir_node e ms) h =
      let below : claims_among x (path ++ i ∷ []) e 0 ms ≡ claims_among x (path ++ i ∷ []) d 0 ns = ap (claims_among x (path ++ i ∷ []) e 0) h.0 ∙ among-same x (path ++ i ∷ []) d e 0 ns h.1.0 in
      claims-append path new _ _ (claims_among x (path ++ i ∷ []) d 0 ns) (claims_among x (path ++ i ∷ []) e 0 ms) (own-here i (dir_node d ns) (dir_node e ms) (kid-own i (dir_node d ns) (dir_node e ms) h)) (subst (ClaimsFrom path new (claims_among x (path ++ i ∷ []) d 0 ns)) (sym below) (claims-same path new (claims_among x (path ++ i ∷ []) d 0 ns)))

-- ---- all children

module _ (x : ℕ) (path new : List ℕ) (p q : DirValue) where
  pub among-from : (k : ℕ) (ns ms : List Node) → length ms ≡ length ns → ((i : ℕ) → i < length ns → ClaimsFrom path new (claims_in x (spot_in path p (k + i)) (child_at i ns)) (claims_in x (spot_in path q (k + i)) (child_at i ms))) → ClaimsFrom path new (claims_among x path p k (nodes ns)) (claims_among x path q k (nodes ms))
  among-from k [] [] many kids = tt
  among-from k [] (m ∷ ms) many kids = absurd (omega (arith, many))
  among-from k (n ∷ ns) [] many kids = absurd (omega (arith, many))
  among-from k (n ∷ ns) (m ∷ ms) many kids = claims-append path new (claims_in x (spot_in path p k) n) (claims_in x (spot_in path q k) m) _ _ (subst (λ j. ClaimsFrom path new (claims_in x (spot_in path p j) n) (claims_in x (spot_in path q j) m)) (let e : k + 0 ≡ k = omega arith in e) (kids 0 (omega arith))) (among-from (k + 1) ns ms (omega (arith, many)) (λ i l. subst (λ j. ClaimsFrom path new (claims_in x (spot_in path p j) (child_at i ns)) (claims_in x (spot_in path q j) (child_at i ms))) (let e : k + suc i ≡ k + 1 + i = omega arith in e) (kids (suc i) (omega (arith, l)))))

  -- the first claim then: of the new moment, or no less than that of the same child
  pub record ClaimOf (ns : List Node) (k : ℕ) (t' : List ℕ) : Type 0 where
    pub number : ℕ
    pub there : number < length ns
    pub exclusive : child_is_exclusive x (child_at number ns) ≡ true
    pub least : less_at (moment_length (length path)) t' (claim x (spot_in path p (k + number)) (child_at number ns)) ≡ false

  pub first-from : (k : ℕ) (ns ms : List Node) → length ms ≡ length ns → ((i : ℕ) → i < length ns → KidOwn x path new (stamp_of p) (stamp_of q) (k + i) (child_at i ns) (child_at i ms)) → (t' : List ℕ) → first_claim x path q k (nodes ms) ≡ Some t' → (take (moment_length (length path)) t' ≡ new) ⊎ ClaimOf ns k t'
  first-from k [] [] many kids t' is = cc
  first-from k [] (m ∷ ms) many kids t' is = absurd (omega (arith, many))
  first-from k (n ∷ ns) [] many kids t' is = absurd (omega (arith, many))
  first-from k (n ∷ ns) (m ∷ ms) many kids t' is = by (first-from (k + 1) ns ms (omega (arith, many)) (λ i l. subst (λ j. KidOwn x path new (stamp_of p) (stamp_of q) j (child_at i ns) (child_at i ms)) (let e : k + suc i ≡ k + 1 + i = omega arith in e) (kids (suc i) (omega (arith, l)))) t') (child_is_exclusive x m) refl is where
    own : KidOwn x path new (stamp_of p) (stamp_of q) k n m
    own = subst (λ j. KidOwn x path new (stamp_of p) (stamp_of q) j n m) (let e : k + 0 ≡ k = omega arith in e) (kids 0 (omega arith))

    by : (first_claim x path q (k + 1) (nodes ms) ≡ Some t' → (take (moment_length (length path)) t' ≡ new) ⊎ ClaimOf ns (k + 1) t') → (b : Bool) → child_is_exclusive x m ≡ b → (if b then Some (claim x (spot_in path q k) m) else first_claim x path q (k + 1) (nodes ms)) ≡ Some t' → (take (moment_length (length path)) t' ≡ new) ⊎ ClaimOf (n ∷ ns) k t'
    by rest true e at =
        let same : claim x (spot_in path q k) m ≡ t' = cc in
        elim (own e) as (λ _. (take (moment_length (length path)) t' ≡ new) ⊎ ClaimOf (n ∷ ns) k t') [
          | inl fresh ↦ inl (ap (take (moment_length (length path))) (sym same) ∙ fresh)
          | inr kept ↦ inr (record { number = 0; there = omega arith; exclusive = kept.0; least = subst (λ j. less_at (moment_length (length path)) t' (claim x (spot_in path p j) n) ≡ false) (let z : k ≡ k + 0 = omega arith in z) (ap (λ u. less_at (moment_length (length path)) u (claim x (spot_in path p k) n)) (sym same) ∙ kept.1) })
        ]
    by rest false e at =
        elim (rest at) as (λ _. (take (moment_length (length path)) t' ≡ new) ⊎ ClaimOf (n ∷ ns) k t') [
          | inl fresh ↦ inl fresh
          | inr c ↦
              let l = c.there in
              inr (record { number = suc c.number; there = omega (arith, l); exclusive = c.exclusive; least = subst (λ j. less_at (moment_length (length path)) t' (claim x (spot_in path p j) (child_at c.number ns)) ≡ false) (let z : k + 1 + c.number ≡ k + suc c.number = omega arith in z) c.least })
        ]

-- the first claim of children of which one alone is exclusive is that child's
pub first-only : (x : ℕ) (path : List ℕ) (p : DirValue) (k i : ℕ) (ns : List Node) → i < length ns → child_is_exclusive x (child_at i ns) ≡ true → ((j : ℕ) → j < length ns → j ≢ i → child_is_exclusive x (child_at j ns) ≡ false) → first_claim x path p k (nodes ns) ≡ Some (claim x (spot_in path p (k + i)) (child_at i ns))
first-only x path p k i [] l is alone = absurd (omega (arith, l))
first-only x path p k zero (n ∷ ns) l is alone = rw is (ap (λ j. Some (claim x (spot_in path p j) n)) (let e : k ≡ k + 0 = omega arith in e))
first-only x path p k (suc i) (n ∷ ns) l is alone =
    let other : child_is_exclusive x n ≡ false = alone 0 (omega arith) (λ e. omega (arith, e)) in
    rw other (first-only x path p (k + 1) i ns (omega (arith, l)) is (λ j lj ne. alone (suc j) (omega (arith, lj)) (λ e. ne (omega (arith, e)))) ∙ ap (λ j. Some (claim x (spot_in path p j) (child_at i ns))) (let e : k + 1 + i ≡ k + suc i = omega arith in e))
