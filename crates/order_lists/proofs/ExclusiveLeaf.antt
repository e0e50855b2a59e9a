-- What the rule of claims says of a path gives a fact of each leaf that holds the item Exclusive and isn't over the path: the
-- claim of the child at which the two part begins the leaf's present key.
use Rattle.std.proofs.Common.{◌≡◌, ℕ, zero, suc, ◌+◌, ◌-◌, ◌<◌, ◌≤◌, Bool, true, false, cond, nat_eq, nat_lt, ◌⊎◌, inl, inr, List, [], ◌∷◌, ◌++◌, length, take, Option, Some, None, refl, sym, ap, ◌∙◌, arith}
use Rattle.std.specs.List.{AllByRecursion}
use Rattle.std.proofs.lemmas.Bool.{and_parts, and_from, eqb-true, eq-eqb, leb-true, lt-ltb, cases_lt, true≢false, false≢true}
use Rattle.std.proofs.lemmas.List.{length-append}
use Rattle.order_lists.specs.TreeModel.State.Values.{DirValue, LeafValue, Node, Nodes, leaf_node, dir_node, no_nodes, more_nodes}
use Rattle.order_lists.specs.TreeModel.State.Place.{Spot, spot_path, spot_in}
use Rattle.tree_rules.specs.Bus.Rules.{IsTreeOk, AreTreesOk}
use Rattle.tree_rules.specs.Statements.{Holds, is_so, there_and}
use Rattle.tree_rules.specs.Order.Moments.{less, less_at, moment_length, past, parted, is_under}
use Rattle.tree_rules.specs.Order.Claims.{ClaimAt, child_is_exclusive, claim, claims_in, claims_among}
use Rattle.tree_rules.specs.Order.Places.{LeafAt, leaf_path, leaf_now, leaves_in, placed_leaves}
use Rattle.tree_rules.specs.Order.Core.{claim_level, parts_at_claim, claim_is_after_end}
use Rattle.order_lists.proofs.Filters.{each-both, each-append, each-left, each-right}
use Rattle.order_lists.proofs.Moments.{less-head, less-tail, less-parts, less_at-less, less_at-more, past_is}
use Rattle.order_lists.proofs.Paths.{under-itself, under-trans, under-parted, leaves_under}
use Rattle.order_lists.proofs.ExclusiveClaims.{BeginsNow, IsExclusiveAt, ClaimedBy, claimed_by}

-- ---- paths that part

-- where two paths part before the end of one over the first, that one parts there too
parted-over : (p a q : List ℕ) → is_under p a ≡ true → parted a q < length p → parted p q ≡ parted a q
parted-over [] a q h l = absurd (omega arith)
parted-over (c ∷ p) [] q h l = absurd (false≢true h)
parted-over (c ∷ p) (d ∷ a) [] h l = refl
parted-over (c ∷ p) (d ∷ a) (e ∷ q) h l = go (nat_eq d e) refl l (and_parts _ _ h) (parted-over p a q) where
  go : (t : Bool) → nat_eq d e ≡ t → cond t (1 + parted a q) 0 < length (c ∷ p) → ((nat_eq c d ≡ true) × (is_under p a ≡ true)) → (is_under p a ≡ true → parted a q < length p → parted p q ≡ parted a q) → parted (c ∷ p) (e ∷ q) ≡ parted (d ∷ a) (e ∷ q)
  go true i l h rest = rw (eqb-true c d h.0) (rw i (ap (λ k. 1 + k) (rest h.1 (omega arith))))
  go false i l h rest = rw (eqb-true c d h.0) (rw i refl)

-- a path that doesn't part from another before its own end is over it
parted-whole : (b p : List ℕ) → length p ≤ parted b p → is_under p b ≡ true
parted-whole b [] h = refl
parted-whole [] (c ∷ p) h = absurd (omega arith)
parted-whole (d ∷ b) (c ∷ p) h = go (nat_eq d c) refl h (parted-whole b p) where
  go : (t : Bool) → nat_eq d c ≡ t → length (c ∷ p) ≤ cond t (1 + parted b p) 0 → (length p ≤ parted b p → is_under p b ≡ true) → is_under (c ∷ p) (d ∷ b) ≡ true
  go true i l rest = and_from (nat_eq c d) (is_under p b) (eq-eqb c d (sym (eqb-true d c i))) (rest (omega arith))
  go false i l rest = absurd (omega arith)

-- ---- from the claims to the leaves

-- What the rule says of a claim and a path q is C, and R is what follows for a leaf that the claim is of.
module _ (x : ℕ) (q : List ℕ) (C : ClaimAt → Type 0) (R : LeafAt → Type 0) (by_rule : (t : ClaimAt) (a : LeafAt) → is_under t.child (leaf_path a) ≡ true → parted t.child q ≡ claim_level t → C t → BeginsNow t.moment a → R a) where
  -- of a leaf below this bus that holds the item Exclusive and isn't over q
  abbrev pub IsSettled : List ℕ → LeafAt → Type 0
  IsSettled above a = IsExclusiveAt x a → length above ≤ parted (leaf_path a) q → is_under (leaf_path a) q ≡ false → R a

  by_claim : (c : Spot) (t : List ℕ) (a : LeafAt) → is_under (spot_path c) (leaf_path a) ≡ true → BeginsNow t a → C (record { child = spot_path c; moment = t }) → length c.above ≤ parted (leaf_path a) q → parted (leaf_path a) q < length (spot_path c) → R a
  by_claim c t a u begins rule low high = by_rule (record { child = spot_path c; moment = t }) a u at rule begins where
    at : parted (spot_path c) q ≡ length (spot_path c) - 1
    at = let k : parted (spot_path c) q ≡ parted (leaf_path a) q = parted-over (spot_path c) (leaf_path a) q u high in let n : length (spot_path c) ≡ length c.above + 1 = length-append c.above (c.number ∷ []) in omega (arith, k, n, low, high)

  own_claim : (c : Spot) (n : Node) → child_is_exclusive x n ≡ true → AllByRecursion C (claims_in x c n) → C (record { child = spot_path c; moment = claim x c n })
  own_claim c (leaf_node v) e h = (rw e at h).0
  own_claim c (dir_node d ns) e h = (rw e at h).0

  apart_high : (p a : List ℕ) → is_under p a ≡ true → is_under p q ≡ false → parted a q < length p
  apart_high p a u apart = go (cases_lt (parted a q) (length p)) where
    go : (parted a q < length p) ⊎ (length p ≤ parted a q) → parted a q < length p
    go (inl h) = h
    go (inr h) = absurd (true≢false (sym (under-parted p a q u h) ∙ apart))

  at_leaf : (c : Spot) (v : LeafValue) → AllByRecursion C (claims_in x c (leaf_node v)) → IsSettled c.above (record { spot = c; leaf = v })
  at_leaf c v rule e low apart = by_claim c (claim x c (leaf_node v)) (record { spot = c; leaf = v }) (under-itself (spot_path c)) (c.number ∷ v.done ∷ [], refl) (own_claim c (leaf_node v) e rule) low (apart_high (spot_path c) (spot_path c) (under-itself (spot_path c)) apart)

  at_dir : (c : Spot) (d : DirValue) (ns : Nodes) → AllByRecursion C (claims_in x c (dir_node d ns)) → (a : LeafAt) → is_under (spot_path c) (leaf_path a) ≡ true → ClaimedBy x c (dir_node d ns) a → IsSettled (spot_path c) a → IsSettled c.above a
  at_dir c d ns rule a u claimed below e low apart = go (cases_lt (parted (leaf_path a) q) (length (spot_path c))) where
    go : (parted (leaf_path a) q < length (spot_path c)) ⊎ (length (spot_path c) ≤ parted (leaf_path a) q) → R a
    go (inl h) = by_claim c (claim x c (dir_node d ns)) a u (claimed e).1 (own_claim c (dir_node d ns) (claimed e).0 rule) low h
    go (inr h) = below e h apart

  abbrev IsUnderAndClaimed : Spot → Node → LeafAt → Type 0
  IsUnderAndClaimed c n a = (is_under (spot_path c) (leaf_path a) ≡ true) × ClaimedBy x c n a

  mutual
    pub settled_below : (items : ℕ) (c : Spot) (n : Node) → x < items → IsTreeOk items n → AllByRecursion C (claims_in x c n) → AllByRecursion (IsSettled c.above) (leaves_in c n)
    settled_below items c (leaf_node v) l ok rule = (at_leaf c v rule, tt)
    settled_below items c (dir_node d ns) l ok rule =
        each-both _ _ _ (λ a b r. at_dir c d ns rule a b.0 b.1 r) (leaves_in c (dir_node d ns))
        (each-both _ _ (IsUnderAndClaimed c (dir_node d ns)) (λ a b r. (b, r)) (leaves_in c (dir_node d ns)) (leaves_under c (dir_node d ns)) (claimed_by items x c (dir_node d ns) l ok))
        (settled_among items (spot_path c) d 0 ns l ok.1 (each-right C _ (claims_among x (spot_path c) d 0 ns) rule))

    pub settled_among : (items : ℕ) (path : List ℕ) (d : DirValue) (i : ℕ) (ns : Nodes) → x < items → AreTreesOk items ns → AllByRecursion C (claims_among x path d i ns) → AllByRecursion (IsSettled path) (placed_leaves path d i ns)
    settled_among items path d i no_nodes l ok rule = tt
    settled_among items path d i (more_nodes n ns) l ok rule =
        each-append (IsSettled path) (leaves_in (spot_in path d i) n) _ (settled_below items (spot_in path d i) n l ok.0 (each-left _ (claims_in x (spot_in path d i) n) _ rule))
        (settled_among items path d (i + 1) ns l ok.1 (each-right _ (claims_in x (spot_in path d i) n) _ rule))

-- ---- what it says where the path isn't over the leaf either

less_at-append : (n : ℕ) (a b c : List ℕ) → less_at n a b ≡ true → less_at n a (b ++ c) ≡ true
less_at-append zero a b c h = absurd (false≢true h)
less_at-append (suc n) a [] c h = absurd (false≢true h)
less_at-append (suc n) [] (y ∷ ys) c h = refl
less_at-append (suc n) (x ∷ xs) (y ∷ ys) c h = go (less-parts x y (take n xs) (take n ys) h) (less_at-append n xs ys c) where
  go : (x < y) ⊎ ((x ≡ y) × (less_at n xs ys ≡ true)) → (less_at n xs ys ≡ true → less_at n xs (ys ++ c) ≡ true) → less (x ∷ take n xs) (y ∷ take n (ys ++ c)) ≡ true
  go (inl i) rest = less-head x y (take n xs) (take n (ys ++ c)) i
  go (inr i) rest = less-tail x y (take n xs) (take n (ys ++ c)) i.0 (rest i.1)

parts_there : (q : List ℕ) (t : ClaimAt) (a : LeafAt) → is_under q (leaf_path a) ≡ false → is_under t.child (leaf_path a) ≡ true → parted t.child q ≡ claim_level t → parts_at_claim t q ≡ true
parts_there q t a apart u at = and_from (nat_eq (parted t.child q) (claim_level t)) (nat_lt (claim_level t) (length q)) (eq-eqb (parted t.child q) (claim_level t) at) (lt-ltb (claim_level t) (length q) (short (cases_lt (claim_level t) (length q)))) where
  short : (claim_level t < length q) ⊎ (length q ≤ claim_level t) → claim_level t < length q
  short (inl h) = h
  short (inr h) = absurd (true≢false (sym (under-trans q t.child (leaf_path a) (parted-whole t.child q (omega (arith, at, h))) u) ∙ apart))

-- of an operation with this key and path
abbrev pub IsBeforeClaim : List ℕ → List ℕ → ClaimAt → Type 0
IsBeforeClaim key q t = parts_at_claim t q ≡ true → less_at (moment_length (claim_level t)) key t.moment ≡ true

pub op_settled : (key q : List ℕ) (t : ClaimAt) (a : LeafAt) → is_under q (leaf_path a) ≡ false → is_under t.child (leaf_path a) ≡ true → parted t.child q ≡ claim_level t → IsBeforeClaim key q t → BeginsNow t.moment a → less key (leaf_now a) ≡ true
op_settled key q t a apart u at rule begins = rw begins.1 (less_at-less (moment_length (claim_level t)) key (t.moment ++ begins.0) (less_at-append (moment_length (claim_level t)) key t.moment begins.0 (rule (parts_there q t a apart u at))))

-- of a copy with this place and end
abbrev pub EndsBeforeClaim : List ℕ → Option (List ℕ) → ClaimAt → Type 0
EndsBeforeClaim place end t = parts_at_claim t place ≡ true → Holds (there_and (claim_is_after_end t) end)

pub copy_settled : (place : List ℕ) (end : Option (List ℕ)) (t : ClaimAt) (a : LeafAt) → is_under place (leaf_path a) ≡ false → is_under t.child (leaf_path a) ≡ true → parted t.child place ≡ claim_level t → EndsBeforeClaim place end t → BeginsNow t.moment a → Holds (there_and (λ e. is_so (past e (leaf_now a))) end)
copy_settled place end t a apart u at rule begins = go end (rule (parts_there place t a apart u at)) where
  go : (o : Option (List ℕ)) → Holds (there_and (claim_is_after_end t) o) → Holds (there_and (λ e. is_so (past e (leaf_now a))) o)
  go None h = absurd (false≢true h)
  go (Some e) h =
      let long : moment_length (claim_level t) ≤ length e = leb-true (moment_length (claim_level t)) (length e) h.0 in
      let l : less_at (moment_length (claim_level t)) e (leaf_now a) ≡ true = rw begins.1 (less_at-append (moment_length (claim_level t)) e t.moment begins.0 h.1) in
      past_is e (leaf_now a) ∙ less_at-more (moment_length (claim_level t)) (length e) e (leaf_now a) long l
