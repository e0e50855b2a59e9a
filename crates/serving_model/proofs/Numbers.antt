-- Numbers of leaves: a leaf's number is in one child of a bus alone, since leaves are numbered from left to right.
-- Letters: h is the number of a leaf, m a part, ns are parts, k the first number in them.
use Rattle.std.proofs.Common.{◌≡◌, ◌≢◌, ℕ, zero, suc, ◌+◌, ◌<◌, ◌≤◌, Bool, true, false, List, length, refl, sym, subst, arith, ◌⊎◌, inl, inr}
use Rattle.std.specs.Prelude.{◌||◌, nat_eq}
use Rattle.std.proofs.lemmas.Bool.{and_parts, cases_lt, true≢false}
use Rattle.std.proofs.lemmas.Bool.Decides.{nat_tests}
use Rattle.serving_model.specs.TreeModel.State.Values.{Node, Nodes, leaf_node, dir_node, no_nodes, more_nodes, children}
use Rattle.serving_model.specs.TreeModel.State.Shape.{skeleton, skeletons, leaf_numbers_of, leaf_numbers_among, count_from}
use Rattle.serving_model.specs.TreeModel.Turns.Children.{child_at}
use Rattle.serving_model.specs.TreeModel.Turns.Tree.{Name, leaf_of_number, has_node, has_among}
use Rattle.serving_model.proofs.Issued.{has-child}

-- how many leaves a part has
abbrev mutual
  pub leaf_count : Node → ℕ
  leaf_count (leaf_node v) = 1
  leaf_count (dir_node d ns) = leaf_count_among ns

  pub leaf_count_among : Nodes → ℕ
  leaf_count_among no_nodes = 0
  leaf_count_among (more_nodes m ns) = leaf_count m + leaf_count_among ns

module _ (h : ℕ) where
  abbrev name : Name
  name = leaf_of_number h

  -- what is behind goes on with the next number, and the numbers in it are between
  record Counted (k size : ℕ) (rest : List ℕ) (has : Bool) : Type 0 where
    next : count_from (k + size) rest ≡ true
    inside : has ≡ true → (k ≤ h) × (h < k + size)

  join : (k a b : ℕ) (rest : List ℕ) (first later : Bool) → (first ≡ true → (k ≤ h) × (h < k + a)) → Counted (k + a) b rest later → Counted k (a + b) rest (first || later)
  join k a b rest first later low c = record { next = subst (λ i. count_from i rest ≡ true) (let same : (k + a) + b ≡ k + (a + b) = omega arith in same) c.next; inside = at first low } where
    at : (f : Bool) → (f ≡ true → (k ≤ h) × (h < k + a)) → (f || later) ≡ true → (k ≤ h) × (h < k + (a + b))
    at true low e =
        let both = low refl in
        let first = both.0 in
        let last = both.1 in
        (first, omega (arith, last))
    at false low e =
        let both = c.inside e in
        let first = both.0 in
        let last = both.1 in
        (omega (arith, first), omega (arith, last))

  mutual
    counted : (m : Node) (k : ℕ) (rest : List ℕ) → count_from k (leaf_numbers_of (skeleton m) rest) ≡ true → Counted k (leaf_count m) rest (has_node name m)
    counted (leaf_node v) k rest e =
        let both = and_parts (nat_eq v.number k) _ e in
        record { next = both.1; inside = λ has. inside-fact v.number k h both.0 has } where
          inside-fact : (a k h : ℕ) → nat_eq a k ≡ true → nat_eq a h ≡ true → (k ≤ h) × (h < k + 1)
          inside-fact a k h first has =
              let same : h ≡ k = grind (arith, nat_tests) in
              (omega (arith, same), omega (arith, same))
    counted (dir_node d ns) k rest e = counted-among ns k rest e

    counted-among : (ns : Nodes) (k : ℕ) (rest : List ℕ) → count_from k (leaf_numbers_among (skeletons ns) rest) ≡ true → Counted k (leaf_count_among ns) rest (has_among name ns)
    counted-among no_nodes k rest e = record { next = subst (λ i. count_from i rest ≡ true) (let same : k ≡ k + 0 = omega arith in same) e; inside = λ has. absurd (true≢false (sym has)) }
    counted-among (more_nodes m ns) k rest e =
        let first = counted m k (leaf_numbers_among (skeletons ns) rest) e in
        join k (leaf_count m) (leaf_count_among ns) rest (has_node name m) (has_among name ns) first.inside (counted-among ns (k + leaf_count m) rest first.next)

  earlier : (ns : Nodes) (k : ℕ) (rest : List ℕ) → count_from k (leaf_numbers_among (skeletons ns) rest) ≡ true → (i j : ℕ) → i < j → j < length (children ns) → has_node name (child_at i (children ns)) ≡ true → has_node name (child_at j (children ns)) ≡ true → ⊥
  earlier no_nodes k rest e i j before l first later = omega (arith, l)
  earlier (more_nodes m ns) k rest e zero zero before l first later = omega (arith, before)
  earlier (more_nodes m ns) k rest e zero (suc j) before l first later =
      let one = counted m k (leaf_numbers_among (skeletons ns) rest) e in
      let low = (one.inside first).1 in
      let high = ((counted-among ns (k + leaf_count m) rest one.next).inside (has-child h j ns (omega (arith, l)) later)).0 in
      omega (arith, low, high)
  earlier (more_nodes m ns) k rest e (suc i) zero before l first later = omega (arith, before)
  earlier (more_nodes m ns) k rest e (suc i) (suc j) before l first later =
      earlier ns (k + leaf_count m) rest (counted m k (leaf_numbers_among (skeletons ns) rest) e).next i j (omega (arith, before)) (omega (arith, l)) first later

  -- the other children lack the number
  pub others-lack : (ns : Nodes) (k : ℕ) (rest : List ℕ) → count_from k (leaf_numbers_among (skeletons ns) rest) ≡ true → (c : ℕ) → c < length (children ns) → has_node name (child_at c (children ns)) ≡ true → (j : ℕ) → j < length (children ns) → j ≢ c → has_node name (child_at j (children ns)) ≡ false
  others-lack ns k rest e c there has j l ne = at (has_node name (child_at j (children ns))) refl where
    at : (b : Bool) → has_node name (child_at j (children ns)) ≡ b → has_node name (child_at j (children ns)) ≡ false
    at false is = is
    at true is = absurd (apart (cases_lt j c)) where
      apart : (j < c) ⊎ (c ≤ j) → ⊥
      apart (inl before) = earlier ns k rest e j c before there is has
      apart (inr after) = earlier ns k rest e c j (below j c after ne) l has is where
        below : (j c : ℕ) → c ≤ j → j ≢ c → c < j
        below j c after ne = omega (arith, after, ne)

  pub record ChildCounted (m : Node) : Type 0 where
    pub first : ℕ
    pub rest : List ℕ
    pub counted : count_from first (leaf_numbers_of (skeleton m) rest) ≡ true

  pub child-counted : (ns : Nodes) (k : ℕ) (rest : List ℕ) → count_from k (leaf_numbers_among (skeletons ns) rest) ≡ true → (c : ℕ) → c < length (children ns) → ChildCounted (child_at c (children ns))
  child-counted no_nodes k rest e c l = absurd (omega (arith, l))
  child-counted (more_nodes m ns) k rest e zero l = record { first = k; rest = leaf_numbers_among (skeletons ns) rest; counted = e }
  child-counted (more_nodes m ns) k rest e (suc c) l = child-counted ns (k + leaf_count m) rest (counted m k (leaf_numbers_among (skeletons ns) rest) e).next c (omega (arith, l))
