-- No two leaves have one number and no two buses, so a name is that of one node at most in each part of a tree.
use Rattle.std.proofs.Common.{◌≡◌, ℕ, ◌+◌, Bool, true, false, not, nat_eq, List, [], ◌∷◌, refl, sym, ap, ◌∙◌, arith, true≢false}
use Rattle.std.specs.Prelude.{◌&&◌, ◌||◌, if◌then◌else◌, ⊤}
use Rattle.std.specs.List.{list_any}
use Rattle.std.proofs.lemmas.Bool.{eqb-true, eq-eqb, ne_eqb}
use Rattle.ddm_tree.specs.TreeModel.State.Values.{LeafValue, DirValue, Node, Nodes, leaf_node, dir_node, no_nodes, more_nodes, MachineValue, root_of}
use Rattle.ddm_tree.specs.TreeModel.State.Shape.{IsShaped, skeleton, skeletons, are_distinct, count_from, leaf_numbers_of, leaf_numbers_among, buses_of, buses_among, buses_differ, leaves_numbered}
use Rattle.ddm_tree.specs.TreeModel.Turns.Tree.{Name, leaf_of_number, bus_of_number, is_named, has_node, has_among}
use Rattle.ddm_tree.proofs.TreeModel.Tests.{and-first, and-second}

-- ---- once

abbrev mutual
  pub Once : Name → Node → Type 0
  Once name (leaf_node v) = ⊤
  Once name (dir_node d ns) = (is_named name (dir_node d ns) ≡ true → has_among name ns ≡ false) × OnceAmong name ns

  pub OnceAmong : Name → Nodes → Type 0
  OnceAmong name no_nodes = ⊤
  OnceAmong name (more_nodes n ns) = (has_node name n ≡ true → has_among name ns ≡ false) × Once name n × OnceAmong name ns

-- ---- the numbers of leaves, or of buses, of a part of the tree, before others

abbrev cons_if : Bool → ℕ → List ℕ → List ℕ
cons_if b x rest = if b then x ∷ rest else rest

abbrev mutual
  numbers : Bool → Node → List ℕ → List ℕ
  numbers b (leaf_node v) rest = cons_if b v.number rest
  numbers b (dir_node d ns) rest = cons_if (not b) d.bus (numbers_among b ns rest)

  numbers_among : Bool → Nodes → List ℕ → List ℕ
  numbers_among b no_nodes rest = rest
  numbers_among b (more_nodes n ns) rest = numbers b n (numbers_among b ns rest)

mutual
  leaf-numbers : (n : Node) (rest : List ℕ) → leaf_numbers_of (skeleton n) rest ≡ numbers true n rest
  leaf-numbers (leaf_node v) rest = refl
  leaf-numbers (dir_node d ns) rest = leaf-numbers-among ns rest

  leaf-numbers-among : (ns : Nodes) (rest : List ℕ) → leaf_numbers_among (skeletons ns) rest ≡ numbers_among true ns rest
  leaf-numbers-among no_nodes rest = refl
  leaf-numbers-among (more_nodes n ns) rest = leaf-numbers n (leaf_numbers_among (skeletons ns) rest) ∙ ap (numbers true n) (leaf-numbers-among ns rest)

mutual
  bus-numbers : (n : Node) (rest : List ℕ) → buses_of (skeleton n) rest ≡ numbers false n rest
  bus-numbers (leaf_node v) rest = refl
  bus-numbers (dir_node d ns) rest = ap (λ ks. d.bus ∷ ks) (bus-numbers-among ns rest)

  bus-numbers-among : (ns : Nodes) (rest : List ℕ) → buses_among (skeletons ns) rest ≡ numbers_among false ns rest
  bus-numbers-among no_nodes rest = refl
  bus-numbers-among (more_nodes n ns) rest = bus-numbers n (buses_among (skeletons ns) rest) ∙ ap (numbers false n) (bus-numbers-among ns rest)

-- ---- one number before others

or-behind : (a b c : Bool) → (a || (b || c)) ≡ ((a || b) || c)
or-behind true b c = refl
or-behind false b c = refl

same-test : (a b : ℕ) → nat_eq a b ≡ nat_eq b a
same-test a b =
    elim (nat_eq a b) as (λ t. nat_eq a b ≡ t → t ≡ nat_eq b a) [
      | true ↦ λ e. sym (eq-eqb b a (sym (eqb-true a b e)))
      | false ↦ λ e. sym (ne_eqb b a (λ same. true≢false (sym (eq-eqb a b (sym same)) ∙ e)))
    ] refl

any-cons : (b : Bool) (k x : ℕ) (rest : List ℕ) → list_any (nat_eq k) (cons_if b x rest) ≡ ((b && nat_eq x k) || list_any (nat_eq k) rest)
any-cons true k x rest = ap (λ t. t || list_any (nat_eq k) rest) (same-test k x)
any-cons false k x rest = refl

distinct-cons : (b : Bool) (x : ℕ) (rest : List ℕ) → are_distinct (cons_if b x rest) ≡ true → are_distinct rest ≡ true
distinct-cons true x rest e = and-second (not (list_any (nat_eq x) rest)) _ e
distinct-cons false x rest e = e

not-true : (b : Bool) → not b ≡ true → b ≡ false
not-true true e = absurd (true≢false (sym e))
not-true false e = refl

-- a number among those behind isn't this one
apart-cons : (b : Bool) (k x : ℕ) (rest : List ℕ) → are_distinct (cons_if b x rest) ≡ true → list_any (nat_eq k) rest ≡ true → (b && nat_eq x k) ≡ false
apart-cons false k x rest e there = refl
apart-cons true k x rest e there =
    elim (nat_eq x k) as (λ t. nat_eq x k ≡ t → t ≡ false) [
      | true ↦ λ is.
          let none : list_any (nat_eq x) rest ≡ false = not-true (list_any (nat_eq x) rest) (and-first (not (list_any (nat_eq x) rest)) (are_distinct rest) e) in
          let here : list_any (nat_eq k) rest ≡ false = rw (sym (eqb-true x k is)) none in
          absurd (true≢false (sym there ∙ here))
      | false ↦ λ is. refl
    ] refl

-- ---- a name and the numbers

or-left : (a b : Bool) → a ≡ true → (a || b) ≡ true
or-left true b e = refl
or-left false b e = absurd (true≢false (sym e))

or-right : (a b : Bool) → b ≡ true → (a || b) ≡ true
or-right true b e = refl
or-right false b e = e

or-neither : (a b : Bool) → a ≡ false → b ≡ false → (a || b) ≡ false
or-neither a b first second = rw (first, second) refl

-- what is said of a name whose nodes of one kind have numbers
module _ (b : Bool) (k : ℕ) (name : Name) (leaf_is : (v : LeafValue) → is_named name (leaf_node v) ≡ (b && nat_eq v.number k)) (dir_is : (d : DirValue) (ns : Nodes) → is_named name (dir_node d ns) ≡ (not b && nat_eq d.bus k)) where
  mutual
    numbered : (n : Node) (rest : List ℕ) → list_any (nat_eq k) (numbers b n rest) ≡ (has_node name n || list_any (nat_eq k) rest)
    numbered (leaf_node v) rest = any-cons b k v.number rest ∙ ap (λ t. t || list_any (nat_eq k) rest) (sym (leaf_is v))
    numbered (dir_node d ns) rest =
        any-cons (not b) k d.bus (numbers_among b ns rest) ∙ ap (λ t. t || list_any (nat_eq k) (numbers_among b ns rest)) (sym (dir_is d ns))
        ∙ ap (λ t. is_named name (dir_node d ns) || t) (numbered_among ns rest) ∙ or-behind (is_named name (dir_node d ns)) (has_among name ns) (list_any (nat_eq k) rest)

    numbered_among : (ns : Nodes) (rest : List ℕ) → list_any (nat_eq k) (numbers_among b ns rest) ≡ (has_among name ns || list_any (nat_eq k) rest)
    numbered_among no_nodes rest = refl
    numbered_among (more_nodes n ns) rest = numbered n (numbers_among b ns rest) ∙ ap (λ t. has_node name n || t) (numbered_among ns rest) ∙ or-behind (has_node name n) (has_among name ns) (list_any (nat_eq k) rest)

  mutual
    distinct-rest : (n : Node) (rest : List ℕ) → are_distinct (numbers b n rest) ≡ true → are_distinct rest ≡ true
    distinct-rest (leaf_node v) rest e = distinct-cons b v.number rest e
    distinct-rest (dir_node d ns) rest e = distinct-rest-among ns rest (distinct-cons (not b) d.bus (numbers_among b ns rest) e)

    distinct-rest-among : (ns : Nodes) (rest : List ℕ) → are_distinct (numbers_among b ns rest) ≡ true → are_distinct rest ≡ true
    distinct-rest-among no_nodes rest e = e
    distinct-rest-among (more_nodes n ns) rest e = distinct-rest-among ns rest (distinct-rest n (numbers_among b ns rest) e)

  -- a number among those behind is none of this part
  mutual
    apart : (n : Node) (rest : List ℕ) → are_distinct (numbers b n rest) ≡ true → list_any (nat_eq k) rest ≡ true → has_node name n ≡ false
    apart (leaf_node v) rest e there = leaf_is v ∙ apart-cons b k v.number rest e there
    apart (dir_node d ns) rest e there =
        let behind : list_any (nat_eq k) (numbers_among b ns rest) ≡ true = numbered_among ns rest ∙ or-right (has_among name ns) _ there in
        or-neither _ _ (dir_is d ns ∙ apart-cons (not b) k d.bus (numbers_among b ns rest) e behind) (apart-among ns rest (distinct-cons (not b) d.bus (numbers_among b ns rest) e) there)

    apart-among : (ns : Nodes) (rest : List ℕ) → are_distinct (numbers_among b ns rest) ≡ true → list_any (nat_eq k) rest ≡ true → has_among name ns ≡ false
    apart-among no_nodes rest e there = refl
    apart-among (more_nodes n ns) rest e there =
        let behind : list_any (nat_eq k) (numbers_among b ns rest) ≡ true = numbered_among ns rest ∙ or-right (has_among name ns) _ there in
        or-neither _ _ (apart n (numbers_among b ns rest) e behind) (apart-among ns rest (distinct-rest n (numbers_among b ns rest) e) there)

  -- whatever is named in front isn't behind
  not-behind : (a c : Bool) → (c ≡ true → a ≡ false) → a ≡ true → c ≡ false
  not-behind a true other is = absurd (true≢false (sym is ∙ other refl))
  not-behind a false other is = refl

  mutual
    once-in : (n : Node) (rest : List ℕ) → are_distinct (numbers b n rest) ≡ true → Once name n
    once-in (leaf_node v) rest e = tt
    once-in (dir_node d ns) rest e = (
      not-behind (is_named name (dir_node d ns)) (has_among name ns) (λ there. dir_is d ns ∙ apart-cons (not b) k d.bus (numbers_among b ns rest) e (numbered_among ns rest ∙ or-left (has_among name ns) _ there)),
      once-among ns rest (distinct-cons (not b) d.bus (numbers_among b ns rest) e),
    )

    once-among : (ns : Nodes) (rest : List ℕ) → are_distinct (numbers_among b ns rest) ≡ true → OnceAmong name ns
    once-among no_nodes rest e = tt
    once-among (more_nodes n ns) rest e = (
      not-behind (has_node name n) (has_among name ns) (λ there. apart n (numbers_among b ns rest) e (numbered_among ns rest ∙ or-left (has_among name ns) _ there)),
      once-in n (numbers_among b ns rest) e,
      once-among ns rest (distinct-rest n (numbers_among b ns rest) e),
    )

-- ---- numbers that count are different

counted-above : (n k : ℕ) (ks : List ℕ) → count_from (n + 1 + k) ks ≡ true → list_any (nat_eq n) ks ≡ false
counted-above n k [] e = refl
counted-above n k (j ∷ ks) e =
    let first = eqb-true j (n + 1 + k) (and-first (nat_eq j (n + 1 + k)) (count_from (n + 1 + k + 1) ks) e) in
    let next : n + 1 + k + 1 ≡ n + 1 + (k + 1) = omega arith in
    or-neither _ _ (ne_eqb n j (λ same. omega (arith, first, same))) (counted-above n (k + 1) ks (rw next at (and-second (nat_eq j (n + 1 + k)) (count_from (n + 1 + k + 1) ks) e)))

counted-distinct : (n : ℕ) (ks : List ℕ) → count_from n ks ≡ true → are_distinct ks ≡ true
counted-distinct n [] e = refl
counted-distinct n (j ∷ ks) e =
    let first = eqb-true j n (and-first (nat_eq j n) (count_from (n + 1) ks) e) in
    let rest = and-second (nat_eq j n) (count_from (n + 1) ks) e in
    let next : n + 1 ≡ j + 1 + 0 = omega (arith, first) in
    let none : list_any (nat_eq j) ks ≡ false = counted-above j 0 ks (rw next at rest) in
    rw none (counted-distinct (n + 1) ks rest)

-- ---- in a machine

pub leaf-once : (m : MachineValue) (k : ℕ) → IsShaped m → Once (leaf_of_number k) (root_of m)
leaf-once m k shaped = once-in true k (leaf_of_number k) (λ v. refl) (λ d ns. refl) (root_of m) [] (ap are_distinct (sym (leaf-numbers (root_of m) [])) ∙ counted-distinct 0 (leaf_numbers_of (skeleton (root_of m)) []) (shaped.each leaves_numbered))

pub bus-once : (m : MachineValue) (k : ℕ) → IsShaped m → Once (bus_of_number k) (root_of m)
bus-once m k shaped = once-in false k (bus_of_number k) (λ v. refl) (λ d ns. refl) (root_of m) [] (ap are_distinct (sym (bus-numbers (root_of m) [])) ∙ shaped.each buses_differ)
