-- Numbers of buses: where they differ, the bus of a number is in one child of a bus alone.
-- Letters: b is the number of a bus, m a part, ns are parts.
use Rattle.std.proofs.Common.{◌≡◌, ℕ, zero, suc, ◌<◌, Bool, true, false, List, [], ◌∷◌, length, refl, sym, subst, ◌∙◌, arith}
use Rattle.std.specs.Prelude.{not, ◌||◌, nat_eq}
use Rattle.std.specs.List.{list_any}
use Rattle.std.proofs.lemmas.Bool.{and_parts, not-true, true≢false, eq-eqb, eqb-true, ne_eqb, or_right}
use Rattle.serving_model.specs.TreeModel.State.Values.{DirValue, Node, Nodes, leaf_node, dir_node, no_nodes, more_nodes, nodes}
use Rattle.serving_model.specs.TreeModel.State.Shape.{skeleton, skeletons, are_distinct, buses_of, buses_among}
use Rattle.serving_model.specs.TreeModel.Turns.Children.{child_at}
use Rattle.serving_model.specs.TreeModel.Turns.Tree.{Name, bus_of_number, has_node, has_among}

pub same-test : (a b : ℕ) → nat_eq a b ≡ nat_eq b a
same-test a b = by (nat_eq a b) refl where
  by : (t : Bool) → nat_eq a b ≡ t → t ≡ nat_eq b a
  by true e = sym (eq-eqb b a (sym (eqb-true a b e)))
  by false e = sym (ne_eqb b a (λ same. true≢false (sym (eq-eqb a b (sym same)) ∙ e)))

or-first : (a b : Bool) → a ≡ true → (a || b) ≡ true
or-first true b e = refl
or-first false b e = cc

module _ (b : ℕ) where
  abbrev name : Name
  name = bus_of_number b

  -- a number of other buses, or of one in the part, is a number of both
  mutual
    behind : (m : Node) (rest : List ℕ) → list_any (nat_eq b) rest ≡ true → list_any (nat_eq b) (buses_of (skeleton m) rest) ≡ true
    behind (leaf_node v) rest there = there
    behind (dir_node d ns) rest there = or_right (nat_eq b d.bus) _ (behind_among ns rest there)

    behind_among : (ns : Nodes) (rest : List ℕ) → list_any (nat_eq b) rest ≡ true → list_any (nat_eq b) (buses_among (skeletons ns) rest) ≡ true
    behind_among no_nodes rest there = there
    behind_among (more_nodes m ns) rest there = behind m _ (behind_among ns rest there)

  mutual
    number-in : (m : Node) (rest : List ℕ) → has_node name m ≡ true → list_any (nat_eq b) (buses_of (skeleton m) rest) ≡ true
    number-in (leaf_node v) rest has = absurd (true≢false (sym has))
    number-in (dir_node d ns) rest has = by (nat_eq d.bus b) refl has (λ below. number-in_among ns rest below) where
      by : (t : Bool) → nat_eq d.bus b ≡ t → (t || has_among name ns) ≡ true → (has_among name ns ≡ true → list_any (nat_eq b) (buses_among (skeletons ns) rest) ≡ true) → list_any (nat_eq b) (buses_of (skeleton (dir_node d ns)) rest) ≡ true
      by true is has below = or-first (nat_eq b d.bus) _ (same-test b d.bus ∙ is)
      by false is has below = or_right (nat_eq b d.bus) _ (below has)

    number-in_among : (ns : Nodes) (rest : List ℕ) → has_among name ns ≡ true → list_any (nat_eq b) (buses_among (skeletons ns) rest) ≡ true
    number-in_among no_nodes rest has = absurd (true≢false (sym has))
    number-in_among (more_nodes m ns) rest has = by (has_node name m) refl has (λ here. number-in m (buses_among (skeletons ns) rest) here) (λ below. number-in_among ns rest below) where
      by : (t : Bool) → has_node name m ≡ t → (t || has_among name ns) ≡ true → (has_node name m ≡ true → list_any (nat_eq b) (buses_among (skeletons (more_nodes m ns)) rest) ≡ true) → (has_among name ns ≡ true → list_any (nat_eq b) (buses_among (skeletons ns) rest) ≡ true) → list_any (nat_eq b) (buses_among (skeletons (more_nodes m ns)) rest) ≡ true
      by true is has here below = here is
      by false is has here below = behind m (buses_among (skeletons ns) rest) (below has)

  -- of the numbers that differ, one behind a part is of no bus in it
  mutual
    apart : (m : Node) (rest : List ℕ) → are_distinct (buses_of (skeleton m) rest) ≡ true → list_any (nat_eq b) rest ≡ true → has_node name m ≡ false
    apart (leaf_node v) rest differ there = refl
    apart (dir_node d ns) rest differ there =
        let parts = and_parts (not (list_any (nat_eq d.bus) (buses_among (skeletons ns) rest))) _ differ in
        by (nat_eq d.bus b) refl (not-true _ parts.0) (apart_among ns rest parts.1 there) where
          by : (t : Bool) → nat_eq d.bus b ≡ t → list_any (nat_eq d.bus) (buses_among (skeletons ns) rest) ≡ false → has_among name ns ≡ false → (t || has_among name ns) ≡ false
          by true is none below = absurd (true≢false (sym (behind_among ns rest there) ∙ subst (λ j. list_any (nat_eq j) (buses_among (skeletons ns) rest) ≡ false) (eqb-true d.bus b is) none))
          by false is none below = below

    apart_among : (ns : Nodes) (rest : List ℕ) → are_distinct (buses_among (skeletons ns) rest) ≡ true → list_any (nat_eq b) rest ≡ true → has_among name ns ≡ false
    apart_among no_nodes rest differ there = refl
    apart_among (more_nodes m ns) rest differ there = rw (apart m (buses_among (skeletons ns) rest) differ (behind_among ns rest there)) (apart_among ns rest (distinct-behind m (buses_among (skeletons ns) rest) differ) there)

    distinct-behind : (m : Node) (rest : List ℕ) → are_distinct (buses_of (skeleton m) rest) ≡ true → are_distinct rest ≡ true
    distinct-behind (leaf_node v) rest differ = differ
    distinct-behind (dir_node d ns) rest differ = distinct-behind_among ns rest (and_parts (not (list_any (nat_eq d.bus) (buses_among (skeletons ns) rest))) _ differ).1

    distinct-behind_among : (ns : Nodes) (rest : List ℕ) → are_distinct (buses_among (skeletons ns) rest) ≡ true → are_distinct rest ≡ true
    distinct-behind_among no_nodes rest differ = differ
    distinct-behind_among (more_nodes m ns) rest differ = distinct-behind_among ns rest (distinct-behind m (buses_among (skeletons ns) rest) differ)

  -- ---- in one child alone

  number-in_child : (ns : List Node) (i : ℕ) (rest : List ℕ) → i < length ns → has_node name (child_at i ns) ≡ true → list_any (nat_eq b) (buses_among (skeletons (nodes ns)) rest) ≡ true
  number-in_child [] i rest l has = absurd (omega (arith, l))
  number-in_child (m ∷ ns) zero rest l has = number-in m (buses_among (skeletons (nodes ns)) rest) has
  number-in_child (m ∷ ns) (suc i) rest l has = behind m (buses_among (skeletons (nodes ns)) rest) (number-in_child ns i rest (omega (arith, l)) has)

  pub lower-lack : (ns : List Node) (i : ℕ) (rest : List ℕ) → are_distinct (buses_among (skeletons (nodes ns)) rest) ≡ true → i < length ns → has_node name (child_at i ns) ≡ true → (j : ℕ) → j < i → has_node name (child_at j ns) ≡ false
  lower-lack [] i rest differ l has j lower = absurd (omega (arith, l))
  lower-lack (m ∷ ns) zero rest differ l has j lower = absurd (omega (arith, lower))
  lower-lack (m ∷ ns) (suc i) rest differ l has zero lower = apart m (buses_among (skeletons (nodes ns)) rest) differ (number-in_child ns i rest (omega (arith, l)) has)
  lower-lack (m ∷ ns) (suc i) rest differ l has (suc j) lower = lower-lack ns i rest (distinct-behind m (buses_among (skeletons (nodes ns)) rest) differ) (omega (arith, l)) has j (omega (arith, lower))

  -- and not that of the bus above
  pub other-bus : (d : DirValue) (ns : List Node) (i : ℕ) (rest : List ℕ) → are_distinct (buses_of (skeleton (dir_node d (nodes ns))) rest) ≡ true → i < length ns → has_node name (child_at i ns) ≡ true → nat_eq d.bus b ≡ false
  other-bus d ns i rest differ l has = ne_eqb d.bus b (λ same. true≢false (sym (subst (λ j. list_any (nat_eq j) (buses_among (skeletons (nodes ns)) rest) ≡ true) (sym same) (number-in_child ns i rest l has)) ∙ not-true _ (and_parts (not (list_any (nat_eq d.bus) (buses_among (skeletons (nodes ns)) rest))) _ differ).0))

-- the numbers in a child differ where those of the bus do
pub child-distinct : (ns : List Node) (i : ℕ) (rest : List ℕ) → are_distinct (buses_among (skeletons (nodes ns)) rest) ≡ true → i < length ns → (others : List ℕ) × (are_distinct (buses_of (skeleton (child_at i ns)) others) ≡ true)
child-distinct [] i rest differ l = absurd (omega (arith, l))
child-distinct (m ∷ ns) zero rest differ l = (buses_among (skeletons (nodes ns)) rest, differ)
child-distinct (m ∷ ns) (suc i) rest differ l = child-distinct ns i rest (distinct-behind 0 m (buses_among (skeletons (nodes ns)) rest) differ) (omega (arith, l))
