-- The buses of a tree in the order of their numbers: the one of number k is at place k.
-- Letters: b and c are buses, bs and cs are lists of them, n is a node, ns are nodes, m is a machine, k a number.
use Rattle.std.proofs.Common.{◌≡◌, ℕ, zero, suc, ◌+◌, ◌<◌, ◌≤◌, Bool, true, false, not, ◌&&◌, ◌||◌, nat_eq, List, [], ◌∷◌, map, length, Some, option_map, refl, sym, ap, subst, ◌∙◌, inl, inr, true≢false, arith, zero-le}
use Rattle.std.specs.Prelude.{nat_lt, slice_get, if◌then◌else◌, ⊤}
use Rattle.std.specs.List.{list_any, list_all}
use Rattle.std.proofs.lemmas.Bool.{eqb-true, eq-eqb, ltb-true, ltb-false, cases_lt}
use Rattle.std.proofs.lemmas.List.{length-map}
use Rattle.tree_model.specs.State.Place.{at_top}
use Rattle.tree_model.specs.State.Shape as shape
use Rattle.tree_model.specs.State.Shape.{IsShaped, skeleton, skeletons, are_distinct, are_below, tree_counts, buses_differ, traffic_counted}
use Rattle.tree_model.specs.State.Values.{DirValue, Node, Nodes, leaf_node, dir_node, no_nodes, more_nodes, children, MachineValue, root_of}
use Rattle.tree_model.specs.Turns.Children.{child_at}
use Rattle.tree_model.specs.Turns.Machine.{ask_bus, child_count}
use Rattle.tree_model.specs.Turns.Tree.{bus_of_number, of_dir}
use Rattle.tree_model.proofs.NamedNode.{read_in-is_some}
use Rattle.tree_model.proofs.Tests.{and-first, and-second, not-true, or-false_first, or-false_second}
use Rattle.any_runs.specs.DdmTree.Reads as reads
use Rattle.any_runs.specs.DdmTree.Reads.{leaving_count_of}
use Rattle.state_judging.proofs.BusNumbers.{numbered-bus}
use Rattle.search_laws.specs.Space.{IsOneOf}
use Rattle.explorer.specs.SearchModel.Tried.{BusParts, buses_of, buses_among, bus_placed, in_order, leaving_count}
use Rattle.explorer.proofs.SearchModel.Named.{Placed, place_here, find, read-there, found-bus}
use Rattle.machine_states.proofs.Places.{There, get-one, get-there, some-there}

-- ---- numbers

abbrev pub number_of : BusParts → ℕ
number_of b = b.number

mutual
  numbers-in : (n : Node) (rest : List BusParts) → shape.buses_of (skeleton n) (map number_of rest) ≡ map number_of (buses_of n rest)
  numbers-in (leaf_node v) rest = refl
  numbers-in (dir_node d ns) rest = ap (λ l. d.bus ∷ l) (numbers-among ns rest)

  numbers-among : (ns : Nodes) (rest : List BusParts) → shape.buses_among (skeletons ns) (map number_of rest) ≡ map number_of (buses_among ns rest)
  numbers-among no_nodes rest = refl
  numbers-among (more_nodes n ns) rest = ap (shape.buses_of (skeleton n)) (numbers-among ns rest) ∙ numbers-in n (buses_among ns rest)

-- ---- a bus that is put among others

or-swapped : (a b c : Bool) → (a || (b || c)) ≡ (b || (a || c))
or-swapped true true c = refl
or-swapped true false c = refl
or-swapped false b c = refl

and-swapped : (a b c : Bool) → (a && (b && c)) ≡ (b && (a && c))
and-swapped true b c = refl
and-swapped false true c = refl
and-swapped false false c = refl

module _ (p : ℕ → Bool) where
  any-placed : (b : BusParts) (cs : List BusParts) → list_any p (map number_of (bus_placed b cs)) ≡ (p b.number || list_any p (map number_of cs))
  any-placed b [] = refl
  any-placed b (c ∷ cs) = elim (nat_lt c.number b.number) as (λ z. list_any p (map number_of (if z then c ∷ bus_placed b cs else b ∷ c ∷ cs)) ≡ (p b.number || (p c.number || list_any p (map number_of cs)))) [
    | true ↦ ap (λ x. p c.number || x) (any-placed b cs) ∙ or-swapped (p c.number) (p b.number) (list_any p (map number_of cs))
    | false ↦ refl
  ]

  any-order : (bs : List BusParts) → list_any p (map number_of (in_order bs)) ≡ list_any p (map number_of bs)
  any-order [] = refl
  any-order (b ∷ bs) = any-placed b (in_order bs) ∙ ap (λ x. p b.number || x) (any-order bs)

  all-placed : (b : BusParts) (cs : List BusParts) → list_all p (map number_of (bus_placed b cs)) ≡ (p b.number && list_all p (map number_of cs))
  all-placed b [] = refl
  all-placed b (c ∷ cs) = elim (nat_lt c.number b.number) as (λ z. list_all p (map number_of (if z then c ∷ bus_placed b cs else b ∷ c ∷ cs)) ≡ (p b.number && (p c.number && list_all p (map number_of cs)))) [
    | true ↦ ap (λ x. p c.number && x) (all-placed b cs) ∙ and-swapped (p c.number) (p b.number) (list_all p (map number_of cs))
    | false ↦ refl
  ]

  all-order : (bs : List BusParts) → list_all p (map number_of (in_order bs)) ≡ list_all p (map number_of bs)
  all-order [] = refl
  all-order (b ∷ bs) = all-placed b (in_order bs) ∙ ap (λ x. p b.number && x) (all-order bs)

  pub in-any : (bs : List BusParts) (b : BusParts) → IsOneOf bs b → p b.number ≡ true → list_any p (map number_of bs) ≡ true
  in-any [] b i passes = elim i [ ]
  in-any (c ∷ cs) b (inl e) passes = rw (ap (λ (x : BusParts). p x.number) e ∙ passes) refl
  in-any (c ∷ cs) b (inr i) passes = elim (p c.number) as (λ z. (z || list_any p (map number_of cs)) ≡ true) [ true ↦ refl | false ↦ in-any cs b i passes ]

placed-counted : (b : BusParts) (cs : List BusParts) → length (bus_placed b cs) ≡ suc (length cs)
placed-counted b [] = refl
placed-counted b (c ∷ cs) = elim (nat_lt c.number b.number) as (λ z. length (if z then c ∷ bus_placed b cs else b ∷ c ∷ cs) ≡ suc (suc (length cs))) [ true ↦ ap suc (placed-counted b cs) | false ↦ refl ]

order-counted : (bs : List BusParts) → length (in_order bs) ≡ length bs
order-counted [] = refl
order-counted (b ∷ bs) = placed-counted b (in_order bs) ∙ ap suc (order-counted bs)

placed-back : (b : BusParts) (cs : List BusParts) (x : BusParts) → IsOneOf (bus_placed b cs) x → IsOneOf (b ∷ cs) x
placed-back b [] x i = i
placed-back b (c ∷ cs) x i = elim (nat_lt c.number b.number) as (λ z. IsOneOf (if z then c ∷ bus_placed b cs else b ∷ c ∷ cs) x → IsOneOf (b ∷ c ∷ cs) x) [
  | true ↦ λ j. elim j [
    | inl e ↦ inr (inl e)
    | inr k ↦ elim (placed-back b cs x k) [
      | inl e ↦ inl e
      | inr l ↦ inr (inr l)
    ]
  ]
  | false ↦ λ j. j
] i

pub order-back : (bs : List BusParts) (x : BusParts) → IsOneOf (in_order bs) x → IsOneOf bs x
order-back [] x i = elim i [ ]
order-back (b ∷ bs) x i = elim (placed-back b (in_order bs) x i) [
  | inl e ↦ inl e
  | inr j ↦ inr (order-back bs x j)
]

-- ---- rising numbers

abbrev Rises : ℕ → List BusParts → Type 0
Rises k [] = ⊤
Rises k (b ∷ bs) = (k ≤ b.number) × Rises (b.number + 1) bs

placed-rises : (k : ℕ) (b : BusParts) (cs : List BusParts) → k ≤ b.number → Rises k cs → list_any (nat_eq b.number) (map number_of cs) ≡ false → Rises k (bus_placed b cs)
placed-rises k b [] low up new = (low, tt)
placed-rises k b (c ∷ cs) low up new = elim (nat_lt c.number b.number) as (λ z. nat_lt c.number b.number ≡ z → Rises k (if z then c ∷ bus_placed b cs else b ∷ c ∷ cs)) [
  | true ↦ λ is.
      let less : c.number < b.number = ltb-true c.number b.number is in
      (up.0, placed-rises (c.number + 1) b cs (omega (arith, less)) up.1 (or-false_second (nat_eq b.number c.number) (list_any (nat_eq b.number) (map number_of cs)) new))
  | false ↦ λ is.
      let most : b.number ≤ c.number = ltb-false c.number b.number is in
      let other : b.number ≡ c.number → ⊥ = λ same. true≢false (sym (eq-eqb b.number c.number same) ∙ or-false_first (nat_eq b.number c.number) (list_any (nat_eq b.number) (map number_of cs)) new) in
      let less : b.number + 1 ≤ c.number = elim (cases_lt b.number c.number) [ inl below ↦ omega (arith, below) | inr above ↦ absurd (other (omega (arith, most, above))) ] in
      (low, (less, up.1))
] refl

order-rises : (bs : List BusParts) → are_distinct (map number_of bs) ≡ true → Rises 0 (in_order bs)
order-rises [] e = tt
order-rises (b ∷ bs) e =
    let new = not-true (list_any (nat_eq b.number) (map number_of bs)) (and-first _ (are_distinct (map number_of bs)) e) in
    placed-rises 0 b (in_order bs) zero-le (order-rises bs (and-second (not (list_any (nat_eq b.number) (map number_of bs))) _ e)) (any-order (nat_eq b.number) bs ∙ new)

-- numbers from j on that rise and are below n are not more than n has from j on
room : (j n : ℕ) (bs : List BusParts) → j ≤ n → Rises j bs → are_below n (map number_of bs) ≡ true → j + length bs ≤ n
room j n [] low up below = omega (arith, low)
room j n (b ∷ bs) low up below =
    let less : b.number < n = ltb-true b.number n (and-first (nat_lt b.number n) (are_below n (map number_of bs)) below) in
    let rest = room (b.number + 1) n bs (omega (arith, less)) up.1 (and-second (nat_lt b.number n) (are_below n (map number_of bs)) below) in
    omega (arith, rest, up.0)

squeezed : (k n : ℕ) (bs : List BusParts) → n ≡ k + length bs → Rises k bs → are_below n (map number_of bs) ≡ true → (j : ℕ) (b : BusParts) → slice_get bs j ≡ Some b → b.number ≡ k + j
squeezed k n [] size up below j b is = cc
squeezed k n (c ∷ cs) size up below j b is =
    let less : c.number < n = ltb-true c.number n (and-first (nat_lt c.number n) (are_below n (map number_of cs)) below) in
    let later = and-second (nat_lt c.number n) (are_below n (map number_of cs)) below in
    let fits = room (c.number + 1) n cs (omega (arith, less)) up.1 later in
    let first : c.number ≡ k = omega (arith, fits, up.0, size) in
    elim j as (λ j. slice_get (c ∷ cs) j ≡ Some b → b.number ≡ k + j) [
      | zero ↦ λ at.
          let same : c ≡ b = cc in
          omega (arith, ap number_of same, first)
      | suc i ↦ λ at. omega (arith, squeezed (k + 1) n cs (omega (arith, size)) (subst (λ f. Rises (f + 1) cs) first up.1) later i b at)
    ] is

-- two of one number are the same
unique : (bs : List BusParts) → are_distinct (map number_of bs) ≡ true → (b c : BusParts) → IsOneOf bs b → IsOneOf bs c → b.number ≡ c.number → b ≡ c
unique [] e b c i j same = elim i [ ]
unique (x ∷ xs) e b c (inl p) (inl q) same = sym p ∙ q
unique (x ∷ xs) e b c (inl p) (inr j) same =
    let there = in-any (nat_eq x.number) xs c j (eq-eqb x.number c.number (ap number_of p ∙ same)) in
    absurd (true≢false (sym there ∙ not-true _ (and-first _ (are_distinct (map number_of xs)) e)))
unique (x ∷ xs) e b c (inr i) (inl q) same =
    let there = in-any (nat_eq x.number) xs b i (eq-eqb x.number b.number (ap number_of q ∙ sym same)) in
    absurd (true≢false (sym there ∙ not-true _ (and-first _ (are_distinct (map number_of xs)) e)))
unique (x ∷ xs) e b c (inr i) (inr j) same = unique xs (and-second (not (list_any (nat_eq x.number) (map number_of xs))) _ e) b c i j same

-- ---- the bus at a place

abbrev pub ordered : MachineValue → List BusParts
ordered m = in_order (buses_of (root_of m) [])

pub ordered-counted : (m : MachineValue) → length (ordered m) ≡ (tree_counts m).buses
ordered-counted m = order-counted (buses_of (root_of m) []) ∙ sym (length-map (buses_of (root_of m) []) number_of) ∙ ap length (sym (numbers-in (root_of m) []))

-- the count that a machine reads is that of the search
same-count : (n : Node) → reads.leaving_count n ≡ leaving_count n
same-count (leaf_node v) = refl
same-count (dir_node d ns) = refl

pub record BusAt (m : MachineValue) (k : ℕ) : Type 0 where
  pub parts : BusParts
  pub at : slice_get (ordered m) k ≡ Some parts
  pub number : parts.number ≡ k
  pub count : child_count k m ≡ Some (length parts.kids)
  pub leaving : (c : ℕ) → leaving_count_of k c m ≡ Some (leaving_count (child_at c parts.kids))

module _ (m : MachineValue) (shaped : IsShaped m) where
  abbrev all : List BusParts
  all = buses_of (root_of m) []

  differ : are_distinct (map number_of all) ≡ true
  differ = ap are_distinct (sym (numbers-in (root_of m) [])) ∙ shaped.each buses_differ

  pub all-below : are_below (tree_counts m).buses (map number_of all) ≡ true
  all-below =
      let numbers = shape.buses_of (skeleton (root_of m)) [] in
      let both = shaped.each traffic_counted in
      let size : length numbers ≡ length m.traffic = eqb-true _ _ (and-first (nat_eq (length numbers) (length m.traffic)) (are_below (length m.traffic) numbers) both) in
      ap (are_below (tree_counts m).buses) (sym (numbers-in (root_of m) [])) ∙ ap (λ n. are_below n numbers) size ∙ and-second (nat_eq (length numbers) (length m.traffic)) (are_below (length m.traffic) numbers) both

  at-place : (k : ℕ) (b : BusParts) → slice_get (ordered m) k ≡ Some b → b.number ≡ k
  at-place k b is = omega (arith, squeezed 0 (tree_counts m).buses (ordered m) (omega (arith, ordered-counted m)) (order-rises all differ) (all-order (λ i. nat_lt i (tree_counts m).buses) all ∙ all-below) k b is)

  module _ (k : ℕ) (less : k < (tree_counts m).buses) where
    placed : There (ordered m) k
    placed = get-there (ordered m) k (omega (arith, less, ordered-counted m))

    named : placed.one.number ≡ k
    named = at-place k placed.one placed.at

    found : (p : Placed) × (find (bus_of_number k) at_top (root_of m) ≡ Some p)
    found = some-there _ (read_in-is_some (bus_of_number k) place_here at_top (root_of m) ∙ numbered-bus m k shaped less)

    asked : {A : Type 0} (f : DirValue → List Node → A) (other : A) (g : List Node → A) → ((d : DirValue) (ns : List Node) → f d ns ≡ g ns) → ask_bus k (λ w d ns. f d ns) other m ≡ Some (g placed.one.kids)
    asked f other g only =
        let here = found-bus k at_top (root_of m) [] found.0 found.1 in
        let own : BusParts = record { number = here.parent.bus; kids = children here.kids } in
        let same : own ≡ placed.one = unique all differ own placed.one here.listed (order-back all placed.one (get-one (ordered m) k placed.one placed.at)) (here.named ∙ sym named) in
        read-there (bus_of_number k) (of_dir (λ w d ns. f d ns) other) at_top (root_of m) ∙ ap (option_map _) found.1
        ∙ ap (λ n. Some (of_dir (λ w d ns. f d ns) other found.0.place n)) here.is ∙ ap Some (only here.parent (children here.kids)) ∙ ap (λ (b : BusParts). Some (g b.kids)) same

    pub bus-at : BusAt m k
    bus-at = record {
      parts = placed.one;
      at = placed.at;
      number = named;
      count = asked (λ d ns. length ns) 0 length (λ d ns. refl);
      leaving = λ c. asked (λ d ns. reads.leaving_count (child_at c ns)) 0 (λ ns. leaving_count (child_at c ns)) (λ d ns. same-count (child_at c ns));
    }
