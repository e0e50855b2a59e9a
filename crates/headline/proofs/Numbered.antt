-- A leaf or directory of a machine is found by its number: no other has it.
use Rattle.std.proofs.Common.{◌≡◌, ℕ, ◌+◌, ◌<◌, ◌≤◌, Bool, true, false, not, nat_eq, List, [], ◌∷◌, Some, refl, sym, ap, subst, ◌∙◌, arith}
use Rattle.std.specs.List.{list_any}
use Rattle.std.proofs.lemmas.Bool.{and_parts, or_parts, not-true, true≢false, eqb-true, eq-eqb}
use Rattle.headline.specs.TreeModel.State.Values.{LeafValue, DirValue, Node, Nodes, leaf_node, dir_node, no_nodes, more_nodes, children, MachineValue, root_of}
use Rattle.headline.specs.TreeModel.State.Shape.{skeleton, skeletons, buses_of, buses_among, leaf_numbers_of, leaf_numbers_among, are_distinct, count_from, buses_differ, leaves_numbered, IsShaped}
use Rattle.headline.specs.TreeModel.State.Place.{at_top}
use Rattle.headline.specs.TreeModel.Turns.Tree.{leaf_of_number, bus_of_number, of_leaf, of_dir}
use Rattle.headline.specs.TreeModel.Turns.Machine.{ask_leaf, ask_bus}
use Rattle.headline.specs.TreeRules.Witness.{is_told}
use Rattle.headline.proofs.BusLaws.StartSums.{one_if}
use Rattle.headline.proofs.Standing.{StandsIn, named_in, named_among, read-one}

-- ---- numbers

abbrev occurs : ℕ → List ℕ → ℕ
occurs b [] = 0
occurs b (n ∷ ns) = one_if (nat_eq n b) + occurs b ns

mutual
  buses-counted : (b : ℕ) (n : Node) (rest : List ℕ) → occurs b (buses_of (skeleton n) rest) ≡ named_in (bus_of_number b) n + occurs b rest
  buses-counted b (leaf_node v) rest = omega arith
  buses-counted b (dir_node d ns) rest = let c : occurs b (buses_among (skeletons ns) rest) ≡ named_among (bus_of_number b) ns + occurs b rest = among-counted b ns rest in omega (arith, c)

  among-counted : (b : ℕ) (ns : Nodes) (rest : List ℕ) → occurs b (buses_among (skeletons ns) rest) ≡ named_among (bus_of_number b) ns + occurs b rest
  among-counted b no_nodes rest = omega arith
  among-counted b (more_nodes n ns) rest =
      let c : occurs b (buses_of (skeleton n) (buses_among (skeletons ns) rest)) ≡ named_in (bus_of_number b) n + occurs b (buses_among (skeletons ns) rest) = buses-counted b n (buses_among (skeletons ns) rest) in
      let e : occurs b (buses_among (skeletons ns) rest) ≡ named_among (bus_of_number b) ns + occurs b rest = among-counted b ns rest in
      omega (arith, c, e)

mutual
  leaves-counted : (h : ℕ) (n : Node) (rest : List ℕ) → occurs h (leaf_numbers_of (skeleton n) rest) ≡ named_in (leaf_of_number h) n + occurs h rest
  leaves-counted h (leaf_node v) rest = refl
  leaves-counted h (dir_node d ns) rest = let c : occurs h (leaf_numbers_among (skeletons ns) rest) ≡ named_among (leaf_of_number h) ns + occurs h rest = leaves_among-counted h ns rest in omega (arith, c)

  leaves_among-counted : (h : ℕ) (ns : Nodes) (rest : List ℕ) → occurs h (leaf_numbers_among (skeletons ns) rest) ≡ named_among (leaf_of_number h) ns + occurs h rest
  leaves_among-counted h no_nodes rest = omega arith
  leaves_among-counted h (more_nodes n ns) rest =
      let c : occurs h (leaf_numbers_of (skeleton n) (leaf_numbers_among (skeletons ns) rest)) ≡ named_in (leaf_of_number h) n + occurs h (leaf_numbers_among (skeletons ns) rest) = leaves-counted h n (leaf_numbers_among (skeletons ns) rest) in
      let e : occurs h (leaf_numbers_among (skeletons ns) rest) ≡ named_among (leaf_of_number h) ns + occurs h rest = leaves_among-counted h ns rest in
      omega (arith, c, e)

nowhere : (n : ℕ) (ns : List ℕ) → list_any (nat_eq n) ns ≡ false → occurs n ns ≡ 0
nowhere n [] h = refl
nowhere n (k ∷ ns) h = go (nat_eq k n) refl (nowhere n ns parts.1) where
  parts : (nat_eq n k ≡ false) × (list_any (nat_eq n) ns ≡ false)
  parts = or_parts (nat_eq n k) (list_any (nat_eq n) ns) h

  go : (t : Bool) → nat_eq k n ≡ t → occurs n ns ≡ 0 → occurs n (k ∷ ns) ≡ 0
  go true e rest = absurd (true≢false (sym (eq-eqb n k (sym (eqb-true k n e))) ∙ parts.0))
  go false e rest = rw e (omega (arith, rest))

distinct-once : (b : ℕ) (ns : List ℕ) → are_distinct ns ≡ true → occurs b ns ≤ 1
distinct-once b [] h = omega arith
distinct-once b (n ∷ ns) h = go (nat_eq n b) refl (distinct-once b ns parts.1) where
  parts : (not (list_any (nat_eq n) ns) ≡ true) × (are_distinct ns ≡ true)
  parts = and_parts (not (list_any (nat_eq n) ns)) (are_distinct ns) h

  go : (t : Bool) → nat_eq n b ≡ t → occurs b ns ≤ 1 → occurs b (n ∷ ns) ≤ 1
  go true e rest =
      let same : n ≡ b = eqb-true n b e in
      let none : occurs b ns ≡ 0 = subst (λ k. occurs k ns ≡ 0) same (nowhere n ns (not-true _ parts.0)) in
      rw e (omega (arith, none))
  go false e rest = rw e (omega (arith, rest))

counted-once : (h n : ℕ) (ns : List ℕ) → count_from n ns ≡ true → (occurs h ns ≤ 1) × (h < n → occurs h ns ≡ 0)
counted-once h n [] c = (omega arith, λ l. refl)
counted-once h n (k ∷ ns) c = go (nat_eq k h) refl (counted-once h (n + 1) ns parts.1) where
  parts : (nat_eq k n ≡ true) × (count_from (n + 1) ns ≡ true)
  parts = and_parts (nat_eq k n) (count_from (n + 1) ns) c

  first : k ≡ n
  first = eqb-true k n parts.0

  go : (t : Bool) → nat_eq k h ≡ t → (occurs h ns ≤ 1) × (h < n + 1 → occurs h ns ≡ 0) → (occurs h (k ∷ ns) ≤ 1) × (h < n → occurs h (k ∷ ns) ≡ 0)
  go true e rest =
      let same : k ≡ h = eqb-true k h e in
      let none : occurs h ns ≡ 0 = rest.1 (omega (arith, same, first)) in
      (rw e (omega (arith, none)), λ l. absurd (omega (arith, same, first, l)))
  go false e rest = let few : occurs h ns ≤ 1 = rest.0 in (rw e (omega (arith, few)), λ l. let none : occurs h ns ≡ 0 = rest.1 (omega (arith, l)) in rw e (omega (arith, none)))

-- ---- of a machine

module _ (m : MachineValue) (shaped : IsShaped m) where
  one-bus : (b : ℕ) → named_in (bus_of_number b) (root_of m) ≤ 1
  one-bus b =
      let once : occurs b (buses_of (skeleton (root_of m)) []) ≤ 1 = distinct-once b (buses_of (skeleton (root_of m)) []) (shaped.each buses_differ) in
      let c : occurs b (buses_of (skeleton (root_of m)) []) ≡ named_in (bus_of_number b) (root_of m) + 0 = buses-counted b (root_of m) [] in
      omega (arith, once, c)

  one-leaf : (h : ℕ) → named_in (leaf_of_number h) (root_of m) ≤ 1
  one-leaf h =
      let once : occurs h (leaf_numbers_of (skeleton (root_of m)) []) ≤ 1 = (counted-once h 0 (leaf_numbers_of (skeleton (root_of m)) []) (shaped.each leaves_numbered)).0 in
      let c : occurs h (leaf_numbers_of (skeleton (root_of m)) []) ≡ named_in (leaf_of_number h) (root_of m) + 0 = leaves-counted h (root_of m) [] in
      omega (arith, once, c)

  -- what is asked of a directory by its bus, or of a leaf by its number, is told of it
  pub told-dir : (d : DirValue) (ns : Nodes) → StandsIn (dir_node d ns) (root_of m) → (q : DirValue → List Node → Bool) → is_told (ask_bus d.bus (λ w e ks. q e ks) false m) ≡ q d (children ns)
  told-dir d ns i q = ap is_told (read-one (bus_of_number d.bus) (of_dir (λ w e ks. q e ks) false) at_top (root_of m) (dir_node d ns) i (eq-eqb d.bus d.bus refl) (one-bus d.bus)).1

  pub asked-leaf : {A : Type 0} (v : LeafValue) → StandsIn (leaf_node v) (root_of m) → (q : LeafValue → A) (other : A) → ask_leaf v.number (λ w u. q u) other m ≡ Some (q v)
  asked-leaf v i q other = (read-one (leaf_of_number v.number) (of_leaf (λ w u. q u) other) at_top (root_of m) (leaf_node v) i (eq-eqb v.number v.number refl) (one-leaf v.number)).1

  pub told-leaf : (v : LeafValue) → StandsIn (leaf_node v) (root_of m) → (q : LeafValue → Bool) → is_told (ask_leaf v.number (λ w u. q u) false m) ≡ q v
  told-leaf v i q = ap is_told (asked-leaf v i q false)
