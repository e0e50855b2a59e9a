-- What is known of a bus of a tree by its number: the directory over it, and its children.
-- Letters: b is the number of a bus, d a directory over the nodes ns, c the number of a child.
use Rattle.std.proofs.Common.{◌≡◌, ℕ, zero, suc, ◌+◌, ◌<◌, ◌≤◌, Bool, true, false, not, nat_eq, List, [], ◌∷◌, length, Option, None, Some, is_some, refl, sym, ap, subst, ◌∙◌, arith}
use Rattle.std.specs.Prelude.{unwrap_or}
use Rattle.std.specs.List.{list_any}
use Rattle.std.proofs.lemmas.Bool.{and_parts, or_parts, not-true, true≢false, eqb-true, eq-eqb}
use Rattle.std.proofs.lemmas.Bool.Decides.{nat_tests}
use Rattle.headline.specs.DdmTypes.declared.turns.Turn.{Turn}
use Rattle.headline.specs.DdmTypes.declared.sizes.Hold.{Hold}
use Rattle.headline.specs.TreeModel.declared.TreeChild.{TreeChild}
use Rattle.headline.specs.TreeModel.State.Values.{DirValue, Node, Nodes, leaf_node, dir_node, no_nodes, more_nodes, nodes, children, MachineValue, root_of}
use Rattle.headline.specs.TreeModel.State.Blank.{no_node}
use Rattle.headline.specs.TreeModel.State.Child.{child_label, child_hold}
use Rattle.headline.specs.TreeModel.State.Shape.{skeleton, skeletons, buses_of, buses_among, are_distinct, buses_differ, IsShaped}
use Rattle.headline.specs.TreeModel.State.Place.{Where, at_top}
use Rattle.headline.specs.TreeModel.Turns.Children.{child_at}
use Rattle.headline.specs.TreeModel.Turns.Tree.{leaf_of_number, bus_of_number, is_named, read_in, of_dir}
use Rattle.headline.specs.TreeModel.Turns.Machine.{ask_bus, child_count, child_of, child_hold_of, is_child_of}
use Rattle.headline.proofs.TreeModel.Children.{nodes-children}
use Rattle.headline.proofs.BusLaws.StartSums.{one_if}
use Rattle.headline.proofs.Standing.{StandsIn, in_here, in_below, StandsAmong, in_first, in_later, stands-under, named_in, named_among, read-one, was-read}
use Rattle.serving_walk.specs.Parts.{part_at, kids_of, under, bus_of, bus_count, bus_count_among, OfBuses}

-- ---- a number is that of one bus

abbrev occurs : ℕ → List ℕ → ℕ
occurs b [] = 0
occurs b (n ∷ ns) = one_if (nat_eq n b) + occurs b ns

mutual
  buses-counted : (b : ℕ) (n : Node) (rest : List ℕ) → occurs b (buses_of (skeleton n) rest) ≡ named_in (bus_of_number b) n + occurs b rest
  buses-counted b (leaf_node v) rest = omega arith
  buses-counted b (dir_node d ns) rest = let c : occurs b (buses_among (skeletons ns) rest) ≡ named_among (bus_of_number b) ns + occurs b rest = among-counted b ns rest in omega (arith, c)

  among-counted : (b : ℕ) (ns : Nodes) (rest : List ℕ) → occurs b (buses_among (skeletons ns) rest) ≡ named_among (bus_of_number b) ns + occurs b rest
  among-counted b no_nodes rest = omega arith
  among-counted b (more_nodes n ns) rest =
      let c : occurs b (buses_of (skeleton n) (buses_among (skeletons ns) rest)) ≡ named_in (bus_of_number b) n + occurs b (buses_among (skeletons ns) rest) = buses-counted b n (buses_among (skeletons ns) rest) in
      let e : occurs b (buses_among (skeletons ns) rest) ≡ named_among (bus_of_number b) ns + occurs b rest = among-counted b ns rest in
      omega (arith, c, e)

nowhere : (n : ℕ) (ns : List ℕ) → list_any (nat_eq n) ns ≡ false → occurs n ns ≡ 0
nowhere n [] h = refl
nowhere n (k ∷ ns) h = go (nat_eq k n) refl (nowhere n ns parts.1) where
  parts : (nat_eq n k ≡ false) × (list_any (nat_eq n) ns ≡ false)
  parts = or_parts (nat_eq n k) (list_any (nat_eq n) ns) h

  go : (t : Bool) → nat_eq k n ≡ t → occurs n ns ≡ 0 → occurs n (k ∷ ns) ≡ 0
  go true e rest = absurd (true≢false (sym (eq-eqb n k (sym (eqb-true k n e))) ∙ parts.0))
  go false e rest = rw e (omega (arith, rest))

distinct-once : (b : ℕ) (ns : List ℕ) → are_distinct ns ≡ true → occurs b ns ≤ 1
distinct-once b [] h = omega arith
distinct-once b (n ∷ ns) h = go (nat_eq n b) refl (distinct-once b ns parts.1) where
  parts : (not (list_any (nat_eq n) ns) ≡ true) × (are_distinct ns ≡ true)
  parts = and_parts (not (list_any (nat_eq n) ns)) (are_distinct ns) h

  go : (t : Bool) → nat_eq n b ≡ t → occurs b ns ≤ 1 → occurs b (n ∷ ns) ≤ 1
  go true e rest =
      let same : n ≡ b = eqb-true n b e in
      let none : occurs b ns ≡ 0 = subst (λ k. occurs k ns ≡ 0) same (nowhere n ns (not-true _ parts.0)) in
      rw e (omega (arith, none))
  go false e rest = rw e (omega (arith, rest))

-- ---- a bus

pub nothing-at : (m : MachineValue) → part_at None m ≡ no_node
unfolding part_at
nothing-at m = refl

module _ (m : MachineValue) (shaped : IsShaped m) where
  one-bus : (b : ℕ) → named_in (bus_of_number b) (root_of m) ≤ 1
  one-bus b =
      let once : occurs b (buses_of (skeleton (root_of m)) []) ≤ 1 = distinct-once b (buses_of (skeleton (root_of m)) []) (shaped.each buses_differ) in
      let c : occurs b (buses_of (skeleton (root_of m)) []) ≡ named_in (bus_of_number b) (root_of m) + 0 = buses-counted b (root_of m) [] in
      omega (arith, once, c)

  -- the directory over this bus, and what is told of it
  pub record AtBus (b : ℕ) : Type 0 where
    pub dir : DirValue
    pub kids : Nodes
    pub stands : StandsIn (dir_node dir kids) (root_of m)
    pub number : dir.bus ≡ b
    pub part : part_at (Some b) m ≡ dir_node dir kids
    pub count : child_count b m ≡ Some (length (children kids))
    pub child : (c : ℕ) → child_of b c m ≡ Some (child_label (child_at c (children kids)))
    pub hold : (c x : ℕ) → child_hold_of b c x m ≡ Some (child_hold x (child_at c (children kids)))

  asked : {A : Type 0} (d : DirValue) (ns : Nodes) → StandsIn (dir_node d ns) (root_of m) → (q : DirValue → List Node → A) (other : A) → ask_bus d.bus (λ w e ks. q e ks) other m ≡ Some (q d (children ns))
  asked d ns i q other = (read-one (bus_of_number d.bus) (of_dir (λ w e ks. q e ks) other) at_top (root_of m) (dir_node d ns) i (eq-eqb d.bus d.bus refl) (one-bus d.bus)).1

  pub part-standing : (d : DirValue) (ns : Nodes) → StandsIn (dir_node d ns) (root_of m) → part_at (Some d.bus) m ≡ dir_node d ns
  unfolding part_at
  part-standing d ns i = ap (λ o. unwrap_or o no_node) (asked d ns i (λ e ks. dir_node e (nodes ks)) no_node) ∙ ap (dir_node d) (nodes-children ns)

  pub at-standing : (d : DirValue) (ns : Nodes) → StandsIn (dir_node d ns) (root_of m) → AtBus d.bus
  at-standing d ns i = record {
    dir = d;
    kids = ns;
    stands = i;
    number = refl;
    part = part-standing d ns i;
    count = asked d ns i (λ e ks. length ks) 0;
    child = λ c. asked d ns i (λ e ks. child_label (child_at c ks)) (TreeChild.BusChild 0);
    hold = λ c x. asked d ns i (λ e ks. child_hold x (child_at c ks)) Hold.Invalid;
  }

  pub at-bus : (b : ℕ) → is_some (child_count b m) ≡ true → AtBus b
  at-bus b there = by (child_count b m) refl there where
    of-node : (n : Node) → is_named (bus_of_number b) n ≡ true → StandsIn n (root_of m) → AtBus b
    of-node (leaf_node v) named i = absurd (true≢false (sym named))
    of-node (dir_node d ns) named i = subst AtBus (eqb-true d.bus b named) (at-standing d ns i)

    by : (o : Option ℕ) → child_count b m ≡ o → is_some o ≡ true → AtBus b
    by None none e = absurd (true≢false (sym e))
    by (Some count) is e =
        let r = was-read (bus_of_number b) (of_dir (λ w d ns. length ns) 0) count at_top (root_of m) is in
        of-node r.node r.named r.stands

  -- whatever is read of it
  pub read-at : {A : Type 0} (b : ℕ) (a : AtBus b) (read : Where → Node → A) → (w : Where) × (read_in (bus_of_number b) read at_top (root_of m) ≡ Some (read w (dir_node a.dir a.kids)))
  read-at b a read = read-one (bus_of_number b) read at_top (root_of m) (dir_node a.dir a.kids) a.stands (eq-eqb a.dir.bus b a.number) (one-bus b)

  -- ---- a child of a bus

  child-stands : (k : Node) (ns : Nodes) (c : ℕ) → c < length (children ns) → k ≡ child_at c (children ns) → StandsAmong k ns
  child-stands k no_nodes c l is = absurd (omega (arith, l))
  child-stands k (more_nodes n ns) zero l is = subst (λ j. StandsAmong j (more_nodes n ns)) (sym is) (in_first in_here)
  child-stands k (more_nodes n ns) (suc c) l is = in_later (child-stands k ns c (omega (arith, l)) is)

  child-fewer : (ns : Nodes) (c : ℕ) → c < length (children ns) → bus_count (child_at c (children ns)) ≤ bus_count_among ns
  child-fewer no_nodes c l = absurd (omega (arith, l))
  child-fewer (more_nodes n ns) zero l = omega arith
  child-fewer (more_nodes n ns) (suc c) l = let rest : bus_count (child_at c (children ns)) ≤ bus_count_among ns = child-fewer ns c (omega (arith, l)) in omega (arith, rest)

  module _ (b c : ℕ) (inside : is_child_of c (child_count b m) ≡ true) where
    pub some-count : (o : Option ℕ) → is_child_of c o ≡ true → is_some o ≡ true
    some-count None e = absurd (true≢false (sym e))
    some-count (Some k) e = refl

    pub here : AtBus b
    here = at-bus b (some-count (child_count b m) inside)

    pub within : c < length (children here.kids)
    within = less (length (children here.kids)) (subst (λ o. is_child_of c o ≡ true) here.count inside) where
      less : (k : ℕ) → is_child_of c (Some k) ≡ true → c < k
      less k e = grind (arith, nat_tests)

    pub under-is : under b c m ≡ child_at c (children here.kids)
    under-is = ap (λ n. child_at c (children (kids_of n))) here.part

    -- a child that is a leaf has no bus
    pub leaf-same : (v : ℕ) → Some (TreeChild.LeafChild v) ≡ child_of b c m → (turns : Node → List Turn) → OfBuses turns → turns (part_at None m) ≡ turns (under b c m)
    leaf-same v is turns none = ap turns (nothing-at m) ∙ by (child_at c (children here.kids)) (label (child_label (child_at c (children here.kids))) (is ∙ here.child c)) ∙ ap turns (sym under-is) where
      label : (l : TreeChild) → Some (TreeChild.LeafChild v) ≡ Some l → TreeChild.LeafChild v ≡ l
      label l e = cc

      by : (n : Node) → TreeChild.LeafChild v ≡ child_label n → turns no_node ≡ turns n
      by (leaf_node w) e = none _ ∙ sym (none w)
      by (dir_node d ns) e = cc

    pub leaf-fewer : bus_count (part_at None m) < bus_count (part_at (Some b) m)
    leaf-fewer = subst (λ n. bus_count n < bus_count (part_at (Some b) m)) (sym (nothing-at m)) (subst (λ n. 0 < bus_count n) (sym here.part) (omega arith))

    pub leaf-bus : (v : ℕ) → Some (TreeChild.LeafChild v) ≡ child_of b c m → None ≡ bus_of (under b c m)
    leaf-bus v is = by (child_at c (children here.kids)) (label (child_label (child_at c (children here.kids))) (is ∙ here.child c)) ∙ ap bus_of (sym under-is) where
      label : (l : TreeChild) → Some (TreeChild.LeafChild v) ≡ Some l → TreeChild.LeafChild v ≡ l
      label l e = cc

      by : (n : Node) → TreeChild.LeafChild v ≡ child_label n → None ≡ bus_of n
      by (leaf_node w) e = refl
      by (dir_node d ns) e = cc

    pub leaf-named : (h v : ℕ) → Some (TreeChild.LeafChild v) ≡ child_of b c m → nat_eq v h ≡ is_named (leaf_of_number h) (under b c m)
    leaf-named h v is = by (child_at c (children here.kids)) (label (child_label (child_at c (children here.kids))) (is ∙ here.child c)) ∙ ap (is_named (leaf_of_number h)) (sym under-is) where
      label : (l : TreeChild) → Some (TreeChild.LeafChild v) ≡ Some l → TreeChild.LeafChild v ≡ l
      label l e = cc

      number : (a b : ℕ) → TreeChild.LeafChild a ≡ TreeChild.LeafChild b → a ≡ b
      number a b e = cc

      by : (n : Node) → TreeChild.LeafChild v ≡ child_label n → nat_eq v h ≡ is_named (leaf_of_number h) n
      by (leaf_node w) e = ap (λ k. nat_eq k h) (number v w.number e)
      by (dir_node d ns) e = cc

    pub bus-named : (h k : ℕ) → Some (TreeChild.BusChild k) ≡ child_of b c m → false ≡ is_named (leaf_of_number h) (under b c m)
    bus-named h k is = by (child_at c (children here.kids)) (label (child_label (child_at c (children here.kids))) (is ∙ here.child c)) ∙ ap (is_named (leaf_of_number h)) (sym under-is) where
      label : (l : TreeChild) → Some (TreeChild.BusChild k) ≡ Some l → TreeChild.BusChild k ≡ l
      label l e = cc

      by : (n : Node) → TreeChild.BusChild k ≡ child_label n → false ≡ is_named (leaf_of_number h) n
      by (leaf_node w) e = cc
      by (dir_node d ns) e = refl

    -- what a child holds
    pub hold-is : (x : ℕ) (h : Hold) → Some h ≡ child_hold_of b c x m → h ≡ child_hold x (under b c m)
    hold-is x h is = one h (child_hold x (child_at c (children here.kids))) (is ∙ here.hold c x) ∙ ap (child_hold x) (sym under-is) where
      one : (a k : Hold) → Some a ≡ Some k → a ≡ k
      one a k e = cc

    -- one that is a directory has that of its number
    pub record BusBelow (k : ℕ) : Type 0 where
      pub there : is_some (child_count k m) ≡ true
      pub part : part_at (Some k) m ≡ under b c m
      pub bus : Some k ≡ bus_of (under b c m)
      pub fewer : bus_count (part_at (Some k) m) < bus_count (part_at (Some b) m)

    below-standing : (d : DirValue) (ns : Nodes) → AtBus d.bus → part_at (Some d.bus) m ≡ dir_node d ns → child_at c (children here.kids) ≡ dir_node d ns → BusBelow d.bus
    below-standing d ns below part same =
        let fewer : bus_count (dir_node d ns) ≤ bus_count_among here.kids = subst (λ n. bus_count n ≤ bus_count_among here.kids) same (child-fewer here.kids c within) in
        let strict : bus_count (dir_node d ns) < bus_count (dir_node here.dir here.kids) = omega (arith, fewer) in
        record {
          there = ap is_some below.count;
          part = part ∙ (sym same ∙ sym under-is);
          bus = ap bus_of (sym (under-is ∙ same));
          fewer = subst (λ n. bus_count n < bus_count (part_at (Some b) m)) (sym part) (subst (λ n. bus_count (dir_node d ns) < bus_count n) (sym here.part) strict);
        }

    pub bus-below : (k : ℕ) → Some (TreeChild.BusChild k) ≡ child_of b c m → BusBelow k
    bus-below k is = by (child_at c (children here.kids)) refl (label (child_label (child_at c (children here.kids))) (is ∙ here.child c)) where
      label : (l : TreeChild) → Some (TreeChild.BusChild k) ≡ Some l → TreeChild.BusChild k ≡ l
      label l e = cc

      numbers : (a b : ℕ) → TreeChild.BusChild a ≡ TreeChild.BusChild b → a ≡ b
      numbers a b e = cc

      at : (d : DirValue) (ns : Nodes) → child_at c (children here.kids) ≡ dir_node d ns → BusBelow d.bus
      at d ns same =
          let stands = stands-under (dir_node d ns) (dir_node here.dir here.kids) (root_of m) (in_below (child-stands (dir_node d ns) here.kids c within (sym same))) here.stands in
          below-standing d ns (at-standing d ns stands) (part-standing d ns stands) same

      by : (n : Node) → child_at c (children here.kids) ≡ n → TreeChild.BusChild k ≡ child_label n → BusBelow k
      by (leaf_node v) same e = cc
      by (dir_node d ns) same e = subst BusBelow (sym (numbers k d.bus e)) (at d ns same)
