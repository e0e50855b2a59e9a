-- A node of a tree, and what is read of it by its name: where just one node has the name, it is read there.
use Rattle.std.proofs.Common.{◌≡◌, ℕ, ◌+◌, ◌≤◌, Bool, true, false, ◌||◌, List, Option, Some, None, refl, sym, ◌∙◌, arith}
use Rattle.std.specs.Prelude.{if◌then◌else◌}
use Rattle.std.proofs.lemmas.Bool.{true≢false}
use Rattle.headline.specs.TreeModel.State.Values.{DirValue, Node, Nodes, leaf_node, dir_node, no_nodes, more_nodes}
use Rattle.headline.specs.TreeModel.State.Place.{Where, at_child, where_path, spot_in}
use Rattle.headline.specs.TreeModel.Turns.Tree.{Name, is_named, has_node, has_among, read_in, read_among}
use Rattle.headline.specs.TreeRules.Bus.Rules.{IsTreeOk, AreTreesOk}
use Rattle.headline.proofs.BusLaws.StartSums.{one_if}

-- ---- a node of a tree

mutual
  pub data StandsIn (k : Node) : Node → Type 0 where
    in_here : StandsIn k k
    in_below : {d : DirValue} {ns : Nodes} → StandsAmong k ns → StandsIn k (dir_node d ns)

  pub data StandsAmong (k : Node) : Nodes → Type 0 where
    in_first : {n : Node} {ns : Nodes} → StandsIn k n → StandsAmong k (more_nodes n ns)
    in_later : {n : Node} {ns : Nodes} → StandsAmong k ns → StandsAmong k (more_nodes n ns)

mutual
  pub stands-under : (k n m : Node) → StandsIn k n → StandsIn n m → StandsIn k m
  stands-under k n m h in_here = h
  stands-under k n m h (in_below {ns = ns} i) = in_below (among-under k n ns h i)

  among-under : (k n : Node) (ns : Nodes) → StandsIn k n → StandsAmong n ns → StandsAmong k ns
  among-under k n ns h (in_first {n = m} i) = in_first (stands-under k n m h i)
  among-under k n ns h (in_later {ns = ms} i) = in_later (among-under k n ms h i)

mutual
  pub stands-ok : (items : ℕ) (k n : Node) → StandsIn k n → IsTreeOk items n → IsTreeOk items k
  stands-ok items k n in_here ok = ok
  stands-ok items k n (in_below {ns = ns} i) ok = among-ok items k ns i ok.1

  among-ok : (items : ℕ) (k : Node) (ns : Nodes) → StandsAmong k ns → AreTreesOk items ns → IsTreeOk items k
  among-ok items k ns (in_first {n = n} i) ok = stands-ok items k n i ok.0
  among-ok items k ns (in_later {ns = ms} i) ok = among-ok items k ms i ok.1

-- ---- how many have a name

or-second : (a b : Bool) → b ≡ true → (a || b) ≡ true
or-second true b e = refl
or-second false b e = e

module _ (name : Name) where
  abbrev mutual
    pub named_in : Node → ℕ
    named_in (leaf_node v) = one_if (is_named name (leaf_node v))
    named_in (dir_node d ns) = one_if (is_named name (dir_node d ns)) + named_among ns

    pub named_among : Nodes → ℕ
    named_among no_nodes = 0
    named_among (more_nodes n ns) = named_in n + named_among ns

  own_counts : (k : Node) → is_named name k ≡ true → 1 ≤ named_in k
  own_counts (leaf_node v) h = rw h (omega arith)
  own_counts (dir_node d ns) h = rw h (omega arith)

  mutual
    stands-counts : (k n : Node) → StandsIn k n → is_named name k ≡ true → 1 ≤ named_in n
    stands-counts k n in_here h = own_counts k h
    stands-counts k n (in_below {d = d} {ns = ns} i) h = let c : 1 ≤ named_among ns = among-counts k ns i h in omega (arith, c)

    among-counts : (k : Node) (ns : Nodes) → StandsAmong k ns → is_named name k ≡ true → 1 ≤ named_among ns
    among-counts k ns (in_first {n = n} i) h = let c : 1 ≤ named_in n = stands-counts k n i h in omega (arith, c)
    among-counts k ns (in_later {ns = ms} i) h = let c : 1 ≤ named_among ms = among-counts k ms i h in omega (arith, c)

  mutual
    has-counts : (n : Node) → has_node name n ≡ true → 1 ≤ named_in n
    has-counts (leaf_node v) h = rw h (omega arith)
    has-counts (dir_node d ns) h = go (is_named name (dir_node d ns)) refl h (has_among-counts ns) where
      go : (t : Bool) → is_named name (dir_node d ns) ≡ t → (t || has_among name ns) ≡ true → (has_among name ns ≡ true → 1 ≤ named_among ns) → 1 ≤ named_in (dir_node d ns)
      go true e h rest = rw e (omega arith)
      go false e h rest = let c : 1 ≤ named_among ns = rest h in omega (arith, c)

    has_among-counts : (ns : Nodes) → has_among name ns ≡ true → 1 ≤ named_among ns
    has_among-counts no_nodes h = absurd (let wrong : ⊥ = cc in wrong)
    has_among-counts (more_nodes n ns) h = go (has_node name n) refl h (has-counts n) (has_among-counts ns) where
      go : (t : Bool) → has_node name n ≡ t → (t || has_among name ns) ≡ true → (has_node name n ≡ true → 1 ≤ named_in n) → (has_among name ns ≡ true → 1 ≤ named_among ns) → 1 ≤ named_in n + named_among ns
      go true e h first rest = let c : 1 ≤ named_in n = first e in omega (arith, c)
      go false e h first rest = let c : 1 ≤ named_among ns = rest h in omega (arith, c)

  -- it is there
  mutual
    stands-has : (k n : Node) → StandsIn k n → is_named name k ≡ true → has_node name n ≡ true
    stands-has (leaf_node v) n in_here h = h
    stands-has (dir_node d ns) n in_here h = rw h refl
    stands-has k n (in_below {d = d} {ns = ns} i) h = or-second (is_named name (dir_node d ns)) (has_among name ns) (among-has k ns i h)

    among-has : (k : Node) (ns : Nodes) → StandsAmong k ns → is_named name k ≡ true → has_among name ns ≡ true
    among-has k ns (in_first {n = n} {ns = ms} i) h = rw (stands-has k n i h) refl
    among-has k ns (in_later {n = n} {ns = ms} i) h = or-second (has_node name n) (has_among name ms) (among-has k ms i h)

  -- ---- what is read is read there

  module _ {A : Type 0} (read : Where → Node → A) where
    abbrev IsReadOf : Node → Option A → Type 0
    IsReadOf k o = (w : Where) × (o ≡ Some (read w k))

    mutual
      pub read-one : (w : Where) (n k : Node) → StandsIn k n → is_named name k ≡ true → named_in n ≤ 1 → IsReadOf k (read_in name read w n)
      read-one w (leaf_node v) k in_here h one = (w, rw h refl)
      read-one w (dir_node d ns) k i h one = go (is_named name (dir_node d ns)) refl k h i (λ j. read_among-one (where_path w) d 0 ns k j h) where
        go : (t : Bool) → is_named name (dir_node d ns) ≡ t → (u : Node) → is_named name u ≡ true → StandsIn u (dir_node d ns) → (StandsAmong u ns → named_among ns ≤ 1 → IsReadOf u (read_among name read (where_path w) d 0 ns)) → IsReadOf u (read_in name read w (dir_node d ns))
        go true e u h in_here rest = (w, rw e refl)
        go true e u h (in_below j) rest = absurd (let c : 1 ≤ named_among ns = among-counts u ns j h in let own : one_if (is_named name (dir_node d ns)) ≡ 1 = rw e refl in omega (arith, c, own, one))
        go false e u h in_here rest = absurd (true≢false (sym h ∙ e))
        go false e u h (in_below j) rest = rw e (rest j (omega (arith, one)))

      read_among-one : (path : List ℕ) (d : DirValue) (i : ℕ) (ns : Nodes) (k : Node) → StandsAmong k ns → is_named name k ≡ true → named_among ns ≤ 1 → IsReadOf k (read_among name read path d i ns)
      read_among-one path d i no_nodes k j h one = elim j [ ]
      read_among-one path d i (more_nodes n ns) k j h one = go (has_node name n) refl j (λ s. read-one (at_child (spot_in path d i)) n k s h) (λ s. read_among-one path d (i + 1) ns k s h) where
        go : (t : Bool) → has_node name n ≡ t → StandsAmong k (more_nodes n ns) → (StandsIn k n → named_in n ≤ 1 → IsReadOf k (read_in name read (at_child (spot_in path d i)) n)) → (StandsAmong k ns → named_among ns ≤ 1 → IsReadOf k (read_among name read path d (i + 1) ns)) → IsReadOf k (read_among name read path d i (more_nodes n ns))
        go true e (in_first s) first rest = rw e (first s (omega (arith, one)))
        go true e (in_later s) first rest = absurd (let c : 1 ≤ named_among ns = among-counts k ns s h in let f : 1 ≤ named_in n = has-counts n e in omega (arith, c, f, one))
        go false e (in_first s) first rest = absurd (true≢false (sym (stands-has k n s h) ∙ e))
        go false e (in_later s) first rest = rw e (rest s (omega (arith, one)))

    -- the other way round: what was read was read of a node with the name
    pub record WasRead (a : A) (n : Node) : Type 0 where
      pub node : Node
      pub place : Where
      pub stands : StandsIn node n
      pub named : is_named name node ≡ true
      pub is : read place node ≡ a

    record WasReadAmong (a : A) (ns : Nodes) : Type 0 where
      node : Node
      place : Where
      stands : StandsAmong node ns
      named : is_named name node ≡ true
      is : read place node ≡ a

    mutual
      pub was-read : (a : A) (w : Where) (n : Node) → read_in name read w n ≡ Some a → WasRead a n
      was-read a w (leaf_node v) e = go (is_named name (leaf_node v)) refl e where
        go : (t : Bool) → is_named name (leaf_node v) ≡ t → (if t then Some (read w (leaf_node v)) else None) ≡ Some a → WasRead a (leaf_node v)
        go true here e = record { node = leaf_node v; place = w; stands = in_here; named = here; is = cc }
        go false here e = absurd (let wrong : ⊥ = cc in wrong)
      was-read a w (dir_node d ns) e = go (is_named name (dir_node d ns)) refl e (was-read_among a (where_path w) d 0 ns) where
        below : WasReadAmong a ns → WasRead a (dir_node d ns)
        below r = record { node = r.node; place = r.place; stands = in_below r.stands; named = r.named; is = r.is }

        go : (t : Bool) → is_named name (dir_node d ns) ≡ t → (if t then Some (read w (dir_node d ns)) else read_among name read (where_path w) d 0 ns) ≡ Some a → (read_among name read (where_path w) d 0 ns ≡ Some a → WasReadAmong a ns) → WasRead a (dir_node d ns)
        go true here e rest = record { node = dir_node d ns; place = w; stands = in_here; named = here; is = cc }
        go false here e rest = below (rest e)

      was-read_among : (a : A) (path : List ℕ) (d : DirValue) (i : ℕ) (ns : Nodes) → read_among name read path d i ns ≡ Some a → WasReadAmong a ns
      was-read_among a path d i no_nodes e = absurd (let wrong : ⊥ = cc in wrong)
      was-read_among a path d i (more_nodes n ns) e = go (has_node name n) e (was-read a (at_child (spot_in path d i)) n) (was-read_among a path d (i + 1) ns) where
        first : WasRead a n → WasReadAmong a (more_nodes n ns)
        first r = record { node = r.node; place = r.place; stands = in_first r.stands; named = r.named; is = r.is }

        later : WasReadAmong a ns → WasReadAmong a (more_nodes n ns)
        later r = record { node = r.node; place = r.place; stands = in_later r.stands; named = r.named; is = r.is }

        go : (t : Bool) → (if t then read_in name read (at_child (spot_in path d i)) n else read_among name read path d (i + 1) ns) ≡ Some a → (read_in name read (at_child (spot_in path d i)) n ≡ Some a → WasRead a n) → (read_among name read path d (i + 1) ns ≡ Some a → WasReadAmong a ns) → WasReadAmong a (more_nodes n ns)
        go true e here rest = first (here e)
        go false e here rest = later (rest e)
