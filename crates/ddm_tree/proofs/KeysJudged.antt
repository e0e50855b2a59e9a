-- An operation's key is one of its leaf where it has that leaf's path and is less than the leaf's present key: the leaf of a number
-- is the one that is read by that number.
-- Letters: m is a machine, o an operation, a a leaf with its spot, now the present key there.
use Rattle.std.proofs.Common.{◌≡◌, ℕ, zero, suc, ◌+◌, ◌<◌, ◌≤◌, Bool, true, false, true≢false, ◌&&◌, ◌||◌, ◌⊎◌, inl, inr, nat_eq, nat_le, List, [], ◌∷◌, ◌++◌, length, Some, None, refl, sym, ap, ◌∙◌, arith, if◌then◌else◌}
use Rattle.std.specs.List.{list_all, AllByRecursion}
use Rattle.std.proofs.lemmas.Bool.{and_parts, eqb-true, eq-eqb, ne_eqb, leb-true}
use Rattle.std.proofs.lemmas.List.{length-append}
use Rattle.ddm_tree.specs.DdmTypes.declared.keys.Key.{Key}
use Rattle.ddm_tree.specs.DdmTypes.declared.operations.Op.{Op}
use Rattle.ddm_tree.specs.DdmTypes.Keys.{key_numbers, key_less, key_zero}
use Rattle.ddm_tree.specs.TreeModel.State.Values.{DirValue, Node, Nodes, leaf_node, dir_node, no_nodes, more_nodes, MachineValue, root_of}
use Rattle.ddm_tree.specs.TreeModel.State.Place.{Spot, Where, at_child, spot_path, spot_in, key_at_leaf}
use Rattle.ddm_tree.specs.TreeModel.State.Shape.{IsShaped, skeleton, skeletons, depth_of, levels_fit, levels_fit_among, levels_known}
use Rattle.ddm_tree.specs.TreeModel.Turns.Machine.{now_of}
use Rattle.ddm_tree.specs.TreeModel.Turns.Tree.{leaf_of_number, has_node, has_among, read_in, read_among, of_leaf}
use Rattle.ddm_tree.specs.TreeRules.Statements.{test_of, each}
use Rattle.ddm_tree.specs.TreeRules.Order.Moments.{less, key_path, same_numbers}
use Rattle.ddm_tree.specs.TreeRules.Order.Ops.{op_key, op_path}
use Rattle.ddm_tree.specs.TreeRules.Order.Places.{LeafAt, leaf_path, leaf_now, leaves_in, placed_leaves, leaves_at}
use Rattle.ddm_tree.specs.TreeRules.Order.Time.{is_leaf_of, has_leaf_path, is_before_now, key_ends}
use Rattle.ddm_tree.proofs.TreeRules.KeysNow.{key-now}
use Rattle.ddm_tree.proofs.OrderLists.Filters.{each-append, each-both}
use Rattle.ddm_tree.proofs.OrderLists.Keys.{key_less-numbers}
use Rattle.ddm_tree.proofs.OrderLists.Moments.{same_numbers-true}
use Rattle.ddm_tree.proofs.OrderLaws.Hart.LeafPlaces.{IsOnlyOf, one_of_number}
use Rattle.state_judging.specs.Judged.{is_key_of_leaf}
use Rattle.ddm_tree.specs.Keys.{is_key_before, key_cut}

-- ---- keys, cut to the levels of the tree

and-true : (b : Bool) → (b && true) ≡ b
and-true true = refl
and-true false = refl

and-assoc : (a b c : Bool) → ((a && b) && c) ≡ (a && (b && c))
and-assoc true b c = refl
and-assoc false b c = refl

abbrev same_children : Key → Key → Bool
same_children j k = nat_eq j.c0 k.c0 && (nat_eq j.c1 k.c1 && (nat_eq j.c2 k.c2 && nat_eq j.c3 k.c3))

cut-numbers : (depth : ℕ) (k : Key) → 0 < depth → depth ≤ 4 → (key_numbers depth (key_cut depth k) ≡ key_numbers depth k) × (key_ends depth (key_cut depth k) ≡ true)
cut-numbers zero k some few = absurd (omega (arith, some))
cut-numbers (suc zero) k some few = (refl, refl)
cut-numbers (suc (suc zero)) k some few = (refl, refl)
cut-numbers (suc (suc (suc zero))) k some few = (refl, refl)
cut-numbers (suc (suc (suc (suc zero)))) k some few = (refl, refl)
cut-numbers (suc (suc (suc (suc (suc n))))) k some few = absurd (omega (arith, few))

cut-children : (depth : ℕ) (j k : Key) → 0 < depth → depth ≤ 4 → same_children (key_cut depth j) (key_cut depth k) ≡ same_numbers (key_path (key_numbers depth j)) (key_path (key_numbers depth k))
cut-children zero j k some few = absurd (omega (arith, some))
cut-children (suc zero) j k some few = refl
cut-children (suc (suc zero)) j k some few = refl
cut-children (suc (suc (suc zero))) j k some few = refl
cut-children (suc (suc (suc (suc zero)))) j k some few = ap (λ b. nat_eq j.c0 k.c0 && (nat_eq j.c1 k.c1 && (nat_eq j.c2 k.c2 && b))) (sym (and-true (nat_eq j.c3 k.c3)))
cut-children (suc (suc (suc (suc (suc n))))) j k some few = absurd (omega (arith, few))

pub cut-judged : (depth : ℕ) (now key : Key) → 0 < depth → depth ≤ 4 → (same_children (key_cut depth key) (key_cut depth now) && key_less (key_cut depth key) (key_cut depth now)) ≡ is_key_before depth now key
unfolding is_key_before
cut-judged depth now key some few =
    let first = cut-numbers depth key some few in
    let second = cut-numbers depth now some few in
    let compared : key_less (key_cut depth key) (key_cut depth now) ≡ less (key_numbers depth key) (key_numbers depth now) = key_less-numbers depth (key_cut depth key) (key_cut depth now) first.1 second.1 ∙ ap (λ l. less l (key_numbers depth (key_cut depth now))) first.0 ∙ ap (less (key_numbers depth key)) second.0 in
    rw (cut-children depth key now some few, compared) refl

module _ (depth : ℕ) (now key j k : Key) (some : 0 < depth) (few : depth ≤ 4) (own : j ≡ key_cut depth key) (other : k ≡ key_cut depth now) where
  both-judged : (same_children j k && key_less j k) ≡ is_key_before depth now key
  both-judged = rw (own, other) (cut-judged depth now key some few)

  pub judged-same : (same : Bool) → same ≡ same_children j k → same ≡ true → key_less j k ≡ is_key_before depth now key
  judged-same same is e = ap (λ b. b && key_less j k) (sym (sym is ∙ e)) ∙ both-judged

  pub judged-other : (same : Bool) → same ≡ same_children j k → same ≡ false → same ≡ is_key_before depth now key
  judged-other same is e = e ∙ ap (λ b. b && key_less j k) (sym (sym is ∙ e)) ∙ both-judged

-- ---- the leaves of a machine

-- a leaf's place in a tree of this depth
record IsAt (depth : ℕ) (a : LeafAt) : Type 0 where
  depth_is : length a.spot.above + 1 ≡ depth
  deep : length a.spot.above ≤ 3

module _ (depth : ℕ) where
  mutual
    leaves_at-depth : (c : Spot) (n : Node) → levels_fit depth (length (spot_path c)) (skeleton n) ≡ true → length c.above ≤ 3 → AllByRecursion (IsAt depth) (leaves_in c n)
    leaves_at-depth c (leaf_node v) fit l = (record { depth_is = sym (length-append c.above (c.number ∷ [])) ∙ eqb-true _ _ fit; deep = l }, tt)
    leaves_at-depth c (dir_node d ns) fit l =
        let level = and_parts (nat_eq d.level (length (spot_path c))) _ fit in
        let deep = and_parts (nat_le (length (spot_path c)) 3) _ level.1 in
        placed_at-depth (spot_path c) d 0 ns deep.1 (leb-true _ _ deep.0)

    placed_at-depth : (path : List ℕ) (d : DirValue) (i : ℕ) (ns : Nodes) → levels_fit_among depth (length path + 1) (skeletons ns) ≡ true → length path ≤ 3 → AllByRecursion (IsAt depth) (placed_leaves path d i ns)
    placed_at-depth path d i no_nodes fit l = tt
    placed_at-depth path d i (more_nodes n ns) fit l =
        let parts = and_parts (levels_fit depth (length path + 1) (skeleton n)) _ fit in
        let first : levels_fit depth (length (spot_path (spot_in path d i))) (skeleton n) ≡ true = ap (λ k. levels_fit depth k (skeleton n)) (length-append path (i ∷ [])) ∙ parts.0 in
        each-append (IsAt depth) (leaves_in (spot_in path d i) n) (placed_leaves path d (i + 1) ns) (leaves_at-depth (spot_in path d i) n first l) (placed_at-depth path d (i + 1) ns parts.1 l)

all_at : (m : MachineValue) → IsShaped m → AllByRecursion (IsAt (depth_of m)) (leaves_at m)
unfolding leaves_at
all_at m shaped =
    let level = and_parts (nat_eq m.top.level 0) _ (shaped.each levels_known) in
    let deep = and_parts (nat_le 0 3) _ level.1 in
    placed_at-depth (depth_of m) [] m.top 0 m.kids deep.1 (omega arith)

-- ---- the present key at a leaf

abbrev now_at : LeafAt → Key
now_at a = key_at_leaf (at_child a.spot) a.leaf.done

now-numbers : (depth : ℕ) (a : LeafAt) → IsAt depth a → key_numbers depth (now_at a) ≡ leaf_now a
now-numbers depth a at = ap (λ n. key_numbers n (now_at a)) (sym at.depth_is) ∙ key-now a.spot a.leaf.done at.deep

now-path : (depth : ℕ) (a : LeafAt) → IsAt depth a → key_path (key_numbers depth (now_at a)) ≡ leaf_path a
now-path depth a at = ap (λ n. key_path (key_numbers n (now_at a))) (sym at.depth_is) ∙ by_path a.spot.above at.deep
  where
    by_path : (above : List ℕ) → length above ≤ 3 → key_path (key_numbers (length above + 1) (key_at_leaf (at_child (record { above = above; number = a.spot.number; present = a.spot.present })) a.leaf.done)) ≡ above ++ a.spot.number ∷ []
    by_path [] l = refl
    by_path (p ∷ []) l = refl
    by_path (p ∷ q ∷ []) l = refl
    by_path (p ∷ q ∷ r ∷ []) l = refl
    by_path (p ∷ q ∷ r ∷ s ∷ above) l = absurd (omega (arith, l))

module _ (depth : ℕ) (o : Op) where
  -- of one leaf: where it is the operation's, the key is one of it
  abbrev fits_leaf : LeafAt → Bool
  fits_leaf a = test_of (has_leaf_path depth o a) && test_of (is_before_now depth o a)

  other-fits : (a : LeafAt) → is_leaf_of o a ≡ false → fits_leaf a ≡ true
  other-fits a other = rw other refl

  own-fits : (a : LeafAt) → IsAt depth a → is_leaf_of o a ≡ true → fits_leaf a ≡ is_key_before depth (now_at a) o.key
  unfolding is_key_before
  own-fits a at own = rw own (ap (λ path. same_numbers (op_path depth o) path && less (op_key depth o) (leaf_now a)) (sym (now-path depth a at)) ∙ ap (λ ns. same_numbers (op_path depth o) (key_path (key_numbers depth (now_at a))) && less (op_key depth o) ns) (sym (now-numbers depth a at)))

  all-fit : (ls : List LeafAt) → test_of (each (has_leaf_path depth o) ls) && test_of (each (is_before_now depth o) ls) ≡ list_all fits_leaf ls
  all-fit [] = refl
  all-fit (a ∷ ls) = exchanged (test_of (has_leaf_path depth o a)) (test_of (each (has_leaf_path depth o) ls)) (test_of (is_before_now depth o a)) (test_of (each (is_before_now depth o) ls)) ∙ ap (λ rest. fits_leaf a && rest) (all-fit ls)
    where
      exchanged : (p ps q qs : Bool) → (p && ps) && (q && qs) ≡ (p && q) && (ps && qs)
      exchanged false ps q qs = refl
      exchanged true ps true qs = refl
      exchanged true true false qs = refl
      exchanged true false false qs = refl

-- ---- one of a list of leaves

abbrev Among : (LeafAt → Type 0) → List LeafAt → Type 0
Among P [] = ⊥
Among P (a ∷ ls) = P a ⊎ Among P ls

among-left : (P : LeafAt → Type 0) (ls rest : List LeafAt) → Among P ls → Among P (ls ++ rest)
among-left P [] rest i = absurd i
among-left P (a ∷ ls) rest (inl p) = inl p
among-left P (a ∷ ls) rest (inr i) = inr (among-left P ls rest i)

among-right : (P : LeafAt → Type 0) (ls rest : List LeafAt) → Among P rest → Among P (ls ++ rest)
among-right P [] rest i = i
among-right P (a ∷ ls) rest i = inr (among-right P ls rest i)

and-false : (b : Bool) → (b && false) ≡ false
and-false true = refl
and-false false = refl

record Member (P Q : LeafAt → Type 0) (t : LeafAt → Bool) (ls : List LeafAt) : Type 0 where
  leaf : LeafAt
  told : P leaf
  known : Q leaf
  fails : t leaf ≡ false → list_all t ls ≡ false

member : (P Q : LeafAt → Type 0) (t : LeafAt → Bool) (ls : List LeafAt) → Among P ls → AllByRecursion Q ls → Member P Q t ls
member P Q t [] i all = absurd i
member P Q t (a ∷ ls) (inl p) all = record { leaf = a; told = p; known = all.0; fails = λ e. rw e refl }
member P Q t (a ∷ ls) (inr i) all =
    let rest = member P Q t ls i all.1 in
    record { leaf = rest.leaf; told = rest.told; known = rest.known; fails = λ e. rw (rest.fails e) (and-false (t a)) }

-- ---- the leaf that is read by its number

module _ (h : ℕ) (now : Key) where
  abbrev IsRead : LeafAt → Type 0
  IsRead a = (nat_eq a.leaf.number h ≡ true) × (now ≡ now_at a)

  abbrev reads : Where → Node → Key
  reads = of_leaf (λ w v. key_at_leaf w v.done) key_zero

  first-read : (path : List ℕ) (d : DirValue) (i : ℕ) (n : Node) (ns : Nodes) (t : Bool) → Some now ≡ (if t then read_in (leaf_of_number h) reads (at_child (spot_in path d i)) n else read_among (leaf_of_number h) reads path d (i + 1) ns)
      → (Some now ≡ read_in (leaf_of_number h) reads (at_child (spot_in path d i)) n → Among IsRead (leaves_in (spot_in path d i) n))
      → (Some now ≡ read_among (leaf_of_number h) reads path d (i + 1) ns → Among IsRead (placed_leaves path d (i + 1) ns)) → Among IsRead (placed_leaves path d i (more_nodes n ns))
  first-read path d i n ns true e here behind = among-left IsRead (leaves_in (spot_in path d i) n) (placed_leaves path d (i + 1) ns) (here e)
  first-read path d i n ns false e here behind = among-right IsRead (leaves_in (spot_in path d i) n) (placed_leaves path d (i + 1) ns) (behind e)

  mutual
    read-leaf : (c : Spot) (n : Node) → Some now ≡ read_in (leaf_of_number h) reads (at_child c) n → Among IsRead (leaves_in c n)
    read-leaf c (leaf_node v) e = by (nat_eq v.number h) refl e
      where
        by : (t : Bool) → nat_eq v.number h ≡ t → Some now ≡ (if t then Some (key_at_leaf (at_child c) v.done) else None) → Among IsRead (leaves_in c (leaf_node v))
        by true is e =
            let same : now ≡ key_at_leaf (at_child c) v.done = cc in
            inl (is, same)
        by false is e = cc
    read-leaf c (dir_node d ns) e = read-placed (spot_path c) d 0 ns e

    read-placed : (path : List ℕ) (d : DirValue) (i : ℕ) (ns : Nodes) → Some now ≡ read_among (leaf_of_number h) reads path d i ns → Among IsRead (placed_leaves path d i ns)
    read-placed path d i no_nodes e = cc
    read-placed path d i (more_nodes n ns) e =
        first-read path d i n ns (has_node (leaf_of_number h) n) e (λ e. read-leaf (spot_in path d i) n e) (λ e. read-placed path d (i + 1) ns e)

-- ---- an operation's key

module _ (m : MachineValue) (o : Op) (shaped : IsShaped m) where
  abbrev fits : LeafAt → Bool
  fits = fits_leaf (depth_of m) o

  abbrev Known : LeafAt → Type 0
  Known a = IsAt (depth_of m) a × AllByRecursion (IsOnlyOf a) (leaves_at m)

  all-known : AllByRecursion Known (leaves_at m)
  all-known = each-both (IsAt (depth_of m)) (λ a. AllByRecursion (IsOnlyOf a) (leaves_at m)) Known (λ a at only. (at, only)) (leaves_at m) (all_at m shaped) (one_of_number m shaped)

  alone-fits : (a : LeafAt) → fits a ≡ true → nat_eq a.leaf.number o.hart ≡ true → (ls : List LeafAt) → AllByRecursion (IsOnlyOf a) ls → list_all fits ls ≡ true
  alone-fits a fit own [] only = refl
  alone-fits a fit own (b ∷ ls) only = rw (first (is_leaf_of o b) refl) (alone-fits a fit own ls only.1)
    where
      first : (t : Bool) → is_leaf_of o b ≡ t → fits b ≡ true
      first true is = ap fits (only.0 (sym (eqb-true o.hart b.leaf.number is) ∙ sym (eqb-true a.leaf.number o.hart own))) ∙ fit
      first false is = other-fits (depth_of m) o b is

  module _ (now : Key) (read : Some now ≡ now_of o.hart m) where
    found : Member (IsRead o.hart now) Known fits (leaves_at m)
    unfolding leaves_at
    found = member (IsRead o.hart now) Known fits (placed_leaves [] m.top 0 m.kids) (read-placed o.hart now [] m.top 0 m.kids read) all-known

    pub key-judged : is_key_before (depth_of m) now o.key ≡ is_key_of_leaf m o
    key-judged =
        let a = found.leaf in
        let own : is_leaf_of o a ≡ true = eq-eqb o.hart a.leaf.number (sym (eqb-true a.leaf.number o.hart found.told.0)) in
        let here : is_key_before (depth_of m) now o.key ≡ fits a = ap (λ k. is_key_before (depth_of m) k o.key) found.told.1 ∙ sym (own-fits (depth_of m) o a found.known.0 own) in
        here ∙ by (fits a) refl ∙ sym (all-fit (depth_of m) o (leaves_at m))
      where
        by : (t : Bool) → fits found.leaf ≡ t → t ≡ list_all fits (leaves_at m)
        by true is = sym (alone-fits found.leaf is found.told.0 (leaves_at m) found.known.1)
        by false is = sym (found.fails is)

    pub depth-bounds : (0 < depth_of m) × (depth_of m ≤ 4)
    depth-bounds =
        let at = found.known.0 in
        (omega (arith, at.depth_is), omega (arith, at.depth_is, at.deep))

  -- ---- where its hart has no leaf, every key passes

  abbrev IsOther : LeafAt → Type 0
  IsOther a = is_leaf_of o a ≡ false

  other-number : (k : ℕ) → nat_eq k o.hart ≡ false → nat_eq o.hart k ≡ false
  other-number k e = ne_eqb o.hart k (λ same. true≢false (sym (eq-eqb k o.hart (sym same)) ∙ e))

  or-false : (s t : Bool) → (s || t) ≡ false → (s ≡ false) × (t ≡ false)
  or-false true t e = absurd (true≢false e)
  or-false false t e = (refl, e)

  mutual
    others-in : (c : Spot) (n : Node) → has_node (leaf_of_number o.hart) n ≡ false → AllByRecursion IsOther (leaves_in c n)
    others-in c (leaf_node v) e = (other-number v.number e, tt)
    others-in c (dir_node d ns) e = others-among (spot_path c) d 0 ns e

    others-among : (path : List ℕ) (d : DirValue) (i : ℕ) (ns : Nodes) → has_among (leaf_of_number o.hart) ns ≡ false → AllByRecursion IsOther (placed_leaves path d i ns)
    others-among path d i no_nodes e = tt
    others-among path d i (more_nodes n ns) e =
        let parts = or-false (has_node (leaf_of_number o.hart) n) (has_among (leaf_of_number o.hart) ns) e in
        each-append IsOther (leaves_in (spot_in path d i) n) (placed_leaves path d (i + 1) ns) (others-in (spot_in path d i) n parts.0) (others-among path d (i + 1) ns parts.1)

  others-fit : (ls : List LeafAt) → AllByRecursion IsOther ls → list_all fits ls ≡ true
  others-fit [] all = refl
  others-fit (a ∷ ls) all = rw (other-fits (depth_of m) o a all.0) (others-fit ls all.1)

  pub key-without_leaf : has_node (leaf_of_number o.hart) (root_of m) ≡ false → true ≡ is_key_of_leaf m o
  unfolding leaves_at
  key-without_leaf none = sym (all-fit (depth_of m) o (leaves_at m) ∙ others-fit (leaves_at m) (others-among [] m.top 0 m.kids none))

  -- ---- its leaf, where its hart has one, with what is known of each leaf

  pub record OwnLeaf (Q : LeafAt → Type 0) : Type 0 where
    pub leaf : LeafAt
    pub number : leaf.leaf.number ≡ o.hart
    pub path : op_path (depth_of m) o ≡ leaf_path leaf
    pub known : Q leaf

  pub own-leaf : (Q : LeafAt → Type 0) → AllByRecursion Q (leaves_at m) → (now : Key) → Some now ≡ now_of o.hart m → is_key_of_leaf m o ≡ true → OwnLeaf Q
  unfolding leaves_at
  own-leaf Q all now read fit = own-path (member (IsRead o.hart now) Q fits (placed_leaves [] m.top 0 m.kids) (read-placed o.hart now [] m.top 0 m.kids read) all)
    where
      all-pass : list_all fits (placed_leaves [] m.top 0 m.kids) ≡ true
      all-pass = sym (all-fit (depth_of m) o (placed_leaves [] m.top 0 m.kids)) ∙ fit

      own-path : Member (IsRead o.hart now) Q fits (placed_leaves [] m.top 0 m.kids) → OwnLeaf Q
      own-path there = by (fits there.leaf) refl
        where
          own : is_leaf_of o there.leaf ≡ true
          own = eq-eqb o.hart there.leaf.leaf.number (sym (eqb-true there.leaf.leaf.number o.hart there.told.0))

          by : (t : Bool) → fits there.leaf ≡ t → OwnLeaf Q
          by true is =
              let path = rw own at (and_parts (test_of (has_leaf_path (depth_of m) o there.leaf)) (test_of (is_before_now (depth_of m) o there.leaf)) is).0 in
              record { leaf = there.leaf; number = eqb-true there.leaf.leaf.number o.hart there.told.0; path = same_numbers-true (op_path (depth_of m) o) (leaf_path there.leaf) path; known = there.known }
          by false is = absurd (true≢false (sym all-pass ∙ there.fails is))
