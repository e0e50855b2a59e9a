-- What the leaves are that were read, each at its number: leaves are numbered from left to right.
-- Letters: n is how many items there are, m the machine before, v a leaf of it, u the one that was read, ws are words.
use Rattle.std.specs.Prelude.{◌≡◌, ℕ, ◌+◌, Bool, true, ◌&&◌, nat_eq, nat_lt, nat_le, List, [], ◌∷◌, ◌++◌, length, map, slice_index_or, Ok, refl, ⊤}
use Rattle.std.specs.List.{AllByRecursion}
use Rattle.std.proofs.Common.{sym, ap, subst, ◌∙◌, append_assoc}
use Rattle.std.proofs.lemmas.Bool.{and_parts, eqb-true}
use Rattle.std.proofs.lemmas.List.{get_or_at, length_push}
use Rattle.state_judging.specs.TreeModel.State.Shape.{IsShaped, skeleton, skeletons, leaf_numbers_of, leaf_numbers_among, count_from, leaves_numbered}
use Rattle.state_judging.specs.TreeModel.State.Values.{LeafSizes, LeafValue, Node, Nodes, leaf_node, dir_node, no_nodes, more_nodes, MachineValue, root_of}
use Rattle.state_judging.specs.TreeModel.Turns.Machine.{leaves_of, leaves_among, machine_leaves}
use Rattle.state_judging.specs.TreeRules.Bus.Own.{leaf_holds}
use Rattle.state_reading.specs.Reading.{Read}
use Rattle.state_reading.specs.Parts.{most_counted, read_hart, read_leaf}
use Rattle.state_reading.specs.Machine.{read_each}
use Rattle.state_judging.specs.Read.{ways_exist, ways_exist_among}
use Rattle.state_judging.proofs.Inverted.{Beside, read_each-ok, beside-both}
use Rattle.state_judging.proofs.LeafRead.{HartRead, hart-ok, LeafRead, leaf-ok}

-- ---- what holds at every leaf of a tree

module _ (Q : LeafValue → Type 0) where
  abbrev mutual
    pub AtLeaves : Node → Type 0
    AtLeaves (leaf_node v) = Q v
    AtLeaves (dir_node d ns) = AtLeavesAmong ns

    pub AtLeavesAmong : Nodes → Type 0
    AtLeavesAmong no_nodes = ⊤
    AtLeavesAmong (more_nodes n ns) = AtLeaves n × AtLeavesAmong ns

  mutual
    leaves-at : (n : Node) (rest : List LeafValue) → AllByRecursion Q (leaves_of n rest) → AtLeaves n × AllByRecursion Q rest
    leaves-at (leaf_node v) rest all = all
    leaves-at (dir_node d ns) rest all = among-at ns rest all

    among-at : (ns : Nodes) (rest : List LeafValue) → AllByRecursion Q (leaves_among ns rest) → AtLeavesAmong ns × AllByRecursion Q rest
    among-at no_nodes rest all = (tt, all)
    among-at (more_nodes n ns) rest all =
        let first = leaves-at n (leaves_among ns rest) all in
        let others = among-at ns rest first.1 in
        ((first.0, others.0), others.1)

  pub all-leaves : (m : MachineValue) → AllByRecursion Q (machine_leaves m) → AtLeaves (root_of m)
  all-leaves m all = (leaves-at (root_of m) [] all).0

module _ (Q R S : LeafValue → Type 0) (both : (v : LeafValue) → Q v → R v → S v) where
  mutual
    pub leaves-both : (n : Node) → AtLeaves Q n → AtLeaves R n → AtLeaves S n
    leaves-both (leaf_node v) first second = both v first second
    leaves-both (dir_node d ns) first second = among-both ns first second

    pub among-both : (ns : Nodes) → AtLeavesAmong Q ns → AtLeavesAmong R ns → AtLeavesAmong S ns
    among-both no_nodes first second = tt
    among-both (more_nodes n ns) first second = (leaves-both n first.0 second.0, among-both ns first.1 second.1)

-- ---- numbers from left to right

abbrev pub number_of : LeafValue → ℕ
number_of v = v.number

mutual
  pub numbers-in : (n : Node) (rest : List LeafValue) → leaf_numbers_of (skeleton n) (map number_of rest) ≡ map number_of (leaves_of n rest)
  numbers-in (leaf_node v) rest = refl
  numbers-in (dir_node d ns) rest = numbers-among ns rest

  numbers-among : (ns : Nodes) (rest : List LeafValue) → leaf_numbers_among (skeletons ns) (map number_of rest) ≡ map number_of (leaves_among ns rest)
  numbers-among no_nodes rest = refl
  numbers-among (more_nodes n ns) rest = ap (leaf_numbers_of (skeleton n)) (numbers-among ns rest) ∙ numbers-in n (leaves_among ns rest)

module _ (R : LeafValue → LeafValue → Type 0) where
  -- behind those before them, each stands at its number
  pub at-numbers : (before us vs : List LeafValue) (i : ℕ) → length before ≡ i → count_from i (map number_of vs) ≡ true → Beside R vs us → AllByRecursion (λ v. R v (slice_index_or (before ++ us) v.number v)) vs
  at-numbers before us [] i size counted beside = tt
  at-numbers before [] (v ∷ vs) i size counted beside = absurd beside
  at-numbers before (u ∷ us) (v ∷ vs) i size counted beside =
      let parts = and_parts (nat_eq v.number i) (count_from (i + 1) (map number_of vs)) counted in
      let here : slice_index_or (before ++ u ∷ us) v.number v ≡ u = get_or_at before u us v v.number (size ∙ sym (eqb-true v.number i parts.0)) in
      let one_more : length (before ++ u ∷ []) ≡ i + 1 = length_push before u ∙ ap (λ j. j + 1) size in
      let rest = at-numbers (before ++ u ∷ []) us vs (i + 1) one_more parts.1 beside.1 in
      (subst (R v) (sym here) beside.0, subst (λ all. AllByRecursion (λ v. R v (slice_index_or all v.number v)) vs) (append_assoc before (u ∷ []) us) rest)

-- ---- all of them

abbrev pub has_ways : LeafSizes → Bool
has_ways s = nat_lt 0 s.sets && nat_lt 0 s.way_count

mutual
  ways-in : (n : Node) → ways_exist (skeleton n) ≡ true → AtLeaves (λ v. has_ways v.sizes ≡ true) n
  ways-in (leaf_node v) e = e
  ways-in (dir_node d ns) e = ways-among ns e

  ways-among : (ns : Nodes) → ways_exist_among (skeletons ns) ≡ true → AtLeavesAmong (λ v. has_ways v.sizes ≡ true) ns
  ways-among no_nodes e = tt
  ways-among (more_nodes n ns) e =
      let parts = and_parts (ways_exist (skeleton n)) (ways_exist_among (skeletons ns)) e in
      (ways-in n parts.0, ways-among ns parts.1)

module _ (n : ℕ) where
  -- the number and the sizes stay
  pub record WholeRead (v u : LeafValue) : Type 0 where
    pub number : u.number ≡ v.number
    pub sizes : u.sizes ≡ v.sizes
    pub counted : nat_le u.done most_counted ≡ true
    pub holds : leaf_holds n u ≡ true

  abbrev pub FromHart : LeafValue → LeafValue → Type 0
  FromHart h u = has_ways h.sizes ≡ true → LeafRead n h u

  abbrev FromLeaf : LeafValue → LeafValue → Type 0
  FromLeaf v u = has_ways v.sizes ≡ true → WholeRead v u

  whole-read : (v h u : LeafValue) → HartRead v h → FromHart h u → FromLeaf v u
  whole-read v h u hart leaf ways =
      let part = leaf (ap has_ways hart.sizes ∙ ways) in
      record {
        number = part.number ∙ hart.number;
        sizes = part.sizes ∙ hart.sizes;
        counted = ap (λ w. nat_le w most_counted) part.done ∙ hart.counted;
        holds = part.holds;
      }

  module _ (m : MachineValue) where
    abbrev StandsAt : List LeafValue → LeafValue → Type 0
    StandsAt us v = WholeRead v (slice_index_or us v.number v)

    pub leaves-stand : (harts us : List LeafValue) → IsShaped m → ways_exist (skeleton (root_of m)) ≡ true → Beside HartRead (machine_leaves m) harts → Beside FromHart harts us → AtLeaves (StandsAt us) (root_of m)
    leaves-stand harts us shaped ways first second =
        let whole = beside-both HartRead FromHart FromLeaf whole-read (machine_leaves m) harts us first second in
        let counted : count_from 0 (map number_of (machine_leaves m)) ≡ true = ap (count_from 0) (sym (numbers-in (root_of m) [])) ∙ shaped.each leaves_numbered in
        let standing = all-leaves (λ v. FromLeaf v (slice_index_or us v.number v)) m (at-numbers FromLeaf [] us (machine_leaves m) 0 refl counted whole) in
        leaves-both (λ v. has_ways v.sizes ≡ true) (λ v. FromLeaf v (slice_index_or us v.number v)) (StandsAt us) (λ v some from. from some) (root_of m) (ways-in (root_of m) ways) standing

    pub harts-ok : (k : ℕ) (ws : List ℕ) (r : Read (List LeafValue)) → read_each read_hart (machine_leaves m) k ws ≡ Ok r → Beside HartRead (machine_leaves m) r.value
    harts-ok k ws r e = read_each-ok HartRead read_hart hart-ok (machine_leaves m) k ws r e

    pub leaves-ok : (harts : List LeafValue) (k : ℕ) (ws : List ℕ) (r : Read (List LeafValue)) → read_each (read_leaf n) harts k ws ≡ Ok r → Beside FromHart harts r.value
    leaves-ok harts k ws r e = read_each-ok FromHart (read_leaf n) (λ h k ws r e some. leaf-ok n h some k ws r e) harts k ws r e
