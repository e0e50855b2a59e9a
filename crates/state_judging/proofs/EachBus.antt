-- Asking for each bus by its number reaches every directory of the tree and no other: buses have different numbers, which are below
-- how many they are.
use Rattle.std.specs.Prelude.{◌≡◌, ◌<◌, ℕ, ◌+◌, Bool, true, false, not, ◌||◌, nat_eq, nat_lt, List, [], ◌∷◌, length, Some, refl, ⊤}
use Rattle.std.specs.List.{list_any}
use Rattle.std.proofs.Common.{sym, ap, ◌∙◌, true≢false}
use Rattle.std.proofs.lemmas.Bool.{eqb-true, eq-eqb, ltb-true}
use Rattle.state_judging.specs.TreeModel.State.Values.{DirValue, Node, Nodes, leaf_node, dir_node, no_nodes, more_nodes, children, MachineValue, root_of}
use Rattle.state_judging.specs.TreeModel.State.Place.{Where, at_top, at_child, where_path, spot_in}
use Rattle.state_judging.specs.TreeModel.State.Shape.{IsShaped, skeleton, skeletons, buses_of, buses_among, are_distinct, are_below, buses_differ, traffic_counted}
use Rattle.state_judging.specs.TreeModel.Turns.Machine.{ask_bus}
use Rattle.state_judging.specs.TreeModel.Turns.Tree.{bus_of_number, has_node, has_among, read_in, read_among, of_dir}
use Rattle.state_judging.proofs.TreeModel.Tests.{and-first, and-second, not-true}
use Rattle.state_judging.proofs.Lists.{same-test}

-- ---- what holds at every directory of a tree

module _ (Q : DirValue → List Node → Type 0) where
  abbrev mutual
    pub AtDirs : Node → Type 0
    AtDirs (leaf_node v) = ⊤
    AtDirs (dir_node d ns) = Q d (children ns) × AtDirsAmong ns

    pub AtDirsAmong : Nodes → Type 0
    AtDirsAmong no_nodes = ⊤
    AtDirsAmong (more_nodes n ns) = AtDirs n × AtDirsAmong ns

-- ---- the numbers in a part of a tree

or-behind : (a b c : Bool) → (a || (b || c)) ≡ ((a || b) || c)
or-behind true b c = refl
or-behind false b c = refl

or-second : (a b : Bool) → b ≡ true → (a || b) ≡ true
or-second true b e = refl
or-second false b e = e

module _ (k : ℕ) where
  mutual
    pub numbered-in : (n : Node) (rest : List ℕ) → list_any (nat_eq k) (buses_of (skeleton n) rest) ≡ (has_node (bus_of_number k) n || list_any (nat_eq k) rest)
    numbered-in (leaf_node v) rest = refl
    numbered-in (dir_node d ns) rest = ap (λ b. nat_eq k d.bus || b) (numbered-among ns rest) ∙ or-behind (nat_eq k d.bus) (has_among (bus_of_number k) ns) (list_any (nat_eq k) rest) ∙ ap (λ b. (b || has_among (bus_of_number k) ns) || list_any (nat_eq k) rest) (same-test k d.bus)

    pub numbered-among : (ns : Nodes) (rest : List ℕ) → list_any (nat_eq k) (buses_among (skeletons ns) rest) ≡ (has_among (bus_of_number k) ns || list_any (nat_eq k) rest)
    numbered-among no_nodes rest = refl
    numbered-among (more_nodes n ns) rest = numbered-in n (buses_among (skeletons ns) rest) ∙ ap (λ b. has_node (bus_of_number k) n || b) (numbered-among ns rest) ∙ or-behind (has_node (bus_of_number k) n) (has_among (bus_of_number k) ns) (list_any (nat_eq k) rest)

-- ---- distinct numbers: those of a part, and those behind it

mutual
  distinct-behind : (n : Node) (rest : List ℕ) → are_distinct (buses_of (skeleton n) rest) ≡ true → are_distinct rest ≡ true
  distinct-behind (leaf_node v) rest e = e
  distinct-behind (dir_node d ns) rest e = distinct-behind_all ns rest (and-second (not (list_any (nat_eq d.bus) (buses_among (skeletons ns) rest))) _ e)

  distinct-behind_all : (ns : Nodes) (rest : List ℕ) → are_distinct (buses_among (skeletons ns) rest) ≡ true → are_distinct rest ≡ true
  distinct-behind_all no_nodes rest e = e
  distinct-behind_all (more_nodes n ns) rest e = distinct-behind_all ns rest (distinct-behind n (buses_among (skeletons ns) rest) e)

-- a directory's own number isn't one of those behind it
own-alone : (d : DirValue) (ns : Nodes) (rest : List ℕ) (k : ℕ) → are_distinct (buses_of (skeleton (dir_node d ns)) rest) ≡ true → list_any (nat_eq k) (buses_among (skeletons ns) rest) ≡ true → nat_eq d.bus k ≡ false
own-alone d ns rest k e there =
    elim (nat_eq d.bus k) as (λ b. nat_eq d.bus k ≡ b → b ≡ false) [
      | true ↦ λ is.
          let alone : list_any (nat_eq d.bus) (buses_among (skeletons ns) rest) ≡ false = not-true _ (and-first (not (list_any (nat_eq d.bus) (buses_among (skeletons ns) rest))) _ e) in
          absurd (true≢false (sym there ∙ ap (λ j. list_any (nat_eq j) (buses_among (skeletons ns) rest)) (sym (eqb-true d.bus k is)) ∙ alone))
      | false ↦ λ is. refl
    ] refl

module _ (k : ℕ) where
  mutual
    -- a number that stands behind a part of the tree isn't in it
    apart-in : (n : Node) (rest : List ℕ) → are_distinct (buses_of (skeleton n) rest) ≡ true → list_any (nat_eq k) rest ≡ true → has_node (bus_of_number k) n ≡ false
    apart-in (leaf_node v) rest e there = refl
    apart-in (dir_node d ns) rest e there =
        let behind : list_any (nat_eq k) (buses_among (skeletons ns) rest) ≡ true = numbered-among k ns rest ∙ or-second (has_among (bus_of_number k) ns) _ there in
        let own : nat_eq d.bus k ≡ false = own-alone d ns rest k e behind in
        rw own (apart-among ns rest (and-second (not (list_any (nat_eq d.bus) (buses_among (skeletons ns) rest))) _ e) there)

    apart-among : (ns : Nodes) (rest : List ℕ) → are_distinct (buses_among (skeletons ns) rest) ≡ true → list_any (nat_eq k) rest ≡ true → has_among (bus_of_number k) ns ≡ false
    apart-among no_nodes rest e there = refl
    apart-among (more_nodes n ns) rest e there =
        let behind : list_any (nat_eq k) (buses_among (skeletons ns) rest) ≡ true = numbered-among k ns rest ∙ or-second (has_among (bus_of_number k) ns) _ there in
        let first : has_node (bus_of_number k) n ≡ false = apart-in n (buses_among (skeletons ns) rest) e behind in
        rw first (apart-among ns rest (distinct-behind n (buses_among (skeletons ns) rest) e) there)

or-first : (a b : Bool) → a ≡ true → (a || b) ≡ true
or-first true b e = refl
or-first false b e = cc

-- ---- what is read of each number is so at every directory

module _ {A : Type 0} (f : DirValue → List Node → A) (other : A) (Q : A → Type 0) where
  abbrev read : Where → Node → A
  read = of_dir (λ w d ns. f d ns) other

  abbrev IsSo : DirValue → List Node → Type 0
  IsSo d ns = Q (f d ns)

  -- of the numbers of buses in this part of the tree
  abbrev EachRead : Where → Node → Type 0
  EachRead w n = (k : ℕ) (a : A) → has_node (bus_of_number k) n ≡ true → read_in (bus_of_number k) read w n ≡ Some a → Q a

  abbrev EachReadAmong : List ℕ → DirValue → ℕ → Nodes → Type 0
  EachReadAmong path d i ns = (k : ℕ) (a : A) → has_among (bus_of_number k) ns ≡ true → read_among (bus_of_number k) read path d i ns ≡ Some a → Q a

  mutual
    everywhere-in : (w : Where) (n : Node) (rest : List ℕ) → are_distinct (buses_of (skeleton n) rest) ≡ true → EachRead w n → AtDirs IsSo n
    everywhere-in w (leaf_node v) rest e reads = tt
    everywhere-in w (dir_node d ns) rest e reads = (here, everywhere-among (where_path w) d 0 ns rest (and-second (not (list_any (nat_eq d.bus) (buses_among (skeletons ns) rest))) _ e) below)
      where
        here : Q (f d (children ns))
        here =
            let own : nat_eq d.bus d.bus ≡ true = eq-eqb d.bus d.bus refl in
            reads d.bus (f d (children ns)) (or-first _ _ own) (rw own refl)

        below : EachReadAmong (where_path w) d 0 ns
        below k a there is =
            let behind : list_any (nat_eq k) (buses_among (skeletons ns) rest) ≡ true = numbered-among k ns rest ∙ or-first _ _ there in
            let own : nat_eq d.bus k ≡ false = own-alone d ns rest k e behind in
            reads k a (rw own there) (rw own is)

    everywhere-among : (path : List ℕ) (d : DirValue) (i : ℕ) (ns : Nodes) (rest : List ℕ) → are_distinct (buses_among (skeletons ns) rest) ≡ true → EachReadAmong path d i ns → AtDirsAmong IsSo ns
    everywhere-among path d i no_nodes rest e reads = tt
    everywhere-among path d i (more_nodes n ns) rest e reads = (everywhere-in (at_child (spot_in path d i)) n (buses_among (skeletons ns) rest) e here, everywhere-among path d (i + 1) ns rest (distinct-behind n (buses_among (skeletons ns) rest) e) behind)
      where
        here : EachRead (at_child (spot_in path d i)) n
        here k a there is = reads k a (or-first _ _ there) (rw there is)

        behind : EachReadAmong path d (i + 1) ns
        behind k a there is =
            let later : list_any (nat_eq k) (buses_among (skeletons ns) rest) ≡ true = numbered-among k ns rest ∙ or-first _ _ there in
            let first : has_node (bus_of_number k) n ≡ false = apart-in k n (buses_among (skeletons ns) rest) e later in
            reads k a (rw first there) (rw first is)

  mutual
    anywhere-in : (k : ℕ) (w : Where) (n : Node) → AtDirs IsSo n → (a : A) → read_in (bus_of_number k) read w n ≡ Some a → Q a
    anywhere-in k w (leaf_node v) all a is = cc
    anywhere-in k w (dir_node d ns) all a is =
        elim (nat_eq d.bus k) as (λ b. nat_eq d.bus k ≡ b → Q a) [
          | true ↦ λ own.
              let found : Some (f d (children ns)) ≡ Some a = rw own at is in
              let same : f d (children ns) ≡ a = cc in
              rw same at all.0
          | false ↦ λ own. anywhere-among k (where_path w) d 0 ns all.1 a (rw own at is)
        ] refl

    anywhere-among : (k : ℕ) (path : List ℕ) (d : DirValue) (i : ℕ) (ns : Nodes) → AtDirsAmong IsSo ns → (a : A) → read_among (bus_of_number k) read path d i ns ≡ Some a → Q a
    anywhere-among k path d i no_nodes all a is = cc
    anywhere-among k path d i (more_nodes n ns) all a is =
        elim (has_node (bus_of_number k) n) as (λ b. has_node (bus_of_number k) n ≡ b → Q a) [
          | true ↦ λ here. anywhere-in k (at_child (spot_in path d i)) n all.0 a (rw here at is)
          | false ↦ λ here. anywhere-among k path d (i + 1) ns all.1 a (rw here at is)
        ] refl

-- ---- a number in a machine's tree is below how many buses it has

pub below-any : (most k : ℕ) (ns : List ℕ) → are_below most ns ≡ true → list_any (nat_eq k) ns ≡ true → k < most
below-any most k [] below there = cc
below-any most k (n ∷ ns) below there =
    elim (nat_eq k n) as (λ b. nat_eq k n ≡ b → (b || list_any (nat_eq k) ns) ≡ true → k < most) [
      | true ↦ λ is there.
          let here : n < most = ltb-true n most (and-first (nat_lt n most) (are_below most ns) below) in
          rw (eqb-true k n is) here
      | false ↦ λ is there. below-any most k ns (and-second (nat_lt n most) (are_below most ns) below) there
    ] refl there

pub shaped-below : (m : MachineValue) → IsShaped m → are_below (length m.traffic) (buses_of (skeleton (root_of m)) []) ≡ true
shaped-below m shaped = and-second (nat_eq (length (buses_of (skeleton (root_of m)) [])) (length m.traffic)) _ (shaped.each traffic_counted)

number-below : (m : MachineValue) (k : ℕ) → IsShaped m → has_node (bus_of_number k) (root_of m) ≡ true → k < length m.traffic
number-below m k shaped there = below-any (length m.traffic) k (buses_of (skeleton (root_of m)) []) (shaped-below m shaped) (numbered-in k (root_of m) [] ∙ or-first _ _ there)

module _ {A : Type 0} (f : DirValue → List Node → A) (other : A) (Q : A → Type 0) (m : MachineValue) where
  -- what is so of each bus that is asked by its number is so at every directory
  pub asked-everywhere : IsShaped m → ((k : ℕ) (a : A) → k < length m.traffic → ask_bus k (λ w d ns. f d ns) other m ≡ Some a → Q a) → AtDirs (λ d ns. Q (f d ns)) (root_of m)
  asked-everywhere shaped asked = everywhere-in f other Q at_top (root_of m) [] (shaped.each buses_differ) (λ k a there is. asked k a (number-below m k shaped there) is)

  -- and the other way round
  pub asked-anywhere : AtDirs (λ d ns. Q (f d ns)) (root_of m) → (k : ℕ) (a : A) → ask_bus k (λ w d ns. f d ns) other m ≡ Some a → Q a
  asked-anywhere all k a is = anywhere-in f other Q k at_top (root_of m) all a is
