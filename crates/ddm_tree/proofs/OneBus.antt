-- A path to a bus of a number is the one that the bus's name leads along: no two buses have one number.
-- Letters: k is the number of a bus, q and r are paths, i and j children, n a node, v a leaf, d a directory over the nodes ns.
use Rattle.std.proofs.Common.{◌≡◌, ◌<◌, ◌≤◌, ℕ, zero, suc, inl, Bool, true, false, true≢false, List, [], ◌∷◌, length, Some, refl, sym, ap, subst, ◌∙◌, arith}
use Rattle.std.specs.Prelude.{◌||◌, is_some}
use Rattle.std.proofs.lemmas.Bool.{eq-eqb, eqb-true}
use Rattle.std.proofs.lemmas.List.{get_or_past}
use Rattle.std.proofs.lemmas.Option.{none-some, same_Some}
use Rattle.ddm_tree.specs.TreeModel.declared.BusTurn.{BusTurn}
use Rattle.ddm_tree.specs.TreeModel.State.Blank.{no_leaf, no_node}
use Rattle.ddm_tree.specs.TreeModel.State.Values.{LeafValue, DirValue, Node, Nodes, leaf_node, dir_node, no_nodes, more_nodes, children}
use Rattle.ddm_tree.specs.TreeModel.Turns.Children.{child_at}
use Rattle.ddm_tree.specs.TreeModel.Turns.Tree.{bus_of_number, is_named, has_node, has_among}
use Rattle.ddm_tree.specs.Path.{node_at}
use Rattle.ddm_tree.specs.Ready.{Leads}
use Rattle.ddm_tree.specs.Quiet.{AreLearnedBelow, Entry, bus_in}
use Rattle.ddm_tree.proofs.Along.{path_to-there}
use Rattle.ddm_tree.proofs.Descend.{LeadsOn, leads-child}
use Rattle.ddm_tree.proofs.IdleHarts.{leads-named}
use Rattle.ddm_tree.proofs.NamedOnce.{Once, OnceAmong}

-- ---- a number and a name

named-number : (k : ℕ) (n : Node) → is_named (bus_of_number k) n ≡ true → bus_in n ≡ Some k
named-number k (leaf_node v) e = cc
named-number k (dir_node d ns) e = ap Some (eqb-true d.bus k e)

number-named : (k : ℕ) (n : Node) → bus_in n ≡ Some k → is_named (bus_of_number k) n ≡ true
number-named k (leaf_node v) e = absurd (none-some k e)
number-named k (dir_node d ns) e = eq-eqb d.bus k (same_Some d.bus k e)

pub leads-number : (k : ℕ) (q : List ℕ) (n : Node) → Leads (bus_of_number k) q n → bus_in (node_at q n) ≡ Some k
leads-number k q n leads = named-number k (node_at q n) (leads-named (bus_of_number k) q n leads)

-- ---- a path to a bus, and the part of the tree that it goes through

below-leaf : (k : ℕ) (r : List ℕ) (v : LeafValue) → bus_in (node_at r (leaf_node v)) ≡ Some k → ⊥
below-leaf k [] v e = none-some k e
below-leaf k (i ∷ r) v e = below-leaf k r no_leaf e

-- a child with a bus is one of the children
child-inside : (k i : ℕ) (ms : List Node) → bus_in (child_at i ms) ≡ Some k → i < length ms
child-inside k i [] e = absurd (none-some k e)
child-inside k zero (m ∷ ms) e = omega arith
child-inside k (suc i) (m ∷ ms) e =
    let rest : i < length ms = child-inside k i ms e in
    omega (arith, rest)

pub path-inside : (k i : ℕ) (q : List ℕ) (d : DirValue) (ns : Nodes) → q ≡ i ∷ [] → bus_in (node_at q (dir_node d ns)) ≡ Some k → i < length (children ns)
path-inside k i q d ns is e = child-inside k i (children ns) (subst (λ r. bus_in (node_at r (dir_node d ns)) ≡ Some k) is e)

-- where no bus is, nothing is learned
pub leaf-learned : (Among : List ℕ → BusTurn → Type 0) (v : LeafValue) (known : List Entry) → AreLearnedBelow Among (leaf_node v) known known
leaf-learned Among v known = record { each = λ k t. inl (record { same = refl; none = λ q is among. below-leaf k q v is }) }

pub nothing-below : (Among : List ℕ → BusTurn → Type 0) (i : ℕ) (ms : List Node) (known : List Entry) → length ms ≤ i → AreLearnedBelow Among (child_at i ms) known known
nothing-below Among i ms known past = subst (λ m. AreLearnedBelow Among m known known) (sym (get_or_past ms i no_node past)) (leaf-learned Among no_leaf known)

or-second : (a b : Bool) → b ≡ true → (a || b) ≡ true
or-second true b e = refl
or-second false b e = e

child-among : (k : ℕ) (ns : Nodes) (i : ℕ) → has_node (bus_of_number k) (child_at i (children ns)) ≡ true → has_among (bus_of_number k) ns ≡ true
child-among k no_nodes i e = cc
child-among k (more_nodes n ns) zero e = rw e refl
child-among k (more_nodes n ns) (suc i) e = or-second (has_node (bus_of_number k) n) (has_among (bus_of_number k) ns) (child-among k ns i e)

part-has : (k : ℕ) (r : List ℕ) (n : Node) → bus_in (node_at r n) ≡ Some k → has_node (bus_of_number k) n ≡ true
part-has k r (leaf_node v) e = absurd (below-leaf k r v e)
part-has k [] (dir_node d ns) e =
    let named : is_named (bus_of_number k) (dir_node d ns) ≡ true = number-named k (dir_node d ns) e in
    rw named refl
part-has k (i ∷ r) (dir_node d ns) e = or-second (is_named (bus_of_number k) (dir_node d ns)) (has_among (bus_of_number k) ns) (child-among k ns i (part-has k r (child_at i (children ns)) e))

-- ---- once

child-once : (k : ℕ) (ns : Nodes) (i : ℕ) → OnceAmong (bus_of_number k) ns → Once (bus_of_number k) (child_at i (children ns))
child-once k no_nodes i once = tt
child-once k (more_nodes n ns) zero once = once.1
child-once k (more_nodes n ns) (suc i) once = child-once k ns i once.2

same-child : (k : ℕ) (ns : Nodes) (i j : ℕ) → OnceAmong (bus_of_number k) ns → has_node (bus_of_number k) (child_at i (children ns)) ≡ true → has_node (bus_of_number k) (child_at j (children ns)) ≡ true → i ≡ j
same-child k no_nodes i j once first second = cc
same-child k (more_nodes n ns) zero zero once first second = refl
same-child k (more_nodes n ns) zero (suc j) once first second = absurd (true≢false (sym (child-among k ns j second) ∙ once.0 first))
same-child k (more_nodes n ns) (suc i) zero once first second = absurd (true≢false (sym (child-among k ns i first) ∙ once.0 second))
same-child k (more_nodes n ns) (suc i) (suc j) once first second = ap suc (same-child k ns i j once.2 first second)

own-path : (k : ℕ) (q : List ℕ) (d : DirValue) (ns : Nodes) → is_named (bus_of_number k) (dir_node d ns) ≡ true → Leads (bus_of_number k) q (dir_node d ns) → [] ≡ q
own-path k q d ns named leads = same_Some [] q (rw named at leads)

pub one-path : (k : ℕ) (r q : List ℕ) (n : Node) → Once (bus_of_number k) n → Leads (bus_of_number k) q n → bus_in (node_at r n) ≡ Some k → r ≡ q
one-path k r q (leaf_node v) once leads e = absurd (below-leaf k r v e)
one-path k [] q (dir_node d ns) once leads e = own-path k q d ns (number-named k (dir_node d ns) e) leads
one-path k (i ∷ r) [] (dir_node d ns) once leads e =
    let here : is_named (bus_of_number k) (dir_node d ns) ≡ true = leads-named (bus_of_number k) [] (dir_node d ns) leads in
    absurd (true≢false (sym (child-among k ns i (part-has k r (child_at i (children ns)) e)) ∙ once.0 here))
one-path k (i ∷ r) (j ∷ q) (dir_node d ns) once leads e =
    let on : LeadsOn (bus_of_number k) j q (children ns) = leads-child (bus_of_number k) d ns j q leads in
    let there : has_node (bus_of_number k) (child_at j (children ns)) ≡ true = sym (path_to-there (bus_of_number k) (child_at j (children ns))) ∙ ap is_some on.leads in
    let same : i ≡ j = same-child k ns i j once.1 (part-has k r (child_at i (children ns)) e) there in
    let rest : r ≡ q = one-path k r q (child_at j (children ns)) (child-once k ns j once.1) on.leads (subst (λ c. bus_in (node_at r (child_at c (children ns))) ≡ Some k) same e) in
    ap (λ c. c ∷ r) same ∙ ap (λ p. j ∷ p) rest
