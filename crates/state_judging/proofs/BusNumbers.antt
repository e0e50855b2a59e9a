-- Each number below the count of buses is that of a bus, and what is read by a number is of the bus that has it.
use Rattle.std.specs.Prelude.{◌≡◌, ◌<◌, ◌≤◌, ℕ, ◌+◌, Bool, true, false, not, ◌||◌, nat_eq, List, [], ◌∷◌, length, Some, is_some, refl}
use Rattle.std.specs.List.{list_any, AllByRecursion, IsDistinct}
use Rattle.std.proofs.Common.{sym, ap, ◌∙◌, arith, true≢false}
use Rattle.std.proofs.lemmas.Bool.{and_parts, eqb-true}
use Rattle.std.proofs.lemmas.Map.Steps.{length-le_from_distinct_below}
use Rattle.state_judging.specs.TreeModel.State.Place.{Where, at_top, at_child, where_path, spot_in}
use Rattle.state_judging.specs.TreeModel.State.Values.{DirValue, Node, Nodes, leaf_node, dir_node, no_nodes, more_nodes, children, MachineValue, root_of}
use Rattle.state_judging.specs.TreeModel.State.Shape.{IsShaped, skeleton, buses_of, are_distinct, are_below, tree_counts, buses_differ, traffic_counted}
use Rattle.state_judging.specs.TreeModel.Turns.Machine.{ask_bus}
use Rattle.state_judging.specs.TreeModel.Turns.Tree.{bus_of_number, has_node, read_in, read_among, of_dir}
use Rattle.state_judging.proofs.TreeModel.NamedNode.{read_in-is_some}
use Rattle.state_judging.proofs.TreeModel.Tests.{not-true}
use Rattle.state_judging.proofs.EachBus.{numbered-in, below-any, shaped-below}

-- ---- as many numbers as there can be

none-like : (k : ℕ) (ns : List ℕ) → list_any (nat_eq k) ns ≡ false → AllByRecursion (λ n. nat_eq k n ≡ false) ns
none-like k [] e = tt
none-like k (n ∷ ns) e =
    elim (nat_eq k n) as (λ b. nat_eq k n ≡ b → (b || list_any (nat_eq k) ns) ≡ false → AllByRecursion (λ n. nat_eq k n ≡ false) (n ∷ ns)) [
      | true ↦ λ is e. absurd (true≢false e)
      | false ↦ λ is e. (is, none-like k ns e)
    ] refl e

pub all-differ : (ns : List ℕ) → are_distinct ns ≡ true → IsDistinct nat_eq ns
unfolding IsDistinct
all-differ [] e = tt
all-differ (n ∷ ns) e =
    let parts = and_parts (not (list_any (nat_eq n) ns)) (are_distinct ns) e in
    (none-like n ns (not-true (list_any (nat_eq n) ns) parts.0), all-differ ns parts.1)

one-more-differs : (k : ℕ) (ns : List ℕ) → list_any (nat_eq k) ns ≡ false → are_distinct ns ≡ true → IsDistinct nat_eq (k ∷ ns)
unfolding IsDistinct
one-more-differs k ns e differ = (none-like k ns e, all-differ ns differ)

among-all : (most k : ℕ) (ns : List ℕ) → are_distinct ns ≡ true → are_below most ns ≡ true → length ns ≡ most → k < most → list_any (nat_eq k) ns ≡ true
among-all most k ns differ below size l =
    elim (list_any (nat_eq k) ns) as (λ b. list_any (nat_eq k) ns ≡ b → b ≡ true) [
      | true ↦ λ e. refl
      | false ↦ λ e.
          let too_many : length (k ∷ ns) ≤ most = length-le_from_distinct_below (k ∷ ns) most (one-more-differs k ns e differ) within in
          absurd (omega (arith, too_many, size))
    ] refl
  where
    within : (q : ℕ) → list_any (nat_eq q) (k ∷ ns) ≡ true → q < most
    within q there =
        elim (nat_eq q k) as (λ b. nat_eq q k ≡ b → (b || list_any (nat_eq q) ns) ≡ true → q < most) [
          | true ↦ λ is there.
              let here : q ≡ k = eqb-true q k is in
              omega (arith, here, l)
          | false ↦ λ is there. below-any most q ns below there
        ] refl there

or-nothing : (b : Bool) → (b || false) ≡ b
or-nothing true = refl
or-nothing false = refl

-- traffic is counted for each bus
pub buses-counted : (m : MachineValue) → IsShaped m → (tree_counts m).buses ≡ length m.traffic
buses-counted m shaped =
    let ns = buses_of (skeleton (root_of m)) [] in
    eqb-true _ _ (and_parts (nat_eq (length ns) (length m.traffic)) (are_below (length m.traffic) ns) (shaped.each traffic_counted)).0

pub bus-there : (m : MachineValue) (k : ℕ) → IsShaped m → k < length m.traffic → has_node (bus_of_number k) (root_of m) ≡ true
bus-there m k shaped l =
    sym (numbered-in k (root_of m) [] ∙ or-nothing (has_node (bus_of_number k) (root_of m)))
    ∙ among-all (length m.traffic) k (buses_of (skeleton (root_of m)) []) (shaped.each buses_differ) (shaped-below m shaped) (buses-counted m shaped) l

pub numbered-bus : (m : MachineValue) (k : ℕ) → IsShaped m → k < (tree_counts m).buses → has_node (bus_of_number k) (root_of m) ≡ true
numbered-bus m k shaped l = bus-there m k shaped (omega (arith, l, buses-counted m shaped))

module _ {A : Type 0} (f : DirValue → List Node → A) (other : A) where
  -- what is asked of it is there
  pub asked-there : (m : MachineValue) (k : ℕ) → IsShaped m → k < length m.traffic → is_some (ask_bus k (λ w d ns. f d ns) other m) ≡ true
  asked-there m k shaped l = read_in-is_some (bus_of_number k) (of_dir (λ w d ns. f d ns) other) at_top (root_of m) ∙ bus-there m k shaped l

-- ---- its number

module _ {A : Type 0} (f : DirValue → List Node → A) (other : A) (number : A → ℕ) (is_bus : (d : DirValue) (ns : List Node) → number (f d ns) ≡ d.bus) (k : ℕ) where
  abbrev read : Where → Node → A
  read = of_dir (λ w d ns. f d ns) other

  mutual
    number-in : (w : Where) (n : Node) (a : A) → read_in (bus_of_number k) read w n ≡ Some a → number a ≡ k
    number-in w (leaf_node v) a is = cc
    number-in w (dir_node d ns) a is =
        elim (nat_eq d.bus k) as (λ b. nat_eq d.bus k ≡ b → number a ≡ k) [
          | true ↦ λ own.
              let found : Some (f d (children ns)) ≡ Some a = rw own at is in
              let same : f d (children ns) ≡ a = cc in
              ap number (sym same) ∙ is_bus d (children ns) ∙ eqb-true d.bus k own
          | false ↦ λ own. number-among (where_path w) d 0 ns a (rw own at is)
        ] refl

    number-among : (path : List ℕ) (d : DirValue) (i : ℕ) (ns : Nodes) (a : A) → read_among (bus_of_number k) read path d i ns ≡ Some a → number a ≡ k
    number-among path d i no_nodes a is = cc
    number-among path d i (more_nodes n ns) a is =
        elim (has_node (bus_of_number k) n) as (λ b. has_node (bus_of_number k) n ≡ b → number a ≡ k) [
          | true ↦ λ here. number-in (at_child (spot_in path d i)) n a (rw here at is)
          | false ↦ λ here. number-among path d (i + 1) ns a (rw here at is)
        ] refl

  pub asked-number : (m : MachineValue) (a : A) → ask_bus k (λ w d ns. f d ns) other m ≡ Some a → number a ≡ k
  asked-number m a is = number-in at_top (root_of m) a is
