-- Which leaves and buses there are, by their numbers.
-- Letters: m is a machine, k a number, c a child.
use Rattle.std.proofs.Common.{◌≡◌, ℕ, zero, suc, ◌<◌, ◌≤◌, Bool, true, false, List, [], ◌∷◌, ◌||◌, map, length, nat_eq, Option, Some, None, refl, sym, ap, ◌∙◌, true≢false, arith}
use Rattle.std.specs.Prelude.{is_some, nat_lt, slice_get}
use Rattle.std.specs.List.{list_any}
use Rattle.std.proofs.lemmas.List.{length-map}
use Rattle.std.proofs.lemmas.Bool.{eqb-true, eq-eqb, lt-ltb, ltb-true}
use Rattle.ddm_types.specs.Keys.{key_zero}
use Rattle.tree_model.specs.FlatModel.Hart.{HartValue}
use Rattle.outcomes.specs.RecordingModel.Doing.{is_halted}
use Rattle.tree_model.specs.State.Blank.{no_hart}
use Rattle.tree_model.specs.State.Place.{at_top, key_at_leaf}
use Rattle.tree_model.specs.State.Shape.{IsShaped, are_below, tree_counts}
use Rattle.tree_model.specs.State.Values.{LeafValue, children, MachineValue, root_of}
use Rattle.tree_model.specs.Turns.Machine.{child_count, hart_of, is_child_of, machine_leaves, now_of}
use Rattle.tree_model.specs.Turns.Tree.{bus_of_number, leaf_of_number, has_node, of_dir, of_leaf}
use Rattle.tree_model.proofs.NamedNode.{read_in-is_some}
use Rattle.tree_model.proofs.Tests.{and-first, and-second}
use Rattle.state_judging.proofs.BusNumbers.{numbered-bus}
use Rattle.any_runs.proofs.DdmTree.LeafList.{leaf-listed, leaf-there, leaves-counted}
use Rattle.explorer.specs.SearchModel.Tried.{BusParts, buses_of}
use Rattle.explorer.proofs.SearchModel.Named.{place_here, find, found-bus}
use Rattle.machine_states.proofs.BusOrder.{all-below, in-any, number_of}
use Rattle.machine_states.proofs.Places.{some-there}

-- tests that pass together are the same
pub same-test : (a b : Bool) → (a ≡ true → b ≡ true) → (b ≡ true → a ≡ true) → a ≡ b
same-test true true first second = refl
same-test true false first second = sym (first refl)
same-test false true first second = second refl
same-test false false first second = refl

pub not-less : (k n : ℕ) → n ≤ k → nat_lt k n ≡ false
not-less k n most = elim (nat_lt k n) as (λ b. nat_lt k n ≡ b → b ≡ false) [ true ↦ λ e. absurd (omega (arith, ltb-true k n e, most)) | false ↦ λ e. refl ] refl

any-below : (most : ℕ) (ns : List ℕ) (k : ℕ) → are_below most ns ≡ true → list_any (nat_eq k) ns ≡ true → k < most
any-below most [] k below there = absurd (true≢false (sym there))
any-below most (n ∷ ns) k below there = elim (nat_eq k n) as (λ b. nat_eq k n ≡ b → (b || list_any (nat_eq k) ns) ≡ true → k < most) [
  | true ↦ λ is e. omega (arith, eqb-true k n is, ltb-true n most (and-first (nat_lt n most) (are_below most ns) below))
  | false ↦ λ is e. any-below most ns k (and-second (nat_lt n most) (are_below most ns) below) e
] refl there

module _ (m : MachineValue) (shaped : IsShaped m) where
  bus-inside : (k : ℕ) → has_node (bus_of_number k) (root_of m) ≡ true → k < (tree_counts m).buses
  bus-inside k there =
      let found = some-there (find (bus_of_number k) at_top (root_of m)) (read_in-is_some (bus_of_number k) place_here at_top (root_of m) ∙ there) in
      let here = found-bus k at_top (root_of m) [] found.0 found.1 in
      let own : BusParts = record { number = here.parent.bus; kids = children here.kids } in
      any-below (tree_counts m).buses (map number_of (buses_of (root_of m) [])) k (all-below m shaped) (in-any (nat_eq k) (buses_of (root_of m) []) own here.listed (eq-eqb k here.parent.bus (sym here.named)))

  pub bus-named : (k : ℕ) → is_some (child_count k m) ≡ nat_lt k (tree_counts m).buses
  bus-named k =
      let known = read_in-is_some (bus_of_number k) (of_dir (λ w d ns. length ns) 0) at_top (root_of m) in
      known ∙ same-test (has_node (bus_of_number k) (root_of m)) (nat_lt k (tree_counts m).buses) (λ there. lt-ltb k (tree_counts m).buses (bus-inside k there)) (λ less. numbered-bus m k shaped (ltb-true k (tree_counts m).buses less))

none-is : (c : ℕ) (o : Option ℕ) → is_some o ≡ false → is_child_of c o ≡ false
none-is c None none = refl
none-is c (Some n) none = absurd (true≢false none)

pub child-named : (m : MachineValue) → IsShaped m → (k c : ℕ) → nat_lt k (tree_counts m).buses ≡ false → is_child_of c (child_count k m) ≡ false
child-named m shaped k c none = none-is c (child_count k m) (bus-named m shaped k ∙ none)

-- ---- leaves

some-inside : {X : Type 0} (xs : List X) (k : ℕ) → is_some (slice_get xs k) ≡ true → k < length xs
some-inside [] k there = absurd (true≢false (sym there))
some-inside (x ∷ xs) zero there = omega arith
some-inside (x ∷ xs) (suc k) there = let rest = some-inside xs k there in omega (arith, rest)

module _ (m : MachineValue) (shaped : IsShaped m) where
  abbrev own_number : LeafValue → ℕ
  own_number v = v.number

  leaf-inside : (k : ℕ) → has_node (leaf_of_number k) (root_of m) ≡ true → k < (tree_counts m).leaves
  leaf-inside k there =
      let asked = read_in-is_some (leaf_of_number k) (of_leaf (λ w v. v.number) 0) at_top (root_of m) ∙ there in
      let inside = some-inside (map own_number (machine_leaves m)) k (ap is_some (leaf-listed own_number 0 k m shaped) ∙ asked) in
      omega (arith, inside, length-map (machine_leaves m) own_number, leaves-counted m)

  pub leaf-named : (k : ℕ) → is_some (now_of k m) ≡ nat_lt k (tree_counts m).leaves
  leaf-named k =
      read_in-is_some (leaf_of_number k) (of_leaf (λ w v. key_at_leaf w v.done) key_zero) at_top (root_of m)
      ∙ same-test (has_node (leaf_of_number k) (root_of m)) (nat_lt k (tree_counts m).leaves) (λ there. lt-ltb k (tree_counts m).leaves (leaf-inside k there)) (λ less. leaf-there k m shaped (ltb-true k (tree_counts m).leaves less))

none-halted : (o : Option HartValue) → is_some o ≡ false → is_halted o ≡ false
none-halted None none = refl
none-halted (Some h) none = absurd (true≢false none)

pub no-hart : (m : MachineValue) → IsShaped m → (k : ℕ) → nat_lt k (tree_counts m).leaves ≡ false → is_halted (hart_of k m) ≡ false
no-hart m shaped k none =
    none-halted (hart_of k m)
    (read_in-is_some (leaf_of_number k) (of_leaf (λ w v. v.hart) no_hart) at_top (root_of m)
    ∙ sym (read_in-is_some (leaf_of_number k) (of_leaf (λ w v. key_at_leaf w v.done) key_zero) at_top (root_of m)) ∙ leaf-named m shaped k ∙ none)
