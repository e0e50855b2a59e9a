-- Whether a leaf waits, from the states of its entries of all items.
-- Letters: m is a machine, v a leaf, x an item, n the number of items, s a state.
use Rattle.std.proofs.Common.{◌≡◌, ℕ, zero, suc, ◌<◌, Bool, true, false, ◌+◌, ◌≤◌, List, [], ◌∷◌, length, map, Option, Some, None, refl, sym, ap, subst, ◌∙◌, arith}
use Rattle.std.specs.Prelude.{◌||◌, IfSome, is_some, nat_lt, slice_get}
use Rattle.std.specs.List.{AllByRecursion, list_any}
use native.Mathlib.Decide.{ℕ_discrete}
use Rattle.std.proofs.lemmas.Bool.{ltb-true, or_right, true≢false}
use Rattle.std.proofs.lemmas.Bool.Decides.{nat_tests}
use Rattle.no_jam.specs.DdmTypes.declared.sizes.LeafState.{LeafState}
use Rattle.no_jam.specs.DdmTypes.declared.turns.Turn.{Turn}
use Rattle.no_jam.specs.TreeModel.State.Values.{LeafValue, Node, Nodes, leaf_node, dir_node, no_nodes, more_nodes, MachineValue, root_of}
use Rattle.no_jam.specs.TreeModel.State.Leaf.{state_at, waiting_item}
use Rattle.no_jam.specs.TreeModel.State.Shape.{IsShaped, tree_counts}
use Rattle.no_jam.specs.TreeModel.Turns.Machine.{leaves_of, leaves_among, machine_leaves}
use Rattle.no_jam.specs.TreeRules.Bus.Own.{IsLeafOk, state_waits}
use Rattle.no_jam.specs.TreeRules.Bus.Rules.{AreTreesOk, IsMachineOk, IsTreeOk, items_of_machine}
use Rattle.no_jam.proofs.BusLaws.HartFacts.{entries-from_rules, state-known, waiting-none, waiting-some}
use Rattle.no_jam.specs.DdmTree.Rules.{KeepsRules}
use Rattle.no_jam.proofs.DdmTree.LeafList.{leaf-listed, leaves-counted}
use Rattle.no_jam.specs.DdmTree.Reads.{state_of}
use Rattle.no_jam.proofs.InspectorCrate.OneMore.{item-there, mapped-at}
use Rattle.jam_laws.specs.GoesOn.{IsFirstGranted, first_granted, leaf_is_waiting, some_leaf_waits, unjamming_turn}
use Rattle.jam_laws.proofs.NoJam.{named-first}
use Rattle.no_jam.specs.Waits.{waits_of}

pub rules-of : (m : MachineValue) → KeepsRules m → IsMachineOk m
unfolding KeepsRules
rules-of m keeps = keeps.0

-- ---- one leaf

module _ (n : ℕ) (v : LeafValue) (ok : IsLeafOk n v) where
  -- it waits where an entry of it does
  waits-by : (x : ℕ) → state_waits (state_at x v) ≡ true → leaf_is_waiting v ≡ true
  waits-by x waits = at (waiting_item v.ways v.buffer) refl where
    at : (o : Option ℕ) → waiting_item v.ways v.buffer ≡ o → is_some o ≡ true
    at None none = absurd (true≢false (sym waits ∙ waiting-none v.ways v.buffer none x))
    at (Some y) is = refl

  -- and doesn't where no entry does of any item
  rests-by : ((x : ℕ) → x < n → state_waits (state_at x v) ≡ false) → leaf_is_waiting v ≡ false
  rests-by rest = at (waiting_item v.ways v.buffer) refl where
    known : (y : ℕ) (o : Option LeafState) → state_at y v ≡ o → state_waits o ≡ true → y < n
    known y None is waits = absurd (true≢false (sym waits))
    known y (Some s) is waits = state-known n v.sizes v.ways v.buffer (entries-from_rules n v ok) y s is

    at : (o : Option ℕ) → waiting_item v.ways v.buffer ≡ o → is_some o ≡ false
    at None none = refl
    at (Some y) is =
        let waits : state_waits (state_at y v) ≡ true = waiting-some n v.sizes v.ways v.buffer (entries-from_rules n v ok) y is in
        absurd (true≢false (sym waits ∙ rest y (known y (state_at y v) refl waits)))

-- ---- the leaves of a machine

module _ (n : ℕ) where
  mutual
    leaves-ok : (m : Node) (rest : List LeafValue) → IsTreeOk n m → AllByRecursion (IsLeafOk n) rest → AllByRecursion (IsLeafOk n) (leaves_of m rest)
    leaves-ok (leaf_node v) rest ok others = (ok, others)
    leaves-ok (dir_node d ns) rest ok others = leaves_among-ok ns rest ok.1 others

    leaves_among-ok : (ns : Nodes) (rest : List LeafValue) → AreTreesOk n ns → AllByRecursion (IsLeafOk n) rest → AllByRecursion (IsLeafOk n) (leaves_among ns rest)
    leaves_among-ok no_nodes rest ok others = others
    leaves_among-ok (more_nodes m ns) rest ok others = leaves-ok m (leaves_among ns rest) ok.0 (leaves_among-ok ns rest ok.1 others)

each-at : {X : Type 0} (P : X → Type 0) (xs : List X) (k : ℕ) (x : X) → AllByRecursion P xs → slice_get xs k ≡ Some x → P x
each-at P [] k x each is = cc
each-at P (y ∷ ys) zero x each is =
    let same : y ≡ x = cc in
    subst P same each.0
each-at P (y ∷ ys) (suc k) x each is = each-at P ys k x each.1 is

some-same : {X : Type 0} (a b : X) → Some a ≡ Some b → a ≡ b
some-same a b e = cc

-- no entry of a leaf waits of an item below this one
abbrev pub RestsBelow : ℕ → ℕ → MachineValue → Type 0
RestsBelow x leaf m = (y : ℕ) → y < x → (s : Option LeafState) → Some s ≡ state_of leaf y m → state_waits s ≡ false

pub rests-none : (leaf : ℕ) (m : MachineValue) → RestsBelow 0 leaf m
rests-none leaf m = λ y l s read. absurd (omega (arith, l))

below-next : (y x : ℕ) → y < x + 1 → (y ≡ x → ⊥) → y < x
below-next y x l other = by (nat_lt y x) refl where
  by : (b : Bool) → nat_lt y x ≡ b → y < x
  by true is = ltb-true y x is
  by false is =
      let past : x ≤ y = grind (arith, nat_tests, is) in
      absurd (other (omega (arith, l, past)))

pub rests-more : (x leaf : ℕ) (m : MachineValue) (s : Option LeafState) → Some s ≡ state_of leaf x m → state_waits s ≡ false → RestsBelow x leaf m → RestsBelow (x + 1) leaf m
rests-more x leaf m s is rests before y l t read = by (ℕ_discrete y x) where
  by : Dec (y ≡ x) → state_waits t ≡ false
  by (yes same) =
      let alike : t ≡ s = some-same t s (read ∙ ap (λ z. state_of leaf z m) same ∙ sym is) in
      ap state_waits alike ∙ rests
  by (no other) = before y (below-next y x l other) t read

module _ (m : MachineValue) (leaf : ℕ) (shaped : IsShaped m) (ok : IsMachineOk m) (below : leaf < (tree_counts m).leaves) where
  there : (v : LeafValue) × (slice_get (machine_leaves m) leaf ≡ Some v)
  there =
      let size = leaves-counted m in
      item-there (machine_leaves m) leaf (omega (arith, below, size))

  v : LeafValue
  v = there.0

  v-ok : IsLeafOk (items_of_machine m) v
  unfolding v
  v-ok = each-at (IsLeafOk (items_of_machine m)) (machine_leaves m) leaf there.0 (leaves-ok (items_of_machine m) (root_of m) [] ok.tree tt) there.1

  -- what is read of the leaf is read of this one
  v-state : (x : ℕ) (s : Option LeafState) → Some s ≡ state_of leaf x m → s ≡ state_at x v
  unfolding v
  v-state x s is = some-same s (state_at x there.0) (is ∙ sym (leaf-listed (state_at x) None leaf m shaped) ∙ mapped-at (state_at x) (machine_leaves m) leaf there.0 there.1)

  v-waits : waits_of leaf m ≡ Some (leaf_is_waiting v)
  unfolding v
  v-waits = sym (leaf-listed leaf_is_waiting false leaf m shaped) ∙ mapped-at leaf_is_waiting (machine_leaves m) leaf there.0 there.1

  pub leaf-waits : (x : ℕ) (s : Option LeafState) → Some s ≡ state_of leaf x m → state_waits s ≡ true → Some true ≡ waits_of leaf m
  leaf-waits x s is waits = sym (v-waits ∙ ap Some (waits-by (items_of_machine m) v v-ok x (ap state_waits (sym (v-state x s is)) ∙ waits)))

  v-read : (x : ℕ) → Some (state_at x v) ≡ state_of leaf x m
  unfolding v
  v-read x = sym (mapped-at (state_at x) (machine_leaves m) leaf there.0 there.1) ∙ leaf-listed (state_at x) None leaf m shaped

  pub leaf-rests : RestsBelow (items_of_machine m) leaf m → Some false ≡ waits_of leaf m
  leaf-rests rests = sym (v-waits ∙ ap Some (rests-by (items_of_machine m) v v-ok (λ x within. rests x within (state_at x v) (v-read x))))

-- ---- some leaf

any-at : {X : Type 0} (t : X → Bool) (xs : List X) (k : ℕ) → slice_get (map t xs) k ≡ Some true → list_any t xs ≡ true
any-at t [] k is = cc
any-at t (x ∷ xs) zero is = let here : t x ≡ true = cc in rw here refl
any-at t (x ∷ xs) (suc k) is = or_right (t x) (list_any t xs) (any-at t xs k is)

none-of : {X : Type 0} (t : X → Bool) (xs : List X) → ((k : ℕ) → k < length xs → slice_get (map t xs) k ≡ Some false) → list_any t xs ≡ false
none-of t [] each = refl
none-of t (x ∷ xs) each =
    let here : t x ≡ false = some-same (t x) false (each 0 (omega arith)) in
    rw here (none-of t xs (λ k l. each (suc k) (omega (arith, l))))

-- no leaf below this one waits
abbrev pub NoneBelow : ℕ → MachineValue → Type 0
NoneBelow k m = (j : ℕ) → j < k → Some false ≡ waits_of j m

pub none-more : (k : ℕ) (m : MachineValue) → Some false ≡ waits_of k m → NoneBelow k m → NoneBelow (k + 1) m
none-more k m rests before j l = by (ℕ_discrete j k) where
  by : Dec (j ≡ k) → Some false ≡ waits_of j m
  by (yes same) = rests ∙ ap (λ i. waits_of i m) (sym same)
  by (no other) = before j (below-next j k l other)

module _ (m : MachineValue) (shaped : IsShaped m) where
  pub some-waits : (leaf : ℕ) → Some true ≡ waits_of leaf m → some_leaf_waits m ≡ true
  some-waits leaf is = any-at leaf_is_waiting (machine_leaves m) leaf (leaf-listed leaf_is_waiting false leaf m shaped ∙ sym is)

  pub none-waits : NoneBelow (tree_counts m).leaves m → some_leaf_waits m ≡ false
  none-waits none =
      let size = leaves-counted m in
      none-of leaf_is_waiting (machine_leaves m) (λ k l. leaf-listed leaf_is_waiting false k m shaped ∙ sym (none k (omega (arith, l, size))))

-- ---- the turn that is named

pub named-there : (m : MachineValue) (o : Option Turn) → some_leaf_waits m ≡ true → o ≡ first_granted m → o ≡ unjamming_turn m
named-there m o waits is = rw waits is

pub first-named : (m : MachineValue) (o : Option Turn) → o ≡ unjamming_turn m → IfSome o (IsFirstGranted m)
first-named m None is = tt
first-named m (Some t) is = named-first m t (sym is)
