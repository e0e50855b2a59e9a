-- Judged bus by bus, no item breaks a rule: just where every bus of the machine keeps its rules.
-- Letters: m is a machine, n how many items there are, p and d directories over children ns, x an item.
use Rattle.std.specs.Prelude.{find, if◌then◌else◌, ◌≡◌, ◌<◌, ◌≤◌, ℕ, zero, suc, ◌+◌, Bool, true, false, not, ◌||◌, nat_eq, List, length, Option, Some, None, refl}
use Rattle.std.specs.List.{range_with_len, list_all}
use Rattle.std.proofs.Common.{arith, inl, inr, subst}
use Rattle.std.proofs.lemmas.Bool.{eqb-true, eq-eqb, and_parts}
use Rattle.std.proofs.lemmas.Bool.Decides.{eqb_tells}
use Rattle.std.specs.Cmp.Derive.{both_true}
use Rattle.state_judging.specs.TreeModel.State.Values.{DirValue, Node, Nodes, leaf_node, dir_node, no_nodes, more_nodes, children, MachineValue, root_of}
use Rattle.state_judging.specs.TreeModel.State.Directory.{is_top}
use Rattle.state_judging.specs.TreeModel.State.Shape.{IsShaped, levels_known}
use Rattle.state_judging.specs.TreeModel.State.Leaf.{words_of_item}
use Rattle.state_judging.specs.TreeModel.Turns.Machine.{ask_bus}
use Rattle.state_judging.proofs.TreeModel.Tests.{first_some-none_first, first_some-none_second}
use Rattle.state_judging.specs.TreeRules.Bus.Own.{dir_holds, leaf_holds, IsTopOk}
use Rattle.state_judging.specs.TreeRules.Bus.Rules.{IsBusOk, IsTreeOk, AreTreesOk, IsMachineOk, items_of_machine, held_at_top}
use Rattle.state_judging.specs.TreeRules.Bus.Faces.{child_face, parent_face, faces_of}
use Rattle.state_judging.specs.TreeRules.Bus.Item.{ItemRules, granted_fits, granted_held}
use Rattle.state_judging.proofs.TreeRules.BusTests.{IsDirOk-from_test, IsLeafOk-from_test, ItemRules-from_test, test-from_ItemRules}
use Rattle.state_reading.specs.declared.StateRefusal.TheVariants.{BrokenRule}
use Rattle.state_judging.specs.Judged.{item_kept_at, keeps_rules_at, keeps_places, broken_item, broken_at, broken_among, or_none}
use Rattle.state_judging.specs.Read.{parts_hold, parts_hold_among}
use Rattle.state_judging.proofs.GrantedFits.{holds-kept, kept-holds, leaf-fits, dir-fits}
use Rattle.state_judging.proofs.EachBus.{AtDirs, AtDirsAmong, asked-everywhere, asked-anywhere}
use Rattle.state_judging.proofs.Searches.{each-unbroken, unbroken-each, mapped_none, none_mapped, or-other, or-by}

-- ---- buses by their numbers

module _ (m : MachineValue) where
  unbroken-from : (n a k : ℕ) → broken_among m (range_with_len a n) ≡ None → a ≤ k → k < a + n → broken_at m k ≡ None
  unbroken-from zero a k e low high = absurd (omega arith)
  unbroken-from (suc n) a k e low high =
      elim (eqb_tells a k) [
        | inl same ↦ subst (λ j. broken_at m j ≡ None) same.1 (first_some-none_first (broken_at m a) (broken_among m (range_with_len (a + 1) n)) e)
        | inr other ↦ unbroken-from n (a + 1) k (first_some-none_second (broken_at m a) (broken_among m (range_with_len (a + 1) n)) e) (above other.1) (omega arith)
      ]
    where
      above : (a ≡ k → ⊥) → a + 1 ≤ k
      above e = omega arith

  from-unbroken : (n a : ℕ) → ((k : ℕ) → broken_at m k ≡ None) → broken_among m (range_with_len a n) ≡ None
  from-unbroken zero a each = refl
  from-unbroken (suc n) a each = rw (each a, from-unbroken n (a + 1) each) refl

  abbrev IsUnbroken : DirValue → List Node → Type 0
  IsUnbroken p ns = broken_item m p ns ≡ None

  asked-none : (o : Option (Option ℕ)) → or_none m o ≡ None → (a : Option ℕ) → o ≡ Some a → a ≡ None
  asked-none None e a is = cc
  asked-none (Some b) e a is = let same : b ≡ a = cc in rw same at e

  none-asked : (o : Option (Option ℕ)) → ((a : Option ℕ) → o ≡ Some a → a ≡ None) → or_none m o ≡ None
  none-asked None e = refl
  none-asked (Some b) e = e b refl

  -- at every directory, and by every number
  pub buses-unbroken : IsShaped m → broken_among m (range_with_len 0 (length m.traffic)) ≡ None → AtDirs IsUnbroken (root_of m)
  buses-unbroken shaped e =
      asked-everywhere (λ p ns. broken_item m p ns) None (λ a. a ≡ None) m shaped (λ k a below is.
      let here : broken_at m k ≡ None = unbroken-from (length m.traffic) 0 k e (omega arith) (omega arith) in
      asked-none (ask_bus k (λ w p ns. broken_item m p ns) None m) (mapped_none (λ x. BrokenRule k x) _ here) a is)

  pub unbroken-buses : AtDirs IsUnbroken (root_of m) → broken_among m (range_with_len 0 (length m.traffic)) ≡ None
  unbroken-buses all =
      from-unbroken (length m.traffic) 0 (λ k.
      none_mapped (λ x. BrokenRule k x) _ (none-asked (ask_bus k (λ w p ns. broken_item m p ns) None m) (asked-anywhere (λ p ns. broken_item m p ns) None (λ a. a ≡ None) m all k)))

-- ---- one bus

module _ (m : MachineValue) (p : DirValue) (ns : List Node) where
  abbrev n : ℕ
  n = items_of_machine m

  record Unbroken : Type 0 where
    places : keeps_places m p ≡ true
    rules : find (λ x. not (keeps_rules_at m p ns x)) (range_with_len 0 n) ≡ None

  parted : (b : Bool) (o : Option ℕ) → (if b then o else Some 0) ≡ None → (b ≡ true) × (o ≡ None)
  parted true o e = (refl, e)
  parted false o e = cc

  unbroken : broken_item m p ns ≡ None → Unbroken
  unbroken e =
      let both = parted (keeps_places m p) _ e in
      record { places = both.0; rules = both.1 }

  kept-at : broken_item m p ns ≡ None → (x : ℕ) → x < n → keeps_rules_at m p ns x ≡ true
  kept-at e x below = each-unbroken (keeps_rules_at m p ns) n (unbroken e).rules x below

  pub item-kept : broken_item m p ns ≡ None → (x : ℕ) → x < n → item_kept_at p ns x ≡ true
  item-kept e x below = (and_parts (item_kept_at p ns x) (not (is_top p) || held_at_top m x) (kept-at e x below)).0

  pub top-kept : is_top p ≡ true → broken_item m p ns ≡ None → (x : ℕ) → x < n → held_at_top m x ≡ true
  top-kept top e x below = or-other (is_top p) (held_at_top m x) (and_parts (item_kept_at p ns x) (not (is_top p) || held_at_top m x) (kept-at e x below)).1 top

  -- where what was granted to the children fits
  pub bus-kept : dir_holds n (length ns) p ≡ true → broken_item m p ns ≡ None → ((x : ℕ) → x < n → list_all granted_fits (faces_of x ns) ≡ true) → IsBusOk n p ns
  bus-kept own e fits = record {
    own = IsDirOk-from_test n (length ns) p own;
    rules = λ x below. ItemRules-from_test (parent_face x p) (faces_of x ns) (kept-holds (parent_face x p) (faces_of x ns) (fits x below) (item-kept e x below));
    reserved = eqb-true _ _ (unbroken e).places;
  }

  -- the rules of the top are asked on its own bus alone
  pub kept-bus : IsBusOk n p ns → (is_top p ≡ true → (x : ℕ) → x < n → held_at_top m x ≡ true) → broken_item m p ns ≡ None
  kept-bus ok held =
      let places : keeps_places m p ≡ true = eq-eqb _ _ ok.reserved in
      rw places
      (unbroken-each (keeps_rules_at m p ns) n (λ x below. both_true (still-holds x (ok.rules x below)) (or-by (is_top p) (held_at_top m x) (λ top. held top x below))))
    where
      still-holds : (x : ℕ) → ItemRules (parent_face x p) (faces_of x ns) → item_kept_at p ns x ≡ true
      still-holds x rules = holds-kept (parent_face x p) (faces_of x ns) (rules.each granted_held) (test-from_ItemRules (parent_face x p) (faces_of x ns) rules)

-- ---- every bus

module _ (m : MachineValue) where
  -- what was granted fits what is held, wherever each bus below keeps its rules
  child-fits : (x : ℕ) → x < items_of_machine m → (n : Node) → AtDirs (IsUnbroken m) n → granted_fits (child_face x n) ≡ true
  child-fits x below (leaf_node v) all = leaf-fits x v
  child-fits x below (dir_node d ns) all = dir-fits (parent_face x d) (faces_of x (children ns)) (length (words_of_item x d.replies)) (item-kept m d (children ns) all.0 x below)

  children-fit : (x : ℕ) → x < items_of_machine m → (ns : Nodes) → AtDirsAmong (IsUnbroken m) ns → list_all granted_fits (faces_of x (children ns)) ≡ true
  children-fit x below no_nodes all = refl
  children-fit x below (more_nodes n ns) all = both_true (child-fits x below n all.0) (children-fit x below ns all.1)

  mutual
    pub tree-kept : (n : Node) → parts_hold (items_of_machine m) n ≡ true → AtDirs (IsUnbroken m) n → IsTreeOk (items_of_machine m) n
    tree-kept (leaf_node v) parts all = IsLeafOk-from_test (items_of_machine m) v (and_parts (leaf_holds (items_of_machine m) v) _ parts).0
    tree-kept (dir_node d ns) parts all =
        let both = and_parts _ (parts_hold_among (items_of_machine m) ns) parts in
        let own = and_parts (dir_holds (items_of_machine m) (length (children ns)) d) _ both.0 in
        (bus-kept m d (children ns) own.0 all.0 (λ x below. children-fit x below ns all.1), trees-kept ns both.1 all.1)

    pub trees-kept : (ns : Nodes) → parts_hold_among (items_of_machine m) ns ≡ true → AtDirsAmong (IsUnbroken m) ns → AreTreesOk (items_of_machine m) ns
    trees-kept no_nodes parts all = tt
    trees-kept (more_nodes n ns) parts all =
        let both = and_parts (parts_hold (items_of_machine m) n) (parts_hold_among (items_of_machine m) ns) parts in
        (tree-kept n both.0 all.0, trees-kept ns both.1 all.1)

module _ (m : MachineValue) (held : (x : ℕ) → x < items_of_machine m → held_at_top m x ≡ true) where
  mutual
    pub kept-tree : (n : Node) → IsTreeOk (items_of_machine m) n → AtDirs (IsUnbroken m) n
    kept-tree (leaf_node v) ok = tt
    kept-tree (dir_node d ns) ok = (kept-bus m d (children ns) ok.0 (λ top. held), kept-trees ns ok.1)

    pub kept-trees : (ns : Nodes) → AreTreesOk (items_of_machine m) ns → AtDirsAmong (IsUnbroken m) ns
    kept-trees no_nodes ok = tt
    kept-trees (more_nodes n ns) ok = (kept-tree n ok.0, kept-trees ns ok.1)

pub top-is_top : (m : MachineValue) → IsShaped m → is_top m.top ≡ true
top-is_top m shaped = (and_parts (nat_eq m.top.level 0) _ (shaped.each levels_known)).0

-- ---- both ways

pub buses-keep : (m : MachineValue) → IsShaped m → parts_hold (items_of_machine m) (root_of m) ≡ true → IsTopOk m.top → broken_among m (range_with_len 0 (length m.traffic)) ≡ None → IsMachineOk m
buses-keep m shaped parts top e =
    let all = buses-unbroken m shaped e in
    record {
      tree = tree-kept m (root_of m) parts all;
      top = top;
      held = top-kept m m.top (children m.kids) (top-is_top m shaped) all.0;
    }

pub keep-buses : (m : MachineValue) → IsMachineOk m → broken_among m (range_with_len 0 (length m.traffic)) ≡ None
keep-buses m ok = unbroken-buses m (kept-tree m ok.held (root_of m) ok.tree)
