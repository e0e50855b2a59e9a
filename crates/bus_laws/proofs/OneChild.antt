-- A turn that changes one child alone, and the child that asks, replies or leaves.
use Rattle.std.proofs.Common.{◌≡◌, ◌≢◌, ℕ, zero, suc, ◌<◌, Bool, true, false, List, [], ◌∷◌, length, Option, Some, None, refl, sym, ap, subst, ◌∙◌, arith}
use Rattle.std.specs.Prelude.{nat_eq, not, if◌then◌else◌}
use Rattle.std.specs.List.{AllByRecursion, list_any}
use native.Mathlib.Decide.{ℕ_discrete}
use Rattle.std.proofs.lemmas.Bool.{eq-eqb, ne_eqb, not-true}
use Rattle.bus_laws.specs.DdmTypes.declared.sizes.Hold.{Hold}
use Rattle.bus_laws.specs.TreeModel.State.Lists.{map_from}
use Rattle.bus_laws.specs.TreeModel.State.States.{is_held, is_exclusive}
use Rattle.bus_laws.specs.TreeModel.State.Values.{RequestValue, CopyValue, DirValue, Node}
use Rattle.bus_laws.specs.TreeModel.State.Child.{child_request, child_reply, child_leaving}
use Rattle.bus_laws.specs.TreeModel.State.Leaf.{leaf_leaving}
use Rattle.bus_laws.specs.TreeModel.State.Blank.{no_node}
use Rattle.bus_laws.specs.TreeModel.Turns.Children.{child_at, only}
use Rattle.bus_laws.proofs.TreeModel.Children.{map_from-length, child_at-map_from}
use Rattle.tree_rules.specs.Bus.Faces.{ChildFace, parent_face, child_face, faces_of}
use Rattle.tree_rules.specs.Bus.Item.{holds_it, holds_exclusive, one_holds, bits_of, exclusive_alone, parked_alone}
use Rattle.tree_rules.specs.Bus.Rules.{IsBusOk, IsChildOk}
use Rattle.tree_rules.proofs.Implying.{implies-use}
use Rattle.bus_laws.proofs.BitsOf.{any-true, any-some, one-at}
use Rattle.bus_laws.proofs.Before.{kid-ok}
use Rattle.bus_laws.proofs.Told.{IsTold}

-- ---- a child that has something is there

module _ {Y : Type 0} (has : Node → Option Y) (none : has no_node ≡ None) where
  there-if : (c : ℕ) (ns : List Node) (y : Y) → has (child_at c ns) ≡ Some y → c < length ns
  there-if c [] y e = let no : None ≡ Some y = sym none ∙ e in cc
  there-if zero (m ∷ ns) y e = omega arith
  there-if (suc c) (m ∷ ns) y e =
      let l = there-if c ns y e in
      omega arith

pub asks-there : (c : ℕ) (ns : List Node) (r : RequestValue) → child_request (child_at c ns) ≡ Some r → c < length ns
asks-there c ns r e = there-if child_request refl c ns r e

pub replies-there : (c : ℕ) (ns : List Node) (r : CopyValue) → child_reply (child_at c ns) ≡ Some r → c < length ns
replies-there c ns r e = there-if child_reply refl c ns r e

pub leaves-there : (choice c x : ℕ) (ns : List Node) → child_leaving choice (child_at c ns) ≡ Some x → c < length ns
unfolding leaf_leaving
leaves-there choice c x ns e = there-if (child_leaving choice) refl c ns x e

-- ---- one child changes

module _ (n x : ℕ) (p : DirValue) (ns : List Node) (bus : IsBusOk n p ns) (kids : AllByRecursion (IsChildOk n) ns) where
  -- a child that nothing is done with
  pub untouched : (i : ℕ) → i < length ns → x < n → IsTold n x (child_at i ns) (child_at i ns) (child_face x (child_at i ns))
  untouched i l within = record { ok = kid-ok n x p ns bus kids within i l; here = refl; others = λ y ne. refl }

  module _ (within : x < n) (c : ℕ) (f : Node → Node) (a : ChildFace) (told : IsTold n x (child_at c ns) (f (child_at c ns)) a) where
    -- what each child is seen as then
    abbrev pub one_after : ℕ → ChildFace
    one_after i = if nat_eq i c then a else child_face x (child_at i ns)

    pub one-told : (i : ℕ) → i < length ns → IsTold n x (child_at i ns) (child_at i (map_from (only c f) 0 ns)) (one_after i)
    one-told i l = subst (λ m. IsTold n x (child_at i ns) m (one_after i)) (sym (child_at-map_from (only c f) i ns l)) (at (ℕ_discrete i c)) where
      at : Dec (i ≡ c) → IsTold n x (child_at i ns) (only c f i (child_at i ns)) (one_after i)
      at (yes same) =
          let is : nat_eq i c ≡ true = eq-eqb i c same in
          rw is (subst (λ j. IsTold n x (child_at j ns) (f (child_at j ns)) a) (sym same) told)
      at (no other) =
          let is : nat_eq i c ≡ false = ne_eqb i c other in
          rw is (untouched i l within)

    pub one-many : length (map_from (only c f) 0 ns) ≡ length ns
    one-many = map_from-length (only c f) 0 ns

    pub one-here : c < length ns → child_face x (child_at c (map_from (only c f) 0 ns)) ≡ a
    one-here l =
        let is : nat_eq c c ≡ true = eq-eqb c c refl in
        (one-told c l).here ∙ ap (λ b. if◌then◌else◌ b a (child_face x (child_at c ns))) is

    pub one-other : (i : ℕ) → i < length ns → i ≢ c → child_face x (child_at i (map_from (only c f) 0 ns)) ≡ child_face x (child_at i ns)
    one-other i l ne =
        let is : nat_eq i c ≡ false = ne_eqb i c ne in
        (one-told i l).here ∙ ap (λ b. if◌then◌else◌ b a (child_face x (child_at i ns))) is

-- ---- a child that holds the item

module _ (n x : ℕ) (p : DirValue) (ns : List Node) (bus : IsBusOk n p ns) (kids : AllByRecursion (IsChildOk n) ns) (within : x < n) (c : ℕ) (l : c < length ns) (held : is_held (child_face x (child_at c ns)).hold ≡ true) where
  abbrev cs : List ChildFace
  cs = faces_of x ns

  pub somebody : list_any holds_it cs ≡ true
  somebody = any-true (child_face x) no_node holds_it ns c l held

  -- nothing is parked beside it
  pub not-parked : (parent_face x p).parked ≡ false
  not-parked = at (parent_face x p).parked refl where
    at : (b : Bool) → (parent_face x p).parked ≡ b → b ≡ false
    at true is =
        let sole = implies-use (parent_face x p).parked _ ((bus.rules x within).each parked_alone) is in
        let none : not (list_any holds_it cs) ≡ true = subst (λ b. if◌then◌else◌ b (not (list_any holds_it cs)) (one_holds cs) ≡ true) is sole in
        let no = not-true _ none in
        let yes = somebody in
        cc
    at false is = refl

  -- where it holds the item alone, no other does
  pub others-absent : (bits_of (parent_face x p) cs).sole ≡ true → (i : ℕ) → i < length ns → i ≢ c → is_held (child_face x (child_at i ns)).hold ≡ false
  others-absent sole i li ne =
      let one : one_holds cs ≡ true = subst (λ b. if◌then◌else◌ b (not (list_any holds_it cs)) (one_holds cs) ≡ true) not-parked sole in
      one-at (child_face x) no_node ns c i one l held li ne

  exclusive-held : (h : Hold) → is_exclusive h ≡ true → is_held h ≡ true
  exclusive-held Hold.Invalid e = cc
  exclusive-held Hold.Shared e = cc
  exclusive-held Hold.Exclusive e = refl

  -- where it is Shared, nobody is exclusive
  pub shared-all : is_exclusive (child_face x (child_at c ns)).hold ≡ false → (bits_of (parent_face x p) cs).exclusive ≡ false
  shared-all shared = at (list_any holds_exclusive cs) refl where
    at : (b : Bool) → list_any holds_exclusive cs ≡ b → b ≡ false
    at true is =
        let sole = implies-use (list_any holds_exclusive cs) _ ((bus.rules x within).each exclusive_alone) is in
        let found = any-some (child_face x) no_node holds_exclusive ns is in
        by found.0 found.1 found.2 sole (ℕ_discrete found.0 c) where
          by : (j : ℕ) → j < length ns → is_exclusive (child_face x (child_at j ns)).hold ≡ true → (bits_of (parent_face x p) cs).sole ≡ true → Dec (j ≡ c) → true ≡ false
          by j lj e sole (yes same) = let there : is_exclusive (child_face x (child_at c ns)).hold ≡ true = subst (λ j. is_exclusive (child_face x (child_at j ns)).hold ≡ true) same e in cc
          by j lj e sole (no other) = let absent = others-absent sole j lj other in let present = exclusive-held (child_face x (child_at j ns)).hold e in cc
    at false is = refl
