-- A child that was told to answer: what is seen of it, and the bits then.
use Rattle.std.proofs.Common.{◌≡◌, ℕ, ◌+◌, ◌<◌, true, false, List, length, refl, sym, subst, arith}
use Rattle.std.specs.Prelude.{not, ◌&&◌, nat_eq}
use Rattle.std.specs.List.{list_any}
use Rattle.std.specs.Cmp.Derive.{both_true}
use Rattle.std.proofs.lemmas.Bool.{and_parts}
use Rattle.bus_laws.specs.DdmTypes.declared.sizes.Hold.{Hold}
use Rattle.bus_laws.specs.TreeModel.State.States.{is_held, is_exclusive, is_shared}
use Rattle.bus_laws.specs.TreeModel.State.Values.{Node, leaf_node, dir_node}
use Rattle.bus_laws.specs.TreeModel.State.Child.{child_hold}
use Rattle.bus_laws.specs.TreeModel.State.Blank.{no_node}
use Rattle.bus_laws.specs.TreeModel.Turns.Children.{child_at}
use Rattle.tree_rules.specs.Bus.Faces.{ChildFace, child_face, faces_of}
use Rattle.tree_rules.specs.Bus.Item.{implies, holds_it, holds_exclusive, gives_none, gives_one, giver_holds, granted_fits}
use Rattle.tree_rules.proofs.Implying.{implies-by}
use Rattle.bus_laws.proofs.BitsOf.{any-true, any-some}
use Rattle.bus_laws.proofs.Calls.{face_answers}

-- what a child holds is what is seen of it
pub child-hold : (x : ℕ) (m : Node) → child_hold x m ≡ (child_face x m).hold
child-hold x (leaf_node v) = refl
child-hold x (dir_node d ns) = refl

-- what a face that gave nothing becomes where it answers
pub record IsAnswer (f g : ChildFace) : Type 0 where
  pub holds : holds_it g ≡ holds_it f
  pub exclusive : is_exclusive g.hold ≡ true → is_exclusive f.hold ≡ true
  pub reads : g.reads ≡ f.reads
  pub erases : g.erases ≡ f.erases
  pub some : gives_none g ≡ false
  pub one : gives_one g ≡ true
  pub giver : giver_holds g ≡ true
  pub granted : granted_fits g ≡ true

one-reply : (r : ℕ) → r ≡ 0 → nat_eq (r + 1) 0 ≡ false
one-reply r e = rw e refl

giver-of : (r : ℕ) (h : Hold) → is_held h ≡ true → nat_eq r 0 ≡ true → (implies true (is_held h) && implies (not (nat_eq r 0)) (is_shared h)) ≡ true
unfolding implies
giver-of r h held none = both_true held (rw none refl)

shared-reply : (r : ℕ) → implies (not (nat_eq r 0)) true ≡ true
shared-reply r = implies-by (not (nat_eq r 0)) true (λ _. refl)

-- of one that gave nothing
pub is-answer : (x n : ℕ) (within : x < n) (m : Node) → is_held (child_face x m).hold ≡ true → (child_face x m).answers ≡ false → (child_face x m).replies ≡ 0 → granted_fits (child_face x m) ≡ true → IsAnswer (child_face x m) (face_answers n x within m (child_face x m))
unfolding implies
is-answer x n within (leaf_node v) held quiet none fits =
    let parts = and_parts (implies (child_face x (leaf_node v)).reads (not (holds_it (child_face x (leaf_node v))))) (implies (child_face x (leaf_node v)).erases (is_shared (child_face x (leaf_node v)).hold)) fits in
    let some : nat_eq ((child_face x (leaf_node v)).replies + 1) 0 ≡ false = one-reply (child_face x (leaf_node v)).replies none in
    record {
      holds = sym held;
      exclusive = λ e. cc;
      reads = refl;
      erases = refl;
      some = some;
      one = rw none refl;
      giver = shared-reply ((child_face x (leaf_node v)).replies + 1);
      granted = both_true (subst (λ b. implies (child_face x (leaf_node v)).reads (not b) ≡ true) held parts.0) (implies-by (child_face x (leaf_node v)).erases true (λ _. refl));
    }
is-answer x n within (dir_node d ns) held quiet none fits =
    let zero : nat_eq (child_face x (dir_node d ns)).replies 0 ≡ true = rw none refl in
    record {
      holds = refl;
      exclusive = λ e. e;
      reads = refl;
      erases = refl;
      some = refl;
      one = zero;
      giver = giver-of (child_face x (dir_node d ns)).replies (child_face x (dir_node d ns)).hold held zero;
      granted = fits;
    }

-- ---- who is exclusive then was so before

pub exclusive-before : (x : ℕ) (ns ms : List Node) → length ms ≡ length ns → ((i : ℕ) → i < length ns → is_exclusive (child_face x (child_at i ms)).hold ≡ true → is_exclusive (child_face x (child_at i ns)).hold ≡ true) → implies (list_any holds_exclusive (faces_of x ms)) (list_any holds_exclusive (faces_of x ns)) ≡ true
exclusive-before x ns ms many before =
    implies-by _ _ (λ some.
    let found = any-some (child_face x) no_node holds_exclusive ms some in
    let j : ℕ = found.0 in
    let l : j < length ms = found.1 in
    let lj : j < length ns = omega (arith, l, many) in
    any-true (child_face x) no_node holds_exclusive ns j lj (before j lj found.2))
