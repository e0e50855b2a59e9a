-- Bits of children that are left so by a turn: one alone does something with the item, or all are quiet.
use Rattle.std.proofs.Common.{◌≡◌, ◌≢◌, ℕ, ◌<◌, Bool, true, false, List, length, refl, sym, ap, subst, ◌∙◌}
use Rattle.std.specs.Prelude.{not, ◌||◌, if◌then◌else◌}
use Rattle.std.specs.List.{list_any}
use native.Mathlib.Decide.{ℕ_discrete}
use Rattle.bus_laws.specs.DdmTypes.declared.sizes.Hold.{Hold}
use Rattle.bus_laws.specs.TreeModel.State.Lists.{all_from}
use Rattle.bus_laws.specs.TreeModel.State.States.{is_held, is_exclusive}
use Rattle.bus_laws.specs.TreeModel.State.Values.{Note, no_note, Node}
use Rattle.bus_laws.specs.TreeModel.State.Directory.{is_reader}
use Rattle.bus_laws.specs.TreeModel.State.Blank.{no_node}
use Rattle.bus_laws.specs.TreeModel.Turns.Children.{child_at}
use Rattle.tree_rules.specs.Bus.Faces.{ChildFace, ParentFace, child_face, faces_of}
use Rattle.tree_rules.specs.Bus.Item.{implies, holds_it, holds_exclusive, one_holds, gives_none, reader_is_granted, eraser_is_granted, bits_of, Bits}
use Rattle.tree_rules.proofs.Implying.{implies-by}
use Rattle.bus_laws.proofs.States.{bits}
use Rattle.bus_laws.proofs.BitsOf.{any-true, any-false, all-true, each-true, one-true, one-none, gift-none}
use Rattle.bus_laws.proofs.Before.{idle_of}
use Rattle.bus_laws.proofs.RowFrame.{fits, rules-after}

-- nobody holds the item or gives it, and nothing is granted but what the note names
abbrev pub nobody_holds : Bits
nobody_holds = bits false false false false true true true

-- one child alone holds it Shared, or the parked copy alone is left
abbrev pub one_shared : Bits
one_shared = bits true true false false true true true

-- one child alone holds it, Exclusive
abbrev pub one_exclusive : Bits
one_exclusive = bits true true true false true true true

-- some hold it, none Exclusive, and nothing else is under way
abbrev pub quiet_children : Bool → Bits
quiet_children sole = bits true sole false false true true true

pub exclusive-fits : (i : ℕ) → fits no_note i (idle_of Hold.Exclusive) ≡ true
unfolding implies
exclusive-fits i = refl

pub idle-fits : (note : Note) (i : ℕ) → fits note i (idle_of Hold.Invalid) ≡ true
unfolding implies
idle-fits note i = refl

pub no-readers : (x : ℕ) (note : Note) (ms : List Node) → ((i : ℕ) → is_reader note i ≡ false) → all_from (reader_is_granted note) 0 (faces_of x ms) ≡ true
no-readers x note ms none = each-true (child_face x) no_node (reader_is_granted note) ms (λ i l. implies-by (is_reader note i) (child_face x (child_at i ms)).reads (λ is. let no = none i in cc))

-- ---- one child alone

module _ (x : ℕ) (f : ParentFace) (ms : List Node) (k : ℕ) (there : k < length ms) (c : ChildFace) (here : child_face x (child_at k ms) ≡ c) (others : (i : ℕ) → i < length ms → i ≢ k → child_face x (child_at i ms) ≡ idle_of Hold.Invalid) where
  either : (t : ChildFace → Bool) (b : Bool) → t c ≡ b → t (idle_of Hold.Invalid) ≡ b → (i : ℕ) → i < length ms → t (child_face x (child_at i ms)) ≡ b
  either t b e1 e2 i l = at (ℕ_discrete i k) where
    at : Dec (i ≡ k) → t (child_face x (child_at i ms)) ≡ b
    at (yes same) = subst (λ j. t (child_face x (child_at j ms)) ≡ b) (sym same) (ap t here ∙ e1)
    at (no other) = ap t (others i l other) ∙ e2

  any-lone : (t : ChildFace → Bool) → t (idle_of Hold.Invalid) ≡ false → list_any t (faces_of x ms) ≡ t c
  any-lone t e = at (t c) refl where
    at : (b : Bool) → t c ≡ b → list_any t (faces_of x ms) ≡ b
    at true is = any-true (child_face x) no_node t ms k there (ap t here ∙ is)
    at false is = any-false (child_face x) no_node t ms (either t false is e)

  one-lone : one_holds (faces_of x ms) ≡ holds_it c
  one-lone = at (holds_it c) refl where
    at : (b : Bool) → holds_it c ≡ b → one_holds (faces_of x ms) ≡ b
    at true is = one-true (child_face x) no_node ms k there (ap holds_it here ∙ is) (λ i l ne. ap holds_it (others i l ne))
    at false is = one-none (faces_of x ms) (any-lone holds_it refl ∙ is)

  fits-lone : fits f.note k c ≡ true → (i : ℕ) → i < length ms → fits f.note i (child_face x (child_at i ms)) ≡ true
  fits-lone fit i l = at (ℕ_discrete i k) where
    at : Dec (i ≡ k) → fits f.note i (child_face x (child_at i ms)) ≡ true
    at (yes same) = subst (λ j. fits f.note j (child_face x (child_at j ms)) ≡ true) (sym same) (ap (fits f.note k) here ∙ fit)
    at (no other) = ap (fits f.note i) (others i l other) ∙ idle-fits f.note i

  -- it gives nothing; the readers and the eraser were granted
  pub lone-bits : f.parked ≡ false → gives_none c ≡ true → fits f.note k c ≡ true → all_from (reader_is_granted f.note) 0 (faces_of x ms) ≡ true → eraser_is_granted f.note (faces_of x ms) ≡ true → bits_of f (faces_of x ms) ≡ bits (holds_it c) (holds_it c) (holds_exclusive c) false true true true
  lone-bits free gives fit readers eraser =
      let none = all-true (child_face x) no_node gives_none ms (either gives_none true gives refl) in
      rules-after x f ms (bits (holds_it c) (holds_it c) (holds_exclusive c) false true true true) (fits-lone fit)
      (ap (λ b. b || list_any holds_it (faces_of x ms)) free ∙ any-lone holds_it refl)
      (ap (λ b. if◌then◌else◌ b (not (list_any holds_it (faces_of x ms))) (one_holds (faces_of x ms))) free ∙ one-lone)
      (any-lone holds_exclusive refl) (gift-none (faces_of x ms) none) none readers eraser

-- ---- all are quiet, and there is a holder

module _ (x : ℕ) (f : ParentFace) (ms : List Node) (hold : ℕ → Hold) (all : (i : ℕ) → i < length ms → child_face x (child_at i ms) ≡ idle_of (hold i)) (shared : (i : ℕ) → i < length ms → is_exclusive (hold i) ≡ false) where
  quiet-fits : (i : ℕ) (h : Hold) → fits no_note i (idle_of h) ≡ true
  unfolding implies
  quiet-fits i h = refl

  pub quiet-bits : f.note ≡ no_note → (k : ℕ) → k < length ms → is_held (hold k) ≡ true → bits_of f (faces_of x ms) ≡ bits true (bits_of f (faces_of x ms)).sole false false true true true
  quiet-bits none k l held =
      let gives = all-true (child_face x) no_node gives_none ms (λ i l. ap gives_none (all i l)) in
      let fit : (i : ℕ) → i < length ms → fits f.note i (child_face x (child_at i ms)) ≡ true = λ (i : ℕ) (l : i < length ms). subst (λ note. fits note i (child_face x (child_at i ms)) ≡ true) (sym none) (ap (fits no_note i) (all i l) ∙ quiet-fits i (hold i)) in
      rules-after x f ms (bits true (bits_of f (faces_of x ms)).sole false false true true true) fit
      (or-right f.parked (any-true (child_face x) no_node holds_it ms k l (ap holds_it (all k l) ∙ held))) refl
      (any-false (child_face x) no_node holds_exclusive ms (λ i l. ap holds_exclusive (all i l) ∙ shared i l)) (gift-none (faces_of x ms) gives) gives
      (no-readers x f.note ms (λ i. ap (λ note. is_reader note i) none))
      (subst (λ note. eraser_is_granted note (faces_of x ms) ≡ true) (sym none) refl) where
        or-right : (b : Bool) → list_any holds_it (faces_of x ms) ≡ true → (b || list_any holds_it (faces_of x ms)) ≡ true
        or-right true e = refl
        or-right false e = e
