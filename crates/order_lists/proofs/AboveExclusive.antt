-- Above a child that holds an item Exclusive, from the rules of its bus: the parent holds it Exclusive, nothing of it is parked,
-- and neither a copy, nor an erase, nor an exclusive comes down.
use Rattle.std.proofs.Common.{◌≡◌, ℕ, zero, suc, Bool, true, false, not, ◌||◌, List, [], ◌∷◌, filter, refl, sym, subst, ◌∙◌, if◌then◌else◌}
use Rattle.std.specs.List.{list_any, list_all}
use Rattle.std.specs.Bool.{beq}
use Rattle.std.proofs.lemmas.Bool.{and_parts, or_left, or_right, not-true, true≢false, false≢true}
use Rattle.order_lists.specs.DdmTypes.declared.answers.TxKind.{TxKind}
use Rattle.order_lists.specs.DdmTypes.declared.answers.TxKind.TheVariants.{EraseTx, ExclusiveTx}
use Rattle.order_lists.specs.DdmTypes.declared.sizes.Hold.{Hold}
use Rattle.order_lists.specs.TreeModel.State.Kinds.{is_kind, has_kind}
use Rattle.order_lists.specs.TreeModel.State.States.{is_held, is_exclusive, is_shared}
use Rattle.order_lists.specs.TreeModel.State.Values.{Note, no_note, local, up_read, up_erase}
use Rattle.order_lists.specs.TreeModel.State.Directory.{is_up_erase}
use Rattle.tree_rules.specs.Bus.Faces.{ChildFace, ParentFace}
use Rattle.tree_rules.specs.Bus.Item.{implies, holds_it, holds_exclusive, one_holds, granted_fits, child_passes, may_erase, eraser_is_granted, moves_copies, copies_in, starts_for, bits_of, ItemRules, exclusive_alone, exclusive_covered, queue_start, erased_shared, up_erase_noted, granted_held, exclusive_noted}
use Rattle.order_lists.proofs.NoHold.{implied}

pub shared_not_exclusive : (h : Hold) → is_shared h ≡ true → is_exclusive h ≡ false
shared_not_exclusive Hold.Invalid k = refl
shared_not_exclusive Hold.Shared k = refl
shared_not_exclusive Hold.Exclusive k = absurd (false≢true k)

pub exclusive_held : (h : Hold) → is_exclusive h ≡ true → is_held h ≡ true
exclusive_held Hold.Invalid k = absurd (false≢true k)
exclusive_held Hold.Shared k = refl
exclusive_held Hold.Exclusive k = refl

pub holder_of_exclusive : (cs : List ChildFace) → list_any holds_exclusive cs ≡ true → list_any holds_it cs ≡ true
holder_of_exclusive [] l = absurd (false≢true l)
holder_of_exclusive (c ∷ cs) l = go (holds_exclusive c) refl l (holder_of_exclusive cs) where
  go : (t : Bool) → holds_exclusive c ≡ t → (t || list_any holds_exclusive cs) ≡ true → (list_any holds_exclusive cs ≡ true → list_any holds_it cs ≡ true) → list_any holds_it (c ∷ cs) ≡ true
  go true e l rest = or_left (holds_it c) _ (exclusive_held c.hold e)
  go false e l rest = or_right (holds_it c) _ (rest l)

holder_of_child : (d : ℕ) (cs : List ChildFace) → child_passes may_erase d cs ≡ true → list_any holds_it cs ≡ true
holder_of_child d [] h = absurd (false≢true h)
holder_of_child zero (c ∷ cs) h = or_left (holds_it c) _ (and_parts c.erases (holds_it c) h).1
holder_of_child (suc d) (c ∷ cs) h = or_right (holds_it c) _ (holder_of_child d cs h)

-- the only holder isn't Exclusive with a granted erase
one_holder : (d : ℕ) (cs : List ChildFace) → list_all granted_fits cs ≡ true → child_passes may_erase d cs ≡ true → list_any holds_exclusive cs ≡ true → one_holds cs ≡ true → ⊥
one_holder d [] each h l m = false≢true h
one_holder zero (c ∷ cs) each h l m = go (holds_exclusive c) refl l where
  parts : (c.erases ≡ true) × (holds_it c ≡ true)
  parts = and_parts c.erases (holds_it c) h

  shared : is_shared c.hold ≡ true
  shared = implied c.erases (is_shared c.hold) (and_parts (implies c.reads (not (holds_it c))) (implies c.erases (is_shared c.hold)) (and_parts (granted_fits c) (list_all granted_fits cs) each).0).1 parts.0

  alone : list_any holds_it cs ≡ false
  alone = not-true _ (rw parts.1 at m)

  go : (t : Bool) → holds_exclusive c ≡ t → (t || list_any holds_exclusive cs) ≡ true → ⊥
  go true e l = true≢false (sym e ∙ shared_not_exclusive c.hold shared)
  go false e l = true≢false (sym (holder_of_exclusive cs l) ∙ alone)
one_holder (suc d) (c ∷ cs) each h l m = go (holds_it c) refl m (one_holder d cs (and_parts (granted_fits c) _ each).1 h) where
  other : list_any holds_it cs ≡ true
  other = holder_of_child d cs h

  go : (t : Bool) → holds_it c ≡ t → (if t then not (list_any holds_it cs) else one_holds cs) ≡ true → (list_any holds_exclusive cs ≡ true → one_holds cs ≡ true → ⊥) → ⊥
  go true e m rest = true≢false (sym other ∙ not-true _ m)
  go false e m rest = by_exclusive (holds_exclusive c) refl l m rest where
    by_exclusive : (t : Bool) → holds_exclusive c ≡ t → (t || list_any holds_exclusive cs) ≡ true → one_holds cs ≡ true → (list_any holds_exclusive cs ≡ true → one_holds cs ≡ true → ⊥) → ⊥
    by_exclusive true i l m rest = true≢false (sym (exclusive_held c.hold i) ∙ e)
    by_exclusive false i l m rest = rest l m

any_filter : (p q : TxKind → Bool) (ks : List TxKind) → list_any p (filter q ks) ≡ true → list_any p ks ≡ true
any_filter p q [] h = h
any_filter p q (k ∷ ks) h = go (q k) h (any_filter p q ks) where
  go : (t : Bool) → list_any p (if t then k ∷ filter q ks else filter q ks) ≡ true → (list_any p (filter q ks) ≡ true → list_any p ks ≡ true) → list_any p (k ∷ ks) ≡ true
  go true h rest = by_head (p k) h rest where
    by_head : (u : Bool) → (u || list_any p (filter q ks)) ≡ true → (list_any p (filter q ks) ≡ true → list_any p ks ≡ true) → (u || list_any p ks) ≡ true
    by_head true h rest = refl
    by_head false h rest = rest h
  go false h rest = or_right (p k) _ (rest h)

pub record IsAboveExclusive (p : ParentFace) (cs : List ChildFace) : Type 0 where
  pub hold : is_exclusive p.hold ≡ true
  pub copies : copies_in p.queue ≡ []
  pub no_exclusive : has_kind ExclusiveTx p.queue ≡ false
  pub parked : p.parked ≡ false
  -- and no other child holds it
  pub one : one_holds cs ≡ true

module _ (p : ParentFace) (cs : List ChildFace) (rules : ItemRules p cs) (some : list_any holds_exclusive cs ≡ true) where
  held : list_any holds_it cs ≡ true
  held = holder_of_exclusive cs some

  sole : (if p.parked then not (list_any holds_it cs) else one_holds cs) ≡ true
  sole = implied (list_any holds_exclusive cs) (bits_of p cs).sole (rules.each exclusive_alone) some

  none_copies : (ks : List TxKind) → copies_in p.queue ≡ ks → starts_for (p.parked || list_any holds_it cs) ks ≡ true → copies_in p.queue ≡ []
  none_copies [] e h = e
  none_copies (k ∷ ks) e h = absurd (go (is_kind EraseTx k) refl (subst (λ t. beq t (is_kind EraseTx k) ≡ true) (or_right p.parked _ held) h)) where
    erased : is_kind EraseTx k ≡ true → has_kind EraseTx p.queue ≡ true
    erased i = any_filter (is_kind EraseTx) moves_copies p.queue (subst (λ l. list_any (is_kind EraseTx) l ≡ true) (sym e) (or_left (is_kind EraseTx k) _ i))

    go : (t : Bool) → is_kind EraseTx k ≡ t → beq true t ≡ true → ⊥
    go true i h = true≢false (sym some ∙ not-true _ (implied (has_kind EraseTx p.queue) (not (list_any holds_exclusive cs)) (rules.each erased_shared) (erased i)))
    go false i h = false≢true h

  not_parked : (t : Bool) → p.parked ≡ t → (if t then not (list_any holds_it cs) else one_holds cs) ≡ true → (p.parked ≡ false) × (one_holds cs ≡ true)
  not_parked true e h = absurd (true≢false (sym held ∙ not-true _ h))
  not_parked false e h = (e, h)

  no_upgrade : (note : Note) → is_up_erase note ≡ true → eraser_is_granted note cs ≡ true → ⊥
  no_upgrade no_note i h = false≢true i
  no_upgrade (local first joined) i h = false≢true i
  no_upgrade (up_read first joined) i h = false≢true i
  no_upgrade (up_erase d) i h = one_holder d cs (rules.each granted_held) h some (not_parked p.parked refl sole).1

  none_exclusive : (t : Bool) → has_kind ExclusiveTx p.queue ≡ t → has_kind ExclusiveTx p.queue ≡ false
  none_exclusive true e =
      let noted : is_up_erase p.note ≡ true = (and_parts (is_up_erase p.note) _ (implied (has_kind ExclusiveTx p.queue) _ (rules.each exclusive_noted) e)).0 in
      absurd (no_upgrade p.note noted (and_parts (eraser_is_granted p.note cs) _ (implied (is_up_erase p.note) _ (rules.each up_erase_noted) noted)).0)
  none_exclusive false e = e

  pub above_exclusive : IsAboveExclusive p cs
  above_exclusive = record {
    hold = implied (list_any holds_exclusive cs) (is_exclusive p.hold) (rules.each exclusive_covered) some;
    copies = none_copies (copies_in p.queue) refl (rules.each queue_start);
    no_exclusive = none_exclusive (has_kind ExclusiveTx p.queue) refl;
    parked = (not_parked p.parked refl sole).0;
    one = (not_parked p.parked refl sole).1;
  }
