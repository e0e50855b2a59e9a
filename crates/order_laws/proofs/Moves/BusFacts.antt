-- What is known of a bus before a turn: its rules, those of all below it, and the order of stamps.
-- Letters: n is the number of items, p the parent, ns its children, w where the parent stands, x the item of the row.
use Rattle.std.proofs.Common.{◌≡◌, ℕ, zero, suc, ◌+◌, ◌<◌, ◌≤◌, Bool, true, false, List, [], ◌∷◌, length, Some, refl, sym, ap, subst, inl, arith}
use Rattle.std.specs.Prelude.{not, ◌&&◌, nat_eq}
use Rattle.std.specs.List.{AllByRecursion}
use Rattle.std.specs.Cmp.Derive.{both_true}
use Rattle.std.proofs.lemmas.Bool.{and_parts, not-true, ne_eqb}
use Rattle.order_laws.specs.DdmTypes.declared.answers.TxKind.TheVariants.{ReadTx, EraseTx}
use Rattle.order_laws.specs.TreeModel.State.Kinds.{has_kind}
use Rattle.order_laws.specs.TreeModel.State.Lists.{has_some, rest_of, first_of}
use Rattle.order_laws.specs.TreeModel.State.States.{is_held, is_shared}
use Rattle.order_laws.specs.TreeModel.State.Values.{CopyValue, Note, no_note, local, up_read, up_erase, DirValue, Node, nodes, dir_node}
use Rattle.order_laws.specs.TreeModel.State.Leaf.{words_of_item}
use Rattle.order_laws.specs.TreeModel.State.Directory.{dir_note, is_local, is_answering, queue_kinds}
use Rattle.order_laws.specs.TreeModel.State.Child.{child_reply}
use Rattle.order_laws.specs.TreeModel.State.Place.{Where, at_top, at_child, where_path, spot_in}
use Rattle.order_laws.specs.TreeModel.Turns.Children.{child_at}
use Rattle.order_laws.specs.TreeRules.Bus.Faces.{ParentFace, parent_face, child_face, faces_of}
use Rattle.order_laws.specs.TreeRules.Bus.Item.{implies, holds_it, has_reply, Bits, bits_of}
use Rattle.order_laws.specs.TreeRules.Bus.Rules.{IsBusOk, IsChildOk, IsTreeOk, AreTreesOk}
use Rattle.order_laws.proofs.TreeRules.Implying.{implies-use}
use Rattle.order_laws.specs.TreeRules.Order.Copies.{copy_here, copies_here}
use Rattle.order_laws.specs.TreeRules.Order.Directories.{IsOrdered}
use Rattle.order_laws.specs.TreeRules.Order.Places.{dirs_in, placed_dirs}
use Rattle.bus_laws.specs.KeepsBus.{IsTopBusOk}
use Rattle.bus_laws.proofs.States.{each_state, state-at}
use Rattle.bus_laws.proofs.Before.{kid-ok, giver-at, gives-at, shared-is}
use Rattle.bus_laws.proofs.Calls.{child-reply-taken}
use Rattle.bus_laws.proofs.DirParts.{starts_with}
use Rattle.bus_laws.proofs.OneChild.{replies-there}
use Rattle.order_lists.proofs.Filters.{each-left, each-right}
use Rattle.order_laws.specs.Moves.Moved.{In}
use Rattle.order_laws.proofs.Moves.Ordered.{OrderedAt}

pub record BusFacts (n : ℕ) (w : Where) (p : DirValue) (ns : List Node) : Type 0 where
  pub bus : IsBusOk n p ns
  pub kids : AllByRecursion (IsChildOk n) ns
  pub trees : AreTreesOk n (nodes ns)
  pub ordered : OrderedAt w (dir_node p (nodes ns))
  pub top : w ≡ at_top → IsTopBusOk n p ns

-- ---- one child

pub kid-tree : (n : ℕ) (ns : List Node) (i : ℕ) → AreTreesOk n (nodes ns) → i < length ns → IsTreeOk n (child_at i ns)
kid-tree n [] i ok l = absurd (omega (arith, l))
kid-tree n (m ∷ ns) zero ok l = ok.0
kid-tree n (m ∷ ns) (suc i) ok l = kid-tree n ns i ok.1 (omega (arith, l))

placed-kid : (path : List ℕ) (d : DirValue) (j : ℕ) (ns : List Node) (i : ℕ) → AllByRecursion IsOrdered (placed_dirs path d j (nodes ns)) → i < length ns → AllByRecursion IsOrdered (dirs_in (spot_in path d (j + i)) (child_at i ns))
placed-kid path d j [] i h l = absurd (omega (arith, l))
placed-kid path d j (m ∷ ns) zero h l = subst (λ k. AllByRecursion IsOrdered (dirs_in (spot_in path d k) m)) (let e : j ≡ j + 0 = omega arith in e) (each-left IsOrdered (dirs_in (spot_in path d j) m) (placed_dirs path d (j + 1) (nodes ns)) h)
placed-kid path d j (m ∷ ns) (suc i) h l = subst (λ k. AllByRecursion IsOrdered (dirs_in (spot_in path d k) (child_at i ns))) (let e : j + 1 + i ≡ j + suc i = omega arith in e) (placed-kid path d (j + 1) ns i (each-right IsOrdered (dirs_in (spot_in path d j) m) (placed_dirs path d (j + 1) (nodes ns)) h) (omega (arith, l)))

pub kid-ordered : (w : Where) (p : DirValue) (ns : List Node) (i : ℕ) → OrderedAt w (dir_node p (nodes ns)) → i < length ns → AllByRecursion IsOrdered (dirs_in (spot_in (where_path w) p i) (child_at i ns))
kid-ordered w p ns i h l = subst (λ k. AllByRecursion IsOrdered (dirs_in (spot_in (where_path w) p k) (child_at i ns))) (let e : 0 + i ≡ i = omega arith in e) (placed-kid (where_path w) p 0 ns i (below w h) l) where
  below : (w : Where) → OrderedAt w (dir_node p (nodes ns)) → AllByRecursion IsOrdered (placed_dirs (where_path w) p 0 (nodes ns))
  below at_top h = h.1
  below (at_child c) h = h.1

-- ---- computed

-- nobody gives where nothing is under way
abbrev idle_none : ParentFace → Bits → Bool
idle_none p k = implies (not (is_local p.note) && not p.answering) k.no_gift

each-idle_none : (note : Note) → each_state idle_none note ≡ true
unfolding implies
each-idle_none no_note = refl
each-idle_none (local first joined) = refl
each-idle_none (up_read first joined) = refl
each-idle_none (up_erase d) = refl

-- nothing comes down where a child has answered for the parent
abbrev answered_empty : ParentFace → Bits → Bool
answered_empty p k = implies (p.answering && (not (is_local p.note) && not k.no_gift)) (not (has_some p.queue))

each-answered_empty : (note : Note) → each_state answered_empty note ≡ true
unfolding implies
each-answered_empty no_note = refl
each-answered_empty (local first joined) = refl
each-answered_empty (up_read first joined) = refl
each-answered_empty (up_erase d) = refl

-- nothing stands behind a read
abbrev read_last : ParentFace → Bits → Bool
read_last p k = implies (starts_with ReadTx p.queue) (not (has_some (rest_of p.queue)))

each-read_last : (note : Note) → each_state read_last note ≡ true
unfolding implies
each-read_last no_note = refl
each-read_last (local first joined) = refl
each-read_last (up_read first joined) = refl
each-read_last (up_erase d) = refl

-- an erase comes down: nobody gives, nobody is exclusive, and no other erase stands behind it
abbrev erase_alone : ParentFace → Bits → Bool
erase_alone p k = implies (starts_with EraseTx p.queue && not (is_local p.note)) (k.no_gift && (not k.exclusive && not (has_kind EraseTx (rest_of p.queue))))

each-erase_alone : (note : Note) → each_state erase_alone note ≡ true
unfolding implies
each-erase_alone no_note = refl
each-erase_alone (local first joined) = refl
each-erase_alone (up_read first joined) = refl
each-erase_alone (up_erase d) = refl

module _ (n x : ℕ) (p : DirValue) (ns : List Node) (bus : IsBusOk n p ns) (kids : AllByRecursion (IsChildOk n) ns) (within : x < n) where
  abbrev face : ParentFace
  face = parent_face x p

  abbrev k : Bits
  k = bits_of face (faces_of x ns)

  pub none-gives : is_local (dir_note x p) ≡ false → is_answering x p ≡ false → k.no_gift ≡ true
  none-gives other quiet = implies-use (not (is_local face.note) && not face.answering) k.no_gift (state-at idle_none each-idle_none face (faces_of x ns) (bus.rules x within)) (both_true (ap not other) (ap not quiet))

  pub answered-queue : is_answering x p ≡ true → is_local (dir_note x p) ≡ false → k.no_gift ≡ false → has_some (queue_kinds x p.down) ≡ false
  answered-queue answers other gift = not-true _ (implies-use (face.answering && (not (is_local face.note) && not k.no_gift)) (not (has_some face.queue)) (state-at answered_empty each-answered_empty face (faces_of x ns) (bus.rules x within)) (both_true answers (both_true (ap not other) (ap not gift))))

  pub read-queue : starts_with ReadTx (queue_kinds x p.down) ≡ true → has_some (rest_of (queue_kinds x p.down)) ≡ false
  read-queue starts = not-true _ (implies-use (starts_with ReadTx face.queue) (not (has_some (rest_of face.queue))) (state-at read_last each-read_last face (faces_of x ns) (bus.rules x within)) starts)

  pub erase-known : starts_with EraseTx (queue_kinds x p.down) ≡ true → is_local (dir_note x p) ≡ false → (k.no_gift ≡ true) × ((k.exclusive ≡ false) × (has_kind EraseTx (rest_of (queue_kinds x p.down)) ≡ false))
  erase-known starts other =
      let h = implies-use (starts_with EraseTx face.queue && not (is_local face.note)) _ (state-at erase_alone each-erase_alone face (faces_of x ns) (bus.rules x within)) (both_true starts (ap not other)) in
      let a = and_parts k.no_gift _ h in
      let b = and_parts (not k.exclusive) _ a.1 in
      (a.0, (not-true _ b.0, not-true _ b.1))

-- ---- a child that replies

pub reply-known : (n x c : ℕ) (words : List ℕ) (ns : List Node) → AllByRecursion (IsChildOk n) ns → (p : DirValue) → IsBusOk n p ns → child_reply (child_at c ns) ≡ Some (record { item = x; words = words }) → x < n
reply-known n x c words ns kids p bus has = (child-reply-taken n x words (child_at c ns) (all-kids n ns c kids (replies-there c ns _ has)) has).known where
  all-kids : (n : ℕ) (ns : List Node) (i : ℕ) → AllByRecursion (IsChildOk n) ns → i < length ns → IsChildOk n (child_at i ns)
  all-kids n [] i h l = absurd (omega (arith, l))
  all-kids n (m ∷ ns) zero h l = h.0
  all-kids n (m ∷ ns) (suc i) h l = all-kids n ns i h.1 (omega (arith, l))

module _ (n x c : ℕ) (words : List ℕ) (p : DirValue) (ns : List Node) (bus : IsBusOk n p ns) (kids : AllByRecursion (IsChildOk n) ns) (within : x < n) (has : child_reply (child_at c ns) ≡ Some (record { item = x; words = words })) where
  there : c < length ns
  there = replies-there c ns _ has

  some : nat_eq (child_face x (child_at c ns)).replies 0 ≡ false
  some =
      let one : 1 ≤ (child_face x (child_at c ns)).replies = (child-reply-taken n x words (child_at c ns) (kid-ok n x p ns bus kids within c there) has).some in
      ne_eqb _ 0 (λ e. omega (arith, one, e))

  -- it holds the item
  pub replier-holds : is_held (child_face x (child_at c ns)).hold ≡ true
  replier-holds =
      let giver = giver-at n x p ns bus kids within c there in
      let shared = implies-use (has_reply (child_face x (child_at c ns))) (is_shared (child_face x (child_at c ns)).hold) (and_parts (implies (child_face x (child_at c ns)).answers (holds_it (child_face x (child_at c ns)))) _ giver).1 (ap not some) in
      ap is_held (shared-is (child_face x (child_at c ns)).hold shared)

  -- so somebody gives
  pub gift-given : (bits_of (parent_face x p) (faces_of x ns)).no_gift ≡ false
  gift-given = by (bits_of (parent_face x p) (faces_of x ns)).no_gift refl where
    by : (b : Bool) → (bits_of (parent_face x p) (faces_of x ns)).no_gift ≡ b → b ≡ false
    by true is =
        let gives = gives-at n x p ns bus kids within is c there in
        let zero : nat_eq (child_face x (child_at c ns)).replies 0 ≡ true = rw gives.1 refl in
        let no = some in
        cc
    by false is = refl

-- ---- words in parking

pub parked-in : (x : ℕ) (cs : List CopyValue) (words : List ℕ) → first_of (words_of_item x cs) ≡ Some words → (place clock : List ℕ) → In (copy_here place clock words) (copies_here place clock (words_of_item x cs))
parked-in x cs words is place clock = by (words_of_item x cs) is where
  by : (ws : List (List ℕ)) → first_of ws ≡ Some words → In (copy_here place clock words) (copies_here place clock ws)
  by [] e = cc
  by (v ∷ ws) e =
      let same : v ≡ words = cc in
      inl (ap (copy_here place clock) (sym same))
