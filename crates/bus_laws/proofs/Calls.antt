-- What a bus tells a child, and what it takes from it: the child keeps its rules, and is seen so then. Leaf or directory.
use Rattle.std.proofs.Common.{◌≡◌, ℕ, ◌+◌, ◌-◌, ◌<◌, ◌≤◌, Bool, true, false, List, [], ◌∷◌, length, Option, Some, None, refl, ap, subst, arith, ◌⊎◌, inl, inr}
use Rattle.std.specs.Prelude.{not, ◌&&◌, option_map}
use Rattle.std.specs.List.{list_all}
use Rattle.std.proofs.lemmas.Bool.{and_parts}
use Rattle.bus_laws.specs.DdmTypes.declared.answers.TxKind.TheVariants.{ReadTx, DataTx, EraseTx, ExclusiveTx, InjectTx}
use Rattle.bus_laws.specs.DdmTypes.declared.sizes.Hold.{Hold}
use Rattle.bus_laws.specs.DdmTypes.declared.keys.Stamp.{Stamp}
use Rattle.bus_laws.specs.TreeModel.State.Lists.{first_of}
use Rattle.bus_laws.specs.TreeModel.State.States.{is_held, is_exclusive}
use Rattle.bus_laws.specs.TreeModel.State.Values.{RequestValue, CopyValue, LeafValue, DirValue, Node, Nodes, leaf_node, dir_node, children}
use Rattle.bus_laws.specs.TreeModel.State.Leaf.{copy_item, leaf_replies_full}
use Rattle.bus_laws.specs.TreeModel.State.Directory.{dir_hold, is_parked, down_full, inject_has_place, dir_room, dir_leaving, pending}
use Rattle.bus_laws.specs.TreeModel.State.Child.{child_full_for, child_room, reader_has_place, child_request, child_reply, child_leaving, pending_below, child_lose, child_take_data, child_take_exclusive, child_answer, child_take_inject, child_request_taken, child_reply_taken, child_give_up}
use Rattle.bus_laws.proofs.TreeModel.Tests.{some_if-none, not-true}
use Rattle.tree_rules.specs.Bus.Faces.{ChildFace, child_face}
use Rattle.tree_rules.specs.Bus.Own.{request_fits, copy_fits, leaf_replies}
use Rattle.tree_rules.specs.Bus.Rules.{IsBusOk, IsChildOk}
use Rattle.bus_laws.proofs.Lists.{pass-got, chosen-get}
use Rattle.bus_laws.proofs.ItemLists.{words-first, words-got}
use Rattle.bus_laws.proofs.DirParts.{dir-parts, lt-fact, child_seen}
use Rattle.bus_laws.proofs.DirCalls.{face_lost, dir_lose-told, dir_take_data-told, dir_take_exclusive-told, dir_answer-told, dir_take_inject-told}
use Rattle.bus_laws.proofs.DirGives.{dir_read-taken, dir_erase-taken, dir_reply-taken, dir_parked-held, dir_give_up-told}
use Rattle.bus_laws.proofs.LeafCalls.{leaf_lose-told, leaf_take_data-told, leaf_take_exclusive-told, leaf_answer-told}
use Rattle.bus_laws.proofs.LeafGives.{leaf_take_inject-told, leaf_read-taken, leaf_erase-taken, asks-known, leaf_reply-taken, leaf_give_up-told}
use Rattle.bus_laws.proofs.Told.{IsTold}

-- ---- what it is told

module _ (n x : ℕ) (within : x < n) where
  pub child-lose : (s : Stamp) (m : Node) → IsChildOk n m → is_exclusive (child_face x m).hold ≡ false → (child_face x m).answers ≡ false → child_full_for EraseTx x m ≡ None → IsTold n x m (child_lose x s m) (face_lost (child_face x m))
  child-lose s (leaf_node v) ok shared quiet room = leaf_lose-told n x v ok
  child-lose s (dir_node d ns) ok shared quiet room = dir_lose-told n x s d ns within ok shared quiet (some_if-none (is_held (dir_hold x d) && down_full d) _ room)

  pub child-take_data : (words : List ℕ) (s : Stamp) (m : Node) → IsChildOk n m → (child_face x m).reads ≡ true → child_full_for DataTx x m ≡ None → IsTold n x m (child_take_data x words s m) (child_seen Hold.Shared false false (child_face x m).replies (child_face x m).answers)
  child-take_data words s (leaf_node v) ok reads room = leaf_take_data-told n x v ok words reads
  child-take_data words s (dir_node d ns) ok reads room = dir_take_data-told n x s d ns within ok words reads (some_if-none (down_full d) _ room)

  pub child-take_exclusive : (s : Stamp) (m : Node) → IsChildOk n m → (child_face x m).erases ≡ true → (child_face x m).answers ≡ false → child_full_for ExclusiveTx x m ≡ None → IsTold n x m (child_take_exclusive x s m) (child_seen Hold.Exclusive false false (child_face x m).replies (child_face x m).answers)
  child-take_exclusive s (leaf_node v) ok erases quiet room = leaf_take_exclusive-told n x v ok erases
  child-take_exclusive s (dir_node d ns) ok erases quiet room = dir_take_exclusive-told n x s d ns within ok erases quiet (some_if-none (down_full d) _ room)

  -- a leaf has one reply more, and holds it Shared; a directory is answering
  abbrev pub face_answers : Node → ChildFace → ChildFace
  face_answers (leaf_node v) f = record f { hold = Hold.Shared; replies = f.replies + 1 }
  face_answers (dir_node d ns) f = record f { answers = true }

  pub child-answer : (s : Stamp) (m : Node) → IsChildOk n m → is_held (child_face x m).hold ≡ true → (child_face x m).answers ≡ false → child_full_for ReadTx x m ≡ None → IsTold n x m (child_answer x s m) (face_answers m (child_face x m))
  child-answer s (leaf_node v) ok held quiet room = leaf_answer-told n x v ok within held (some_if-none (leaf_replies_full v) _ room)
  child-answer s (dir_node d ns) ok held quiet room = dir_answer-told n x s d ns within ok held quiet (some_if-none (down_full d) _ room)

  -- a reader with a place for the copy, or a child with room for it
  pub data Takes (m : Node) : Type 0 where
    as_reader : (child_face x m).reads ≡ true → reader_has_place x m ≡ true → child_full_for InjectTx x m ≡ None → Takes m
    with_room : child_room x m ≡ true → Takes m

  dir-place : (d : DirValue) (ns : Nodes) → Takes (dir_node d ns) → (down_full d ≡ false) × (inject_has_place x d ≡ true)
  unfolding dir_room
  dir-place d ns (as_reader reads place room) = (some_if-none (down_full d) _ room, place)
  dir-place d ns (with_room room) =
      let parts = and_parts (not (down_full d)) (inject_has_place x d) room in
      (not-true (down_full d) parts.0, parts.1)

  leaf-takes : (v : LeafValue) → Takes (leaf_node v) → ((child_face x (leaf_node v)).reads ≡ true) ⊎ (child_room x (leaf_node v) ≡ true)
  leaf-takes v (as_reader reads place room) = inl reads
  leaf-takes v (with_room room) = inr room

  pub child-take_inject : (words : List ℕ) (s : Stamp) (m : Node) → IsChildOk n m → is_held (child_face x m).hold ≡ false → (child_face x m).answers ≡ false → Takes m → IsTold n x m (child_take_inject x words s m) (child_seen Hold.Exclusive false false (child_face x m).replies (child_face x m).answers)
  child-take_inject words s (leaf_node v) ok absent quiet takes = leaf_take_inject-told n x v ok words within (leaf-takes v takes)
  child-take_inject words s (dir_node d ns) ok absent quiet takes =
      let p = dir-place d ns takes in
      dir_take_inject-told n x s d ns within ok words absent quiet p.0 p.1

-- ---- what is taken from it

module _ (n x : ℕ) where
  -- its request was granted; the item is one of the n
  pub record IsGranted (m : Node) (hold : Hold) (reads erases : Bool) : Type 0 where
    pub known : x < n
    pub told : IsTold n x m (child_request_taken m) (child_seen hold reads erases (child_face x m).replies (child_face x m).answers)
    pub was : child_face x m ≡ child_seen hold false false (child_face x m).replies (child_face x m).answers

  first-passes : {X : Type 0} (t : X → Bool) (xs : List X) (e : X) → list_all t xs ≡ true → first_of xs ≡ Some e → t e ≡ true
  first-passes t [] e h first = cc
  first-passes t (y ∷ xs) e h first =
      let same : y ≡ e = cc in
      subst (λ z. t z ≡ true) same (and_parts (t y) (list_all t xs) h).0

  request-known : (d : DirValue) (ns : Nodes) (r : RequestValue) → IsBusOk n d (children ns) → first_of d.requests ≡ Some r → r.item < n
  request-known d ns r bus first = lt-fact r.item n (first-passes (request_fits n) d.requests r (dir-parts n (length (children ns)) d bus.own).requests first)

  pub child-read-taken : (m : Node) → IsChildOk n m → child_request m ≡ Some (record { kind = ReadTx; item = x }) → IsGranted m Hold.Invalid true false
  child-read-taken (leaf_node v) ok asks = let g = leaf_read-taken n x v ok asks in record { known = asks-known n x v ok ReadTx asks; told = g.told; was = g.was }
  child-read-taken (dir_node d ns) ok asks =
      let known = request-known d ns _ ok asks in
      let g = dir_read-taken n x d ns known ok asks in
      record { known = known; told = g.told; was = g.was }

  pub child-erase-taken : (m : Node) → IsChildOk n m → child_request m ≡ Some (record { kind = EraseTx; item = x }) → IsGranted m Hold.Shared false true
  child-erase-taken (leaf_node v) ok asks = let g = leaf_erase-taken n x v ok asks in record { known = asks-known n x v ok EraseTx asks; told = g.told; was = g.was }
  child-erase-taken (dir_node d ns) ok asks =
      let known = request-known d ns _ ok asks in
      let g = dir_erase-taken n x d ns known ok asks in
      record { known = known; told = g.told; was = g.was }

  -- its reply was taken
  pub record IsReplied (m : Node) : Type 0 where
    pub known : x < n
    pub told : IsTold n x m (child_reply_taken m) (record (child_face x m) { replies = (child_face x m).replies - 1 })
    pub some : 1 ≤ (child_face x m).replies

  pub child-reply-taken : (words : List ℕ) (m : Node) → IsChildOk n m → child_reply m ≡ Some (record { item = x; words = words }) → IsReplied m
  child-reply-taken words (leaf_node v) ok has = record {
    known = lt-fact x n (first-passes (copy_fits n) v.replies _ (ok.each leaf_replies) has);
    told = leaf_reply-taken n x v ok words has;
    some = omega (arith, ap length (words-first v.replies _ has));
  }
  child-reply-taken words (dir_node d ns) ok has =
      let known : x < n = lt-fact x n (first-passes (copy_fits n) d.replies _ (dir-parts n (length (children ns)) d ok.own).replies has) in
      record { known = known; told = dir_reply-taken n x d ns known ok words has; some = omega (arith, ap length (words-first d.replies _ has)) }

  -- its copy left
  pub record HasLeft (m : Node) : Type 0 where
    pub known : x < n
    pub told : IsTold n x m (child_give_up x m) (child_seen Hold.Invalid false false (child_face x m).replies false)
    pub held : is_held (child_face x m).hold ≡ true

  parked-chosen : (d : DirValue) (choice : ℕ) → dir_leaving choice d.parked ≡ Some x → list_all (copy_fits n) d.parked ≡ true → (x < n) × (is_parked x d ≡ true)
  unfolding dir_leaving
  parked-chosen d choice leaves fits =
      let found = chosen-get copy_item choice x d.parked leaves in
      let c : CopyValue = found.0 in
      (subst (λ i. i < n) found.2 (lt-fact c.item n (pass-got (copy_fits n) d.parked found.1.0 c fits found.1.1)), subst (λ i. is_parked i d ≡ true) found.2 (words-got d.parked found.1.0 c found.1.1))

  no_why : {X Y : Type 0} (f : X → Y) (o : Option X) → option_map f o ≡ None → o ≡ None
  no_why f None h = refl
  no_why f (Some y) h = cc

  pub child-give_up : (choice : ℕ) (m : Node) → IsChildOk n m → child_leaving choice m ≡ Some x → pending_below x m ≡ None → HasLeft m
  child-give_up choice (leaf_node v) ok leaves free = let l = leaf_give_up-told n x v ok choice leaves in record { known = l.known; told = l.told; held = l.held }
  child-give_up choice (dir_node d ns) ok leaves free =
      let p = parked-chosen d choice leaves (dir-parts n (length (children ns)) d ok.own).parked in
      let quiet : pending x d ≡ None = no_why (λ why. (d.bus, why)) (pending x d) free in
      record { known = p.0; told = dir_give_up-told n x d ns p.0 ok p.1 quiet; held = dir_parked-held n x d ns p.0 ok p.1 quiet }
