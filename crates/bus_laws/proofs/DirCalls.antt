-- What the bus above tells a directory keeps the rules of the directory's own bus, and what is seen of it then. Which states
-- allow it is computed.
use Rattle.std.proofs.Common.{◌≡◌, ◌≢◌, ℕ, ◌+◌, ◌<◌, Bool, true, false, List, [], ◌∷◌, ◌++◌, length, refl, sym, ap, subst, ◌∙◌, arith}
use Rattle.std.specs.Prelude.{not, ◌&&◌, ◌||◌, nat_eq, if◌then◌else◌}
use Rattle.std.specs.List.{list_all}
use Rattle.std.specs.Cmp.Derive.{both_true}
use Rattle.std.proofs.lemmas.Bool.{and_parts, eqb-true}
use Rattle.bus_laws.specs.DdmTypes.declared.answers.TxKind.{TxKind}
use Rattle.bus_laws.specs.DdmTypes.declared.answers.TxKind.TheVariants.{ReadTx, DataTx, EraseTx, ExclusiveTx, InjectTx}
use Rattle.bus_laws.specs.DdmTypes.declared.sizes.Hold.{Hold}
use Rattle.bus_laws.specs.DdmTypes.declared.keys.Stamp.{Stamp}
use Rattle.bus_laws.specs.TreeModel.State.Lists.{without_first, has_some}
use Rattle.bus_laws.specs.TreeModel.State.Kinds.{is_kind}
use Rattle.bus_laws.specs.TreeModel.State.States.{is_held, is_exclusive}
use Rattle.bus_laws.specs.TreeModel.State.Values.{RequestValue, Note, no_note, local, up_read, up_erase, DirValue, Nodes, dir_node, children}
use Rattle.bus_laws.specs.TreeModel.State.Leaf.{blank, is_request, words_of_item}
use Rattle.bus_laws.specs.TreeModel.State.Directory.{dir_item, dir_hold, is_answering, is_up_read, struck, down_full, open_read, inject_has_place, dir_lost, dir_lose, dir_take_data, dir_take_exclusive, dir_answer, dir_take_inject}
use Rattle.bus_laws.proofs.TreeModel.DirRooms.{DirWithin, dir_lose-within, dir_take_data-within, dir_take_exclusive-within, dir_answer-within, dir_take_inject-within}
use Rattle.bus_laws.specs.KeepsBus.{dir_face}
use Rattle.bus_laws.proofs.TreeModel.Tests.{not-true}
use Rattle.tree_rules.specs.Bus.Faces.{ChildFace, ParentFace, parent_face, face_reads, face_erases, face_above, faces_of}
use Rattle.tree_rules.specs.Bus.Own.{item_fits, down_fits, request_fits}
use Rattle.tree_rules.specs.Bus.Item.{implies, Bits, bits_of, item_holds, ItemRules, kept_place}
use Rattle.tree_rules.specs.Bus.Rules.{IsBusOk}
use Rattle.tree_rules.proofs.BusTests.{ItemRules-from_test}
use Rattle.tree_rules.proofs.Implying.{implies-use}
use Rattle.bus_laws.proofs.States.{each_state, state-at}
use Rattle.bus_laws.proofs.Lists.{pass-set, pass-pushed, pass-without_first}
use Rattle.bus_laws.proofs.ItemLists.{queue-pushed, queue-pushed_other, kinds-struck, kinds-struck_other}
use Rattle.bus_laws.proofs.BusChanged.{IsSameOf, parent-is}
use Rattle.bus_laws.proofs.DirParts.{DirParts, dir-parts, note-at, entry-fits, item-same, item-other, blank-zero, is_seen, seen-is, child_seen}
use Rattle.bus_laws.proofs.Told.{IsTold, dir-told}

struck-pass : (n : ℕ) (kind : TxKind) (x : ℕ) (requests : List RequestValue) → list_all (request_fits n) requests ≡ true → list_all (request_fits n) (struck kind x requests) ≡ true
unfolding struck
struck-pass n kind x requests h = pass-without_first (request_fits n) (is_request kind x) requests h

-- ---- the faces after, and what is computed of them

-- q keeps the rules over the bits k of the same children, keeps as many places more as are reserved, and is seen so
abbrev pub follows : ParentFace → ParentFace → Bits → ℕ → Hold → Bool → Bool → Bool → Bool
follows p q k places hold reads erases answers =
    item_holds q k && (nat_eq (kept_place q) (places + kept_place p) && is_seen q hold reads erases answers)

-- it has lost the item: an erase goes down, and its own erase is struck
abbrev lost : ParentFace → ParentFace
lost p = record p { hold = Hold.Invalid; queue = p.queue ++ EraseTx ∷ []; requests = without_first (is_kind EraseTx) p.requests }

-- where it held the item Shared and gave nothing
abbrev may_lose : ParentFace → Bits → Bool
may_lose p k = implies (is_held p.hold && not (is_exclusive p.hold || p.answering)) (follows p (lost p) k 0 Hold.Invalid false false false)

-- it was told data
abbrev with_data : ParentFace → ParentFace
with_data p = record p { hold = Hold.Shared; queue = p.queue ++ DataTx ∷ [] }

-- where its read was granted
abbrev may_take_data : ParentFace → Bits → Bool
may_take_data p k = implies (face_reads p) (follows p (with_data p) k 0 Hold.Shared false false false && not p.answering)

-- it was told exclusive
abbrev with_exclusive : ParentFace → ParentFace
with_exclusive p = record p { hold = Hold.Exclusive; queue = p.queue ++ ExclusiveTx ∷ [] }

-- where its erase was granted and it gave nothing
abbrev may_take_exclusive : ParentFace → Bits → Bool
may_take_exclusive p k = implies (face_erases p && not p.answering) (follows p (with_exclusive p) k 0 Hold.Exclusive false false false)

-- it was told to answer
abbrev answering : ParentFace → ParentFace
answering p = record p { answering = true; queue = p.queue ++ ReadTx ∷ [] }

-- where it held the item and gave nothing
abbrev may_answer : ParentFace → Bits → Bool
may_answer p k = implies (is_held p.hold && not p.answering) (follows p (answering p) k 0 p.hold (face_reads p) (face_erases p) true)

-- it was told inject
abbrev with_inject : ParentFace → ParentFace
with_inject p = record p { hold = Hold.Exclusive; queue = p.queue ++ InjectTx ∷ []; requests = without_first (is_kind ReadTx) p.requests }

-- an open read takes the place
abbrev places_for_inject : ParentFace → ℕ
places_for_inject p = if is_up_read p.note && not (has_some p.queue) then 0 else 1

-- where it held nothing and gave nothing
abbrev may_take_inject : ParentFace → Bits → Bool
may_take_inject p k = implies (not (is_held p.hold) && not p.answering) (follows p (with_inject p) k (places_for_inject p) Hold.Exclusive false false false)

each-may_lose : (note : Note) → each_state may_lose note ≡ true
unfolding implies
each-may_lose no_note = refl
each-may_lose (local first joined) = refl
each-may_lose (up_read first joined) = refl
each-may_lose (up_erase d) = refl

each-may_take_data : (note : Note) → each_state may_take_data note ≡ true
unfolding implies
each-may_take_data no_note = refl
each-may_take_data (local first joined) = refl
each-may_take_data (up_read first joined) = refl
each-may_take_data (up_erase d) = refl

each-may_take_exclusive : (note : Note) → each_state may_take_exclusive note ≡ true
unfolding implies
each-may_take_exclusive no_note = refl
each-may_take_exclusive (local first joined) = refl
each-may_take_exclusive (up_read first joined) = refl
each-may_take_exclusive (up_erase d) = refl

each-may_answer : (note : Note) → each_state may_answer note ≡ true
unfolding implies
each-may_answer no_note = refl
each-may_answer (local first joined) = refl
each-may_answer (up_read first joined) = refl
each-may_answer (up_erase d) = refl

each-may_take_inject : (note : Note) → each_state may_take_inject note ≡ true
unfolding implies
each-may_take_inject no_note = refl
each-may_take_inject (local first joined) = refl
each-may_take_inject (up_read first joined) = refl
each-may_take_inject (up_erase d) = refl

-- ---- what was computed, as facts

-- the same as facts
pub record Follows (p q : ParentFace) (cs : List ChildFace) (places : ℕ) (hold : Hold) (reads erases answers : Bool) : Type 0 where
  pub rules : ItemRules q cs
  pub kept : kept_place q ≡ places + kept_place p
  pub seen : is_seen q hold reads erases answers ≡ true

pub followed : (p q : ParentFace) (cs : List ChildFace) (places : ℕ) (hold : Hold) (reads erases answers : Bool) → bits_of q cs ≡ bits_of p cs → follows p q (bits_of p cs) places hold reads erases answers ≡ true → Follows p q cs places hold reads erases answers
followed p q cs places hold reads erases answers same h =
    let a = and_parts (item_holds q (bits_of p cs)) _ h in
    let b = and_parts (nat_eq (kept_place q) (places + kept_place p)) _ a.1 in
    record { rules = ItemRules-from_test q cs (subst (λ k. item_holds q k ≡ true) (sym same) a.0); kept = eqb-true _ _ b.0; seen = b.1 }

-- ---- to lose an item

-- what is seen of a child that was told to lose the item
abbrev pub face_lost : ChildFace → ChildFace
face_lost f = if is_held f.hold then record f { hold = Hold.Invalid; reads = false; erases = false } else f

module _ (n x : ℕ) (s : Stamp) (d : DirValue) (ns : Nodes) (within : x < n) (bus : IsBusOk n d (children ns)) where
  abbrev parts : DirParts n (length (children ns)) d
  parts = dir-parts n (length (children ns)) d bus.own

  abbrev there : x < length d.items
  there = subst (λ k. x < k) (sym parts.within.items) within

  abbrev cs : List ChildFace
  cs = faces_of x (children ns)

  abbrev before : ParentFace
  before = parent_face x d

  lose-held : is_held (dir_hold x d) ≡ true → dir_lose x s d ≡ dir_lost x s d
  unfolding dir_lose
  lose-held e = rw e refl

  lose-other : is_held (dir_hold x d) ≡ false → dir_lose x s d ≡ d
  unfolding dir_lose
  lose-other e = rw e refl

  lost-told : is_held (dir_hold x d) ≡ true → is_exclusive (dir_hold x d) ≡ false → is_answering x d ≡ false → down_full d ≡ false → IsTold n x (dir_node d ns) (dir_node (dir_lost x s d) ns) (child_seen Hold.Invalid false false (length (words_of_item x d.replies)) false)
  lost-told held shared quiet room =
      let f = followed before (lost before) cs 0 Hold.Invalid false false false refl (implies-use (is_held before.hold && not (is_exclusive before.hold || before.answering)) _ (state-at may_lose each-may_lose before cs (bus.rules x within)) (rw (held, shared, quiet) refl)) in
      dir-told n x d (dir_lost x s d) ns (lost before) (child_seen Hold.Invalid false false (length (words_of_item x d.replies)) false) within bus
      (record {
        within = subst (DirWithin n) (lose-held held) (dir_lose-within n x s d (rw (held, room) refl) parts.within);
        notes = pass-set (item_fits (length (children ns))) d.items x _ parts.notes (note-at n (length (children ns)) x d parts);
        down = pass-pushed (down_fits n) d.down _ parts.down (entry-fits n x EraseTx (blank d.sizes.width) s within (λ _. blank-zero d.sizes.width));
        requests = struck-pass n EraseTx x d.requests parts.requests;
        replies = parts.replies;
        parked = parts.parked;
        once = parts.once;
      })
      (parent-is x (dir_lost x s d) (record (dir_item x d) { hold = Hold.Invalid }) _ _ _ (item-same x _ d there) (queue-pushed x d.down _ refl) (kinds-struck EraseTx x d.requests) refl)
      (λ y ne. record { item = item-other x y _ d ne; queue = queue-pushed_other y d.down _ ne; requests = kinds-struck_other EraseTx x y d.requests ne; parked = refl; replies = refl })
      f.rules
      (omega (arith, f.kept))
      (seen-is (lost before) Hold.Invalid false false false _ f.seen)

  -- told to lose it, where nobody below is exclusive and it isn't answering
  pub dir_lose-told : is_exclusive (dir_hold x d) ≡ false → is_answering x d ≡ false → (is_held (dir_hold x d) && down_full d) ≡ false → IsTold n x (dir_node d ns) (dir_node (dir_lose x s d) ns) (face_lost (dir_face x d))
  dir_lose-told shared quiet room = at (is_held (dir_hold x d)) refl where
    at : (b : Bool) → is_held (dir_hold x d) ≡ b → IsTold n x (dir_node d ns) (dir_node (dir_lose x s d) ns) (face_lost (dir_face x d))
    at true held =
        let free : down_full d ≡ false = rw held at room in
        let told = lost-told held shared quiet free in
        let seen : child_seen Hold.Invalid false false (length (words_of_item x d.replies)) false ≡ face_lost (dir_face x d) = rw (held, quiet) refl in
        subst (λ f. IsTold n x (dir_node d ns) (dir_node (dir_lose x s d) ns) f) seen (subst (λ e. IsTold n x (dir_node d ns) (dir_node e ns) (child_seen Hold.Invalid false false (length (words_of_item x d.replies)) false)) (sym (lose-held held)) told)
    at false held =
        let seen : dir_face x d ≡ face_lost (dir_face x d) = rw held refl in
        let told : IsTold n x (dir_node d ns) (dir_node d ns) (dir_face x d) = record { ok = bus; here = refl; others = λ y ne. refl } in
        subst (λ f. IsTold n x (dir_node d ns) (dir_node (dir_lose x s d) ns) f) seen (subst (λ e. IsTold n x (dir_node d ns) (dir_node e ns) (dir_face x d)) (sym (lose-other held)) told)

  -- ---- the other calls

  pub dir_take_data-told : (words : List ℕ) → face_reads before ≡ true → down_full d ≡ false → IsTold n x (dir_node d ns) (dir_node (dir_take_data x words s d) ns) (child_seen Hold.Shared false false (length (words_of_item x d.replies)) (is_answering x d))
  unfolding dir_take_data
  dir_take_data-told words reads room =
      let all = implies-use (face_reads before) _ (state-at may_take_data each-may_take_data before cs (bus.rules x within)) reads in
      let both = and_parts (follows before (with_data before) (bits_of before cs) 0 Hold.Shared false false false) (not before.answering) all in
      let quiet : before.answering ≡ false = not-true before.answering both.1 in
      let f = followed before (with_data before) cs 0 Hold.Shared false false false refl both.0 in
      dir-told n x d (dir_take_data x words s d) ns (with_data before) _ within bus
      (record {
        within = dir_take_data-within n x words s d room parts.within;
        notes = pass-set (item_fits (length (children ns))) d.items x _ parts.notes (note-at n (length (children ns)) x d parts);
        down = pass-pushed (down_fits n) d.down _ parts.down (entry-fits n x DataTx words s within (λ e. cc));
        requests = parts.requests;
        replies = parts.replies;
        parked = parts.parked;
        once = parts.once;
      })
      (parent-is x (dir_take_data x words s d) (record (dir_item x d) { hold = Hold.Shared }) _ _ _ (item-same x _ d there) (queue-pushed x d.down _ refl) refl refl)
      (λ y ne. record { item = item-other x y _ d ne; queue = queue-pushed_other y d.down _ ne; requests = refl; parked = refl; replies = refl })
      f.rules
      (omega (arith, f.kept))
      (seen-is (with_data before) Hold.Shared false false false (length (words_of_item x d.replies)) f.seen ∙ ap (child_seen Hold.Shared false false (length (words_of_item x d.replies))) (sym quiet))

  pub dir_take_exclusive-told : face_erases before ≡ true → is_answering x d ≡ false → down_full d ≡ false → IsTold n x (dir_node d ns) (dir_node (dir_take_exclusive x s d) ns) (child_seen Hold.Exclusive false false (length (words_of_item x d.replies)) (is_answering x d))
  unfolding dir_take_exclusive
  dir_take_exclusive-told erases quiet room =
      let f = followed before (with_exclusive before) cs 0 Hold.Exclusive false false false refl (implies-use (face_erases before && not before.answering) _ (state-at may_take_exclusive each-may_take_exclusive before cs (bus.rules x within)) (both_true erases (ap not quiet))) in
      dir-told n x d (dir_take_exclusive x s d) ns (with_exclusive before) _ within bus
      (record {
        within = dir_take_exclusive-within n x s d room parts.within;
        notes = pass-set (item_fits (length (children ns))) d.items x _ parts.notes (note-at n (length (children ns)) x d parts);
        down = pass-pushed (down_fits n) d.down _ parts.down (entry-fits n x ExclusiveTx (blank d.sizes.width) s within (λ _. blank-zero d.sizes.width));
        requests = parts.requests;
        replies = parts.replies;
        parked = parts.parked;
        once = parts.once;
      })
      (parent-is x (dir_take_exclusive x s d) (record (dir_item x d) { hold = Hold.Exclusive }) _ _ _ (item-same x _ d there) (queue-pushed x d.down _ refl) refl refl)
      (λ y ne. record { item = item-other x y _ d ne; queue = queue-pushed_other y d.down _ ne; requests = refl; parked = refl; replies = refl })
      f.rules
      (omega (arith, f.kept))
      (seen-is (with_exclusive before) Hold.Exclusive false false false (length (words_of_item x d.replies)) f.seen ∙ ap (child_seen Hold.Exclusive false false (length (words_of_item x d.replies))) (sym quiet))

  pub dir_answer-told : is_held (dir_hold x d) ≡ true → is_answering x d ≡ false → down_full d ≡ false → IsTold n x (dir_node d ns) (dir_node (dir_answer x s d) ns) (record (dir_face x d) { answers = true })
  unfolding dir_answer
  dir_answer-told held quiet room =
      let f = followed before (answering before) cs 0 before.hold (face_reads before) (face_erases before) true refl (implies-use (is_held before.hold && not before.answering) _ (state-at may_answer each-may_answer before cs (bus.rules x within)) (both_true held (ap not quiet))) in
      dir-told n x d (dir_answer x s d) ns (answering before) _ within bus
      (record {
        within = dir_answer-within n x s d room parts.within;
        notes = pass-set (item_fits (length (children ns))) d.items x _ parts.notes (note-at n (length (children ns)) x d parts);
        down = pass-pushed (down_fits n) d.down _ parts.down (entry-fits n x ReadTx (blank d.sizes.width) s within (λ _. blank-zero d.sizes.width));
        requests = parts.requests;
        replies = parts.replies;
        parked = parts.parked;
        once = parts.once;
      })
      (parent-is x (dir_answer x s d) (record (dir_item x d) { answering = true }) _ _ _ (item-same x _ d there) (queue-pushed x d.down _ refl) refl refl)
      (λ y ne. record { item = item-other x y _ d ne; queue = queue-pushed_other y d.down _ ne; requests = refl; parked = refl; replies = refl })
      f.rules
      (omega (arith, f.kept))
      (seen-is (answering before) before.hold (face_reads before) (face_erases before) true (length (words_of_item x d.replies)) f.seen)

  reserved-for : (words : List ℕ) → (dir_take_inject x words s d).reserved ≡ d.reserved + places_for_inject before
  unfolding dir_take_inject
  reserved-for words = at (open_read x d) where
    at : (b : Bool) → if◌then◌else◌ b d.reserved (d.reserved + 1) ≡ d.reserved + (if◌then◌else◌ b 0 1)
    at true = omega arith
    at false = refl

  inject-rest : (words : List ℕ) → DirWithin n (dir_take_inject x words s d) → DirParts n (length (children ns)) (dir_take_inject x words s d)
  unfolding dir_take_inject
  inject-rest words w = record {
    within = w;
    notes = pass-set (item_fits (length (children ns))) d.items x _ parts.notes (note-at n (length (children ns)) x d parts);
    down = pass-pushed (down_fits n) d.down _ parts.down (entry-fits n x InjectTx words s within (λ e. cc));
    requests = struck-pass n ReadTx x d.requests parts.requests;
    replies = parts.replies;
    parked = parts.parked;
    once = parts.once;
  }

  inject-parts : (words : List ℕ) → down_full d ≡ false → inject_has_place x d ≡ true → DirParts n (length (children ns)) (dir_take_inject x words s d)
  inject-parts words room place = let w = dir_take_inject-within n x words s d room place parts.within in inject-rest words w

  inject-face : (words : List ℕ) → parent_face x (dir_take_inject x words s d) ≡ with_inject before
  unfolding dir_take_inject
  inject-face words = parent-is x (dir_take_inject x words s d) (record (dir_item x d) { hold = Hold.Exclusive }) _ _ _ (item-same x _ d there) (queue-pushed x d.down _ refl) (kinds-struck ReadTx x d.requests) refl

  inject-others : (words : List ℕ) (y : ℕ) → y ≢ x → IsSameOf y d (dir_take_inject x words s d)
  unfolding dir_take_inject
  inject-others words y ne = record { item = item-other x y _ d ne; queue = queue-pushed_other y d.down _ ne; requests = kinds-struck_other ReadTx x y d.requests ne; parked = refl; replies = refl }

  inject-replies : (words : List ℕ) → face_above (with_inject before) (length (words_of_item x (dir_take_inject x words s d).replies)) ≡ face_above (with_inject before) (length (words_of_item x d.replies))
  unfolding dir_take_inject
  inject-replies words = refl

  pub dir_take_inject-told : (words : List ℕ) → is_held (dir_hold x d) ≡ false → is_answering x d ≡ false → down_full d ≡ false → inject_has_place x d ≡ true → IsTold n x (dir_node d ns) (dir_node (dir_take_inject x words s d) ns) (child_seen Hold.Exclusive false false (length (words_of_item x d.replies)) (is_answering x d))
  dir_take_inject-told words absent quiet room place =
      let f = followed before (with_inject before) cs (places_for_inject before) Hold.Exclusive false false false refl (implies-use (not (is_held before.hold) && not before.answering) _ (state-at may_take_inject each-may_take_inject before cs (bus.rules x within)) (both_true (ap not absent) (ap not quiet))) in
      let reserved = reserved-for words in
      dir-told n x d (dir_take_inject x words s d) ns (with_inject before) _ within bus (inject-parts words room place)
      (inject-face words)
      (inject-others words)
      f.rules
      (omega (arith, f.kept, reserved))
      (inject-replies words ∙ (seen-is (with_inject before) Hold.Exclusive false false false (length (words_of_item x d.replies)) f.seen ∙ ap (child_seen Hold.Exclusive false false (length (words_of_item x d.replies))) (sym quiet)))
