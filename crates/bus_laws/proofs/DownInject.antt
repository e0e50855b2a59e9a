-- An inject comes down: the only reader takes it, else a child with room, else it is parked in the place that was kept.
-- Letters: d is the child that takes it, x the item, k the bits before, ms the children after, s the stamp of the bus.
use Rattle.std.proofs.Common.{◌≡◌, ◌≢◌, ℕ, zero, suc, ◌+◌, ◌-◌, ◌<◌, ◌≤◌, Bool, true, false, List, ◌∷◌, length, Some, None, refl, sym, ap, subst, ◌∙◌, arith}
use Rattle.std.specs.Prelude.{not, ◌&&◌, nat_eq, nat_lt}
use Rattle.std.specs.List.{AllByRecursion, list_any, range_with_len}
use native.Mathlib.Decide.{ℕ_discrete}
use Rattle.std.specs.Cmp.Derive.{both_true}
use Rattle.std.proofs.lemmas.Bool.{and_parts, or_parts, eqb-true, eqb-false, ne_eqb, not-true}
use Rattle.bus_laws.specs.DdmTypes.declared.answers.TxKind.TheVariants.{InjectTx}
use Rattle.bus_laws.specs.DdmTypes.declared.answers.TurnAnswer.{TurnAnswer}
use Rattle.bus_laws.specs.DdmTypes.declared.sizes.Hold.{Hold}
use Rattle.bus_laws.specs.DdmTypes.declared.keys.Stamp.{Stamp}
use Rattle.bus_laws.specs.TreeModel.State.Lists.{map_from, all_from, find_from, rest_of}
use Rattle.bus_laws.specs.TreeModel.State.Values.{DownValue, Note, no_note, local, up_read, up_erase, DirValue, Node}
use Rattle.bus_laws.specs.TreeModel.State.Directory.{dir_note, is_reader, is_eraser, is_local, is_up_read, is_up_erase, in_set, stamp_of, with_note, with_parked, place_released, front_taken}
use Rattle.bus_laws.specs.TreeModel.State.Child.{child_take_inject, child_full_for, reader_has_place}
use Rattle.bus_laws.specs.TreeModel.State.Blank.{no_node}
use Rattle.bus_laws.specs.TreeModel.Turns.Children.{child_at, only, waits_with_room, has_room}
use Rattle.bus_laws.specs.TreeModel.Turns.Down.{inject_taker}
use Rattle.bus_laws.proofs.TreeModel.Children.{found-within}
use Rattle.bus_laws.proofs.TreeModel.Sets.{in_set-empty}
use Rattle.bus_laws.proofs.TreeModel.Tests.{first_some-either}
use Rattle.bus_laws.proofs.TreeModel.BusRooms.{inject_taker-room}
use Rattle.tree_rules.specs.Bus.Faces.{ChildFace, ParentFace, parent_face, child_face, faces_of}
use Rattle.tree_rules.specs.Bus.Own.{note_fits}
use Rattle.tree_rules.specs.Bus.Item.{implies, holds_it, reader_is_granted, eraser_is_granted, Bits, bits_of, item_holds, kept_place}
use Rattle.tree_rules.specs.Bus.Rules.{IsBusOk, IsChildOk, kept_places}
use Rattle.tree_rules.proofs.Implying.{implies-use}
use Rattle.bus_laws.specs.KeepsBus.{KeepsBus}
use Rattle.bus_laws.proofs.States.{each_state, state-at}
use Rattle.bus_laws.proofs.ItemLists.{nat_eq-same}
use Rattle.bus_laws.proofs.DirParts.{dir-parts, note-at, lt-fact, child_seen, starts_with, is_no_note}
use Rattle.bus_laws.proofs.Calls.{Takes, as_reader, with_room, child-take_inject}
use Rattle.bus_laws.proofs.Parents.{IsModified, as-it-was, takes_front, noted, parks, releases}
use Rattle.bus_laws.proofs.Before.{idle_of, not-held, kid-ok, idle-at, idle-bits, gives-at, none-held, reader-at, entry-known, entry-starts}
use Rattle.bus_laws.proofs.OneChild.{untouched, one_after, one-told, one-many, one-here, one-other}
use Rattle.bus_laws.proofs.RowFrame.{fits, same-seen, row-keeps}
use Rattle.bus_laws.proofs.RowChecks.{done_never, never_top, stays_seen, rules-by, never-top, keeps-never}
use Rattle.bus_laws.proofs.Shapes.{one_exclusive, one_shared, exclusive-fits, no-readers, lone-bits}
use Rattle.bus_laws.proofs.Told.{IsTold}

-- ---- what is computed

-- the parent after the only reader took it
abbrev read_by_one : ParentFace → ParentFace
read_by_one p = record p { queue = rest_of p.queue; note = no_note }

-- what is known before it and kept after it
abbrev may_give_reader : ParentFace → Bits → Bool
may_give_reader p k = implies (starts_with InjectTx p.queue && is_up_read p.note) (k.no_gift && (k.readers && (not k.held && (not p.parked && done_never p (read_by_one p) k one_exclusive))))

each-give_reader : (note : Note) → each_state may_give_reader note ≡ true
unfolding implies
each-give_reader no_note = refl
each-give_reader (local first joined) = refl
each-give_reader (up_read first joined) = refl
each-give_reader (up_erase d) = refl

-- the parent without the entry
abbrev taken : ParentFace → ParentFace
taken p = record p { queue = rest_of p.queue }

-- the place that was kept is kept no more
abbrev done_place : ParentFace → ParentFace → Bits → Bits → Bool
done_place p q k j = nat_eq (kept_place p) (kept_place q + 1) && (never_top p k && stays_seen p q j)

-- the parent with the copy parked
abbrev in_parking : ParentFace → ParentFace
in_parking p = record p { queue = rest_of p.queue; parked = true }

-- what is known before it and kept after it
abbrev may_place : ParentFace → Bits → Bool
may_place p k =
    implies (starts_with InjectTx p.queue && (not (is_local p.note) && not (is_up_read p.note)))
    (is_no_note p.note && (k.no_gift && (not k.held && (not p.parked && (done_place p (taken p) k one_exclusive && done_place p (in_parking p) k one_shared)))))

each-place : (note : Note) → each_state may_place note ≡ true
unfolding implies
each-place no_note = refl
each-place (local first joined) = refl
each-place (up_read first joined) = refl
each-place (up_erase d) = refl

no-note : (note : Note) → is_no_note note ≡ true → note ≡ no_note
no-note no_note e = refl
no-note (local first joined) e = cc
no-note (up_read first joined) e = cc
no-note (up_erase d) e = cc

-- a place that is kept for an item is one of those kept
kept-one : (x : ℕ) (p : DirValue) (a n : ℕ) → a ≤ x → x < a + n → kept_place (parent_face x p) ≤ kept_places p (range_with_len a n)
kept-one x p a zero low high = absurd (omega arith)
kept-one x p a (suc n) low high = at (ℕ_discrete a x) (λ other. kept-one x p (a + 1) n (omega arith) (omega arith)) where
  at : Dec (a ≡ x) → (a ≢ x → kept_place (parent_face x p) ≤ kept_places p (range_with_len (a + 1) n)) → kept_place (parent_face x p) ≤ kept_places p (range_with_len a (suc n))
  at (yes same) rest =
      let here : kept_place (parent_face a p) ≡ kept_place (parent_face x p) = ap (λ z. kept_place (parent_face z p)) same in
      omega (arith, here)
  at (no other) rest =
      let behind = rest other in
      omega (arith, behind)

module _ (n : ℕ) (above : Stamp) (p : DirValue) (ns : List Node) (bus : IsBusOk n p ns) (kids : AllByRecursion (IsChildOk n) ns) (answer : TurnAnswer) (e : DownValue) (rest : List DownValue) (front : p.down ≡ e ∷ rest) (kind : e.kind ≡ InjectTx) where
  abbrev x : ℕ
  x = e.item

  within : x < n
  within = entry-known n x p ns bus e rest front

  abbrev before : ParentFace
  before = parent_face x p

  abbrev k : Bits
  k = bits_of before (faces_of x ns)

  abbrev s : Stamp
  s = stamp_of (front_taken e.stamp rest p)

  front-taken : IsModified n (length ns) x p (front_taken e.stamp rest p) (taken before)
  front-taken = takes_front n (length ns) x within p p before (as-it-was n (length ns) x within p (dir-parts n (length ns) p bus.own)) e rest front refl

  -- one child takes it, which held nothing and gave nothing
  module _ (d : ℕ) (there : d < length ns) (none : k.no_gift ≡ true) (absent : list_any holds_it (faces_of x ns) ≡ false) (takes : Takes n x within (child_at d ns)) (idle : (i : ℕ) → i < length ns → i ≢ d → child_face x (child_at i ns) ≡ idle_of (child_face x (child_at i ns)).hold) where
    abbrev ms : List Node
    ms = map_from (only d (child_take_inject x e.words s)) 0 ns

    told : IsTold n x (child_at d ns) (child_take_inject x e.words s (child_at d ns)) (idle_of Hold.Exclusive)
    told =
        let gives = gives-at n x p ns bus kids within none d there in
        let same : child_seen Hold.Exclusive false false (child_face x (child_at d ns)).replies (child_face x (child_at d ns)).answers ≡ idle_of Hold.Exclusive = rw (gives.0, gives.1) refl in
        subst (λ f. IsTold n x (child_at d ns) (child_take_inject x e.words s (child_at d ns)) f) same (child-take_inject n x within e.words s (child_at d ns) (kid-ok n x p ns bus kids within d there) (none-held n x p ns bus kids within absent d there) gives.0 takes)

    many : length ms ≡ length ns
    many = one-many n x p ns bus kids within d (child_take_inject x e.words s) (idle_of Hold.Exclusive) told

    others-after : (i : ℕ) → i < length ms → i ≢ d → child_face x (child_at i ms) ≡ idle_of Hold.Invalid
    others-after i l ne =
        let li : i < length ns = omega (arith, l, many) in
        one-other n x p ns bus kids within d (child_take_inject x e.words s) (idle_of Hold.Exclusive) told i li ne ∙
        (idle i li ne ∙ ap idle_of (not-held (child_face x (child_at i ns)).hold (none-held n x p ns bus kids within absent i li)))

    taken-bits : (f : ParentFace) → f.note ≡ no_note → f.parked ≡ false → bits_of f (faces_of x ms) ≡ one_exclusive
    taken-bits f note free =
        lone-bits x f ms d (omega (arith, there, many)) (idle_of Hold.Exclusive) (one-here n x p ns bus kids within d (child_take_inject x e.words s) (idle_of Hold.Exclusive) told there) others-after free refl
        (subst (λ note. fits note d (idle_of Hold.Exclusive) ≡ true) (sym note) (exclusive-fits d))
        (subst (λ note. all_from (reader_is_granted note) 0 (faces_of x ms) ≡ true) (sym note) (no-readers x no_note ms (λ i. refl)))
        (subst (λ note. eraser_is_granted note (faces_of x ms) ≡ true) (sym note) refl)

    abbrev after : ℕ → ChildFace
    after = one_after n x p ns bus kids within d (child_take_inject x e.words s) (idle_of Hold.Exclusive) told

    told-each : (i : ℕ) → i < length ns → IsTold n x (child_at i ns) (child_at i ms) (after i)
    told-each = one-told n x p ns bus kids within d (child_take_inject x e.words s) (idle_of Hold.Exclusive) told

  -- ---- the only reader

  module _ (d joined : ℕ) (note : dir_note x p ≡ up_read d joined) (alone : nat_eq joined 0 ≡ true) (place : reader_has_place x (child_at d ns) ≡ true) (room : child_full_for InjectTx x (child_at d ns) ≡ None) where
    checked : (k.no_gift && (k.readers && (not k.held && (not before.parked && done_never before (read_by_one before) k one_exclusive)))) ≡ true
    checked = implies-use (starts_with InjectTx before.queue && is_up_read before.note) _ (state-at may_give_reader each-give_reader before (faces_of x ns) (bus.rules x within)) (both_true (entry-starts n x p ns bus e rest front InjectTx kind refl) (ap is_up_read note))

    reader-there : d < length ns
    reader-there =
        let fits : note_fits (length ns) (up_read d joined) ≡ true = subst (λ note. note_fits (length ns) note ≡ true) note (note-at n (length ns) x p (dir-parts n (length ns) p bus.own)) in
        lt-fact d (length ns) (and_parts (nat_lt d (length ns)) _ fits).0

    not-reader : (i : ℕ) → i ≢ d → is_reader before.note i ≡ false
    not-reader i ne =
        let zero_set : joined ≡ 0 = eqb-true joined 0 alone in
        let set : in_set i joined ≡ false = ap (in_set i) zero_set ∙ in_set-empty i in
        let first : nat_eq i d ≡ false = ne_eqb i d ne in
        ap (λ note. is_reader note i) note ∙ rw (first, set) refl

    reader-reads : k.readers ≡ true → (child_face x (child_at d ns)).reads ≡ true
    reader-reads readers = reader-at n x p ns bus kids within readers d reader-there (ap (λ note. is_reader note d) note ∙ rw (nat_eq-same d) refl)

    pub inject_to_reader-keeps : KeepsBus n above p ns (record { answer = answer; parent = with_note x no_note (front_taken e.stamp rest p); kids = map_from (only d (child_take_inject x e.words s)) 0 ns })
    inject_to_reader-keeps =
        let a = and_parts k.no_gift _ checked in
        let b = and_parts k.readers _ a.1 in
        let c = and_parts (not k.held) _ b.1 in
        let f = and_parts (not before.parked) _ c.1 in
        let absent : list_any holds_it (faces_of x ns) ≡ false = (or_parts before.parked (list_any holds_it (faces_of x ns)) (not-true _ c.0)).1 in
        let takes : Takes n x within (child_at d ns) = as_reader (reader-reads b.0) place room in
        let idle : (i : ℕ) → i < length ns → i ≢ d → child_face x (child_at i ns) ≡ idle_of (child_face x (child_at i ns)).hold = λ (i : ℕ) (l : i < length ns) (ne : i ≢ d). idle-at n x p ns bus kids within a.0 i l (not-reader i ne) (ap (λ note. is_eraser note i) note) in
        keeps-never n x above p (with_note x no_note (front_taken e.stamp rest p)) ns _ (read_by_one before) one_exclusive
        (record {
          bus = bus;
          known = within;
          as_many = many d reader-there a.0 absent takes idle;
          after = after d reader-there a.0 absent takes idle;
          told = told-each d reader-there a.0 absent takes idle;
          parent = noted n (length ns) x within p _ _ front-taken no_note refl;
          bits = taken-bits d reader-there a.0 absent takes idle (read_by_one before) refl (not-true _ f.0);
          reserved = refl;
          replies = refl;
        })
        f.1
        answer

  -- ---- nobody reads

  module _ (other : is_local (dir_note x p) ≡ false) (unread : is_up_read (dir_note x p) ≡ false) where
    -- the same as facts
    record Known : Type 0 where
      note : before.note ≡ no_note
      none : k.no_gift ≡ true
      absent : list_any holds_it (faces_of x ns) ≡ false
      free : before.parked ≡ false
      child : done_place before (taken before) k one_exclusive ≡ true
      parking : done_place before (in_parking before) k one_shared ≡ true

    known : Known
    known =
        let h = implies-use (starts_with InjectTx before.queue && (not (is_local before.note) && not (is_up_read before.note))) _ (state-at may_place each-place before (faces_of x ns) (bus.rules x within)) (both_true (entry-starts n x p ns bus e rest front InjectTx kind refl) (both_true (ap not other) (ap not unread))) in
        let a = and_parts (is_no_note before.note) _ h in
        let b = and_parts k.no_gift _ a.1 in
        let c = and_parts (not k.held) _ b.1 in
        let d = and_parts (not before.parked) _ c.1 in
        let f = and_parts (done_place before (taken before) k one_exclusive) _ d.1 in
        record { note = no-note before.note a.0; none = b.0; absent = (or_parts before.parked (list_any holds_it (faces_of x ns)) (not-true _ c.0)).1; free = not-true _ d.0; child = f.0; parking = f.1 }

    idle-before : (i : ℕ) → i < length ns → child_face x (child_at i ns) ≡ idle_of (child_face x (child_at i ns)).hold
    idle-before i l = idle-at n x p ns bus kids within known.none i l (ap (λ note. is_reader note i) known.note) (ap (λ note. is_eraser note i) known.note)

    -- a place is kept for it
    some-kept : (q : ParentFace) → kept_place before ≡ kept_place q + 1 → 1 ≤ p.reserved
    some-kept q kept =
        let one = kept-one x p 0 n (omega arith) (omega (arith, within)) in
        omega (arith, one, kept, bus.reserved)

    released : (q : DirValue) (f : ParentFace) (qs : List Node) (j : Bits) (after : ℕ → ChildFace) → length qs ≡ length ns → ((i : ℕ) → i < length ns → IsTold n x (child_at i ns) (child_at i qs) (after i)) → IsModified n (length ns) x p q f → bits_of f (faces_of x qs) ≡ j → q.reserved ≡ p.reserved - 1 → q.replies ≡ p.replies → done_place before f k j ≡ true → KeepsBus n above p ns (record { answer = answer; parent = q; kids = qs })
    released q f qs j after many told parent bits_are reserved replies done =
        let a = and_parts (nat_eq (kept_place before) (kept_place f + 1)) _ done in
        let b = and_parts (never_top before k) _ a.1 in
        let c = and_parts (item_holds f j) _ b.1 in
        let kept : kept_place before ≡ kept_place f + 1 = eqb-true _ _ a.0 in
        let some = some-kept f kept in
        row-keeps n x above p q ns qs f answer bus
        (record {
          known = within;
          as_many = many;
          after = after;
          told = told;
          parent = parent;
          rules = rules-by f x qs j bits_are c.0;
          reserved = omega (arith, kept, some, reserved);
          seen = same-seen x p q f parent.face replies c.1;
          top = never-top n x above p q ns qs f b.0;
        })

    -- a child with room
    pub inject_to_child-keeps : (d : ℕ) → inject_taker x (front_taken e.stamp rest p) ns e.words ≡ Some d → KeepsBus n above p ns (record { answer = answer; parent = place_released (front_taken e.stamp rest p); kids = map_from (only d (child_take_inject x e.words s)) 0 ns })
    inject_to_child-keeps d found =
        let there : d < length ns = first_some-either (λ j. j < length ns) (find_from (waits_with_room x) 0 ns) (find_from (has_room x) 0 ns) (λ j is. found-within (waits_with_room x) j ns no_node is) (λ j is. found-within (has_room x) j ns no_node is) d found in
        let takes : Takes n x within (child_at d ns) = with_room (inject_taker-room x (front_taken e.stamp rest p) ns e.words d found) in
        let idle : (i : ℕ) → i < length ns → i ≢ d → child_face x (child_at i ns) ≡ idle_of (child_face x (child_at i ns)).hold = λ (i : ℕ) (l : i < length ns) (ne : i ≢ d). idle-before i l in
        released (place_released (front_taken e.stamp rest p)) (taken before) _ one_exclusive (after d there known.none known.absent takes idle) (many d there known.none known.absent takes idle) (told-each d there known.none known.absent takes idle)
        (releases n (length ns) x within p _ _ front-taken) (taken-bits d there known.none known.absent takes idle (taken before) known.note known.free) refl refl known.child

    -- the place that was kept
    pub inject_parked-keeps : nat_eq p.reserved 0 ≡ false → KeepsBus n above p ns (record { answer = answer; parent = with_parked x e.words (place_released (front_taken e.stamp rest p)); kids = ns })
    inject_parked-keeps kept =
        let some : p.reserved ≢ 0 = eqb-false p.reserved 0 kept in
        let parts = dir-parts n (length ns) p bus.own in
        let m1 = releases n (length ns) x within p _ _ front-taken in
        let m2 = parks n (length ns) x within p _ _ m1 e.words known.free (omega (arith, parts.within.parked, some)) in
        released (with_parked x e.words (place_released (front_taken e.stamp rest p))) (in_parking before) ns one_shared (λ i. child_face x (child_at i ns)) refl (λ i l. untouched n x p ns bus kids i l within) m2
        (idle-bits x (in_parking before) ns (λ i l. idle-before i l ∙ ap idle_of (not-held (child_face x (child_at i ns)).hold (none-held n x p ns bus kids within known.absent i l))) (λ i. ap (λ note. is_reader note i) known.note) (ap is_up_erase known.note))
        refl refl known.parking
