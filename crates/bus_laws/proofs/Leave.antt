-- A copy leaves a child: it is dropped, passed on to another child, or parked at the parent.
-- Letters: c is the child whose copy leaves, d another child, x the item, k the bits before, ms and qs the children after.
use Rattle.std.proofs.Common.{◌≡◌, ◌≢◌, ℕ, ◌<◌, Bool, true, false, List, length, Option, Some, None, refl, sym, ap, subst, ◌∙◌, arith}
use Rattle.std.specs.Prelude.{not, ◌&&◌, ◌||◌, nat_eq, nat_lt, is_some, if◌then◌else◌}
use Rattle.std.specs.List.{AllByRecursion}
use native.Mathlib.Decide.{ℕ_discrete}
use Rattle.std.specs.Cmp.Derive.{both_true}
use Rattle.std.proofs.lemmas.Bool.{and_parts, or_parts, eqb-true, eqb-false, eq-eqb, ne_eqb, not-true}
use Rattle.bus_laws.specs.DdmTypes.declared.answers.TurnAnswer.{TurnAnswer}
use Rattle.bus_laws.specs.DdmTypes.declared.sizes.Hold.{Hold}
use Rattle.bus_laws.specs.DdmTypes.declared.keys.Stamp.{Stamp}
use Rattle.bus_laws.specs.TreeModel.State.Lists.{map_from, find_from, first_some, has_some, all_from}
use Rattle.bus_laws.specs.TreeModel.State.States.{is_held, is_exclusive, is_shared}
use Rattle.bus_laws.specs.TreeModel.State.Values.{Note, no_note, local, up_read, up_erase, DirValue, Node}
use Rattle.bus_laws.specs.TreeModel.State.Directory.{is_top, dir_hold, is_reader, is_eraser, is_up_erase, is_parked, stamp_of, with_parked, counted, pending, parking_full}
use Rattle.bus_laws.specs.TreeModel.State.Child.{child_leaving, pending_below, child_hold, child_holds, child_given, child_give_up, child_take_inject}
use Rattle.bus_laws.specs.TreeModel.State.Blank.{no_node}
use Rattle.bus_laws.specs.TreeModel.Turns.Children.{child_at, only, other_holds, other_waits, room_after, room_before, passed_on}
use Rattle.bus_laws.specs.TreeModel.Turns.Leave.{other_copy, leave_taker}
use Rattle.bus_laws.proofs.TreeModel.Children.{map_from-length, child_at-map_from, found-within, found-passes, none-passes}
use Rattle.bus_laws.proofs.TreeModel.Tests.{first_some-either}
use Rattle.bus_laws.proofs.TreeModel.DirRooms.{parking-place}
use Rattle.bus_laws.proofs.TreeModel.BusRooms.{leave_taker-room}
use Rattle.tree_rules.specs.Bus.Faces.{ChildFace, ParentFace, parent_face, child_face, faces_of}
use Rattle.tree_rules.specs.Bus.Own.{top_level, IsTopOk}
use Rattle.tree_rules.specs.Bus.Item.{implies, holds_exclusive, reader_is_granted, eraser_is_granted, exclusive_alone, exclusive_covered, Bits, bits_of, item_holds, kept_place, top_holds}
use Rattle.tree_rules.specs.Bus.Rules.{IsBusOk, IsChildOk}
use Rattle.tree_rules.proofs.Implying.{implies-use}
use Rattle.bus_laws.specs.KeepsBus.{KeepsBus}
use Rattle.bus_laws.proofs.Every.{every_bool, every_bool-at}
use Rattle.bus_laws.proofs.States.{each_state, state-at}
use Rattle.bus_laws.proofs.BitsOf.{any-true}
use Rattle.bus_laws.proofs.ItemLists.{nat_eq-same}
use Rattle.bus_laws.proofs.DirParts.{dir-parts, lt-fact, child_seen, is_no_note}
use Rattle.bus_laws.proofs.DirGives.{IsQuiet, quiet-from_pending}
use Rattle.bus_laws.proofs.Calls.{HasLeft, child-give_up, with_room, child-take_inject}
use Rattle.bus_laws.proofs.Parents.{IsModified, as-it-was, takes_count, parks}
use Rattle.bus_laws.proofs.TopParent.{top-counted}
use Rattle.bus_laws.proofs.Before.{idle_of, not-held, kid-ok, idle-at, idle-bits, gives-at, none-exclusive}
use Rattle.bus_laws.proofs.OneChild.{leaves-there, untouched, one_after, one-told, one-many, one-here, one-other, somebody, not-parked, others-absent, shared-all}
use Rattle.bus_laws.proofs.Answering.{child-hold}
use Rattle.bus_laws.proofs.RowFrame.{all-kids_at, fits, top_like}
use Rattle.bus_laws.proofs.RowChecks.{done_top, stays_seen, keeps-top, keeps-by}
use Rattle.bus_laws.proofs.Shapes.{one_exclusive, one_shared, quiet_children, exclusive-fits, no-readers, lone-bits, quiet-bits}
use Rattle.bus_laws.proofs.Told.{IsTold}

-- ---- what is computed

-- the item is not pending, and a child holds it
abbrev calm : ParentFace → Bits → Bool
calm p k = is_no_note p.note && (not p.answering && (not (has_some p.queue) && (k.held && not p.parked)))

-- nobody gives, and the parent holds it
abbrev may_leave : ParentFace → Bits → Bool
may_leave p k = implies (calm p k) (k.no_gift && is_held p.hold)

each-may_leave : (note : Note) → each_state may_leave note ≡ true
unfolding implies
each-may_leave no_note = refl
each-may_leave (local first joined) = refl
each-may_leave (up_read first joined) = refl
each-may_leave (up_erase d) = refl

-- where another child has a copy
abbrev may_drop : ParentFace → Bits → Bool
may_drop p k = implies (calm p k) (every_bool (λ sole. done_top p p k (quiet_children sole)))

each-may_drop : (note : Note) → each_state may_drop note ≡ true
unfolding implies
each-may_drop no_note = refl
each-may_drop (local first joined) = refl
each-may_drop (up_read first joined) = refl
each-may_drop (up_erase d) = refl

-- where nobody else has one, and the parent holds the item Exclusive
abbrev may_pass_on : ParentFace → Bits → Bool
may_pass_on p k = implies (calm p k && is_exclusive p.hold) (done_top p p k one_exclusive)

each-may_pass_on : (note : Note) → each_state may_pass_on note ≡ true
unfolding implies
each-may_pass_on no_note = refl
each-may_pass_on (local first joined) = refl
each-may_pass_on (up_read first joined) = refl
each-may_pass_on (up_erase d) = refl

-- the parent with the copy parked
abbrev in_parking : ParentFace → ParentFace
in_parking p = record p { parked = true }

-- where nobody else has one
abbrev may_park : ParentFace → Bits → Bool
may_park p k = implies (calm p k) (nat_eq (kept_place (in_parking p)) (kept_place p) && stays_seen p (in_parking p) one_shared)

each-may_park : (note : Note) → each_state may_park note ≡ true
unfolding implies
each-may_park no_note = refl
each-may_park (local first joined) = refl
each-may_park (up_read first joined) = refl
each-may_park (up_erase d) = refl

shared-or-exclusive : (h : Hold) → is_held h ≡ true → is_shared h ≡ false → is_exclusive h ≡ true
shared-or-exclusive Hold.Invalid e s = cc
shared-or-exclusive Hold.Shared e s = cc
shared-or-exclusive Hold.Exclusive e s = refl

module _ (n choice c x : ℕ) (above : Stamp) (p : DirValue) (ns : List Node) (bus : IsBusOk n p ns) (kids : AllByRecursion (IsChildOk n) ns) (leaves : child_leaving choice (child_at c ns) ≡ Some x) (free : pending x p ≡ None) (below : pending_below x (child_at c ns) ≡ None) (answer : TurnAnswer) where
  there : c < length ns
  there = leaves-there choice c x ns leaves

  left : HasLeft n x (child_at c ns)
  left = child-give_up n x choice (child_at c ns) (all-kids_at (IsChildOk n) no_node ns c kids there) leaves below

  within : x < n
  within = left.known

  abbrev before : ParentFace
  before = parent_face x p

  abbrev k : Bits
  k = bits_of before (faces_of x ns)

  abbrev old : ChildFace
  old = child_face x (child_at c ns)

  still : IsQuiet x p
  still = quiet-from_pending x p free

  unparked : before.parked ≡ false
  unparked = not-parked n x p ns bus kids within c there left.held

  or-right : (a b : Bool) → b ≡ true → (a || b) ≡ true
  or-right true b e = refl
  or-right false b e = e

  calm-before : calm before k ≡ true
  calm-before = both_true (ap is_no_note still.note) (both_true (ap not still.answering) (both_true (ap not still.queue) (both_true (or-right before.parked _ (somebody n x p ns bus kids within c there left.held)) (ap not unparked))))

  leaving : (k.no_gift && is_held before.hold) ≡ true
  leaving = implies-use (calm before k) _ (state-at may_leave each-may_leave before (faces_of x ns) (bus.rules x within)) calm-before

  none : k.no_gift ≡ true
  none = (and_parts k.no_gift (is_held before.hold) leaving).0

  idle-before : (i : ℕ) → i < length ns → child_face x (child_at i ns) ≡ idle_of (child_face x (child_at i ns)).hold
  idle-before i l = idle-at n x p ns bus kids within none i l (ap (λ note. is_reader note i) still.note) (ap (λ note. is_eraser note i) still.note)

  told-left : IsTold n x (child_at c ns) (child_give_up x (child_at c ns)) (idle_of Hold.Invalid)
  told-left =
      let gives = gives-at n x p ns bus kids within none c there in
      let same : child_seen Hold.Invalid false false old.replies false ≡ idle_of Hold.Invalid = rw gives.1 refl in
      subst (λ f. IsTold n x (child_at c ns) (child_give_up x (child_at c ns)) f) same left.told

  counts : IsModified n (length ns) x p (counted p) before
  counts = takes_count n (length ns) x within p p before (as-it-was n (length ns) x within p (dir-parts n (length ns) p bus.own))

  abbrev ms : List Node
  ms = map_from (only c (child_give_up x)) 0 ns

  many : length ms ≡ length ns
  many = one-many n x p ns bus kids within c (child_give_up x) (idle_of Hold.Invalid) told-left

  abbrev after : ℕ → ChildFace
  after = one_after n x p ns bus kids within c (child_give_up x) (idle_of Hold.Invalid) told-left

  told : (i : ℕ) → i < length ns → IsTold n x (child_at i ns) (child_at i ms) (after i)
  told = one-told n x p ns bus kids within c (child_give_up x) (idle_of Hold.Invalid) told-left

  here-after : child_face x (child_at c ms) ≡ idle_of Hold.Invalid
  here-after = one-here n x p ns bus kids within c (child_give_up x) (idle_of Hold.Invalid) told-left there

  other-after : (i : ℕ) → i < length ns → i ≢ c → child_face x (child_at i ms) ≡ idle_of (child_face x (child_at i ns)).hold
  other-after i l ne = one-other n x p ns bus kids within c (child_give_up x) (idle_of Hold.Invalid) told-left i l ne ∙ idle-before i l

  -- ---- it is dropped: another child has a copy

  module _ (shared : child_hold x (child_at c ns) ≡ Hold.Shared) (copy : other_copy c x p ns ≡ true) where
    no_exclusive : k.exclusive ≡ false
    no_exclusive = shared-all n x p ns bus kids within c there left.held (ap is_exclusive (sym (child-hold x (child_at c ns)) ∙ shared))

    other-found : (o : Option ℕ) → find_from (other_holds c x) 0 ns ≡ o → (is_some o || is_parked x p) ≡ true → (d : ℕ) × (find_from (other_holds c x) 0 ns ≡ Some d)
    other-found None e h = let no : is_parked x p ≡ true = h in let free = unparked in cc
    other-found (Some d) e h = (d, e)

    found : (d : ℕ) × (find_from (other_holds c x) 0 ns ≡ Some d)
    found = other-found (find_from (other_holds c x) 0 ns) refl copy

    abbrev d : ℕ
    d = found.0

    there_d : d < length ns
    there_d = found-within (other_holds c x) d ns no_node found.1

    passes : (not (nat_eq d c) && child_holds x (child_at d ns)) ≡ true
    passes = found-passes (other_holds c x) d ns no_node found.1

    other_d : nat_eq d c ≡ false
    other_d = not-true _ (and_parts (not (nat_eq d c)) (child_holds x (child_at d ns)) passes).0

    abbrev hold_after : ℕ → Hold
    hold_after i = if nat_eq i c then Hold.Invalid else (child_face x (child_at i ns)).hold

    held_d : is_held (hold_after d) ≡ true
    held_d = rw other_d (ap is_held (sym (child-hold x (child_at d ns))) ∙ (and_parts (not (nat_eq d c)) (child_holds x (child_at d ns)) passes).1)

    all-quiet : (i : ℕ) → i < length ms → child_face x (child_at i ms) ≡ idle_of (hold_after i)
    all-quiet i l = at (ℕ_discrete i c) where
      at : Dec (i ≡ c) → child_face x (child_at i ms) ≡ idle_of (hold_after i)
      at (yes same) =
          let is : nat_eq i c ≡ true = eq-eqb i c same in
          rw is (subst (λ j. child_face x (child_at j ms) ≡ idle_of Hold.Invalid) (sym same) here-after)
      at (no ne) =
          let is : nat_eq i c ≡ false = ne_eqb i c ne in
          rw is (other-after i (omega (arith, l, many)) ne)

    shared-after : (i : ℕ) → i < length ms → is_exclusive (hold_after i) ≡ false
    shared-after i l = at (nat_eq i c) where
      at : (b : Bool) → is_exclusive (if◌then◌else◌ b Hold.Invalid (child_face x (child_at i ns)).hold) ≡ false
      at true = refl
      at false = none-exclusive n x p ns bus kids within no_exclusive i (omega (arith, l, many))

    dropped-bits : bits_of before (faces_of x ms) ≡ quiet_children (bits_of before (faces_of x ms)).sole
    dropped-bits = quiet-bits x before ms hold_after all-quiet shared-after still.note d (omega (arith, there_d, many)) held_d

    pub out_gone-keeps : KeepsBus n above p ns (record { answer = answer; parent = counted p; kids = ms })
    out_gone-keeps =
        let sole = (bits_of before (faces_of x ms)).sole in
        let h = implies-use (calm before k) _ (state-at may_drop each-may_drop before (faces_of x ns) (bus.rules x within)) calm-before in
        keeps-top n x above p (counted p) ns ms before (quiet_children sole)
        (record { bus = bus; known = within; as_many = many; after = after; told = told; parent = counts; bits = dropped-bits; reserved = refl; replies = refl })
        (every_bool-at (λ sole. done_top before before k (quiet_children sole)) h sole)
        (λ zero top exclusive calm. top-counted p top)
        answer

  -- ---- nobody else holds it

  module _ (absent : (i : ℕ) → i < length ns → i ≢ c → is_held (child_face x (child_at i ns)).hold ≡ false) where
    idle-after : (i : ℕ) → i < length ms → child_face x (child_at i ms) ≡ idle_of Hold.Invalid
    idle-after i l = at (ℕ_discrete i c) where
      at : Dec (i ≡ c) → child_face x (child_at i ms) ≡ idle_of Hold.Invalid
      at (yes same) = subst (λ j. child_face x (child_at j ms) ≡ idle_of Hold.Invalid) (sym same) here-after
      at (no ne) =
          let li : i < length ns = omega (arith, l, many) in
          other-after i li ne ∙ ap idle_of (not-held (child_face x (child_at i ns)).hold (absent i li ne))

    -- it is parked, under a parent that isn't the top
    parked-keeps : (words : List ℕ) → parking_full p ≡ false → (IsTopOk p → top_like before k ≡ true → ⊥) → KeepsBus n above p ns (record { answer = answer; parent = with_parked x words (counted p); kids = ms })
    parked-keeps words room never =
        let h = implies-use (calm before k) _ (state-at may_park each-may_park before (faces_of x ns) (bus.rules x within)) calm-before in
        let a = and_parts (nat_eq (kept_place (in_parking before)) (kept_place before)) _ h in
        let b = and_parts (item_holds (in_parking before) one_shared) _ a.1 in
        keeps-by n x above p (with_parked x words (counted p)) ns ms (in_parking before) one_shared
        (record {
          bus = bus;
          known = within;
          as_many = many;
          after = after;
          told = told;
          parent = parks n (length ns) x within p _ _ counts words unparked (parking-place p room);
          bits = idle-bits x (in_parking before) ms idle-after (λ i. ap (λ note. is_reader note i) still.note) (ap is_up_erase still.note);
          reserved = refl;
          replies = refl;
        })
        (eqb-true _ _ a.0) b.0 b.1
        (λ zero top like. absurd (never top like))
        answer

    -- ---- it is passed on

    module _ (d : ℕ) (taker : leave_taker c x p ns ≡ Some d) (exclusive : is_exclusive before.hold ≡ true) where
      abbrev words : List ℕ
      words = child_given x (child_at c ns)

      abbrev s : Stamp
      s = stamp_of (counted p)

      abbrev qs : List Node
      qs = map_from (passed_on c d x words s) 0 ns

      placed : (d < length ns) × (d ≢ c)
      placed =
          first_some-either (λ j. (j < length ns) × (j ≢ c)) (find_from (other_waits c x) 0 ns) (first_some (find_from (room_after c x) 0 ns) (find_from (room_before (is_top p) c x) 0 ns))
          (λ j is. (found-within (other_waits c x) j ns no_node is, eqb-false j c (not-true _ (and_parts (not (nat_eq j c)) _ (found-passes (other_waits c x) j ns no_node is)).0)))
          (first_some-either (λ j. (j < length ns) × (j ≢ c)) (find_from (room_after c x) 0 ns) (find_from (room_before (is_top p) c x) 0 ns)
          (λ j is. let behind : c < j = lt-fact c j (and_parts (nat_lt c j) _ (found-passes (room_after c x) j ns no_node is)).0 in (found-within (room_after c x) j ns no_node is, λ same. omega arith))
          (λ j is. let inner = and_parts (is_top p) _ (found-passes (room_before (is_top p) c x) j ns no_node is) in let ahead : j < c = lt-fact j c (and_parts (nat_lt j c) _ inner.1).0 in (found-within (room_before (is_top p) c x) j ns no_node is, λ same. omega arith)))
          d taker

      there_taker : d < length ns
      there_taker = placed.0

      told-taker : IsTold n x (child_at d ns) (child_take_inject x words s (child_at d ns)) (idle_of Hold.Exclusive)
      told-taker =
          let gives = gives-at n x p ns bus kids within none d there_taker in
          let same : child_seen Hold.Exclusive false false (child_face x (child_at d ns)).replies (child_face x (child_at d ns)).answers ≡ idle_of Hold.Exclusive = rw (gives.0, gives.1) refl in
          subst (λ f. IsTold n x (child_at d ns) (child_take_inject x words s (child_at d ns)) f) same (child-take_inject n x within words s (child_at d ns) (kid-ok n x p ns bus kids within d there_taker) (absent d there_taker placed.1) gives.0 (with_room (leave_taker-room c x p ns d taker)))

      abbrev passed : ℕ → ChildFace
      passed i = if nat_eq i c then idle_of Hold.Invalid else (if nat_eq i d then idle_of Hold.Exclusive else child_face x (child_at i ns))

      told-at : (i : ℕ) → i < length ns → Dec (i ≡ c) → Dec (i ≡ d) → IsTold n x (child_at i ns) (passed_on c d x words s i (child_at i ns)) (passed i)
      told-at i l (yes same) e =
          let is : nat_eq i c ≡ true = eq-eqb i c same in
          rw is (subst (λ j. IsTold n x (child_at j ns) (child_give_up x (child_at j ns)) (idle_of Hold.Invalid)) (sym same) told-left)
      told-at i l (no ne) (yes same) =
          let away : nat_eq i c ≡ false = ne_eqb i c ne in
          let is : nat_eq i d ≡ true = eq-eqb i d same in
          rw (away, is) (subst (λ j. IsTold n x (child_at j ns) (child_take_inject x words s (child_at j ns)) (idle_of Hold.Exclusive)) (sym same) told-taker)
      told-at i l (no ne) (no nd) =
          let away : nat_eq i c ≡ false = ne_eqb i c ne in
          let off : nat_eq i d ≡ false = ne_eqb i d nd in
          rw (away, off) (untouched n x p ns bus kids i l within)

      told-passed : (i : ℕ) → i < length ns → IsTold n x (child_at i ns) (child_at i qs) (passed i)
      told-passed i l = subst (λ m. IsTold n x (child_at i ns) m (passed i)) (sym (child_at-map_from (passed_on c d x words s) i ns l)) (told-at i l (ℕ_discrete i c) (ℕ_discrete i d))

      many-passed : length qs ≡ length ns
      many-passed = map_from-length (passed_on c d x words s) 0 ns

      taker-after : child_face x (child_at d qs) ≡ idle_of Hold.Exclusive
      taker-after =
          let away : nat_eq d c ≡ false = ne_eqb d c placed.1 in
          (told-passed d there_taker).here ∙ rw (away, nat_eq-same d) refl

      others-passed : (i : ℕ) → i < length qs → i ≢ d → child_face x (child_at i qs) ≡ idle_of Hold.Invalid
      others-passed i l nd =
          let li : i < length ns = omega (arith, l, many-passed) in
          (told-passed i li).here ∙ at li (ℕ_discrete i c) where
            at : i < length ns → Dec (i ≡ c) → passed i ≡ idle_of Hold.Invalid
            at li (yes same) =
                let is : nat_eq i c ≡ true = eq-eqb i c same in
                rw is refl
            at li (no ne) =
                let away : nat_eq i c ≡ false = ne_eqb i c ne in
                let off : nat_eq i d ≡ false = ne_eqb i d nd in
                rw (away, off) (idle-before i li ∙ ap idle_of (not-held (child_face x (child_at i ns)).hold (absent i li ne)))

      passed-bits : bits_of before (faces_of x qs) ≡ one_exclusive
      passed-bits =
          lone-bits x before qs d (omega (arith, there_taker, many-passed)) (idle_of Hold.Exclusive) taker-after others-passed unparked refl
          (subst (λ note. fits note d (idle_of Hold.Exclusive) ≡ true) (sym still.note) (exclusive-fits d))
          (subst (λ note. all_from (reader_is_granted note) 0 (faces_of x qs) ≡ true) (sym still.note) (no-readers x no_note qs (λ i. refl)))
          (subst (λ note. eraser_is_granted note (faces_of x qs) ≡ true) (sym still.note) refl)

      passed-keeps : KeepsBus n above p ns (record { answer = answer; parent = counted p; kids = qs })
      passed-keeps =
          let h = implies-use (calm before k && is_exclusive before.hold) _ (state-at may_pass_on each-may_pass_on before (faces_of x ns) (bus.rules x within)) (both_true calm-before exclusive) in
          keeps-top n x above p (counted p) ns qs before one_exclusive
          (record { bus = bus; known = within; as_many = many-passed; after = passed; told = told-passed; parent = counts; bits = passed-bits; reserved = refl; replies = refl })
          h
          (λ zero top exclusive calm. top-counted p top)
          answer

  -- ---- who else holds it

  absent-others : other_copy c x p ns ≡ false → (i : ℕ) → i < length ns → i ≢ c → is_held (child_face x (child_at i ns)).hold ≡ false
  absent-others copy i l ne =
      let nobody : is_some (find_from (other_holds c x) 0 ns) ≡ false = (or_parts (is_some (find_from (other_holds c x) 0 ns)) (is_parked x p) copy).0 in
      let fails : other_holds c x i (child_at i ns) ≡ false = none-passes (other_holds c x) i ns no_node (not-some (find_from (other_holds c x) 0 ns) nobody) l in
      let away : nat_eq i c ≡ false = ne_eqb i c ne in
      let not_holding : child_holds x (child_at i ns) ≡ false = rw away at fails in
      ap is_held (sym (child-hold x (child_at i ns))) ∙ not_holding where
        not-some : (o : Option ℕ) → is_some o ≡ false → o ≡ None
        not-some None e = refl
        not-some (Some d) e = cc

  -- nobody else holds it, and the parent holds it Exclusive
  record Alone : Type 0 where
    others : (i : ℕ) → i < length ns → i ≢ c → is_held (child_face x (child_at i ns)).hold ≡ false
    exclusive : is_exclusive before.hold ≡ true

  -- it was Exclusive, or was the last copy under a parent that holds the item Exclusive
  alone-by : (h : Hold) → child_hold x (child_at c ns) ≡ h → (is_shared h && (other_copy c x p ns || is_shared (dir_hold x p))) ≡ false → Alone
  alone-by Hold.Invalid is neither = let held = left.held in let none : is_held old.hold ≡ false = ap is_held (sym (child-hold x (child_at c ns)) ∙ is) in cc
  alone-by Hold.Shared is neither =
      let parts = or_parts (other_copy c x p ns) (is_shared (dir_hold x p)) neither in
      record { others = absent-others parts.0; exclusive = shared-or-exclusive before.hold (and_parts k.no_gift (is_held before.hold) leaving).1 parts.1 }
  alone-by Hold.Exclusive is neither =
      let some : k.exclusive ≡ true = any-true (child_face x) no_node holds_exclusive ns c there (ap is_exclusive (sym (child-hold x (child_at c ns)) ∙ is)) in
      record {
        others = others-absent n x p ns bus kids within c there left.held (implies-use k.exclusive k.sole ((bus.rules x within).each exclusive_alone) some);
        exclusive = implies-use k.exclusive (is_exclusive before.hold) ((bus.rules x within).each exclusive_covered) some;
      }

  -- ---- the rows

  pub out_parked-keeps : other_copy c x p ns ≡ false → is_shared (dir_hold x p) ≡ true → parking_full p ≡ false → KeepsBus n above p ns (record { answer = answer; parent = with_parked x (child_given x (child_at c ns)) (counted p); kids = ms })
  out_parked-keeps copy shared room =
      parked-keeps (absent-others copy) (child_given x (child_at c ns)) room (λ top like.
      let l = and_parts (top_holds before k) _ like in
      let exclusive = (and_parts (is_exclusive before.hold) _ l.1).0 in
      not-both before.hold shared exclusive) where
        not-both : (h : Hold) → is_shared h ≡ true → is_exclusive h ≡ true → ⊥
        not-both Hold.Invalid s e = cc
        not-both Hold.Shared s e = cc
        not-both Hold.Exclusive s e = cc

  pub leave_to-keeps : (d : ℕ) → (is_shared (child_hold x (child_at c ns)) && (other_copy c x p ns || is_shared (dir_hold x p))) ≡ false → leave_taker c x p ns ≡ Some d → KeepsBus n above p ns (record { answer = answer; parent = counted p; kids = map_from (passed_on c d x (child_given x (child_at c ns)) (stamp_of (counted p))) 0 ns })
  leave_to-keeps d neither taker =
      let a = alone-by (child_hold x (child_at c ns)) refl neither in
      passed-keeps a.others d taker a.exclusive

  pub inject_up-keeps : (is_shared (child_hold x (child_at c ns)) && (other_copy c x p ns || is_shared (dir_hold x p))) ≡ false → is_top p ≡ false → parking_full p ≡ false → KeepsBus n above p ns (record { answer = answer; parent = with_parked x (child_given x (child_at c ns)) (counted p); kids = ms })
  inject_up-keeps neither below_top room =
      let a = alone-by (child_hold x (child_at c ns)) refl neither in
      parked-keeps a.others (child_given x (child_at c ns)) room (λ top like. let level : is_top p ≡ true = top.each top_level in cc)
