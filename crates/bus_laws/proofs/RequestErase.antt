-- A request to erase is granted: every other child is told to lose the item.
-- Letters: c is the child that asks, x the item, k the bits before, ms the children after, s the stamp of the bus.
use Rattle.std.proofs.Common.{◌≡◌, ◌≢◌, ℕ, ◌<◌, Bool, true, false, List, [], ◌∷◌, ◌++◌, length, Some, None, refl, sym, ap, subst, ◌∙◌, arith}
use Rattle.std.specs.Prelude.{not, ◌&&◌, ◌||◌, nat_eq, if◌then◌else◌}
use Rattle.std.specs.List.{AllByRecursion}
use native.Mathlib.Decide.{ℕ_discrete}
use Rattle.std.specs.Cmp.Derive.{both_true}
use Rattle.std.proofs.lemmas.Bool.{and_parts, eq-eqb, ne_eqb}
use Rattle.bus_laws.specs.DdmTypes.declared.answers.TxKind.TheVariants.{EraseTx, ExclusiveTx}
use Rattle.bus_laws.specs.DdmTypes.declared.answers.TurnAnswer.{TurnAnswer}
use Rattle.bus_laws.specs.DdmTypes.declared.sizes.Hold.{Hold}
use Rattle.bus_laws.specs.DdmTypes.declared.keys.Stamp.{Stamp}
use Rattle.bus_laws.specs.TreeModel.State.Lists.{map_from, first_given, has_some}
use Rattle.bus_laws.specs.TreeModel.State.States.{is_held, is_exclusive}
use Rattle.bus_laws.specs.TreeModel.State.Values.{Note, no_note, local, up_read, up_erase, DirValue, Node}
use Rattle.bus_laws.specs.TreeModel.State.Leaf.{blank}
use Rattle.bus_laws.specs.TreeModel.State.Directory.{dir_hold, is_reader, stamp_of, with_note, counted, pending, down_full, requests_full}
use Rattle.bus_laws.specs.TreeModel.State.Child.{child_request, child_request_taken, child_lose, child_full_for}
use Rattle.bus_laws.specs.TreeModel.State.Blank.{no_node}
use Rattle.bus_laws.specs.TreeModel.Turns.Children.{child_at, other_full, erased_by}
use Rattle.bus_laws.specs.TreeModel.Turns.RequestErase.{erase_noted, erase_list_full}
use Rattle.bus_laws.proofs.TreeModel.Children.{map_from-length, child_at-map_from, none-given}
use Rattle.bus_laws.proofs.TreeModel.Tests.{some_if-none}
use Rattle.tree_rules.specs.Bus.Faces.{ChildFace, ParentFace, parent_face, child_face, faces_of}
use Rattle.tree_rules.specs.Bus.Item.{implies, may_erase, eraser_is_granted, Bits, bits_of}
use Rattle.tree_rules.specs.Bus.Rules.{IsBusOk, IsChildOk}
use Rattle.tree_rules.proofs.Implying.{implies-use}
use Rattle.bus_laws.specs.KeepsBus.{KeepsBus}
use Rattle.bus_laws.proofs.States.{each_state, state-at}
use Rattle.bus_laws.proofs.BitsOf.{passes-true}
use Rattle.bus_laws.proofs.ItemLists.{nat_eq-same}
use Rattle.bus_laws.proofs.DirParts.{dir-parts, child_seen, is_no_note, lt-test, blank-zero}
use Rattle.bus_laws.proofs.DirGives.{IsQuiet, quiet-from_pending}
use Rattle.bus_laws.proofs.Calls.{child-lose, IsGranted, child-erase-taken}
use Rattle.bus_laws.proofs.Parents.{IsModified, as-it-was, takes_count, noted, pushes_down, pushes_request}
use Rattle.bus_laws.proofs.TopParent.{top-counted, top-noted, top-pushed}
use Rattle.bus_laws.proofs.Before.{idle_of, lost-idle, kid-ok, granted-at, not-reads, gives-at, none-exclusive}
use Rattle.bus_laws.proofs.OneChild.{asks-there, somebody, not-parked, shared-all}
use Rattle.bus_laws.proofs.RowFrame.{all-kids_at, fits}
use Rattle.bus_laws.proofs.RowChecks.{done_never, done_top, keeps-never, keeps-top}
use Rattle.bus_laws.proofs.Shapes.{one_shared, no-readers, lone-bits}
use Rattle.bus_laws.proofs.Told.{IsTold}

-- what isn't pending, and is held by a Shared child
abbrev quiet_shared : ParentFace → Bits → Bool
quiet_shared p k = is_no_note p.note && (not p.answering && (not (has_some p.queue) && (k.held && (not p.parked && not k.exclusive))))

-- the parent after it, where it holds the item Exclusive
abbrev erasing_here : ℕ → ParentFace → ParentFace
erasing_here c p = record p { note = up_erase c; queue = p.queue ++ ExclusiveTx ∷ [] }

-- the parent after it, where it holds the item Shared
abbrev erasing_above : ℕ → ParentFace → ParentFace
erasing_above c p = record p { note = up_erase c; requests = p.requests ++ EraseTx ∷ [] }

-- what is known before it and kept after it
abbrev may_erase_here : ℕ → ParentFace → Bits → Bool
may_erase_here c p k = implies (quiet_shared p k && is_exclusive p.hold) (k.no_gift && done_top p (erasing_here c p) k one_shared)

-- what is known before it and kept after it
abbrev may_erase_above : ℕ → ParentFace → Bits → Bool
may_erase_above c p k = implies (quiet_shared p k && not (is_exclusive p.hold)) (k.no_gift && done_never p (erasing_above c p) k one_shared)

each-may_erase_here : (c : ℕ) (note : Note) → each_state (may_erase_here c) note ≡ true
unfolding implies
each-may_erase_here c no_note = refl
each-may_erase_here c (local first joined) = refl
each-may_erase_here c (up_read first joined) = refl
each-may_erase_here c (up_erase d) = refl

each-may_erase_above : (c : ℕ) (note : Note) → each_state (may_erase_above c) note ≡ true
unfolding implies
each-may_erase_above c no_note = refl
each-may_erase_above c (local first joined) = refl
each-may_erase_above c (up_read first joined) = refl
each-may_erase_above c (up_erase d) = refl

-- the child whose erase was granted
abbrev erasing : ChildFace
erasing = child_seen Hold.Shared false true 0 false

erasing-fits : (c : ℕ) → fits (up_erase c) c erasing ≡ true
unfolding implies
erasing-fits c = nat_eq-same c

module _ (n c x : ℕ) (above : Stamp) (p : DirValue) (ns : List Node) (bus : IsBusOk n p ns) (kids : AllByRecursion (IsChildOk n) ns) (asks : child_request (child_at c ns) ≡ Some (record { kind = EraseTx; item = x })) (free : pending x p ≡ None) (room : first_given (other_full c x) 0 ns ≡ None) where
  there : c < length ns
  there = asks-there c ns _ asks

  granted : IsGranted n x (child_at c ns) Hold.Shared false true
  granted = child-erase-taken n x (child_at c ns) (all-kids_at (IsChildOk n) no_node ns c kids there) asks

  within : x < n
  within = granted.known

  quiet : IsQuiet x p
  quiet = quiet-from_pending x p free

  abbrev before : ParentFace
  before = parent_face x p

  abbrev k : Bits
  k = bits_of before (faces_of x ns)

  shared : (child_face x (child_at c ns)).hold ≡ Hold.Shared
  shared = ap (λ (f : ChildFace). f.hold) granted.was

  held : is_held (child_face x (child_at c ns)).hold ≡ true
  held = ap is_held shared

  none_exclusive : k.exclusive ≡ false
  none_exclusive = shared-all n x p ns bus kids within c there held (ap is_exclusive shared)

  or-right : (a b : Bool) → b ≡ true → (a || b) ≡ true
  or-right true b e = refl
  or-right false b e = e

  quiet-shared : quiet_shared before k ≡ true
  quiet-shared =
      both_true (ap is_no_note quiet.note) (both_true (ap not quiet.answering) (both_true (ap not quiet.queue)
      (both_true (or-right before.parked _ (somebody n x p ns bus kids within c there held)) (both_true (ap not (not-parked n x p ns bus kids within c there held)) (ap not none_exclusive)))))

  abbrev s : Stamp
  s = stamp_of (counted p)

  abbrev ms : List Node
  ms = map_from (erased_by c x s) 0 ns

  abbrev after : ℕ → ChildFace
  after i = if nat_eq i c then erasing else idle_of Hold.Invalid

  unread : (note : Note) → note ≡ no_note → (i : ℕ) → is_reader note i ≡ false
  unread note e i = ap (λ note. is_reader note i) e

  module _ (none : k.no_gift ≡ true) where
    told : (i : ℕ) → i < length ns → IsTold n x (child_at i ns) (child_at i ms) (after i)
    told i l = subst (λ m. IsTold n x (child_at i ns) m (after i)) (sym (child_at-map_from (erased_by c x s) i ns l)) (at (ℕ_discrete i c)) where
      here : IsTold n x (child_at c ns) (child_request_taken (child_at c ns)) erasing
      here =
          let gives = gives-at n x p ns bus kids within none c there in
          let same : child_seen Hold.Shared false true (child_face x (child_at c ns)).replies (child_face x (child_at c ns)).answers ≡ erasing = rw (gives.0, gives.1) refl in
          subst (λ f. IsTold n x (child_at c ns) (child_request_taken (child_at c ns)) f) same granted.told

      lost : i ≢ c → IsTold n x (child_at i ns) (child_lose x s (child_at i ns)) (idle_of Hold.Invalid)
      lost other =
          let gives = gives-at n x p ns bus kids within none i l in
          let reads = not-reads n x p ns bus kids within i l (unread before.note quiet.note i) in
          let full : child_full_for EraseTx x (child_at i ns) ≡ None = rw (ne_eqb i c other) at (none-given (other_full c x) i ns no_node room l) in
          subst (λ f. IsTold n x (child_at i ns) (child_lose x s (child_at i ns)) f) (lost-idle (child_face x (child_at i ns)) (granted-at n x p ns bus kids within i l) reads gives.0 gives.1)
          (child-lose n x within s (child_at i ns) (kid-ok n x p ns bus kids within i l) (none-exclusive n x p ns bus kids within none_exclusive i l) gives.0 full)

      at : Dec (i ≡ c) → IsTold n x (child_at i ns) (erased_by c x s i (child_at i ns)) (after i)
      at (yes same) =
          let is : nat_eq i c ≡ true = eq-eqb i c same in
          rw is (subst (λ j. IsTold n x (child_at j ns) (child_request_taken (child_at j ns)) erasing) (sym same) here)
      at (no other) =
          let is : nat_eq i c ≡ false = ne_eqb i c other in
          rw is (lost other)

    as_many : length ms ≡ length ns
    as_many = map_from-length (erased_by c x s) 0 ns

    still_there : c < length ms
    still_there = subst (λ k. c < k) (sym as_many) there

    here-after : child_face x (child_at c ms) ≡ erasing
    here-after = (told c there).here ∙ ap (λ b. if◌then◌else◌ b erasing (idle_of Hold.Invalid)) (nat_eq-same c)

    others-after : (i : ℕ) → i < length ms → i ≢ c → child_face x (child_at i ms) ≡ idle_of Hold.Invalid
    others-after i l ne = (told i (omega (arith, l, as_many))).here ∙ ap (λ b. if◌then◌else◌ b erasing (idle_of Hold.Invalid)) (ne_eqb i c ne)

    bits-after : (f : ParentFace) → f.note ≡ up_erase c → f.parked ≡ before.parked → bits_of f (faces_of x ms) ≡ one_shared
    bits-after f note parked =
        lone-bits x f ms c still_there erasing here-after others-after (parked ∙ not-parked n x p ns bus kids within c there held) refl
        (subst (λ note. fits note c erasing ≡ true) (sym note) (erasing-fits c))
        (no-readers x f.note ms (λ i. ap (λ note. is_reader note i) note))
        (subst (λ note. eraser_is_granted note (faces_of x ms) ≡ true) (sym note) (passes-true (child_face x) no_node may_erase ms c still_there (ap may_erase here-after)))

  module _ (answer : TurnAnswer) where
    counted-noted : IsModified n (length ns) x p (with_note x (up_erase c) (counted p)) (record before { note = up_erase c })
    counted-noted = noted n (length ns) x within p _ _ (takes_count n (length ns) x within p p before (as-it-was n (length ns) x within p (dir-parts n (length ns) p bus.own))) (up_erase c) (lt-test c (length ns) there)

    here-keeps : is_exclusive (dir_hold x p) ≡ true → erase_list_full above c x p ns true ≡ None → KeepsBus n above p ns (record { answer = answer; parent = erase_noted above c x p ns true; kids = ms })
    here-keeps exclusive place =
        let h = implies-use (quiet_shared before k && is_exclusive before.hold) _ (state-at (may_erase_here c) (each-may_erase_here c) before (faces_of x ns) (bus.rules x within)) (both_true quiet-shared exclusive) in
        let a = and_parts k.no_gift _ h in
        keeps-top n x above p (erase_noted above c x p ns true) ns ms (erasing_here c before) one_shared
        (record {
          bus = bus;
          known = within;
          as_many = as_many a.0;
          after = after;
          told = told a.0;
          parent = pushes_down n (length ns) x within p _ _ counted-noted ExclusiveTx (blank p.sizes.width) above (some_if-none (down_full p) _ place) (λ _. blank-zero p.sizes.width);
          bits = bits-after a.0 (erasing_here c before) refl refl;
          reserved = refl;
          replies = refl;
        })
        a.1
        (λ zero top exclusive quiet. top-pushed _ (top-noted (counted p) (top-counted p top) x (up_erase c) exclusive quiet) ExclusiveTx x (blank p.sizes.width) above zero)
        answer

    above-keeps : is_exclusive (dir_hold x p) ≡ false → erase_list_full above c x p ns false ≡ None → KeepsBus n above p ns (record { answer = answer; parent = erase_noted above c x p ns false; kids = ms })
    above-keeps shared place =
        let h = implies-use (quiet_shared before k && not (is_exclusive before.hold)) _ (state-at (may_erase_above c) (each-may_erase_above c) before (faces_of x ns) (bus.rules x within)) (both_true quiet-shared (ap not shared)) in
        let a = and_parts k.no_gift _ h in
        keeps-never n x above p (erase_noted above c x p ns false) ns ms (erasing_above c before) one_shared
        (record {
          bus = bus;
          known = within;
          as_many = as_many a.0;
          after = after;
          told = told a.0;
          parent = pushes_request n (length ns) x within p _ _ counted-noted EraseTx (some_if-none (requests_full p) _ place);
          bits = bits-after a.0 (erasing_above c before) refl refl;
          reserved = refl;
          replies = refl;
        })
        a.1
        answer

    pub request_erase-keeps : erase_list_full above c x p ns (is_exclusive (dir_hold x p)) ≡ None → KeepsBus n above p ns (record { answer = answer; parent = erase_noted above c x p ns (is_exclusive (dir_hold x p)); kids = ms })
    request_erase-keeps place = at (is_exclusive (dir_hold x p)) refl place where
      at : (b : Bool) → is_exclusive (dir_hold x p) ≡ b → erase_list_full above c x p ns b ≡ None → KeepsBus n above p ns (record { answer = answer; parent = erase_noted above c x p ns b; kids = ms })
      at true is place = here-keeps is place
      at false is place = above-keeps is place
