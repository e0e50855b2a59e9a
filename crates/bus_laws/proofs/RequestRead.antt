-- A request to read is granted: it joins a read that is under way, another child or the parked copy answers it, or it goes up.
-- Letters: c is the child that asks, d the one that answers, x the item, k the bits before, ms and qs the children after.
use Rattle.std.proofs.Common.{◌≡◌, ◌≢◌, ℕ, ◌^◌, ◌<◌, Bool, true, false, List, [], ◌∷◌, ◌++◌, length, Some, None, refl, sym, ap, subst, ◌∙◌, arith}
use Rattle.std.specs.Prelude.{not, ◌&&◌, ◌||◌, nat_eq, if◌then◌else◌}
use Rattle.std.specs.List.{AllByRecursion, list_any, list_all}
use native.Mathlib.Decide.{ℕ_discrete}
use Rattle.std.specs.Cmp.Derive.{both_true}
use Rattle.std.proofs.lemmas.Bool.{and_parts, or_parts, eqb-true, eq-eqb, ne_eqb, not-true}
use Rattle.std.proofs.lemmas.Nat.{pow_pos}
use Rattle.bus_laws.specs.DdmTypes.declared.answers.TxKind.TheVariants.{ReadTx, DataTx}
use Rattle.bus_laws.specs.DdmTypes.declared.answers.TurnAnswer.{TurnAnswer}
use Rattle.bus_laws.specs.DdmTypes.declared.sizes.Hold.{Hold}
use Rattle.bus_laws.specs.DdmTypes.declared.keys.Stamp.{Stamp}
use Rattle.bus_laws.specs.TreeModel.State.Lists.{map_from, find_from, first_of, has_some, all_from}
use Rattle.bus_laws.specs.TreeModel.State.States.{is_held, is_exclusive}
use Rattle.bus_laws.specs.TreeModel.State.Values.{Note, no_note, local, up_read, up_erase, DirValue, Node}
use Rattle.bus_laws.specs.TreeModel.State.Leaf.{words_of_item}
use Rattle.bus_laws.specs.TreeModel.State.Directory.{dir_hold, is_reader, is_eraser, in_set, stamp_of, with_note, counted, pending, down_full, requests_full, parked_words, pushed_down, pushed_request, without_parked}
use Rattle.bus_laws.specs.TreeModel.State.Child.{child_request, child_request_taken, child_answer, child_full_for, child_holds}
use Rattle.bus_laws.specs.TreeModel.State.Blank.{no_node}
use Rattle.bus_laws.specs.TreeModel.Turns.Children.{child_at, other_holds, only, read_from}
use Rattle.bus_laws.specs.TreeModel.Turns.Grant.{own_down_full, own_requests_full}
use Rattle.bus_laws.proofs.TreeModel.Children.{map_from-length, child_at-map_from, found-passes, found-within, none-passes}
use Rattle.bus_laws.proofs.TreeModel.Sets.{in_set-empty}
use Rattle.bus_laws.proofs.TreeModel.Tests.{some_if-none}
use Rattle.tree_rules.specs.Bus.Faces.{ChildFace, ParentFace, parent_face, child_face, faces_of}
use Rattle.tree_rules.specs.Bus.Own.{note_fits, readers_fit}
use Rattle.tree_rules.specs.Bus.Item.{implies, holds_it, holds_exclusive, gives_none, gives_one, one_gives, reader_is_granted, eraser_is_granted, Bits, bits_of}
use Rattle.tree_rules.specs.Bus.Rules.{IsBusOk, IsChildOk}
use Rattle.tree_rules.proofs.Implying.{implies-use, implies-by}
use Rattle.bus_laws.specs.KeepsBus.{KeepsBus}
use Rattle.bus_laws.proofs.Every.{every_bool, every_bool-at}
use Rattle.bus_laws.proofs.States.{bits, each_state, state-at}
use Rattle.bus_laws.proofs.BitsOf.{any-same, sole-same, any-false, all-at, each-true, gift-true}
use Rattle.bus_laws.proofs.ItemLists.{nat_eq-same}
use Rattle.bus_laws.proofs.DirParts.{dir-parts, child_seen, is_no_note, lt-test}
use Rattle.bus_laws.proofs.DirGives.{IsQuiet, quiet-from_pending}
use Rattle.bus_laws.proofs.Calls.{child-answer, face_answers, IsGranted, child-read-taken}
use Rattle.bus_laws.proofs.Parents.{IsModified, as-it-was, takes_count, noted, unparks, pushes_down, pushes_request}
use Rattle.bus_laws.proofs.TopParent.{top-counted, top-noted}
use Rattle.bus_laws.proofs.Before.{idle_of, not-held, kid-ok, granted-at, idle-at, gives-at, none-held}
use Rattle.bus_laws.proofs.OneChild.{asks-there, untouched, one_after, one-told, one-many, one-here, one-other}
use Rattle.bus_laws.proofs.Answering.{child-hold, IsAnswer, is-answer, exclusive-before}
use Rattle.bus_laws.proofs.RowFrame.{all-kids_at, fits, rules-after}
use Rattle.bus_laws.proofs.RowChecks.{done_never, done_top, RowFound, keeps-never, keeps-top}
use Rattle.bus_laws.proofs.Shapes.{nobody_holds, lone-bits}
use Rattle.bus_laws.proofs.Told.{IsTold}

-- ---- what is computed

-- the item is not pending
abbrev quiet : ParentFace → Bool
quiet p = is_no_note p.note && (not p.answering && not (has_some p.queue))

-- a child answers for child c
abbrev asking_child : ℕ → ParentFace → ParentFace
asking_child c p = record p { note = local c 0 }

-- the same bits, and one child answers
abbrev with_answer : Bits → Bool → Bits
with_answer k exclusive = bits k.held k.sole exclusive true false true true

-- what is known before it and kept after it
abbrev may_ask_child : ℕ → ParentFace → Bits → Bool
may_ask_child c p k = implies (quiet p && is_held p.hold) (k.no_gift && every_bool (λ exclusive. implies (implies exclusive k.exclusive) (done_top p (asking_child c p) k (with_answer k exclusive))))

each-may_ask_child : (c : ℕ) (note : Note) → each_state (may_ask_child c) note ≡ true
unfolding implies
each-may_ask_child c no_note = refl
each-may_ask_child c (local first joined) = refl
each-may_ask_child c (up_read first joined) = refl
each-may_ask_child c (up_erase d) = refl

-- the parent after the parked copy left
abbrev from_parking : ℕ → ParentFace → ParentFace
from_parking c p = record p { note = up_read c 0; parked = false; queue = p.queue ++ DataTx ∷ [] }

-- what is known before it and kept after it
abbrev may_unpark : ℕ → ParentFace → Bits → Bool
may_unpark c p k = implies (quiet p && (is_held p.hold && p.parked)) (k.no_gift && done_never p (from_parking c p) k nobody_holds)

each-may_unpark : (c : ℕ) (note : Note) → each_state (may_unpark c) note ≡ true
unfolding implies
each-may_unpark c no_note = refl
each-may_unpark c (local first joined) = refl
each-may_unpark c (up_read first joined) = refl
each-may_unpark c (up_erase d) = refl

-- the parent after the read went up
abbrev asking_above : ℕ → ParentFace → ParentFace
asking_above c p = record p { note = up_read c 0; requests = p.requests ++ ReadTx ∷ [] }

-- what is known before it and kept after it
abbrev may_ask_above : ℕ → ParentFace → Bits → Bool
may_ask_above c p k = implies (quiet p && not (is_held p.hold)) (k.no_gift && (not k.held && (not p.parked && done_never p (asking_above c p) k nobody_holds)))

each-may_ask_above : (c : ℕ) (note : Note) → each_state (may_ask_above c) note ≡ true
unfolding implies
each-may_ask_above c no_note = refl
each-may_ask_above c (local first joined) = refl
each-may_ask_above c (up_read first joined) = refl
each-may_ask_above c (up_erase d) = refl

-- ---- the reader

-- the child whose read was granted
abbrev reading : ChildFace
reading = child_seen Hold.Invalid true false 0 false

-- it alone reads
first-alone : (c i : ℕ) → (nat_eq i c || in_set i 0) ≡ nat_eq i c
first-alone c i = rw (in_set-empty i) (or-false (nat_eq i c)) where
  or-false : (b : Bool) → (b || false) ≡ b
  or-false true = refl
  or-false false = refl

reading-fits-local : (c : ℕ) → fits (local c 0) c reading ≡ true
unfolding implies
reading-fits-local c = rw (nat_eq-same c) refl

reading-fits-up : (c : ℕ) → fits (up_read c 0) c reading ≡ true
unfolding implies
reading-fits-up c = rw (nat_eq-same c) refl

idle-fits-local : (c i : ℕ) (h : Hold) → fits (local c 0) i (idle_of h) ≡ true
unfolding implies
idle-fits-local c i h = refl

module _ (n c x : ℕ) (above : Stamp) (p : DirValue) (ns : List Node) (bus : IsBusOk n p ns) (kids : AllByRecursion (IsChildOk n) ns) (asks : child_request (child_at c ns) ≡ Some (record { kind = ReadTx; item = x })) where
  pub there : c < length ns
  there = asks-there c ns _ asks

  pub granted : IsGranted n x (child_at c ns) Hold.Invalid true false
  granted = child-read-taken n x (child_at c ns) (all-kids_at (IsChildOk n) no_node ns c kids there) asks

  pub within : x < n
  within = granted.known

  abbrev before : ParentFace
  before = parent_face x p

  abbrev k : Bits
  k = bits_of before (faces_of x ns)

  module _ (free : pending x p ≡ None) where
    calm : IsQuiet x p
    calm = quiet-from_pending x p free

    quiet-before : quiet before ≡ true
    quiet-before = both_true (ap is_no_note calm.note) (both_true (ap not calm.answering) (ap not calm.queue))

    noted-counted : (note : Note) → note_fits (length ns) note ≡ true → IsModified n (length ns) x p (with_note x note (counted p)) (record before { note = note })
    noted-counted note fit = noted n (length ns) x within p _ _ (takes_count n (length ns) x within p p before (as-it-was n (length ns) x within p (dir-parts n (length ns) p bus.own))) note fit

    -- the note names child c alone
    first-fits : readers_fit (length ns) c 0 ≡ true
    first-fits = both_true (lt-test c (length ns) there) (both_true (lt-test 0 (2 ^ length ns) (pow_pos (length ns))) (ap not (in_set-empty c)))

    module _ (none : k.no_gift ≡ true) where
      -- everybody is idle
      idle-before : (i : ℕ) → i < length ns → child_face x (child_at i ns) ≡ idle_of (child_face x (child_at i ns)).hold
      idle-before i l = idle-at n x p ns bus kids within none i l (ap (λ note. is_reader note i) calm.note) (ap (λ note. is_eraser note i) calm.note)

      reader-told : IsTold n x (child_at c ns) (child_request_taken (child_at c ns)) reading
      reader-told =
          let gives = gives-at n x p ns bus kids within none c there in
          let same : child_seen Hold.Invalid true false (child_face x (child_at c ns)).replies (child_face x (child_at c ns)).answers ≡ reading = rw (gives.0, gives.1) refl in
          subst (λ f. IsTold n x (child_at c ns) (child_request_taken (child_at c ns)) f) same granted.told

      -- ---- the reader alone changes, and nobody holds the item

      module _ (absent : list_any holds_it (faces_of x ns) ≡ false) where
        abbrev ms : List Node
        ms = map_from (only c child_request_taken) 0 ns

        many : length ms ≡ length ns
        many = one-many n x p ns bus kids within c child_request_taken reading reader-told

        still_there : c < length ms
        still_there = subst (λ k. c < k) (sym many) there

        here-after : child_face x (child_at c ms) ≡ reading
        here-after = one-here n x p ns bus kids within c child_request_taken reading reader-told there

        others-after : (i : ℕ) → i < length ms → i ≢ c → child_face x (child_at i ms) ≡ idle_of Hold.Invalid
        others-after i l ne =
            let li : i < length ns = omega (arith, l, many) in
            one-other n x p ns bus kids within c child_request_taken reading reader-told i li ne ∙ (idle-before i li ∙ ap idle_of (not-held (child_face x (child_at i ns)).hold (none-held n x p ns bus kids within absent i li)))

        readers-after : all_from (reader_is_granted (up_read c 0)) 0 (faces_of x ms) ≡ true
        readers-after = each-true (child_face x) no_node (reader_is_granted (up_read c 0)) ms (λ i l. implies-by (is_reader (up_read c 0) i) (child_face x (child_at i ms)).reads (λ is.
            let same : i ≡ c = eqb-true i c (sym (first-alone c i) ∙ is) in
            subst (λ j. (child_face x (child_at j ms)).reads ≡ true) (sym same) (ap (λ (g : ChildFace). g.reads) here-after)))

        reader-bits : (f : ParentFace) → f.note ≡ up_read c 0 → f.parked ≡ false → bits_of f (faces_of x ms) ≡ nobody_holds
        reader-bits f note parked =
            lone-bits x f ms c still_there reading here-after others-after parked refl
            (subst (λ note. fits note c reading ≡ true) (sym note) (reading-fits-up c))
            (subst (λ note. all_from (reader_is_granted note) 0 (faces_of x ms) ≡ true) (sym note) readers-after)
            (subst (λ note. eraser_is_granted note (faces_of x ms) ≡ true) (sym note) refl)

        reader-found : (q : DirValue) (f : ParentFace) → IsModified n (length ns) x p q f → f.note ≡ up_read c 0 → f.parked ≡ false → q.reserved ≡ p.reserved → q.replies ≡ p.replies → RowFound n x above p q ns ms f nobody_holds
        reader-found q f parent note parked reserved replies = record {
          bus = bus;
          known = within;
          as_many = many;
          after = one_after n x p ns bus kids within c child_request_taken reading reader-told;
          told = one-told n x p ns bus kids within c child_request_taken reading reader-told;
          parent = parent;
          bits = reader-bits f note parked;
          reserved = reserved;
          replies = replies;
        }

    -- ---- it goes up

    pub read_of_parent-keeps : (answer : TurnAnswer) → is_held (dir_hold x p) ≡ false → own_requests_full p ≡ None → KeepsBus n above p ns (record { answer = answer; parent = pushed_request ReadTx x (with_note x (up_read c 0) (counted p)); kids = map_from (only c child_request_taken) 0 ns })
    read_of_parent-keeps answer absent room =
        let h = implies-use (quiet before && not (is_held before.hold)) _ (state-at (may_ask_above c) (each-may_ask_above c) before (faces_of x ns) (bus.rules x within)) (both_true quiet-before (ap not absent)) in
        let a = and_parts k.no_gift _ h in
        let b = and_parts (not k.held) _ a.1 in
        let d = and_parts (not before.parked) _ b.1 in
        let nobody : list_any holds_it (faces_of x ns) ≡ false = (or_parts before.parked (list_any holds_it (faces_of x ns)) (not-true _ b.0)).1 in
        keeps-never n x above p (pushed_request ReadTx x (with_note x (up_read c 0) (counted p))) ns _ (asking_above c before) nobody_holds
        (reader-found a.0 nobody _ _ (pushes_request n (length ns) x within p _ _ (noted-counted (up_read c 0) first-fits) ReadTx (some_if-none (requests_full p) _ room)) refl (not-true _ d.0) refl refl)
        d.1
        answer

    -- ---- the parked copy answers

    pub read_of_parked-keeps : (answer : TurnAnswer) (words : List ℕ) → is_held (dir_hold x p) ≡ true → find_from (other_holds c x) 0 ns ≡ None → parked_words x p ≡ Some words → own_down_full p ≡ None → KeepsBus n above p ns (record { answer = answer; parent = pushed_down DataTx x words above (without_parked x (with_note x (up_read c 0) (counted p))); kids = map_from (only c child_request_taken) 0 ns })
    read_of_parked-keeps answer words held none parked room =
        let is_parked : before.parked ≡ true = first-some (words_of_item x p.parked) words parked in
        let h = implies-use (quiet before && (is_held before.hold && before.parked)) _ (state-at (may_unpark c) (each-may_unpark c) before (faces_of x ns) (bus.rules x within)) (both_true quiet-before (both_true held is_parked)) in
        let a = and_parts k.no_gift _ h in
        let nobody : list_any holds_it (faces_of x ns) ≡ false = any-false (child_face x) no_node holds_it ns (λ i l. absent i l none (ℕ_discrete i c)) in
        keeps-never n x above p (pushed_down DataTx x words above (without_parked x (with_note x (up_read c 0) (counted p)))) ns _ (from_parking c before) nobody_holds
        (reader-found a.0 nobody _ _ (pushes_down n (length ns) x within p _ _ (unparks n (length ns) x within p _ _ (noted-counted (up_read c 0) first-fits)) DataTx words above (some_if-none (down_full p) _ room) (λ e. cc)) refl refl refl refl)
        a.1
        answer
      where
        first-some : (ws : List (List ℕ)) (words : List ℕ) → first_of ws ≡ Some words → has_some ws ≡ true
        first-some [] words e = cc
        first-some (w ∷ ws) words e = refl

        absent : (i : ℕ) → i < length ns → find_from (other_holds c x) 0 ns ≡ None → Dec (i ≡ c) → is_held (child_face x (child_at i ns)).hold ≡ false
        absent i l none (yes same) = subst (λ j. is_held (child_face x (child_at j ns)).hold ≡ false) (sym same) (ap (λ (f : ChildFace). is_held f.hold) granted.was)
        absent i l none (no other) =
            let fails : other_holds c x i (child_at i ns) ≡ false = none-passes (other_holds c x) i ns no_node none l in
            let away : nat_eq i c ≡ false = ne_eqb i c other in
            let not_holding : child_holds x (child_at i ns) ≡ false = rw away at fails in
            ap is_held (sym (child-hold x (child_at i ns))) ∙ not_holding

    -- ---- another child answers

    module _ (d : ℕ) (held : is_held (dir_hold x p) ≡ true) (found : find_from (other_holds c x) 0 ns ≡ Some d) (room : child_full_for ReadTx x (child_at d ns) ≡ None) (answer : TurnAnswer) where
      abbrev s : Stamp
      s = stamp_of (counted p)

      abbrev qs : List Node
      qs = map_from (read_from c d x s) 0 ns

      there_d : d < length ns
      there_d = found-within (other_holds c x) d ns no_node found

      passes : (not (nat_eq d c) && child_holds x (child_at d ns)) ≡ true
      passes = found-passes (other_holds c x) d ns no_node found

      other_d : nat_eq d c ≡ false
      other_d = not-true _ (and_parts (not (nat_eq d c)) (child_holds x (child_at d ns)) passes).0

      holds_d : is_held (child_face x (child_at d ns)).hold ≡ true
      holds_d = ap is_held (sym (child-hold x (child_at d ns))) ∙ (and_parts (not (nat_eq d c)) (child_holds x (child_at d ns)) passes).1

      checked : (k.no_gift && every_bool (λ exclusive. implies (implies exclusive k.exclusive) (done_top before (asking_child c before) k (with_answer k exclusive)))) ≡ true
      checked = implies-use (quiet before && is_held before.hold) _ (state-at (may_ask_child c) (each-may_ask_child c) before (faces_of x ns) (bus.rules x within)) (both_true quiet-before held)

      none : k.no_gift ≡ true
      none = (and_parts k.no_gift _ checked).0

      abbrev g : ChildFace
      g = face_answers n x within (child_at d ns) (child_face x (child_at d ns))

      gives_d : ((child_face x (child_at d ns)).answers ≡ false) × ((child_face x (child_at d ns)).replies ≡ 0)
      gives_d = gives-at n x p ns bus kids within none d there_d

      a : IsAnswer (child_face x (child_at d ns)) g
      a = is-answer x n within (child_at d ns) holds_d gives_d.0 gives_d.1 (granted-at n x p ns bus kids within d there_d)

      answer-told : IsTold n x (child_at d ns) (child_answer x s (child_at d ns)) g
      answer-told = child-answer n x within s (child_at d ns) (kid-ok n x p ns bus kids within d there_d) holds_d gives_d.0 room

      abbrev after : ℕ → ChildFace
      after i = if nat_eq i c then reading else (if nat_eq i d then g else child_face x (child_at i ns))

      told-at : (i : ℕ) → i < length ns → Dec (i ≡ c) → Dec (i ≡ d) → IsTold n x (child_at i ns) (read_from c d x s i (child_at i ns)) (after i)
      told-at i l (yes same) e =
          let is : nat_eq i c ≡ true = eq-eqb i c same in
          rw is (subst (λ j. IsTold n x (child_at j ns) (child_request_taken (child_at j ns)) reading) (sym same) (reader-told none))
      told-at i l (no ne) (yes same) =
          let away : nat_eq i c ≡ false = ne_eqb i c ne in
          let is : nat_eq i d ≡ true = eq-eqb i d same in
          rw (away, is) (subst (λ j. IsTold n x (child_at j ns) (child_answer x s (child_at j ns)) g) (sym same) answer-told)
      told-at i l (no ne) (no nd) =
          let away : nat_eq i c ≡ false = ne_eqb i c ne in
          let off : nat_eq i d ≡ false = ne_eqb i d nd in
          rw (away, off) (untouched n x p ns bus kids i l within)

      told : (i : ℕ) → i < length ns → IsTold n x (child_at i ns) (child_at i qs) (after i)
      told i l = subst (λ m. IsTold n x (child_at i ns) m (after i)) (sym (child_at-map_from (read_from c d x s) i ns l)) (told-at i l (ℕ_discrete i c) (ℕ_discrete i d))

      as_many : length qs ≡ length ns
      as_many = map_from-length (read_from c d x s) 0 ns

      -- what is true of the reader, of the one that answers and of the others
      each-after : (P : ℕ → ChildFace → ChildFace → Type 0) → P c (child_face x (child_at c ns)) reading → P d (child_face x (child_at d ns)) g → ((i : ℕ) → i < length ns → i ≢ c → i ≢ d → P i (child_face x (child_at i ns)) (child_face x (child_at i ns))) → (i : ℕ) → i < length ns → P i (child_face x (child_at i ns)) (child_face x (child_at i qs))
      each-after P at_c at_d others i l = subst (P i (child_face x (child_at i ns))) (sym (told i l).here) (at (ℕ_discrete i c) (ℕ_discrete i d)) where
        at : Dec (i ≡ c) → Dec (i ≡ d) → P i (child_face x (child_at i ns)) (after i)
        at (yes same) e =
            let is : nat_eq i c ≡ true = eq-eqb i c same in
            rw is (subst (λ j. P j (child_face x (child_at j ns)) reading) (sym same) at_c)
        at (no ne) (yes same) =
            let away : nat_eq i c ≡ false = ne_eqb i c ne in
            let is : nat_eq i d ≡ true = eq-eqb i d same in
            rw (away, is) (subst (λ j. P j (child_face x (child_at j ns)) g) (sym same) at_d)
        at (no ne) (no nd) =
            let away : nat_eq i c ≡ false = ne_eqb i c ne in
            let off : nat_eq i d ≡ false = ne_eqb i d nd in
            rw (away, off) (others i l ne nd)

      absent_c : is_held (child_face x (child_at c ns)).hold ≡ false
      absent_c = ap (λ (f : ChildFace). is_held f.hold) granted.was

      not_exclusive_c : is_exclusive (child_face x (child_at c ns)).hold ≡ false
      not_exclusive_c = ap (λ (f : ChildFace). is_exclusive f.hold) granted.was

      holds-same : (i : ℕ) → i < length ns → holds_it (child_face x (child_at i qs)) ≡ holds_it (child_face x (child_at i ns))
      holds-same = each-after (λ i f h. holds_it h ≡ holds_it f) (sym absent_c) a.holds (λ i l ne nd. refl)

      exclusive-was : (i : ℕ) → i < length ns → is_exclusive (child_face x (child_at i qs)).hold ≡ true → is_exclusive (child_face x (child_at i ns)).hold ≡ true
      exclusive-was = each-after (λ i f h. is_exclusive h.hold ≡ true → is_exclusive f.hold ≡ true) (λ e. cc) a.exclusive (λ i l ne nd e. e)

      answer-fits : fits (local c 0) d g ≡ true
      answer-fits =
          let idle = idle-before none d there_d in
          let reads : g.reads ≡ false = a.reads ∙ ap (λ (f : ChildFace). f.reads) idle in
          let erases : g.erases ≡ false = a.erases ∙ ap (λ (f : ChildFace). f.erases) idle in
          both_true a.granted (both_true a.giver (both_true (implies-by g.reads (is_reader (local c 0) d) (λ e. cc)) (implies-by g.erases (is_eraser (local c 0) d) (λ e. cc))))

      fits-after : (i : ℕ) → i < length ns → fits (local c 0) i (child_face x (child_at i qs)) ≡ true
      fits-after = each-after (λ i f h. fits (local c 0) i h ≡ true) (reading-fits-local c) answer-fits (λ i l ne nd. ap (fits (local c 0) i) (idle-before none i l) ∙ idle-fits-local c i (child_face x (child_at i ns)).hold)

      reader-granted : (i : ℕ) → i < length ns → reader_is_granted (local c 0) i (child_face x (child_at i qs)) ≡ true
      reader-granted = each-after (λ i f h. reader_is_granted (local c 0) i h ≡ true) (implies-by (is_reader (local c 0) c) true (λ _. refl)) (implies-by (is_reader (local c 0) d) g.reads (λ is. let no : true ≡ false = sym is ∙ (first-alone c d ∙ other_d) in cc)) (λ i l ne nd. implies-by (is_reader (local c 0) i) (child_face x (child_at i ns)).reads (λ is. let no : true ≡ false = sym is ∙ (first-alone c i ∙ ne_eqb i c ne) in cc))

      gives-none : (i : ℕ) → i < length ns → i ≢ d → gives_none (child_face x (child_at i qs)) ≡ true
      gives-none = each-after (λ i f h. i ≢ d → gives_none h ≡ true) (λ nd. refl) (λ nd. absurd (nd refl)) (λ i l ne nd _. ap gives_none (idle-before none i l))

      d-after : child_face x (child_at d qs) ≡ g
      d-after = (told d there_d).here ∙ rw (other_d, nat_eq-same d) refl

      one-after : one_gives (faces_of x qs) ≡ true
      one-after = gift-true (child_face x) no_node qs d (omega (arith, there_d, as_many)) (ap gives_none d-after ∙ a.some) (ap gives_one d-after ∙ a.one) (λ i l nd. gives-none i (omega (arith, l, as_many)) nd)

      not-none : (b : Bool) → list_all gives_none (faces_of x qs) ≡ b → b ≡ false
      not-none true all = let gives = all-at (child_face x) no_node gives_none qs d all (omega (arith, there_d, as_many)) in let no : true ≡ false = sym gives ∙ (ap gives_none d-after ∙ a.some) in cc
      not-none false all = refl

      bits-after : bits_of (asking_child c before) (faces_of x qs) ≡ with_answer k (list_any holds_exclusive (faces_of x qs))
      bits-after =
          rules-after x (asking_child c before) qs (with_answer k (list_any holds_exclusive (faces_of x qs)))
          (λ i l. fits-after i (omega (arith, l, as_many)))
          (ap (λ b. before.parked || b) (any-same (child_face x) no_node holds_it ns qs as_many holds-same))
          (sole-same (child_face x) no_node before.parked ns qs as_many holds-same)
          refl one-after (not-none (list_all gives_none (faces_of x qs)) refl)
          (each-true (child_face x) no_node (reader_is_granted (local c 0)) qs (λ i l. reader-granted i (omega (arith, l, as_many))))
          refl

      pub read_of_child-keeps : KeepsBus n above p ns (record { answer = answer; parent = with_note x (local c 0) (counted p); kids = qs })
      read_of_child-keeps =
          let e = list_any holds_exclusive (faces_of x qs) in
          keeps-top n x above p (with_note x (local c 0) (counted p)) ns qs (asking_child c before) (with_answer k e)
          (record {
            bus = bus;
            known = within;
            as_many = as_many;
            after = after;
            told = told;
            parent = noted-counted (local c 0) first-fits;
            bits = bits-after;
            reserved = refl;
            replies = refl;
          })
          (implies-use (implies e k.exclusive) _ (every_bool-at (λ exclusive. implies (implies exclusive k.exclusive) (done_top before (asking_child c before) k (with_answer k exclusive))) (and_parts k.no_gift _ checked).1 e) (exclusive-before x ns qs as_many exclusive-was))
          (λ zero top exclusive calm. top-noted (counted p) (top-counted p top) x (local c 0) exclusive calm)
          answer
