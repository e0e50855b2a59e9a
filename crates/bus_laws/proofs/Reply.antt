-- A reply is granted: every reader is told data, or it goes up from a parent that is answering.
-- Letters: c is the child that replies, x the item, k the bits before, q the parent after, ms and qs the children after.
use Rattle.std.proofs.Common.{◌≡◌, ◌≢◌, ℕ, ◌+◌, ◌-◌, ◌<◌, ◌≤◌, Bool, true, false, List, [], ◌∷◌, length, Some, None, refl, sym, ap, subst, ◌∙◌, arith, length-append}
use Rattle.std.specs.Prelude.{not, ◌&&◌, ◌||◌, nat_eq, if◌then◌else◌}
use Rattle.std.specs.List.{AllByRecursion}
use native.Mathlib.Decide.{ℕ_discrete}
use Rattle.std.specs.Cmp.Derive.{both_true}
use Rattle.std.proofs.lemmas.Bool.{and_parts, eqb-true, eq-eqb, ne_eqb}
use Rattle.bus_laws.specs.DdmTypes.declared.answers.TxKind.TheVariants.{DataTx}
use Rattle.bus_laws.specs.DdmTypes.declared.answers.TurnAnswer.{TurnAnswer}
use Rattle.bus_laws.specs.DdmTypes.declared.sizes.Hold.{Hold}
use Rattle.bus_laws.specs.DdmTypes.declared.keys.Stamp.{Stamp}
use Rattle.bus_laws.specs.TreeModel.State.Lists.{map_from, first_given}
use Rattle.bus_laws.specs.TreeModel.State.States.{is_held, is_exclusive, is_shared}
use Rattle.bus_laws.specs.TreeModel.State.Values.{Note, no_note, local, up_read, up_erase, DirValue, Node}
use Rattle.bus_laws.specs.TreeModel.State.Leaf.{words_of_item}
use Rattle.bus_laws.specs.TreeModel.State.Directory.{dir_note, is_answering, is_reader, is_eraser, is_local, stamp_of, with_note, with_hold, with_answering, pushed_reply, counted, replies_full}
use Rattle.bus_laws.specs.TreeModel.State.Child.{child_reply, child_reply_taken, child_take_data, child_full_for}
use Rattle.bus_laws.specs.TreeModel.State.Blank.{no_node}
use Rattle.bus_laws.specs.TreeModel.Turns.Children.{child_at, only, reader_full, replied_by}
use Rattle.bus_laws.specs.TreeModel.Turns.Grant.{own_replies_full}
use Rattle.bus_laws.proofs.TreeModel.Children.{map_from-length, child_at-map_from, none-given}
use Rattle.bus_laws.proofs.TreeModel.Tests.{some_if-none}
use Rattle.tree_rules.specs.Bus.Faces.{ChildFace, ParentFace, parent_face, face_reads, face_erases, face_above, child_face, faces_of}
use Rattle.tree_rules.specs.Bus.Item.{implies, holds_it, holds_exclusive, gives_none, has_reply, granted_fits, reader_is_granted, reader_is_noted, eraser_is_noted, may_erase, Bits, bits_of, item_holds, kept_place}
use Rattle.tree_rules.specs.Bus.Rules.{IsBusOk, IsChildOk}
use Rattle.tree_rules.proofs.Implying.{implies-use}
use Rattle.bus_laws.specs.KeepsBus.{KeepsBus, having_answered, dir_face}
use Rattle.bus_laws.proofs.Every.{every_bool, every_bool-at}
use Rattle.bus_laws.proofs.States.{bits, each_state, state-at}
use Rattle.bus_laws.proofs.BitsOf.{any-same, sole-same, from-same, eraser-same, all-true, gift-none, gift-at, gift-others}
use Rattle.bus_laws.proofs.ItemLists.{words-pushed}
use Rattle.bus_laws.proofs.DirParts.{dir-parts, child_seen, is_seen, seen-is}
use Rattle.bus_laws.proofs.Calls.{child-take_data, IsReplied, child-reply-taken}
use Rattle.bus_laws.proofs.Parents.{IsModified, as-it-was, takes_count, noted, held, answers, pushes_reply}
use Rattle.bus_laws.proofs.TopParent.{top-counted, top-noted}
use Rattle.bus_laws.proofs.Before.{idle_of, gives-nothing, seen-as, shared-is, kid-ok, granted-at, giver-at, not-reads, not-erases, reader-at, reads-absent, none-exclusive, gives-at, reads-at, erases-at}
use Rattle.bus_laws.proofs.OneChild.{replies-there, not-parked, shared-all, one_after, one-told, one-many, one-here, one-other}
use Rattle.bus_laws.proofs.RowFrame.{all-kids_at, fits, rules-after, row-keeps}
use Rattle.bus_laws.proofs.RowChecks.{done_top, never_top, keeps-top, rules-by, never-top}
use Rattle.bus_laws.proofs.Shapes.{quiet_children, quiet-bits}
use Rattle.bus_laws.proofs.Told.{IsTold}

-- ---- what is computed

-- the parent after it
abbrev served : ParentFace → ParentFace
served p = record p { note = no_note }

-- what is known before it and kept after it
abbrev may_serve : ParentFace → Bits → Bool
may_serve p k = implies (is_local p.note && (not k.exclusive && not p.parked)) (k.one_gift && (k.readers && every_bool (λ sole. done_top p (served p) k (quiet_children sole))))

each-may_serve : (note : Note) → each_state may_serve note ≡ true
unfolding implies
each-may_serve no_note = refl
each-may_serve (local first joined) = refl
each-may_serve (up_read first joined) = refl
each-may_serve (up_erase d) = refl

-- the parent after the reply went up
abbrev answered : ParentFace → ParentFace
answered p = record p { hold = Hold.Shared; answering = false }

-- the same bits, and nobody gives
abbrev ungiving : Bits → Bits
ungiving k = bits k.held k.sole k.exclusive false true k.readers k.eraser

-- what is known before it and kept after it
abbrev may_pass_up : ParentFace → Bits → Bool
may_pass_up p k =
    implies (p.answering && (not (is_local p.note) && (not k.no_gift && not k.exclusive)))
    (k.one_gift && (is_held p.hold && (nat_eq (kept_place (answered p)) (kept_place p) && (never_top p k && (item_holds (answered p) (ungiving k) && is_seen (answered p) Hold.Shared (face_reads p) (face_erases p) false)))))

each-may_pass_up : (note : Note) → each_state may_pass_up note ≡ true
unfolding implies
each-may_pass_up no_note = refl
each-may_pass_up (local first joined) = refl
each-may_pass_up (up_read first joined) = refl
each-may_pass_up (up_erase d) = refl

-- ---- the child that replies

module _ (n c x : ℕ) (words : List ℕ) (above : Stamp) (p : DirValue) (ns : List Node) (bus : IsBusOk n p ns) (kids : AllByRecursion (IsChildOk n) ns) (has : child_reply (child_at c ns) ≡ Some (record { item = x; words = words })) where
  there : c < length ns
  there = replies-there c ns _ has

  replied : IsReplied n x (child_at c ns)
  replied = child-reply-taken n x words (child_at c ns) (all-kids_at (IsChildOk n) no_node ns c kids there) has

  within : x < n
  within = replied.known

  abbrev before : ParentFace
  before = parent_face x p

  abbrev k : Bits
  k = bits_of before (faces_of x ns)

  abbrev giver : ChildFace
  giver = child_face x (child_at c ns)

  reply-there : (r : ℕ) → 1 ≤ r → nat_eq r 0 ≡ false
  reply-there r l = ne_eqb r 0 (λ e. omega (arith, e))

  and-false-right : (b : Bool) → (b && false) ≡ false
  and-false-right true = refl
  and-false-right false = refl

  gives : gives_none giver ≡ false
  gives = ap (λ b. not giver.answers && b) (reply-there giver.replies replied.some) ∙ and-false-right (not giver.answers)

  shared : giver.hold ≡ Hold.Shared
  shared =
      let parts = and_parts (implies giver.answers (holds_it giver)) (implies (has_reply giver) (is_shared giver.hold)) (giver-at n x p ns bus kids within c there) in
      shared-is giver.hold (implies-use (has_reply giver) (is_shared giver.hold) parts.1 (ap not (reply-there giver.replies replied.some)))

  holds : is_held giver.hold ≡ true
  holds = ap is_held shared

  no_exclusive : k.exclusive ≡ false
  no_exclusive = shared-all n x p ns bus kids within c there holds (ap is_exclusive shared)

  gives-some : k.no_gift ≡ false
  gives-some = at k.no_gift refl where
    at : (b : Bool) → k.no_gift ≡ b → b ≡ false
    at true none = let g = gives-at n x p ns bus kids within none c there in let some = replied.some in absurd (omega (arith, g.1, some))
    at false none = refl

  module _ (one : k.one_gift ≡ true) where
    once-by : (a : Bool) (r : ℕ) → 1 ≤ r → (if◌then◌else◌ a (nat_eq r 0) (nat_eq r 1)) ≡ true → (a ≡ false) × (r ≡ 1)
    once-by true r l e = let no = reply-there r l in cc
    once-by false r l e = (refl, eqb-true r 1 e)

    once : (giver.answers ≡ false) × (giver.replies ≡ 1)
    once = once-by giver.answers giver.replies replied.some (gift-at (child_face x) no_node ns c one there gives)

    others-give : (i : ℕ) → i < length ns → i ≢ c → ((child_face x (child_at i ns)).answers ≡ false) × ((child_face x (child_at i ns)).replies ≡ 0)
    others-give i l ne = gives-nothing (child_face x (child_at i ns)) (gift-others (child_face x) no_node ns c i one there gives l ne)

  -- ---- for the readers

  module _ (first joined : ℕ) (note : dir_note x p ≡ local first joined) (room : first_given (reader_full (local first joined) x) 0 ns ≡ None) (answer : TurnAnswer) where
    abbrev l : Note
    l = local first joined

    abbrev s : Stamp
    s = stamp_of (counted p)

    abbrev f : ℕ → Node → Node
    f = replied_by c l x words s

    abbrev ms : List Node
    ms = map_from f 0 ns

    checked : (k.one_gift && (k.readers && every_bool (λ sole. done_top before (served before) k (quiet_children sole)))) ≡ true
    checked = implies-use (is_local before.note && (not k.exclusive && not before.parked)) _ (state-at may_serve each-may_serve before (faces_of x ns) (bus.rules x within)) (both_true (ap is_local note) (both_true (ap not no_exclusive) (ap not (not-parked n x p ns bus kids within c there holds))))

    one : k.one_gift ≡ true
    one = (and_parts k.one_gift _ checked).0

    readers : k.readers ≡ true
    readers = (and_parts k.readers _ (and_parts k.one_gift _ checked).1).0

    is-reader : (i : ℕ) → is_reader l i ≡ is_reader before.note i
    is-reader i = ap (λ m. is_reader m i) (sym note)

    is-eraser : (i : ℕ) → is_eraser before.note i ≡ false
    is-eraser i = ap (λ m. is_eraser m i) note

    abbrev hold_after : ℕ → Hold
    hold_after i = if is_reader l i then Hold.Shared else (child_face x (child_at i ns)).hold

    -- the one that replies reads nothing
    giver-not_reader : is_reader l c ≡ false
    giver-not_reader = at (is_reader l c) refl where
      at : (b : Bool) → is_reader l c ≡ b → b ≡ false
      at true is =
          let reads = reader-at n x p ns bus kids within readers c there (sym (is-reader c) ∙ is) in
          let absent = reads-absent n x p ns bus kids within c there reads in
          let no : Hold.Invalid ≡ Hold.Shared = sym absent ∙ shared in
          cc
      at false is = refl

    giver-told : IsTold n x (child_at c ns) (child_reply_taken (child_at c ns)) (idle_of Hold.Shared)
    giver-told =
        let o = once one in
        let reads = not-reads n x p ns bus kids within c there (sym (is-reader c) ∙ giver-not_reader) in
        let erases = not-erases n x p ns bus kids within c there (is-eraser c) in
        let fewer : giver.replies - 1 ≡ 0 = omega (arith, o.1) in
        let same : (let g : ChildFace = record giver { replies = giver.replies - 1 } in g) ≡ idle_of Hold.Shared = rw (shared, reads, erases, o.0, fewer) refl in
        subst (λ g. IsTold n x (child_at c ns) (child_reply_taken (child_at c ns)) g) same replied.told

    told-at : (i : ℕ) → i < length ns → Dec (i ≡ c) → (b : Bool) → is_reader l i ≡ b → IsTold n x (child_at i ns) (f i (child_at i ns)) (idle_of (hold_after i))
    told-at i li (yes same) true is = let no : is_reader l i ≡ false = subst (λ j. is_reader l j ≡ false) (sym same) giver-not_reader in cc
    told-at i li (yes same) false is =
        let here : nat_eq i c ≡ true = eq-eqb i c same in
        rw (is, here) (subst (λ j. IsTold n x (child_at j ns) (child_reply_taken (child_at j ns)) (idle_of (child_face x (child_at j ns)).hold)) (sym same) (subst (λ h. IsTold n x (child_at c ns) (child_reply_taken (child_at c ns)) (idle_of h)) (sym shared) giver-told))
    told-at i li (no other) true is =
        let away : nat_eq i c ≡ false = ne_eqb i c other in
        let o = others-give one i li other in
        let reads = reader-at n x p ns bus kids within readers i li (sym (is-reader i) ∙ is) in
        let full : child_full_for DataTx x (child_at i ns) ≡ None = rw is at (none-given (reader_full l x) i ns no_node room li) in
        let t = child-take_data n x within words s (child_at i ns) (kid-ok n x p ns bus kids within i li) reads full in
        let same : child_seen Hold.Shared false false (child_face x (child_at i ns)).replies (child_face x (child_at i ns)).answers ≡ idle_of Hold.Shared = rw (o.0, o.1) refl in
        rw (is, away) (subst (λ g. IsTold n x (child_at i ns) (child_take_data x words s (child_at i ns)) g) same t)
    told-at i li (no other) false is =
        let away : nat_eq i c ≡ false = ne_eqb i c other in
        let o = others-give one i li other in
        let reads = not-reads n x p ns bus kids within i li (sym (is-reader i) ∙ is) in
        let erases = not-erases n x p ns bus kids within i li (is-eraser i) in
        let same : child_face x (child_at i ns) ≡ idle_of (child_face x (child_at i ns)).hold = seen-as (child_face x (child_at i ns)) false false 0 false reads erases o.1 o.0 in
        rw (is, away) (record { ok = kid-ok n x p ns bus kids within i li; here = same; others = λ y ne. refl })

    told : (i : ℕ) → i < length ns → IsTold n x (child_at i ns) (child_at i ms) (idle_of (hold_after i))
    told i li = subst (λ m. IsTold n x (child_at i ns) m (idle_of (hold_after i))) (sym (child_at-map_from f i ns li)) (told-at i li (ℕ_discrete i c) (is_reader l i) refl)

    as_many : length ms ≡ length ns
    as_many = map_from-length f 0 ns

    shared-after : (i : ℕ) → i < length ms → is_exclusive (hold_after i) ≡ false
    shared-after i li = at (is_reader l i) where
      at : (b : Bool) → is_exclusive (if◌then◌else◌ b Hold.Shared (child_face x (child_at i ns)).hold) ≡ false
      at true = refl
      at false = none-exclusive n x p ns bus kids within no_exclusive i (omega (arith, li, as_many))

    held-after : is_held (hold_after c) ≡ true
    held-after = ap (λ b. is_held (if◌then◌else◌ b Hold.Shared giver.hold)) giver-not_reader ∙ holds

    bits-after : bits_of (served before) (faces_of x ms) ≡ quiet_children (bits_of (served before) (faces_of x ms)).sole
    bits-after = quiet-bits x (served before) ms hold_after (λ i li. (told i (omega (arith, li, as_many))).here) shared-after refl c (omega (arith, there, as_many)) held-after

    pub reply_to_readers-keeps : KeepsBus n above p ns (record { answer = answer; parent = with_note x no_note (counted p); kids = ms })
    reply_to_readers-keeps =
        let sole = (bits_of (served before) (faces_of x ms)).sole in
        let more = and_parts k.readers _ (and_parts k.one_gift _ checked).1 in
        keeps-top n x above p (with_note x no_note (counted p)) ns ms (served before) (quiet_children sole)
        (record {
          bus = bus;
          known = within;
          as_many = as_many;
          after = λ i. idle_of (hold_after i);
          told = told;
          parent = noted n (length ns) x within p _ _ (takes_count n (length ns) x within p p before (as-it-was n (length ns) x within p (dir-parts n (length ns) p bus.own))) no_note refl;
          bits = bits-after;
          reserved = refl;
          replies = refl;
        })
        (every_bool-at (λ sole. done_top before (served before) k (quiet_children sole)) more.1 sole)
        (λ zero top exclusive quiet. top-noted (counted p) (top-counted p top) x no_note exclusive quiet)
        answer

  -- ---- for the parent, which was answering

  module _ (other : is_local (dir_note x p) ≡ false) (asked : is_answering x p ≡ true) (room : own_replies_full p ≡ None) (answer : TurnAnswer) where
    abbrev q : DirValue
    q = pushed_reply x words (with_answering x false (with_hold x Hold.Shared (counted p)))

    abbrev qs : List Node
    qs = map_from (only c child_reply_taken) 0 ns

    abbrev said : ChildFace
    said = record giver { replies = giver.replies - 1 }

    -- the same as facts
    record Known : Type 0 where
      one_gives : k.one_gift ≡ true
      parent_holds : is_held before.hold ≡ true
      kept : kept_place (answered before) ≡ kept_place before
      never : never_top before k ≡ true
      after_rules : item_holds (answered before) (ungiving k) ≡ true
      same : is_seen (answered before) Hold.Shared (face_reads before) (face_erases before) false ≡ true

    known : Known
    known =
        let h = implies-use (before.answering && (not (is_local before.note) && (not k.no_gift && not k.exclusive))) _ (state-at may_pass_up each-may_pass_up before (faces_of x ns) (bus.rules x within)) (both_true asked (both_true (ap not other) (both_true (ap not gives-some) (ap not no_exclusive)))) in
        let a = and_parts k.one_gift _ h in
        let b = and_parts (is_held before.hold) _ a.1 in
        let d = and_parts (nat_eq (kept_place (answered before)) (kept_place before)) _ b.1 in
        let e = and_parts (never_top before k) _ d.1 in
        let f = and_parts (item_holds (answered before) (ungiving k)) _ e.1 in
        record { one_gives = a.0; parent_holds = b.0; kept = eqb-true _ _ d.0; never = e.0; after_rules = f.0; same = f.1 }

    tells : (i : ℕ) → i < length ns → IsTold n x (child_at i ns) (child_at i qs) (one_after n x p ns bus kids within c child_reply_taken said replied.told i)
    tells = one-told n x p ns bus kids within c child_reply_taken said replied.told

    many : length qs ≡ length ns
    many = one-many n x p ns bus kids within c child_reply_taken said replied.told

    -- only how much it gives differs
    face-at : (i : ℕ) → i < length ns → Dec (i ≡ c) → (child_face x (child_at i qs) ≡ record (child_face x (child_at i ns)) { replies = 0; answers = false })
    face-at i l (yes same) = subst (λ j. child_face x (child_at j qs) ≡ record (child_face x (child_at j ns)) { replies = 0; answers = false }) (sym same) (one-here n x p ns bus kids within c child_reply_taken said replied.told there ∙ said-is) where
      said-is : said ≡ record giver { replies = 0; answers = false }
      said-is =
          let o = once known.one_gives in
          let fewer : giver.replies - 1 ≡ 0 = omega (arith, o.1) in
          rw (fewer, o.0) refl
    face-at i l (no ne) =
        let o = others-give known.one_gives i l ne in
        one-other n x p ns bus kids within c child_reply_taken said replied.told i l ne ∙ other-is (child_face x (child_at i ns)) o.0 o.1 where
          other-is : (g : ChildFace) → g.answers ≡ false → g.replies ≡ 0 → g ≡ record g { replies = 0; answers = false }
          other-is g a r = seen-as g g.reads g.erases 0 false refl refl r a

    face-after : (i : ℕ) → i < length ns → child_face x (child_at i qs) ≡ record (child_face x (child_at i ns)) { replies = 0; answers = false }
    face-after i l = face-at i l (ℕ_discrete i c)

    none-after : (i : ℕ) → i < length qs → gives_none (child_face x (child_at i qs)) ≡ true
    none-after i l = ap gives_none (face-after i (omega (arith, l, many)))

    ungiving-fits : (note : Note) (i : ℕ) (g : ChildFace) → granted_fits g ≡ true → reader_is_noted note i g ≡ true → eraser_is_noted note i g ≡ true → fits note i (record g { replies = 0; answers = false }) ≡ true
    unfolding implies
    ungiving-fits note i g granted reads erases = both_true granted (both_true refl (both_true reads erases))

    after-bits : bits_of (answered before) (faces_of x qs) ≡ ungiving k
    after-bits =
        let gives = all-true (child_face x) no_node gives_none qs none-after in
        rules-after x (answered before) qs (ungiving k)
        (λ i l.
        let li : i < length ns = omega (arith, l, many) in
        ap (fits before.note i) (face-after i li) ∙ ungiving-fits before.note i (child_face x (child_at i ns)) (granted-at n x p ns bus kids within i li) (reads-at n x p ns bus kids within i li) (erases-at n x p ns bus kids within i li))
        (ap (λ b. before.parked || b) (any-same (child_face x) no_node holds_it ns qs many (λ i l. ap holds_it (face-after i l))))
        (sole-same (child_face x) no_node before.parked ns qs many (λ i l. ap holds_it (face-after i l)))
        (any-same (child_face x) no_node holds_exclusive ns qs many (λ i l. ap holds_exclusive (face-after i l)))
        (gift-none (faces_of x qs) gives) gives
        (from-same (child_face x) no_node (reader_is_granted before.note) 0 ns qs many (λ i j l. ap (reader_is_granted before.note j) (face-after i l)))
        (eraser-same (child_face x) no_node before.note ns qs many (λ i l. ap may_erase (face-after i l)))

    modified : IsModified n (length ns) x p q (answered before)
    modified =
        let m1 = takes_count n (length ns) x within p p before (as-it-was n (length ns) x within p (dir-parts n (length ns) p bus.own)) in
        let m2 = held n (length ns) x within p _ _ m1 Hold.Shared in
        let m3 = answers n (length ns) x within p _ _ m2 false in
        pushes_reply n (length ns) x within p _ _ m3 words (some_if-none (replies_full p) _ room)

    one-more : length (words_of_item x q.replies) ≡ length (words_of_item x p.replies) + 1
    one-more = omega (arith, ap length (words-pushed x p.replies (record { item = x; words = words }) refl), length-append (words_of_item x p.replies) (words ∷ []))

    seen-after : dir_face x q ≡ child_seen Hold.Shared (face_reads before) (face_erases before) (length (words_of_item x q.replies)) false
    seen-after = ap (λ g. face_above g (length (words_of_item x q.replies))) modified.face ∙ seen-is (answered before) Hold.Shared (face_reads before) (face_erases before) false (length (words_of_item x q.replies)) known.same

    pub reply_to_parent-keeps : KeepsBus n above p ns (record { answer = answer; parent = q; kids = qs })
    reply_to_parent-keeps =
        row-keeps n x above p q ns qs (answered before) answer bus
        (record {
          known = within;
          as_many = many;
          after = one_after n x p ns bus kids within c child_reply_taken said replied.told;
          told = tells;
          parent = modified;
          rules = rules-by (answered before) x qs (ungiving k) after-bits known.after_rules;
          reserved = ap (λ k. p.reserved + k) (sym known.kept);
          seen = having_answered (record {
            was_answering = asked;
            held = known.parent_holds;
            answers_no_more = ap (λ (g : ChildFace). g.answers) seen-after;
            replies = ap (λ (g : ChildFace). g.replies) seen-after ∙ one-more;
            holds_shared = ap (λ (g : ChildFace). g.hold) seen-after;
            reads = ap (λ (g : ChildFace). g.reads) seen-after;
            erases = ap (λ (g : ChildFace). g.erases) seen-after;
          });
          top = never-top n x above p q ns qs (answered before) known.never;
        })
