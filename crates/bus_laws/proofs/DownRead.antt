-- A read comes down: the lowest child that holds the item is told to answer, or the parked copy answers.
-- Letters: d is the child that answers, x the item, k the bits before, q the parent after, ms the children after.
use Rattle.std.proofs.Common.{◌≡◌, ◌≢◌, ℕ, ◌+◌, ◌<◌, Bool, true, false, List, [], ◌∷◌, length, Some, None, refl, sym, ap, subst, ◌∙◌, arith, length-append}
use Rattle.std.specs.Prelude.{not, ◌&&◌, ◌||◌, nat_eq}
use Rattle.std.specs.List.{AllByRecursion, list_any, list_all}
use native.Mathlib.Decide.{ℕ_discrete}
use Rattle.std.specs.Cmp.Derive.{both_true}
use Rattle.std.proofs.lemmas.Bool.{and_parts, eqb-true}
use Rattle.bus_laws.specs.DdmTypes.declared.answers.TxKind.TheVariants.{ReadTx}
use Rattle.bus_laws.specs.DdmTypes.declared.answers.TurnAnswer.{TurnAnswer}
use Rattle.bus_laws.specs.DdmTypes.declared.sizes.Hold.{Hold}
use Rattle.bus_laws.specs.DdmTypes.declared.keys.Stamp.{Stamp}
use Rattle.bus_laws.specs.TreeModel.State.Lists.{map_from, find_from, first_of, has_some, rest_of}
use Rattle.bus_laws.specs.TreeModel.State.States.{is_held, is_exclusive}
use Rattle.bus_laws.specs.TreeModel.State.Values.{DownValue, Note, no_note, local, up_read, up_erase, DirValue, Node}
use Rattle.bus_laws.specs.TreeModel.State.Leaf.{words_of_item}
use Rattle.bus_laws.specs.TreeModel.State.Directory.{dir_note, is_reader, is_eraser, is_local, parked_words, replies_full, stamp_of, with_hold, with_answering, pushed_reply, front_taken}
use Rattle.bus_laws.specs.TreeModel.State.Child.{child_answer, child_full_for}
use Rattle.bus_laws.specs.TreeModel.State.Blank.{no_node}
use Rattle.bus_laws.specs.TreeModel.Turns.Children.{child_at, holds_item, only}
use Rattle.bus_laws.specs.TreeModel.Turns.Grant.{own_replies_full}
use Rattle.bus_laws.proofs.TreeModel.Children.{found-within, found-passes}
use Rattle.bus_laws.proofs.TreeModel.Tests.{some_if-none}
use Rattle.tree_rules.specs.Bus.Faces.{ChildFace, ParentFace, parent_face, face_reads, face_erases, face_above, child_face, faces_of}
use Rattle.tree_rules.specs.Bus.Item.{implies, holds_it, holds_exclusive, gives_none, gives_one, one_gives, reader_is_granted, may_erase, Bits, bits_of, item_holds, kept_place}
use Rattle.tree_rules.specs.Bus.Rules.{IsBusOk, IsChildOk}
use Rattle.tree_rules.proofs.Implying.{implies-use}
use Rattle.bus_laws.specs.KeepsBus.{KeepsBus, having_answered, dir_face}
use Rattle.bus_laws.proofs.Every.{every_bool, every_bool-at}
use Rattle.bus_laws.proofs.States.{bits, each_state, state-at}
use Rattle.bus_laws.proofs.BitsOf.{any-same, sole-same, from-same, eraser-same, all-at, gift-true}
use Rattle.bus_laws.proofs.ItemLists.{words-pushed}
use Rattle.bus_laws.proofs.DirParts.{dir-parts, child_seen, is_seen, seen-is, starts_with}
use Rattle.bus_laws.proofs.Calls.{child-answer, face_answers}
use Rattle.bus_laws.proofs.Parents.{IsModified, as-it-was, takes_front, held, answers, pushes_reply}
use Rattle.bus_laws.proofs.Before.{kid-ok, granted-at, giver-at, reads-at, erases-at, gives-at, entry-known, entry-starts}
use Rattle.bus_laws.proofs.OneChild.{untouched, one_after, one-told, one-many, one-here, one-other}
use Rattle.bus_laws.proofs.Answering.{child-hold, IsAnswer, is-answer, exclusive-before}
use Rattle.bus_laws.proofs.RowFrame.{fits, rules-after, row-keeps}
use Rattle.bus_laws.proofs.RowChecks.{done_never, never_top, rules-by, never-top, keeps-never}
use Rattle.bus_laws.proofs.Told.{IsTold}

-- ---- what is computed

-- the parent without the entry
abbrev taken : ParentFace → ParentFace
taken p = record p { queue = rest_of p.queue }

-- the same bits, and one child answers
abbrev with_answer : Bits → Bool → Bits
with_answer k exclusive = bits k.held k.sole exclusive true false k.readers k.eraser

-- what is known before it and kept after it
abbrev may_ask : ParentFace → Bits → Bool
may_ask p k = implies (starts_with ReadTx p.queue && not (is_local p.note)) (k.no_gift && every_bool (λ exclusive. implies (implies exclusive k.exclusive) (done_never p (taken p) k (with_answer k exclusive))))

each-may_ask : (note : Note) → each_state may_ask note ≡ true
unfolding implies
each-may_ask no_note = refl
each-may_ask (local first joined) = refl
each-may_ask (up_read first joined) = refl
each-may_ask (up_erase d) = refl

-- the parent after its parked copy answered
abbrev answered : ParentFace → ParentFace
answered p = record p { hold = Hold.Shared; answering = false; queue = rest_of p.queue }

-- what is known before it and kept after it
abbrev may_answer : ParentFace → Bits → Bool
may_answer p k =
    implies (starts_with ReadTx p.queue && (not (is_local p.note) && p.parked))
    (is_held p.hold && (p.answering && (nat_eq (kept_place (answered p)) (kept_place p) && (never_top p k && (item_holds (answered p) k && is_seen (answered p) Hold.Shared (face_reads p) (face_erases p) false)))))

each-may_answer : (note : Note) → each_state may_answer note ≡ true
unfolding implies
each-may_answer no_note = refl
each-may_answer (local first joined) = refl
each-may_answer (up_read first joined) = refl
each-may_answer (up_erase d) = refl

module _ (n : ℕ) (above : Stamp) (p : DirValue) (ns : List Node) (bus : IsBusOk n p ns) (kids : AllByRecursion (IsChildOk n) ns) (answer : TurnAnswer) (e : DownValue) (rest : List DownValue) (front : p.down ≡ e ∷ rest) (kind : e.kind ≡ ReadTx) (other : is_local (dir_note e.item p) ≡ false) where
  abbrev x : ℕ
  x = e.item

  within : x < n
  within = entry-known n x p ns bus e rest front

  abbrev before : ParentFace
  before = parent_face x p

  abbrev k : Bits
  k = bits_of before (faces_of x ns)

  abbrev s : Stamp
  s = stamp_of (front_taken e.stamp rest p)

  starts : starts_with ReadTx before.queue ≡ true
  starts = entry-starts n x p ns bus e rest front ReadTx kind refl

  front-taken : IsModified n (length ns) x p (front_taken e.stamp rest p) (taken before)
  front-taken = takes_front n (length ns) x within p p before (as-it-was n (length ns) x within p (dir-parts n (length ns) p bus.own)) e rest front refl

  -- ---- a child answers

  module _ (d : ℕ) (found : find_from (holds_item x) 0 ns ≡ Some d) (room : child_full_for ReadTx x (child_at d ns) ≡ None) where
    abbrev ms : List Node
    ms = map_from (only d (child_answer x s)) 0 ns

    there : d < length ns
    there = found-within (holds_item x) d ns no_node found

    abbrev old : ChildFace
    old = child_face x (child_at d ns)

    abbrev new : ChildFace
    new = face_answers n x within (child_at d ns) old

    holds : is_held old.hold ≡ true
    holds = ap is_held (sym (child-hold x (child_at d ns))) ∙ found-passes (holds_item x) d ns no_node found

    checked : (k.no_gift && every_bool (λ exclusive. implies (implies exclusive k.exclusive) (done_never before (taken before) k (with_answer k exclusive)))) ≡ true
    checked = implies-use (starts_with ReadTx before.queue && not (is_local before.note)) _ (state-at may_ask each-may_ask before (faces_of x ns) (bus.rules x within)) (both_true starts (ap not other))

    none : k.no_gift ≡ true
    none = (and_parts k.no_gift _ checked).0

    gives : (old.answers ≡ false) × (old.replies ≡ 0)
    gives = gives-at n x p ns bus kids within none d there

    a : IsAnswer old new
    a = is-answer x n within (child_at d ns) holds gives.0 gives.1 (granted-at n x p ns bus kids within d there)

    told : IsTold n x (child_at d ns) (child_answer x s (child_at d ns)) new
    told = child-answer n x within s (child_at d ns) (kid-ok n x p ns bus kids within d there) holds gives.0 room

    many : length ms ≡ length ns
    many = one-many n x p ns bus kids within d (child_answer x s) new told

    each-after : (P : ℕ → ChildFace → ChildFace → Type 0) → P d old new → ((i : ℕ) → i < length ns → i ≢ d → P i (child_face x (child_at i ns)) (child_face x (child_at i ns))) → (i : ℕ) → i < length ns → P i (child_face x (child_at i ns)) (child_face x (child_at i ms))
    each-after P at_d others i l = at (ℕ_discrete i d) where
      at : Dec (i ≡ d) → P i (child_face x (child_at i ns)) (child_face x (child_at i ms))
      at (yes same) = subst (λ j. P j (child_face x (child_at j ns)) (child_face x (child_at j ms))) (sym same) (subst (P d old) (sym (one-here n x p ns bus kids within d (child_answer x s) new told there)) at_d)
      at (no ne) = subst (P i (child_face x (child_at i ns))) (sym (one-other n x p ns bus kids within d (child_answer x s) new told i l ne)) (others i l ne)

    holds-same : (i : ℕ) → i < length ns → holds_it (child_face x (child_at i ms)) ≡ holds_it (child_face x (child_at i ns))
    holds-same = each-after (λ i f g. holds_it g ≡ holds_it f) a.holds (λ i l ne. refl)

    exclusive-was : (i : ℕ) → i < length ns → is_exclusive (child_face x (child_at i ms)).hold ≡ true → is_exclusive (child_face x (child_at i ns)).hold ≡ true
    exclusive-was = each-after (λ i f g. is_exclusive g.hold ≡ true → is_exclusive f.hold ≡ true) a.exclusive (λ i l ne e. e)

    reads-same : (i : ℕ) → i < length ns → (child_face x (child_at i ms)).reads ≡ (child_face x (child_at i ns)).reads
    reads-same = each-after (λ i f g. g.reads ≡ f.reads) a.reads (λ i l ne. refl)

    erases-same : (i : ℕ) → i < length ns → (child_face x (child_at i ms)).erases ≡ (child_face x (child_at i ns)).erases
    erases-same = each-after (λ i f g. g.erases ≡ f.erases) a.erases (λ i l ne. refl)

    may_erase-same : (i : ℕ) → i < length ns → may_erase (child_face x (child_at i ms)) ≡ may_erase (child_face x (child_at i ns))
    may_erase-same i l = ap (λ b. b && holds_it (child_face x (child_at i ms))) (erases-same i l) ∙ ap (λ b. (child_face x (child_at i ns)).erases && b) (holds-same i l)

    old-fits : (i : ℕ) → i < length ns → fits before.note i (child_face x (child_at i ns)) ≡ true
    old-fits i l = both_true (granted-at n x p ns bus kids within i l) (both_true (giver-at n x p ns bus kids within i l) (both_true (reads-at n x p ns bus kids within i l) (erases-at n x p ns bus kids within i l)))

    new-fits : fits before.note d new ≡ true
    new-fits = both_true a.granted (both_true a.giver (both_true (ap (λ b. implies b (is_reader before.note d)) a.reads ∙ reads-at n x p ns bus kids within d there) (ap (λ b. implies b (is_eraser before.note d)) a.erases ∙ erases-at n x p ns bus kids within d there)))

    fits-after : (i : ℕ) → i < length ns → fits before.note i (child_face x (child_at i ms)) ≡ true
    fits-after = each-after (λ i f g. fits before.note i g ≡ true) new-fits (λ i l ne. old-fits i l)

    gives-none : (i : ℕ) → i < length ns → i ≢ d → gives_none (child_face x (child_at i ms)) ≡ true
    gives-none = each-after (λ i f g. i ≢ d → gives_none g ≡ true) (λ ne. absurd (ne refl)) (λ i l ne _. all-at (child_face x) no_node gives_none ns i none l)

    d-after : child_face x (child_at d ms) ≡ new
    d-after = one-here n x p ns bus kids within d (child_answer x s) new told there

    one-after : one_gives (faces_of x ms) ≡ true
    one-after = gift-true (child_face x) no_node ms d (omega (arith, there, many)) (ap gives_none d-after ∙ a.some) (ap gives_one d-after ∙ a.one) (λ i l ne. gives-none i (omega (arith, l, many)) ne)

    not-none : (b : Bool) → list_all gives_none (faces_of x ms) ≡ b → b ≡ false
    not-none true all = let g = all-at (child_face x) no_node gives_none ms d all (omega (arith, there, many)) in let no : true ≡ false = sym g ∙ (ap gives_none d-after ∙ a.some) in cc
    not-none false all = refl

    bits-after : bits_of (taken before) (faces_of x ms) ≡ with_answer k (list_any holds_exclusive (faces_of x ms))
    bits-after =
        rules-after x (taken before) ms (with_answer k (list_any holds_exclusive (faces_of x ms)))
        (λ i l. fits-after i (omega (arith, l, many)))
        (ap (λ b. before.parked || b) (any-same (child_face x) no_node holds_it ns ms many holds-same))
        (sole-same (child_face x) no_node before.parked ns ms many holds-same)
        refl one-after (not-none (list_all gives_none (faces_of x ms)) refl)
        (from-same (child_face x) no_node (reader_is_granted before.note) 0 ns ms many (λ i j l. ap (implies (is_reader before.note j)) (reads-same i l)))
        (eraser-same (child_face x) no_node before.note ns ms many may_erase-same)

    pub read_by_child-keeps : KeepsBus n above p ns (record { answer = answer; parent = front_taken e.stamp rest p; kids = ms })
    read_by_child-keeps =
        let exclusive = list_any holds_exclusive (faces_of x ms) in
        keeps-never n x above p (front_taken e.stamp rest p) ns ms (taken before) (with_answer k exclusive)
        (record {
          bus = bus;
          known = within;
          as_many = many;
          after = one_after n x p ns bus kids within d (child_answer x s) new told;
          told = one-told n x p ns bus kids within d (child_answer x s) new told;
          parent = front-taken;
          bits = bits-after;
          reserved = refl;
          replies = refl;
        })
        (implies-use (implies exclusive k.exclusive) _ (every_bool-at (λ exclusive. implies (implies exclusive k.exclusive) (done_never before (taken before) k (with_answer k exclusive))) (and_parts k.no_gift _ checked).1 exclusive) (exclusive-before x ns ms many exclusive-was))
        answer

  -- ---- the parked copy answers

  module _ (words : List ℕ) (is_there : parked_words x p ≡ Some words) (room : own_replies_full p ≡ None) where
    abbrev q : DirValue
    q = pushed_reply x words (with_answering x false (with_hold x Hold.Shared (front_taken e.stamp rest p)))

    first-some : (ws : List (List ℕ)) → first_of ws ≡ Some words → has_some ws ≡ true
    first-some [] f = cc
    first-some (w ∷ ws) f = refl

    -- the same as facts
    record Known : Type 0 where
      parent_holds : is_held before.hold ≡ true
      asked : before.answering ≡ true
      kept : kept_place (answered before) ≡ kept_place before
      never : never_top before k ≡ true
      after_rules : item_holds (answered before) k ≡ true
      same : is_seen (answered before) Hold.Shared (face_reads before) (face_erases before) false ≡ true

    known : Known
    known =
        let h = implies-use (starts_with ReadTx before.queue && (not (is_local before.note) && before.parked)) _ (state-at may_answer each-may_answer before (faces_of x ns) (bus.rules x within)) (both_true starts (both_true (ap not other) (first-some (words_of_item x p.parked) is_there))) in
        let a = and_parts (is_held before.hold) _ h in
        let b = and_parts before.answering _ a.1 in
        let c = and_parts (nat_eq (kept_place (answered before)) (kept_place before)) _ b.1 in
        let d = and_parts (never_top before k) _ c.1 in
        let f = and_parts (item_holds (answered before) k) _ d.1 in
        record { parent_holds = a.0; asked = b.0; kept = eqb-true _ _ c.0; never = d.0; after_rules = f.0; same = f.1 }

    modified : IsModified n (length ns) x p q (answered before)
    modified =
        let m2 = held n (length ns) x within p _ _ front-taken Hold.Shared in
        let m3 = answers n (length ns) x within p _ _ m2 false in
        pushes_reply n (length ns) x within p _ _ m3 words (some_if-none (replies_full p) _ room)

    one-more : length (words_of_item x q.replies) ≡ length (words_of_item x p.replies) + 1
    one-more = omega (arith, ap length (words-pushed x p.replies (record { item = x; words = words }) refl), length-append (words_of_item x p.replies) (words ∷ []))

    seen-after : dir_face x q ≡ child_seen Hold.Shared (face_reads before) (face_erases before) (length (words_of_item x q.replies)) false
    seen-after = ap (λ g. face_above g (length (words_of_item x q.replies))) modified.face ∙ seen-is (answered before) Hold.Shared (face_reads before) (face_erases before) false (length (words_of_item x q.replies)) known.same

    pub read_by_parked-keeps : KeepsBus n above p ns (record { answer = answer; parent = q; kids = ns })
    read_by_parked-keeps =
        row-keeps n x above p q ns ns (answered before) answer bus
        (record {
          known = within;
          as_many = refl;
          after = λ i. child_face x (child_at i ns);
          told = λ i l. untouched n x p ns bus kids i l within;
          parent = modified;
          rules = rules-by (answered before) x ns k refl known.after_rules;
          reserved = ap (λ k. p.reserved + k) (sym known.kept);
          seen = having_answered (record {
            was_answering = known.asked;
            held = known.parent_holds;
            answers_no_more = ap (λ (g : ChildFace). g.answers) seen-after;
            replies = ap (λ (g : ChildFace). g.replies) seen-after ∙ one-more;
            holds_shared = ap (λ (g : ChildFace). g.hold) seen-after;
            reads = ap (λ (g : ChildFace). g.reads) seen-after;
            erases = ap (λ (g : ChildFace). g.erases) seen-after;
          });
          top = never-top n x above p q ns ns (answered before) known.never;
        })
