-- Data comes down, or an inject that several children read: every reader is told data.
-- Letters: x is the item, u the note, k the bits before, ms the children after, s the stamp of the bus.
use Rattle.std.proofs.Common.{◌≡◌, ℕ, ◌<◌, Bool, true, false, List, ◌∷◌, length, None, refl, sym, ap, subst, ◌∙◌, arith}
use Rattle.std.specs.Prelude.{not, ◌&&◌, nat_lt, if◌then◌else◌}
use Rattle.std.specs.List.{AllByRecursion, list_any}
use Rattle.std.specs.Cmp.Derive.{both_true}
use Rattle.std.proofs.lemmas.Bool.{and_parts, or_parts, not-true}
use Rattle.bus_laws.specs.DdmTypes.declared.answers.TxKind.{TxKind}
use Rattle.bus_laws.specs.DdmTypes.declared.answers.TxKind.TheVariants.{DataTx, InjectTx}
use Rattle.bus_laws.specs.DdmTypes.declared.answers.TurnAnswer.{TurnAnswer}
use Rattle.bus_laws.specs.DdmTypes.declared.sizes.Hold.{Hold}
use Rattle.bus_laws.specs.DdmTypes.declared.keys.Stamp.{Stamp}
use Rattle.bus_laws.specs.TreeModel.State.Lists.{map_from, first_given, rest_of}
use Rattle.bus_laws.specs.TreeModel.State.Kinds.{is_kind}
use Rattle.bus_laws.specs.TreeModel.State.States.{is_held, is_exclusive}
use Rattle.bus_laws.specs.TreeModel.State.Values.{DownValue, Note, no_note, local, up_read, up_erase, DirValue, Node}
use Rattle.bus_laws.specs.TreeModel.State.Directory.{dir_note, is_reader, is_eraser, is_up_read, stamp_of, with_note, front_taken}
use Rattle.bus_laws.specs.TreeModel.State.Child.{child_take_data, child_full_for}
use Rattle.bus_laws.specs.TreeModel.State.Blank.{no_node}
use Rattle.bus_laws.specs.TreeModel.Turns.Children.{child_at, reader_full, reader_takes}
use Rattle.bus_laws.proofs.TreeModel.Children.{map_from-length, child_at-map_from, none-given}
use Rattle.tree_rules.specs.Bus.Faces.{ParentFace, parent_face, child_face, faces_of}
use Rattle.tree_rules.specs.Bus.Own.{note_fits}
use Rattle.tree_rules.specs.Bus.Item.{implies, holds_it, Bits, bits_of}
use Rattle.tree_rules.specs.Bus.Rules.{IsBusOk, IsChildOk}
use Rattle.tree_rules.proofs.Implying.{implies-use}
use Rattle.bus_laws.specs.KeepsBus.{KeepsBus}
use Rattle.bus_laws.proofs.Every.{every_bool, every_bool-at}
use Rattle.bus_laws.proofs.States.{each_state, state-at}
use Rattle.bus_laws.proofs.ItemLists.{nat_eq-same}
use Rattle.bus_laws.proofs.DirParts.{dir-parts, note-at, lt-fact, child_seen, starts_with}
use Rattle.bus_laws.proofs.Calls.{child-take_data}
use Rattle.bus_laws.proofs.Parents.{as-it-was, takes_front, noted}
use Rattle.bus_laws.proofs.Before.{idle_of, not-held, kid-ok, idle-at, gives-at, none-held, reader-at, entry-known, entry-starts}
use Rattle.bus_laws.proofs.RowChecks.{done_never, keeps-never}
use Rattle.bus_laws.proofs.Shapes.{quiet_children, quiet-bits}
use Rattle.bus_laws.proofs.Told.{IsTold}

-- the parent after it
abbrev served : ParentFace → ParentFace
served p = record p { queue = rest_of p.queue; note = no_note }

-- what is known before it and kept after it
abbrev may_serve : TxKind → ParentFace → Bits → Bool
may_serve kind p k = implies (starts_with kind p.queue && is_up_read p.note) (k.no_gift && (k.readers && (not k.held && every_bool (λ sole. done_never p (served p) k (quiet_children sole)))))

each-data : (note : Note) → each_state (may_serve DataTx) note ≡ true
unfolding implies
each-data no_note = refl
each-data (local first joined) = refl
each-data (up_read first joined) = refl
each-data (up_erase d) = refl

each-inject : (note : Note) → each_state (may_serve InjectTx) note ≡ true
unfolding implies
each-inject no_note = refl
each-inject (local first joined) = refl
each-inject (up_read first joined) = refl
each-inject (up_erase d) = refl

module _ (n : ℕ) (above : Stamp) (p : DirValue) (ns : List Node) (bus : IsBusOk n p ns) (kids : AllByRecursion (IsChildOk n) ns) (answer : TurnAnswer) where
  module _ (e : DownValue) (rest : List DownValue) (first joined : ℕ) (front : p.down ≡ e ∷ rest) (note : dir_note e.item p ≡ up_read first joined) (room : first_given (reader_full (up_read first joined) e.item) 0 ns ≡ None) (kind : TxKind) (is_kind_e : e.kind ≡ kind) (self : is_kind kind kind ≡ true) (each : (note : Note) → each_state (may_serve kind) note ≡ true) where
    abbrev x : ℕ
    x = e.item

    abbrev u : Note
    u = up_read first joined

    within : x < n
    within = entry-known n x p ns bus e rest front

    abbrev before : ParentFace
    before = parent_face x p

    abbrev k : Bits
    k = bits_of before (faces_of x ns)

    abbrev s : Stamp
    s = stamp_of (front_taken e.stamp rest p)

    abbrev f : ℕ → Node → Node
    f = reader_takes u x e.words s

    abbrev ms : List Node
    ms = map_from f 0 ns

    checked : (k.no_gift && (k.readers && (not k.held && every_bool (λ sole. done_never before (served before) k (quiet_children sole))))) ≡ true
    checked = implies-use (starts_with kind before.queue && is_up_read before.note) _ (state-at (may_serve kind) each before (faces_of x ns) (bus.rules x within)) (both_true (entry-starts n x p ns bus e rest front kind is_kind_e self) (ap is_up_read note))

    -- the same as facts
    record Known : Type 0 where
      none : k.no_gift ≡ true
      readers : k.readers ≡ true
      absent : list_any holds_it (faces_of x ns) ≡ false
      done : every_bool (λ sole. done_never before (served before) k (quiet_children sole)) ≡ true

    known : Known
    known =
        let a = and_parts k.no_gift _ checked in
        let b = and_parts k.readers _ a.1 in
        let c = and_parts (not k.held) _ b.1 in
        record { none = a.0; readers = b.0; absent = (or_parts before.parked (list_any holds_it (faces_of x ns)) (not-true _ c.0)).1; done = c.1 }

    is-reader : (i : ℕ) → is_reader u i ≡ is_reader before.note i
    is-reader i = ap (λ m. is_reader m i) (sym note)

    abbrev hold_after : ℕ → Hold
    hold_after i = if is_reader u i then Hold.Shared else Hold.Invalid

    told-at : (i : ℕ) → i < length ns → (b : Bool) → is_reader u i ≡ b → IsTold n x (child_at i ns) (f i (child_at i ns)) (idle_of (hold_after i))
    told-at i l true is =
        let gives = gives-at n x p ns bus kids within known.none i l in
        let reads = reader-at n x p ns bus kids within known.readers i l (sym (is-reader i) ∙ is) in
        let full : child_full_for DataTx x (child_at i ns) ≡ None = rw is at (none-given (reader_full u x) i ns no_node room l) in
        let t = child-take_data n x within e.words s (child_at i ns) (kid-ok n x p ns bus kids within i l) reads full in
        let same : child_seen Hold.Shared false false (child_face x (child_at i ns)).replies (child_face x (child_at i ns)).answers ≡ idle_of Hold.Shared = rw (gives.0, gives.1) refl in
        rw is (subst (λ g. IsTold n x (child_at i ns) (child_take_data x e.words s (child_at i ns)) g) same t)
    told-at i l false is =
        let idle = idle-at n x p ns bus kids within known.none i l (sym (is-reader i) ∙ is) (ap (λ note. is_eraser note i) note) in
        let hold = not-held (child_face x (child_at i ns)).hold (none-held n x p ns bus kids within known.absent i l) in
        rw is (record { ok = kid-ok n x p ns bus kids within i l; here = idle ∙ ap idle_of hold; others = λ y ne. refl })

    told : (i : ℕ) → i < length ns → IsTold n x (child_at i ns) (child_at i ms) (idle_of (hold_after i))
    told i l = subst (λ m. IsTold n x (child_at i ns) m (idle_of (hold_after i))) (sym (child_at-map_from f i ns l)) (told-at i l (is_reader u i) refl)

    many : length ms ≡ length ns
    many = map_from-length f 0 ns

    shared-after : (i : ℕ) → i < length ms → is_exclusive (hold_after i) ≡ false
    shared-after i l = at (is_reader u i) where
      at : (b : Bool) → is_exclusive (if◌then◌else◌ b Hold.Shared Hold.Invalid) ≡ false
      at true = refl
      at false = refl

    -- the first reader is there
    first-there : first < length ns
    first-there =
        let fits : note_fits (length ns) u ≡ true = subst (λ note. note_fits (length ns) note ≡ true) note (note-at n (length ns) x p (dir-parts n (length ns) p bus.own)) in
        lt-fact first (length ns) (and_parts (nat_lt first (length ns)) _ fits).0

    held-first : is_held (hold_after first) ≡ true
    held-first = rw (nat_eq-same first) refl

    bits-after : bits_of (served before) (faces_of x ms) ≡ quiet_children (bits_of (served before) (faces_of x ms)).sole
    bits-after = quiet-bits x (served before) ms hold_after (λ i l. (told i (omega (arith, l, many))).here) shared-after refl first (omega (arith, first-there, many)) held-first

    pub readers-keep : KeepsBus n above p ns (record { answer = answer; parent = with_note x no_note (front_taken e.stamp rest p); kids = ms })
    readers-keep =
        let sole = (bits_of (served before) (faces_of x ms)).sole in
        keeps-never n x above p (with_note x no_note (front_taken e.stamp rest p)) ns ms (served before) (quiet_children sole)
        (record {
          bus = bus;
          known = within;
          as_many = many;
          after = λ i. idle_of (hold_after i);
          told = told;
          parent = noted n (length ns) x within p _ _ (takes_front n (length ns) x within p p before (as-it-was n (length ns) x within p (dir-parts n (length ns) p bus.own)) e rest front refl) no_note refl;
          bits = bits-after;
          reserved = refl;
          replies = refl;
        })
        (every_bool-at (λ sole. done_never before (served before) k (quiet_children sole)) known.done sole)
        answer

  pub data_to_readers-keeps : (e : DownValue) (rest : List DownValue) (first joined : ℕ) → p.down ≡ e ∷ rest → e.kind ≡ DataTx → dir_note e.item p ≡ up_read first joined → first_given (reader_full (up_read first joined) e.item) 0 ns ≡ None → KeepsBus n above p ns (record { answer = answer; parent = with_note e.item no_note (front_taken e.stamp rest p); kids = map_from (reader_takes (up_read first joined) e.item e.words (stamp_of (front_taken e.stamp rest p))) 0 ns })
  data_to_readers-keeps e rest first joined front kind note room = readers-keep e rest first joined front note room DataTx kind refl each-data

  pub inject_to_readers-keeps : (e : DownValue) (rest : List DownValue) (first joined : ℕ) → p.down ≡ e ∷ rest → e.kind ≡ InjectTx → dir_note e.item p ≡ up_read first joined → first_given (reader_full (up_read first joined) e.item) 0 ns ≡ None → KeepsBus n above p ns (record { answer = answer; parent = with_note e.item no_note (front_taken e.stamp rest p); kids = map_from (reader_takes (up_read first joined) e.item e.words (stamp_of (front_taken e.stamp rest p))) 0 ns })
  inject_to_readers-keeps e rest first joined front kind note room = readers-keep e rest first joined front note room InjectTx kind refl each-inject
